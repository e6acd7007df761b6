-- Which tagged symbol of a section is the first that shares a byte with an earlier one.
use Rattle.std.specs.Prelude.{◌≡◌, ℕ, ◌+◌, ◌<◌, ◌≤◌, ◌^◌, Bool, false, not, ◌&&◌, ◌||◌, ◌==◌, nat_le, nat_lt, List, [], ◌∷◌, ◌++◌}
use Rattle.std.specs.Prelude.{slice_get, Option, Some, None, if◌then◌else◌}
use Rattle.elf_obj.specs.declared.parts.Symbol.{Symbol}
use Rattle.elf_obj.specs.declared.parts.Home.{Home}
use Rattle.elf_obj.specs.Records.{home_number}
use Rattle.elf_obj.specs.Rules.{is_apart}

abbrev pub lies_in : Home → Symbol → Bool
lies_in home s = home_number s.home == home_number home

-- the symbol is there and an object, and it is apart from those of earlier numbers where it lies in the section
abbrev pub is_found_apart : Home → List Symbol → List ℕ → Option Symbol → Bool
is_found_apart home symbols earlier None = false
is_found_apart home symbols earlier (Some s) = not s.function && (not (lies_in home s) || is_apart symbols earlier s)

-- the number of the first tag whose symbol is not, counted from a number; where each is, the number behind the last
abbrev pub first_shared : Home → List Symbol → ℕ → List ℕ → List ℕ → ℕ
first_shared home symbols k earlier [] = k
first_shared home symbols k earlier (t ∷ ts) =
    if is_found_apart home symbols earlier (slice_get symbols t) then first_shared home symbols (k + 1) (earlier ++ t ∷ []) ts else k

-- an object of the section has bytes, and its end is a number of 64 bits
abbrev pub IsSound : Home → Symbol → Type 0
IsSound home s = s.function ≡ false → home_number s.home ≡ home_number home → (1 ≤ s.size) × (s.value + s.size < 2 ^ 64)

-- ---- intervals in order, each known by its last byte and with its first

-- an interval has bytes from a place up to an end
abbrev pub meets : ℕ → ℕ → ℕ × ℕ → Bool
meets first end e = nat_le first e.0 && nat_lt e.1 end

-- the first of them begins before an end
abbrev pub starts_before : ℕ → List (ℕ × ℕ) → Bool
starts_before end [] = false
starts_before end (e ∷ es) = nat_lt e.1 end
