-- Where a name is there again.
use Rattle.std.specs.Prelude.{ℕ, ◌+◌, Bool, not, ◌&&◌, List, [], ◌∷◌, ◌++◌, if◌then◌else◌}
use Rattle.std.specs.Str.{bytes_eq}
use Rattle.elf_obj.specs.declared.parts.Symbol.{Symbol}
use Rattle.elf_obj.specs.Rules.{is_new}

-- other objects see the symbol, and it has this name
abbrev pub is_seen_as : List ℕ → Symbol → Bool
is_seen_as name e = not e.local && bytes_eq e.name name

-- the number of the first symbol that is not new behind the earlier ones, counted from a number; where each is new, the number
-- behind the last
abbrev pub first_repeat : ℕ → List Symbol → List Symbol → ℕ
first_repeat k earlier [] = k
first_repeat k earlier (s ∷ ss) = if is_new earlier s then first_repeat (k + 1) (earlier ++ s ∷ []) ss else k
