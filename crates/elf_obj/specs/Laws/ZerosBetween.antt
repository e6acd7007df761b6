-- Between the pieces of a file, which are in order, stand zeros.
use Rattle.std.proofs.Common.{◌≡◌, ℕ, ◌+◌, ◌-◌, ◌≤◌, true, List, [], ◌∷◌, length, get_or, replicate, ◌∙◌, inl, inr, arith}
use Rattle.std.proofs.lemmas.List.{length-replicate, get_or-replicate}
use Rattle.elf_base.specs.Field.{StandsAt}
use Rattle.elf_base.specs.Layout.{Piece, IsGap}
use Rattle.elf_base.specs.Laws.LaidOut.{AreInOrder, in_front}
use Rattle.elf_base.specs.Laws.OneLayout.{byte_of}
use Rattle.elf_base.specs.Laws.Zeros.{zero_between}
use Rattle.elf_base.specs.Zeros.{is_zero_between}

-- zeros that stand somewhere
pub zeros_between : (file : List ℕ) (at n : ℕ) → StandsAt file at (replicate n 0) → is_zero_between file at (at + n) ≡ true
zeros_between file at n h =
    let len = length-replicate {A = ℕ} n 0 in
    zero_between file at (at + n) (λ i low high.
    byte_of file at (replicate n 0) i h low (omega (arith, high, len)) ∙ get_or-replicate n (i - at) 0 0 (omega (arith, low, high)))

-- ---- the places between pieces

abbrev pub ZerosBetween : List ℕ → ℕ → List Piece → Type 0
ZerosBetween file at [] = Unit {0}
ZerosBetween file at (p ∷ ps) = (is_zero_between file at p.place ≡ true) × ZerosBetween file (p.place + length p.bytes) ps

pub all_between : (file : List ℕ) (at : ℕ) (ps : List Piece) → AreInOrder at ps → ((i : ℕ) → at ≤ i → IsGap i ps → get_or file i 0 ≡ 0)
    → ZerosBetween file at ps
all_between file at [] o h = tt
all_between file at (p ∷ ps) o h =
    let next : ℕ = p.place + length p.bytes in (
      zero_between file at p.place (λ i low high. h i low (inl high, in_front ps next i o.1 (omega (arith, high)))),
      all_between file next ps o.1 (λ i low gap. h i (omega (arith, o.0, low)) (inr low, gap)),
    )
