-- Pieces at their places make one file.
use Rattle.std.proofs.Common.{◌≡◌, ℕ, ◌+◌, ◌-◌, ◌≤◌, ◌<◌, List, [], ◌∷◌, length, drop, get_or, sym, ap, ◌∙◌, inl, inr, ◌⊎◌, arith}
use Rattle.std.proofs.Common.{get_or-drop, get_or-take, ext_get_or}
use Rattle.std.proofs.lemmas.Bool.{cases_lt}
use Rattle.elf_base.specs.Field.{StandsAt}
use Rattle.elf_base.specs.Layout.{Piece, AllStand, IsGap, IsLaidOut}

-- a byte of what stands at a place
pub byte_of : (file : List ℕ) (at : ℕ) (bytes : List ℕ) (i : ℕ) → StandsAt file at bytes → at ≤ i → i < at + length bytes
    → get_or file i 0 ≡ get_or bytes (i - at) 0
byte_of file at bytes i h low high =
    let within = get_or-take (length bytes) (drop at file) (i - at) 0 (omega arith) in
    let from = get_or-drop at file (i - at) 0 in
    let same : at + (i - at) ≡ i = omega arith in
    ap (λ (k : ℕ). get_or file k 0) (sym same) ∙ sym from ∙ sym within ∙ ap (λ (l : List ℕ). get_or l (i - at) 0) h

-- two files with the same pieces have the same byte at each place
same_or_gap : (ps : List Piece) (a b : List ℕ) (i : ℕ) → AllStand a ps → AllStand b ps → (get_or a i 0 ≡ get_or b i 0) ⊎ IsGap i ps
same_or_gap [] a b i ha hb = inr tt
same_or_gap (p ∷ ps) a b i ha hb =
    elim (same_or_gap ps a b i ha.1 hb.1) [
      | inl same ↦ inl same
      | inr gap ↦ elim (cases_lt i p.place) [
        | inl before ↦ inr (inl before, gap)
        | inr from ↦ elim (cases_lt i (p.place + length p.bytes)) [
          | inl within ↦ inl (byte_of a p.place p.bytes i ha.0 from within ∙ sym (byte_of b p.place p.bytes i hb.0 from within))
          | inr after ↦ inr (inr after, gap)
        ]
      ]
    ]

-- two files with the same pieces are equal
pub one_layout : (ps : List Piece) (size : ℕ) (a b : List ℕ) → IsLaidOut ps size a → IsLaidOut ps size b → a ≡ b
one_layout ps size a b ha hb =
    ext_get_or 0 a b (ha.len ∙ sym hb.len) (λ i h. elim (same_or_gap ps a b i ha.stand hb.stand) [
      | inl same ↦ same
      | inr gap ↦ ha.gaps i gap ∙ sym (hb.gaps i gap)
    ])
