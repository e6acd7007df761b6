-- Pieces that are laid out in order make a file in which each stands at its place, with zeros between.
use Rattle.std.proofs.Common.{◌≡◌, ℕ, ◌+◌, ◌-◌, ◌≤◌, ◌<◌, List, [], ◌∷◌, ◌++◌, length, take, drop, get_or, replicate, refl, sym, ap}
use Rattle.std.proofs.Common.{subst, ◌∙◌, inl, inr, arith, append_assoc, length-append, take_at, drop_at}
use Rattle.std.proofs.lemmas.List.{append-nil, length-replicate, get_or-replicate, get_or_append_left, get_or-append_right, get_or_past}
use Rattle.elf_base.specs.Field.{StandsAt}
use Rattle.elf_base.specs.Layout.{Piece, AllStand, IsGap, IsLaidOut}
use Rattle.elf_base.specs.Laying.{pad, put, put_all}

-- each piece begins where the one before it has ended
abbrev pub AreInOrder : ℕ → List Piece → Type 0
AreInOrder at [] = Unit {0}
AreInOrder at (p ∷ ps) = (at ≤ p.place) × AreInOrder (p.place + length p.bytes) ps

-- where the last piece ends
abbrev pub end_of : ℕ → List Piece → ℕ
end_of at [] = at
end_of at (p ∷ ps) = end_of (p.place + length p.bytes) ps

pub length-pad : (place : ℕ) (out : List ℕ) → length out ≤ place → length (pad place out) ≡ place
unfolding pad
length-pad place out h = omega (
  arith,
  length-append out (replicate (place - length out) 0),
  length-replicate {A = ℕ} (place - length out) 0,
)

pub length-put : (p : Piece) (out : List ℕ) → length out ≤ p.place → length (put p out) ≡ p.place + length p.bytes
unfolding put
length-put p out h = omega (arith, length-append (pad p.place out) p.bytes, length-pad p.place out h)

-- what was laid out stays
record Extends (out file : List ℕ) : Type 0 where
  rest : List ℕ
  is : file ≡ out ++ rest

extends : (ps : List Piece) (out : List ℕ) → Extends out (put_all ps out)
unfolding put pad
extends [] out = record { rest = []; is = sym (append-nil out) }
extends (p ∷ ps) out =
    let more = extends ps (put p out) in
    let zeros = replicate (p.place - length out) 0 in
    record { rest = (zeros ++ p.bytes) ++ more.rest; is = more.is ∙ simp append_assoc }

pub length-put_all : (ps : List Piece) (out : List ℕ) → AreInOrder (length out) ps → length (put_all ps out) ≡ end_of (length out) ps
length-put_all [] out h = refl
length-put_all (p ∷ ps) out h =
    let len = length-put p out h.0 in
    length-put_all ps (put p out) (subst (λ (n : ℕ). AreInOrder n ps) (sym len) h.1) ∙ ap (λ (n : ℕ). end_of n ps) len

stands : (p : Piece) (out rest : List ℕ) → length out ≤ p.place → StandsAt (put p out ++ rest) p.place p.bytes
unfolding put
stands p out rest h =
    let after : drop p.place (put p out ++ rest) ≡ p.bytes ++ rest =
    ap (drop p.place) (append_assoc (pad p.place out) p.bytes rest)
    ∙ drop_at (pad p.place out) (p.bytes ++ rest) p.place (length-pad p.place out h) in
    ap (take (length p.bytes)) after ∙ take_at p.bytes rest (length p.bytes) refl

pub all_stand : (ps : List Piece) (out : List ℕ) → AreInOrder (length out) ps → AllStand (put_all ps out) ps
all_stand [] out h = tt
all_stand (p ∷ ps) out h =
    let more = extends ps (put p out) in
    let here : StandsAt (put_all ps (put p out)) p.place p.bytes =
    subst (λ (f : List ℕ). StandsAt f p.place p.bytes) (sym more.is) (stands p out more.rest h.0) in
    (here, all_stand ps (put p out) (subst (λ (n : ℕ). AreInOrder n ps) (sym (length-put p out h.0)) h.1))

zero_before : (p : Piece) (out rest : List ℕ) (i : ℕ) → length out ≤ i → i < p.place → get_or (put p out ++ rest) i 0 ≡ 0
unfolding put pad
zero_before p out rest i low high =
    let zeros : List ℕ = replicate (p.place - length out) 0 in
    let len : length (out ++ zeros) ≡ p.place = omega (arith, length-append out zeros, length-replicate {A = ℕ} (p.place - length out) 0) in
    let first = get_or_append_left ((out ++ zeros) ++ p.bytes) rest 0 i (omega (arith, length-append (out ++ zeros) p.bytes)) in
    let second = get_or_append_left (out ++ zeros) p.bytes 0 i (omega arith) in
    let third = get_or-append_right out zeros (length out) i 0 refl low in
    first ∙ second ∙ third ∙ get_or-replicate (p.place - length out) (i - length out) 0 0 (omega arith)

pub gaps_zero : (ps : List Piece) (out : List ℕ) → AreInOrder (length out) ps → (i : ℕ) → length out ≤ i → IsGap i ps
    → get_or (put_all ps out) i 0 ≡ 0
gaps_zero [] out h i low gap = get_or_past out i 0 low
gaps_zero (p ∷ ps) out h i low gap =
    let more = extends ps (put p out) in
    let len = length-put p out h.0 in
    elim gap.0 [
      | inl before ↦ ap (λ (f : List ℕ). get_or f i 0) more.is ∙ zero_before p out more.rest i low before
      | inr after ↦ gaps_zero ps (put p out) (subst (λ (n : ℕ). AreInOrder n ps) (sym len) h.1) i (omega arith) gap.1
    ]

-- the file that the pieces make
pub laid_out : (ps : List Piece) (size : ℕ) → AreInOrder 0 ps → end_of 0 ps ≡ size → IsLaidOut ps size (put_all ps [])
laid_out ps size h e = record {
  len = length-put_all ps [] h ∙ e;
  stand = all_stand ps [] h;
  gaps = λ i gap. gaps_zero ps [] h i (omega arith) gap;
}

-- a place before some pieces is in none of them
pub in_front : (ps : List Piece) (at i : ℕ) → AreInOrder at ps → i < at → IsGap i ps
in_front [] at i o before = tt
in_front (p ∷ ps) at i o before = (inl (omega (arith, o.0)), in_front ps (p.place + length p.bytes) i o.1 (omega (arith, o.0)))
