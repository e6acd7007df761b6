-- The instructions of an object, with their fields relocated one after the other, from the last relocation on.
use Rattle.std.proofs.Common.{◌≡◌, ℕ, ◌+◌, ◌-◌, ◌*◌, ◌/◌, ◌%◌, ◌<◌, ◌≤◌, ◌==◌, Bool, List, ◌∷◌, set, length, get_or, drop, find, cond}
use Rattle.std.proofs.Common.{Some, sym, ap, ◌∙◌, arith, inl, inr}
use Rattle.std.proofs.lemmas.Bool.{cases_lt, eq-eqb, ne_eqb}
use Rattle.std.proofs.lemmas.List.{drop_all, get_or_default}
use Rattle.elf_obj.specs.declared.parts.Reloc.{Reloc}
use Rattle.elf_obj.specs.Object.{Object}
use Rattle.linker.specs.declared.bases.Bases.{Bases}
use Rattle.linker.specs.Sections.{each_from}
use Rattle.linker.specs.Fields.{relocated}
use Rattle.linker.specs.Code.{site, word_with}
use Rattle.linker.specs.Ready.{Relocates}
use Rattle.linker.proofs.Knowing.{left_is}
use Rattle.linker.proofs.Each.{each_alike, each_set, each_same}

-- an instruction of an object by some of its relocations
abbrev pub word_by : List Object → Bases → ℕ → Object → List Reloc → ℕ → ℕ → ℕ
word_by os bases k o rs i word = word_with os bases k o (find (λ r. r.offset == 4 * i) rs) word

-- without any
pub words_first : (os : List Object) (bases : Bases) (k : ℕ) (o : Object) (rs : List Reloc) (ws : List ℕ)
    → each_from 0 (word_by os bases k o (drop (length rs) rs)) ws ≡ ws
words_first os bases k o rs ws =
    ap (λ (l : List Reloc). each_from 0 (word_by os bases k o l) ws) (drop_all (length rs) rs (omega arith)) ∙ each_same ws 0

-- with one more
one_more : (os : List Object) (bases : Bases) (k : ℕ) (o : Object) (r : Reloc) (rest : List Reloc) (ws before after : List ℕ)
    → before ≡ each_from 0 (word_by os bases k o rest) ws → Relocates os bases k o r ws before after
    → after ≡ each_from 0 (word_by os bases k o (r ∷ rest)) ws
one_more os bases k o r rest ws before after so_far h =
    elim (cases_lt (r.offset / 4) (length ws)) [
      | inl lt ↦ elim (cases_lt (4 * (r.offset / 4)) r.offset) [
        | inl between ↦ nowhere (λ i in_ e. omega arith)
        | inr le ↦ there (omega arith) lt
      ]
      | inr past ↦ nowhere (λ i in_ e. omega arith)
    ]
  where
    f : ℕ → ℕ → ℕ
    f = word_by os bases k o rest

    g : ℕ → ℕ → ℕ
    g = word_by os bases k o (r ∷ rest)

    other : (i w : ℕ) → (r.offset ≡ 4 * i → ⊥) → f i w ≡ g i w
    other i w ne =
        sym (ap (λ (b : Bool). word_with os bases k o (cond b (Some r) (find (λ r. r.offset == 4 * i) rest)) w)
        (ne_eqb r.offset (4 * i) ne))

    nowhere : ((i : ℕ) → i < length ws → r.offset ≡ 4 * i → ⊥) → after ≡ each_from 0 g ws
    nowhere none = h.nowhere none ∙ so_far ∙ each_alike 0 f g ws (λ i w in_. other (0 + i) w (λ e. none i in_ (omega arith)))

    there : r.offset ≡ 4 * (r.offset / 4) → r.offset / 4 < length ws → after ≡ each_from 0 g ws
    there is lt =
        let j : ℕ = r.offset / 4 in
        let at : relocated (site os bases k o r) (get_or ws j 0) ≡ g (0 + j) (get_or ws j 0) =
        sym (ap (λ (b : Bool). word_with os bases k o (cond b (Some r) (find (λ r. r.offset == 4 * (0 + j)) rest)) (get_or ws j 0))
        (eq-eqb r.offset (4 * (0 + j)) (omega (arith, is)))) in
        h.here j lt is ∙ (λ i. set (so_far i) j (at i))
        ∙ each_set 0 j f g ws 0 lt (λ i w in_ ne. other (0 + i) w (λ e. ne (omega (arith, e, is))))

pub words_more : (os : List Object) (bases : Bases) (k : ℕ) (o : Object) (rs : List Reloc) (left : ℕ) (d : Reloc)
    (ws before after : List ℕ)
    → 0 < left → left ≤ length rs → before ≡ each_from 0 (word_by os bases k o (drop left rs)) ws
    → Relocates os bases k o (get_or rs (left - 1) d) ws before after → after ≡ each_from 0 (word_by os bases k o (drop (left - 1) rs)) ws
words_more os bases k o rs left d ws before after some le so_far h =
    let i : ℕ = left - 1 in
    let within : i < length rs = omega arith in
    let same : get_or rs i d ≡ get_or rs i (get_or rs i d) = get_or_default rs i d (get_or rs i d) within in
    let next : i + 1 ≡ left = omega arith in
    let front : drop i rs ≡ get_or rs i d ∷ drop left rs =
    left_is rs i (get_or rs i d) within same ∙ ap (λ (m : ℕ). get_or rs i d ∷ drop m rs) next in
    one_more os bases k o (get_or rs i d) (drop left rs) ws before after so_far h
    ∙ sym (ap (λ (l : List Reloc). each_from 0 (word_by os bases k o l) ws) front)

-- the word at one place was relocated
pub relocates_at : (os : List Object) (bases : Bases) (k : ℕ) (o : Object) (r : Reloc) (ws before after : List ℕ) → r.offset % 4 ≡ 0
    → r.offset / 4 < length ws
    → after ≡ set before (r.offset / 4) (relocated (site os bases k o r) (get_or ws (r.offset / 4) 0))
    → Relocates os bases k o r ws before after
relocates_at os bases k o r ws before after whole lt is = record {
  here = λ i in_ e.
      let same : r.offset / 4 ≡ i = omega arith in
      is ∙ ap (λ (m : ℕ). set before m (relocated (site os bases k o r) (get_or ws m 0))) same;
  nowhere = λ none. absurd (none (r.offset / 4) lt (omega arith));
}
