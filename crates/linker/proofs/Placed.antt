-- Bytes of an object, with the contents of its places put there one after the other, from the last relocation on.
use Rattle.std.proofs.Common.{◌≡◌, ℕ, ◌+◌, ◌-◌, ◌<◌, ◌≤◌, Bool, true, false, ◌&&◌, nat_le, nat_lt, List, ◌∷◌, set, length}
use Rattle.std.proofs.Common.{get_or, drop, find, cond, Some, refl, sym, ap, ◌∙◌, arith, inl, inr}
use Rattle.std.proofs.lemmas.Bool.{cases_lt, lt-ltb, le-ltb, le-leb, lt-leb}
use Rattle.std.proofs.lemmas.List.{drop_all, get_or_default}
use Rattle.byteorder.specs.Endian.{little_bytes}
use Rattle.elf_obj.specs.declared.parts.Reloc.{Reloc}
use Rattle.elf_obj.specs.Object.{Object}
use Rattle.linker.specs.Sections.{each_from}
use Rattle.linker.specs.Data.{covers, byte_with}
use Rattle.linker.specs.Ready.{content_of, with_bytes}
use Rattle.linker.proofs.Knowing.{left_is}
use Rattle.linker.proofs.Each.{each_alike, each_set, each_same, each_each}

-- ---- a number's bytes, one more

within : (place n i : ℕ) → place ≤ i → i < place + n → (nat_le place i && nat_lt i (place + n)) ≡ true
within place n i le lt = rw (le-leb place i le) (lt-ltb i (place + n) lt)

before : (place n i : ℕ) → i < place → (nat_le place i && nat_lt i (place + n)) ≡ false
before place n i lt = ap (λ (b : Bool). b && nat_lt i (place + n)) (lt-leb place i lt)

and_false : (b : Bool) → (b && false) ≡ false
and_false true = refl
and_false false = refl

after : (place n i : ℕ) → place + n ≤ i → (nat_le place i && nat_lt i (place + n)) ≡ false
after place n i le = ap (λ (b : Bool). nat_le place i && b) (le-ltb i (place + n) le) ∙ and_false (nat_le place i)

-- the test that a byte is among the first n, and among one more, of those that are elsewhere
alike : (place n i : ℕ) → (i ≡ place + n → ⊥) → (nat_le place i && nat_lt i (place + n)) ≡ (nat_le place i && nat_lt i (place + (n + 1)))
alike place n i ne = elim (cases_lt i place) [
  | inl lt ↦ before place n i lt ∙ sym (before place (n + 1) i lt)
  | inr le ↦ elim (cases_lt i (place + n)) [
    | inl lt ↦ within place n i le lt ∙ sym (within place (n + 1) i le (omega arith))
    | inr past ↦ after place n i past ∙ sym (after place (n + 1) i (by_ne past))
  ]
]
  where
    by_ne : place + n ≤ i → place + (n + 1) ≤ i
    by_ne le = elim (cases_lt (place + n) i) [ inl lt ↦ omega arith | inr ge ↦ absurd (ne (omega arith)) ]

-- a byte by the test of its place
abbrev pick : ℕ → ℕ → ℕ → ℕ → Bool → ℕ
pick place value i byte t = cond t (get_or (little_bytes 8 value) (i - place) 0) byte

pub bytes_first : (place value : ℕ) (xs : List ℕ) → each_from 0 (with_bytes place value 0) xs ≡ xs
bytes_first place value xs =
    each_alike 0 (with_bytes place value 0) (λ i b. b) xs (λ i b in_. ap (pick place value (0 + i) b) (none (0 + i))) ∙ each_same xs 0
  where
    none : (i : ℕ) → (nat_le place i && nat_lt i (place + 0)) ≡ false
    none i = elim (cases_lt i place) [ inl lt ↦ before place 0 i lt | inr le ↦ after place 0 i (omega arith) ]

pub bytes_more : (place value n : ℕ) (xs : List ℕ) → place + n < length xs
    → set (each_from 0 (with_bytes place value n) xs) (place + n) (get_or (little_bytes 8 value) n 0)
    ≡ each_from 0 (with_bytes place value (n + 1)) xs
bytes_more place value n xs lt =
    let j : ℕ = place + n in
    let g : ℕ → ℕ → ℕ = with_bytes place value (n + 1) in
    let at : (0 + j) - place ≡ n = omega arith in
    let here : g (0 + j) (get_or xs j 0) ≡ get_or (little_bytes 8 value) n 0 =
    ap (pick place value (0 + j) (get_or xs j 0)) (within place (n + 1) (0 + j) (omega arith) (omega arith))
    ∙ ap (λ (m : ℕ). get_or (little_bytes 8 value) m 0) at in
    ap (λ (b : ℕ). set (each_from 0 (with_bytes place value n) xs) j b) (sym here)
    ∙ each_set 0 j (with_bytes place value n) g xs 0 lt
    (λ i b in_ ne. ap (pick place value (0 + i) b) (alike place n (0 + i) (λ e. ne (omega arith))))

-- past the end none is put
pub bytes_past : (place value n : ℕ) (xs : List ℕ) → length xs ≤ place + n
    → each_from 0 (with_bytes place value n) xs ≡ each_from 0 (with_bytes place value (n + 1)) xs
bytes_past place value n xs le =
    each_alike 0 (with_bytes place value n) (with_bytes place value (n + 1)) xs
    (λ i b in_. ap (pick place value (0 + i) b) (alike place n (0 + i) (λ e. omega arith)))

-- nor where the place is past the end
pub none_put : (place value : ℕ) (xs : List ℕ) → length xs ≤ place → xs ≡ each_from 0 (with_bytes place value 8) xs
none_put place value xs le =
    sym (each_alike 0 (with_bytes place value 8) (λ i b. b) xs
    (λ i b in_. ap (pick place value (0 + i) b) (before place 8 (0 + i) (omega arith))) ∙ each_same xs 0)

-- ---- a relocation more

-- a byte of an object by some of its relocations
abbrev pub byte_by : List Object → ℕ → Object → List Reloc → ℕ → ℕ → ℕ
byte_by os k o rs i byte = byte_with os k o (find (covers i) rs) i byte

-- without any
pub places_first : (os : List Object) (k : ℕ) (o : Object) (rs : List Reloc) (bs : List ℕ)
    → each_from 0 (byte_by os k o (drop (length rs) rs)) bs ≡ bs
places_first os k o rs bs =
    ap (λ (l : List Reloc). each_from 0 (byte_by os k o l) bs) (drop_all (length rs) rs (omega arith)) ∙ each_same bs 0

pub places_more : (os : List Object) (k : ℕ) (o : Object) (rs : List Reloc) (left : ℕ) (d : Reloc) (bs : List ℕ) → 0 < left
    → left ≤ length rs
    → each_from 0 (with_bytes (get_or rs (left - 1) d).offset (content_of os k o (get_or rs (left - 1) d)) 8)
    (each_from 0 (byte_by os k o (drop left rs)) bs)
    ≡ each_from 0 (byte_by os k o (drop (left - 1) rs)) bs
places_more os k o rs left d bs some le =
    let i : ℕ = left - 1 in
    let r : Reloc = get_or rs i d in
    let within : i < length rs = omega arith in
    let same : get_or rs i d ≡ get_or rs i (get_or rs i d) = get_or_default rs i d (get_or rs i d) within in
    let next : i + 1 ≡ left = omega arith in
    let front : drop i rs ≡ r ∷ drop left rs =
    left_is rs i r within same ∙ ap (λ (m : ℕ). r ∷ drop m rs) next in
    each_each 0 (byte_by os k o (drop left rs)) (with_bytes r.offset (content_of os k o r) 8) bs
    ∙ each_alike 0 (λ j b. with_bytes r.offset (content_of os k o r) 8 j (byte_by os k o (drop left rs) j b))
    (byte_by os k o (r ∷ drop left rs)) bs (λ j b in_. by_test r (drop left rs) (0 + j) b (covers (0 + j) r))
    ∙ sym (ap (λ (l : List Reloc). each_from 0 (byte_by os k o l) bs) front)
  where
    by_test : (r : Reloc) (rest : List Reloc) (j b : ℕ) (t : Bool)
        → cond t (get_or (little_bytes 8 (content_of os k o r)) (j - r.offset) 0) (byte_by os k o rest j b)
        ≡ byte_with os k o (cond t (Some r) (find (covers j) rest)) j b
    by_test r rest j b true = refl
    by_test r rest j b false = refl
