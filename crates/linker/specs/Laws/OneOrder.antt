-- The intervals of an image stand in one order: they share no byte, so that their starts differ.
use Rattle.std.proofs.Common.{◌≡◌, ℕ, ◌<◌, ◌≤◌, Bool, true, false, ◌&&◌, ◌||◌, ◌==◌, nat_lt, List, [], ◌∷◌, refl, sym, ap, ◌∙◌, arith}
use Rattle.std.specs.Prelude.{IsPermutation}
use Rattle.std.specs.List.{list_any, AllByRecursion}
use Rattle.std.proofs.lemmas.Bool.{ltb-false, lt-ltb, le-ltb, eq-eqb, ne_eqb, eqb-true, or_parts, true≢false}
use Rattle.std.proofs.lemmas.List.Sorted.{list_any-IsPermutation}
use Rattle.memtag_desc.specs.declared.interval.Interval.{Interval}
use Rattle.memtag_desc.specs.Descriptors.{end_of, Describes}
use Rattle.memtag_desc.specs.Laws.OneSpelling.{have_description}
use Rattle.linker.specs.Laws.Spelled.{AreSpread, described_spread}

-- the two lists pass the same tests
abbrev PassAlike : List Interval → List Interval → Type 0
PassAlike xs ys = (p : Interval → Bool) → list_any p xs ≡ list_any p ys

-- all begin at an address or behind it
abbrev AreBehind : ℕ → List Interval → Type 0
AreBehind from xs = AllByRecursion (λ i. from ≤ i.start) xs

further : (low high : ℕ) (xs : List Interval) → low ≤ high → AreBehind high xs → AreBehind low xs
further low high [] le h = tt
further low high (x ∷ xs) le h = let here = h.0 in (omega arith, further low high xs le h.1)

behind : (from : ℕ) (xs : List Interval) → AreSpread from xs → AreBehind from xs
behind from [] h = tt
behind from (i ∷ is) h =
    let start = h.1 in (start, further from (end_of i) is (omega arith) (behind (end_of i) is h.2))

none_before : (at from : ℕ) (xs : List Interval) → at ≤ from → AreBehind from xs → list_any (λ i. nat_lt i.start at) xs ≡ false
none_before at from [] le h = refl
none_before at from (x ∷ xs) le h =
    let here = h.0 in rw (le-ltb x.start at (omega arith)) (none_before at from xs le h.1)

none_at : (x : Interval) (from : ℕ) (xs : List Interval) → x.start < from → AreBehind from xs
    → list_any (λ i. i.start == x.start && i.bytes == x.bytes) xs ≡ false
none_at x from [] lt h = refl
none_at x from (y ∷ ys) lt h =
    let here = h.0 in rw (ne_eqb y.start x.start (λ e. omega arith)) (none_at x from ys lt h.1)

all_after : (at from : ℕ) (p : Interval → Bool) (xs : List Interval) → at < from → AreBehind from xs
    → list_any (λ i. nat_lt at i.start && p i) xs ≡ list_any p xs
all_after at from p [] lt h = refl
all_after at from p (x ∷ xs) lt h =
    let here = h.0 in rw (lt-ltb at x.start (omega arith)) (ap (λ (b : Bool). p x || b) (all_after at from p xs lt h.1))

-- the first interval of the one list begins no later than that of the other
no_later : (x y : Interval) (xs ys : List Interval) (from : ℕ) → x.start ≤ from → AreBehind from xs → PassAlike (x ∷ xs) (y ∷ ys)
    → x.start ≤ y.start
no_later x y xs ys from le h alike =
    let none : list_any (λ i. nat_lt i.start x.start) (x ∷ xs) ≡ false =
    rw (le-ltb x.start x.start (omega arith)) (none_before x.start from xs le h) in
    let parts = or_parts (nat_lt y.start x.start) (list_any (λ i. nat_lt i.start x.start) ys)
    (sym (alike (λ i. nat_lt i.start x.start)) ∙ none) in
    ltb-false y.start x.start parts.0

-- and is as long, where it begins there
as_long : (x y : Interval) (xs ys : List Interval) (from : ℕ) → y.start < from → AreBehind from ys → x.start ≡ y.start
    → PassAlike (x ∷ xs) (y ∷ ys) → y.bytes ≡ x.bytes
as_long x y xs ys from lt h same alike = by_test (y.bytes == x.bytes) refl
  where
    there : (x.start == x.start && x.bytes == x.bytes) || list_any (λ i. i.start == x.start && i.bytes == x.bytes) xs ≡ true
    there = rw (eq-eqb x.start x.start refl, eq-eqb x.bytes x.bytes refl) refl

    by_test : (b : Bool) → (y.bytes == x.bytes) ≡ b → y.bytes ≡ x.bytes
    by_test true is = eqb-true y.bytes x.bytes is
    by_test false is =
        let others : list_any (λ i. i.start == x.start && i.bytes == x.bytes) ys ≡ false =
        none_at x from ys (omega arith) h in
        let none : list_any (λ i. i.start == x.start && i.bytes == x.bytes) (y ∷ ys) ≡ false =
        rw (eq-eqb y.start x.start (sym same), is) others in
        absurd (true≢false (sym there ∙ alike (λ i. i.start == x.start && i.bytes == x.bytes) ∙ none))

rest_alike : (x y : Interval) (xs ys : List Interval) (ends others : ℕ) → x.start ≡ y.start → x.start < ends → y.start < others
    → AreBehind ends xs → AreBehind others ys → PassAlike (x ∷ xs) (y ∷ ys) → PassAlike xs ys
rest_alike x y xs ys ends others same lt gt h g alike p =
    let here : list_any (λ i. nat_lt x.start i.start && p i) (x ∷ xs) ≡ list_any p xs =
    rw (le-ltb x.start x.start (omega arith)) (all_after x.start ends p xs lt h) in
    let there : list_any (λ i. nat_lt x.start i.start && p i) (y ∷ ys) ≡ list_any p ys =
    rw (le-ltb x.start y.start (omega arith)) (all_after x.start others p ys (omega arith) g) in
    sym here ∙ alike (λ i. nat_lt x.start i.start && p i) ∙ there

alike_same : (from other : ℕ) (xs ys : List Interval) → AreSpread from xs → AreSpread other ys → PassAlike xs ys → xs ≡ ys
alike_same from other [] [] h g alike = refl
alike_same from other [] (y ∷ ys) h g alike = absurd (true≢false (sym (alike (λ _. true))))
alike_same from other (x ∷ xs) [] h g alike = absurd (true≢false (alike (λ _. true)))
alike_same from other (x ∷ xs) (y ∷ ys) h g alike =
    let size = h.0 in
    let size2 = g.0 in
    let after = behind (end_of x) xs h.2 in
    let after2 = behind (end_of y) ys g.2 in
    let le = no_later x y xs ys (end_of x) (omega arith) after alike in
    let ge = no_later y x ys xs (end_of y) (omega arith) after2 (λ p. sym (alike p)) in
    let starts : x.start ≡ y.start = omega arith in
    let bytes : x.bytes ≡ y.bytes = sym (as_long x y xs ys (end_of y) (omega arith) after2 starts alike) in
    let rest : xs ≡ ys = alike_same (end_of x) (end_of y) xs ys h.2 g.2
    (rest_alike x y xs ys (end_of x) (end_of y) starts (omega arith) (omega arith) after after2 alike) in
    λ i. record { start = starts i; bytes = bytes i } ∷ rest i

-- lists of the same intervals are equal
pub spread_order : (all xs ys : List Interval) → IsPermutation all xs → IsPermutation all ys → AreSpread 0 xs → AreSpread 0 ys → xs ≡ ys
spread_order all xs ys h g d e =
    alike_same 0 0 xs ys d e (λ p. sym (list_any-IsPermutation p all xs h) ∙ list_any-IsPermutation p all ys g)

-- lists that have descriptions and the same intervals are equal
pub one_order : (all xs ys : List Interval) (a b : List ℕ) → IsPermutation all xs → IsPermutation all ys → Describes xs a
    → Describes ys b → xs ≡ ys
one_order all xs ys a b h g d e =
    spread_order all xs ys h g (described_spread 0 xs (have_description xs a d)) (described_spread 0 ys (have_description ys b e))
