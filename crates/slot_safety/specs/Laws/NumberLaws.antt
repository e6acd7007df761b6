-- A list of one thing at first, in which another is put at some places, one after another.
use Rattle.std.proofs.Common.{◌≡◌, refl, ℕ, zero, suc, ◌+◌, ◌≤◌, ◌<◌, Bool, true, false, ◌||◌, nat_eq, List, [], ◌∷◌, ◌++◌}
use Rattle.std.proofs.Common.{length, take, ap, sym, ◌∙◌, arith, subst}
use Rattle.std.proofs.Math.ListN.{replicate}
use Rattle.std.specs.Prelude.{slice_set}
use Rattle.std.proofs.lemmas.List.{length-set, length-replicate}
use Rattle.std.proofs.Math.Seq.{take-append_seam}
use Rattle.std.proofs.lemmas.Bool.Decides.{nat_tests}
use Rattle.slot_safety.specs.Kinds.{among, by_number, put}

other : (j k : ℕ) → j < k → nat_eq j k ≡ false
other j k less = grind (arith, nat_tests)

later : (j k : ℕ) → k < j → nat_eq j k ≡ false
later j k less = grind (arith, nat_tests)

same : (k : ℕ) → nat_eq k k ≡ true
same k = grind (arith, nat_tests)

exchange : (a b c : Bool) → (b || (a || c)) ≡ ((a || b) || c)
exchange true true c = refl
exchange true false c = refl
exchange false true c = refl
exchange false false c = refl

or_false : (a : Bool) → (a || false) ≡ a
or_false true = refl
or_false false = refl

-- these in front of those, the last first
abbrev onto : List ℕ → List ℕ → List ℕ
onto [] t = t
onto (k ∷ ks) t = onto ks (k ∷ t)

among-onto : (j : ℕ) (ks t : List ℕ) → among j (onto ks t) ≡ (among j ks || among j t)
among-onto j [] t = refl
among-onto j (k ∷ ks) t = among-onto j ks (k ∷ t) ∙ exchange (nat_eq j k) (among j ks) (among j t)

-- only numbers from the first on matter
alike : {A B : Type 0} (by : Bool → A) (s t : List ℕ) (k : ℕ) (ls : List B) → ((j : ℕ) → k ≤ j → among j s ≡ among j t) →
    by_number by s k ls ≡ by_number by t k ls
alike by s t k [] same_from = refl
alike by s t k (l ∷ ls) same_from =
    ap (λ b. by b ∷ by_number by s (suc k) ls) (same_from k (omega arith))
    ∙ ap (λ rest. by (among k t) ∷ rest) (alike by s t (suc k) ls (λ j from. same_from j (omega arith)))

-- one that does not matter
without : {A B : Type 0} (by : Bool → A) (t : List ℕ) (i k : ℕ) (ls : List B) → i < k →
    by_number by t k ls ≡ by_number by (i ∷ t) k ls
without by t i k ls less = alike by t (i ∷ t) k ls (λ j from. sym (ap (λ b. b || among j t) (later j i (omega arith))))

put_one : {A B : Type 0} (by : Bool → A) (t : List ℕ) (k j i : ℕ) (ls : List B) → k + j ≡ i →
    slice_set (by_number by t k ls) j (by true) ≡ by_number by (i ∷ t) k ls
put_one by t k j i [] is = refl
put_one by t k zero i (l ∷ ls) is =
    let here : k ≡ i = omega arith in
    subst (λ i. by true ∷ by_number by t (suc k) ls ≡ by_number by (i ∷ t) k (l ∷ ls)) here
    (ap (λ rest. by true ∷ rest) (without by t k (suc k) ls (omega arith))
    ∙ ap (λ b. by (b || among k t) ∷ by_number by (k ∷ t) (suc k) ls) (sym (same k)))
put_one by t k (suc j) i (l ∷ ls) is =
    ap (λ rest. by (among k t) ∷ rest) (put_one by t (suc k) j i ls (omega arith))
    ∙ ap (λ b. by (b || among k t) ∷ by_number by (i ∷ t) (suc k) ls) (sym (other k i (omega arith)))

put_all : {A B : Type 0} (by : Bool → A) (t ks : List ℕ) (ls : List B) →
    put (by true) (by_number by t 0 ls) ks ≡ by_number by (onto ks t) 0 ls
put_all by t [] ls = refl
put_all by t (k ∷ ks) ls = ap (λ xs. put (by true) xs ks) (put_one by t 0 k k ls (omega arith)) ∙ put_all by (k ∷ t) ks ls

none-yet : {A B : Type 0} (by : Bool → A) (k : ℕ) (ls : List B) → replicate (length ls) (by false) ≡ by_number by [] k ls
none-yet by k [] = refl
none-yet by k (l ∷ ls) = ap (λ rest. by false ∷ rest) (none-yet by (suc k) ls)

pub put_in_all : {A B : Type 0} (by : Bool → A) (ls : List B) (ks : List ℕ) (first after : List A) →
    first ≡ replicate (length ls) (by false) → after ≡ put (by true) first ks → after ≡ by_number by ks 0 ls
put_in_all by ls ks first after start then =
    then
    ∙ ap (λ xs. put (by true) xs ks) (start ∙ none-yet by 0 ls)
    ∙ put_all by [] ks ls
    ∙ alike by (onto ks []) ks 0 ls (λ j from. among-onto j ks [] ∙ or_false (among j ks))

length-put_in : {A : Type 0} (a : A) (xs : List A) (ks : List ℕ) → length (put a xs ks) ≡ length xs
length-put_in a xs [] = refl
length-put_in a xs (k ∷ ks) = length-put_in a (slice_set xs k a) ks ∙ length-set xs k a

take_front : {A : Type 0} (n : ℕ) (xs rest : List A) → length xs ≡ n → take n (xs ++ rest) ≡ xs
take_front n xs rest is = ap (λ n. take n (xs ++ rest)) (sym is) ∙ take-append_seam xs rest

-- what the slice of a vector writes back
pub written_back : {A B : Type 0} (by : Bool → A) (ls : List B) (ks : List ℕ) (n : ℕ) (first after rest : List A) → n ≡ length ls →
    first ≡ replicate (length ls) (by false) → after ≡ put (by true) first ks → take n (after ++ rest) ≡ by_number by ks 0 ls
written_back by ls ks n first after rest size start then =
    take_front n after rest
    (ap length then ∙ length-put_in (by true) first ks ∙ ap length start ∙ length-replicate (length ls) (by false) ∙ sym size)
    ∙ put_in_all by ls ks first after start then

-- there is one for each item
pub length-by_number : {A B : Type 0} (by : Bool → A) (ks : List ℕ) (k : ℕ) (ls : List B) →
    length (by_number by ks k ls) ≡ length ls
length-by_number by ks k [] = refl
length-by_number by ks k (l ∷ ls) = ap suc (length-by_number by ks (suc k) ls)
