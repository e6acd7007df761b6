-- Numbers of names: what stands at them in lists that are in the order of names.
use Rattle.std.proofs.Common.{◌⊎◌, inl, inr, ◌≡◌, refl, sym, ◌∙◌, ap, subst, ℕ, zero, suc, ◌+◌, arith, Bool, true, false, ◌||◌, List, []}
use Rattle.std.proofs.Common.{◌∷◌, ◌++◌, map, slice_get, Option, Some}
use Rattle.std.specs.Prelude.{cond, if◌then◌else◌}
use Rattle.std.specs.List.{filter, find, list_any, position_from}
use Rattle.std.specs.Str.{bytes_eq}
use Rattle.std.proofs.lemmas.Option.{same_Some}
use Rattle.std.proofs.lemmas.Slice.Eq.{bytes_eq-Decides}
use Rattle.c_types.specs.Files.{once}
use Rattle.c_types.specs.Ordered.{option_list, by_names}
use Rattle.well_typed_order.specs.Laws.Growth.{In}
use Rattle.well_typed_order.specs.Laws.Mentions.{onto}

pub eq-name : (a b : List ℕ) → bytes_eq a b ≡ true → a ≡ b
eq-name a b is = (bytes_eq-Decides a b).0 is

pub name-eq : (a b : List ℕ) → a ≡ b → bytes_eq a b ≡ true
name-eq a b is = (bytes_eq-Decides a b).1 is

-- ---- the first that passes a test

-- an element that passes it
pub record Passes {A : Type 0} (test : A → Bool) (xs : List A) (x : A) : Type 0 where
  pub there : In xs x
  pub passes : test x ≡ true

pub passes-later : {A : Type 0} (test : A → Bool) (y : A) (xs : List A) (x : A) → Passes test xs x → Passes test (y ∷ xs) x
passes-later test y xs x p = record { there = (suc p.there.0, p.there.1); passes = p.passes }

found_one : {A : Type 0} (test : A → Bool) (y : A) (xs : List A) (b : Bool) → test y ≡ b → (x : A) →
    cond b (Some y) (find test xs) ≡ Some x → (find test xs ≡ Some x → Passes test xs x) → Passes test (y ∷ xs) x
found_one test y xs true is x same rest =
    let eq : y ≡ x = same_Some y x same in
    record { there = (zero, ap (λ y. Some y) eq); passes = ap test (sym eq) ∙ is }
found_one test y xs false is x same rest = passes-later test y xs x (rest same)

pub find-passes : {A : Type 0} (test : A → Bool) (xs : List A) (x : A) → find test xs ≡ Some x → Passes test xs x
find-passes test [] x is = absurd cc
find-passes test (y ∷ xs) x is = found_one test y xs (test y) refl x is (find-passes test xs x)

find_one : {A : Type 0} (test : A → Bool) (y : A) (xs : List A) (b : Bool) → ((x : A) × (find test xs ≡ Some x)) →
    (x : A) × (cond b (Some y) (find test xs) ≡ Some x)
find_one test y xs true rest = (y, refl)
find_one test y xs false rest = rest

pub passes-find : {A : Type 0} (test : A → Bool) (xs : List A) (x : A) → In xs x → test x ≡ true → (y : A) × (find test xs ≡ Some y)
passes-find test [] x (k, is) passes = absurd cc
passes-find test (y ∷ xs) x (zero, is) passes =
    let eq : y ≡ x = same_Some y x is in
    (y, ap (λ b. cond b (Some y) (find test xs)) (ap test eq ∙ passes))
passes-find test (y ∷ xs) x (suc k, is) passes = find_one test y xs (test y) (passes-find test xs x (k, is) passes)

-- ---- places

-- what stands at the place of the first that passes
pub record Place {A : Type 0} (test : A → Bool) (from : ℕ) (xs : List A) (k : ℕ) : Type 0 where
  pub index : ℕ
  pub is : k ≡ from + index
  pub element : A
  pub there : slice_get xs index ≡ Some element
  pub passes : test element ≡ true

place_one : {A : Type 0} (test : A → Bool) (from : ℕ) (y : A) (xs : List A) (b : Bool) → test y ≡ b → (k : ℕ) →
    cond b (Some from) (position_from test (from + 1) xs) ≡ Some k → (position_from test (from + 1) xs ≡ Some k →
    Place test (from + 1) xs k) →
    Place test from (y ∷ xs) k
place_one test from y xs true is k same rest =
    let one : from ≡ k = same_Some from k same in
    record { index = zero; is = omega (arith, one); element = y; there = refl; passes = is }
place_one test from y xs false is k same rest =
    let p = rest same in
    let at = p.is in
    record { index = suc p.index; is = omega (arith, at); element = p.element; there = p.there; passes = p.passes }

pub position-place : {A : Type 0} (test : A → Bool) (from : ℕ) (xs : List A) (k : ℕ) → position_from test from xs ≡ Some k →
    Place test from xs k
position-place test from [] k is = absurd cc
position-place test from (y ∷ xs) k is = place_one test from y xs (test y) refl k is (position-place test (from + 1) xs k)

position_one : (from : ℕ) (b : Bool) (rest : Option ℕ) → ((k : ℕ) × (rest ≡ Some k)) → (k : ℕ) × (cond b (Some from) rest ≡ Some k)
position_one from true rest found = (from, refl)
position_one from false rest found = found

pub passes-position : {A : Type 0} (test : A → Bool) (from : ℕ) (xs : List A) (x : A) → In xs x → test x ≡ true →
    (k : ℕ) × (position_from test from xs ≡ Some k)
passes-position test from [] x (k, is) passes = absurd cc
passes-position test from (y ∷ xs) x (zero, is) passes =
    let eq : y ≡ x = same_Some y x is in
    (from, ap (λ b. cond b (Some from) (position_from test (from + 1) xs)) (ap test eq ∙ passes))
passes-position test from (y ∷ xs) x (suc k, is) passes =
    position_one from (test y) (position_from test (from + 1) xs) (passes-position test (from + 1) xs x (k, is) passes)

-- the place of a name in a list of names
pub name-at : (names : List (List ℕ)) (name : List ℕ) (k : ℕ) → position_from (bytes_eq name) 0 names ≡ Some k →
    slice_get names k ≡ Some name
name-at names name k is =
    let p = position-place (bytes_eq name) 0 names k is in
    let at : k ≡ p.index = omega (arith, (p.is)) in
    ap (slice_get names) at ∙ p.there ∙ ap (λ n. Some n) (sym (eq-name name p.element p.passes))

-- ---- lists that are filtered

filtered_one : {A : Type 0} (test : A → Bool) (y : A) (xs : List A) (b : Bool) → test y ≡ b → (x : A) →
    In (cond b (y ∷ filter test xs) (filter test xs)) x → ((x : A) → In (filter test xs) x → Passes test xs x) → Passes test (y ∷ xs) x
filtered_one test y xs true is x (zero, has) rest =
    let eq : y ≡ x = same_Some y x has in record { there = (zero, has); passes = ap test (sym eq) ∙ is }
filtered_one test y xs true is x (suc k, has) rest = passes-later test y xs x (rest x (k, has))
filtered_one test y xs false is x has rest = passes-later test y xs x (rest x has)

pub filter-passes : {A : Type 0} (test : A → Bool) (xs : List A) (x : A) → In (filter test xs) x → Passes test xs x
filter-passes test [] x (k, is) = absurd cc
filter-passes test (y ∷ xs) x has = filtered_one test y xs (test y) refl x has (filter-passes test xs)

filter_later : {A : Type 0} (y : A) (ys : List A) (b : Bool) (x : A) → In ys x → In (cond b (y ∷ ys) ys) x
filter_later y ys true x (k, is) = (suc k, is)
filter_later y ys false x has = has

pub passes-filter : {A : Type 0} (test : A → Bool) (xs : List A) (x : A) → In xs x → test x ≡ true → In (filter test xs) x
passes-filter test [] x (k, is) passes = absurd cc
passes-filter test (y ∷ xs) x (zero, is) passes =
    let eq : y ≡ x = same_Some y x is in
    subst (λ b. In (cond b (y ∷ filter test xs) (filter test xs)) x) (sym (ap test eq ∙ passes)) (zero, is)
passes-filter test (y ∷ xs) x (suc k, is) passes = filter_later y (filter test xs) (test y) x (passes-filter test xs x (k, is) passes)

any_one : {A : Type 0} (test : A → Bool) (y : A) (xs : List A) (b : Bool) → test y ≡ b → (b || list_any test xs) ≡ true →
    (list_any test xs ≡ true → (x : A) × Passes test xs x) → (x : A) × Passes test (y ∷ xs) x
any_one test y xs true is any rest = (y, record { there = (zero, refl); passes = is })
any_one test y xs false is any rest = let found = rest any in (found.0, passes-later test y xs found.0 found.1)

pub any-passes : {A : Type 0} (test : A → Bool) (xs : List A) → list_any test xs ≡ true → (x : A) × Passes test xs x
any-passes test [] is = absurd cc
any-passes test (y ∷ xs) is = any_one test y xs (test y) refl is (any-passes test xs)

or_second : (a b : Bool) → b ≡ true → (a || b) ≡ true
or_second true b is = refl
or_second false b is = is

pub passes-any : {A : Type 0} (test : A → Bool) (xs : List A) (x : A) → In xs x → test x ≡ true → list_any test xs ≡ true
passes-any test [] x (k, is) passes = absurd cc
passes-any test (y ∷ xs) x (zero, is) passes =
    let eq : y ≡ x = same_Some y x is in ap (λ b. b || list_any test xs) (ap test eq ∙ passes)
passes-any test (y ∷ xs) x (suc k, is) passes = or_second (test y) (list_any test xs) (passes-any test xs x (k, is) passes)

-- ---- each name once

once_new : (seen : List (List ℕ)) (x n : List ℕ) (xs : List (List ℕ)) (b c : Bool) → list_any (bytes_eq x) seen ≡ b → bytes_eq n x ≡ c →
    list_any (bytes_eq n) seen ≡ false → (list_any (bytes_eq n) seen ≡ false → In (once seen xs) n) →
    ((c || list_any (bytes_eq n) seen) ≡ false → In (once (x ∷ seen) xs) n) →
    In (if b then once seen xs else x ∷ once (x ∷ seen) xs) n
once_new seen x n xs true c is its fresh old new = old fresh
once_new seen x n xs false true is its fresh old new = (zero, ap (λ n. Some n) (sym (eq-name n x its)))
once_new seen x n xs false false is its fresh old new = let found = new fresh in (suc found.0, found.1)

pub in-once : (seen names : List (List ℕ)) (n : List ℕ) → In names n → list_any (bytes_eq n) seen ≡ false → In (once seen names) n
in-once seen [] n (k, is) fresh = absurd cc
in-once seen (x ∷ xs) n (zero, is) fresh =
    let eq : x ≡ n = same_Some x n is in
    let new : list_any (bytes_eq x) seen ≡ false = ap (λ n. list_any (bytes_eq n) seen) eq ∙ fresh in
    subst (λ b. In (if b then once seen xs else x ∷ once (x ∷ seen) xs) n) (sym new) (zero, is)
in-once seen (x ∷ xs) n (suc k, is) fresh =
    once_new seen x n xs (list_any (bytes_eq x) seen) (bytes_eq n x) refl refl fresh (in-once seen xs n (k, is))
    (in-once (x ∷ seen) xs n (k, is))

-- ---- in the order of names

-- each name has one
abbrev pub Found : {A : Type 0} → (A → List ℕ) → List (List ℕ) → List A → Type 0
Found name_of names xs = (n : List ℕ) → In names n → (x : _) × (find (λ a. bytes_eq (name_of a) n) xs ≡ Some x)

pub by-names-at : {A : Type 0} (name_of : A → List ℕ) (names : List (List ℕ)) (xs : List A) → Found name_of names xs → (k : ℕ)
    (n : List ℕ) (x : A) → slice_get names k ≡ Some n → find (λ a. bytes_eq (name_of a) n) xs ≡ Some x →
    slice_get (by_names name_of names xs) k ≡ Some x
by-names-at name_of [] xs found k n x is its = absurd cc
by-names-at name_of (m ∷ names) xs found zero n x is its =
    let eq : m ≡ n = same_Some m n is in
    ap (λ o. slice_get (option_list o ++ by_names name_of names xs) zero) (ap (λ n. find (λ a. bytes_eq (name_of a) n) xs) eq ∙ its)
by-names-at name_of (m ∷ names) xs found (suc k) n x is its =
    let one = found m (zero, refl) in
    ap (λ o. slice_get (option_list o ++ by_names name_of names xs) (suc k)) one.1
    ∙ by-names-at name_of names xs (λ n has. found n (suc has.0, has.1)) k n x is its

-- ---- onto a list

pub onto-in : {A : Type 0} (xs ys : List A) (x : A) → In (onto xs ys) x → (In xs x) ⊎ (In ys x)
onto-in [] ys x has = inr has
onto-in (y ∷ xs) ys x has = by_side (onto-in xs (y ∷ ys) x has)
  where
    by_side : (In xs x) ⊎ (In (y ∷ ys) x) → (In (y ∷ xs) x) ⊎ (In ys x)
    by_side (inl (k, is)) = inl (suc k, is)
    by_side (inr (zero, is)) = inl (zero, is)
    by_side (inr (suc k, is)) = inr (k, is)

pub in-onto-back : {A : Type 0} (xs ys : List A) (x : A) → In ys x → In (onto xs ys) x
in-onto-back [] ys x has = has
in-onto-back (y ∷ xs) ys x (k, is) = in-onto-back xs (y ∷ ys) x (suc k, is)

pub in-onto : {A : Type 0} (xs ys : List A) (x : A) → In xs x → In (onto xs ys) x
in-onto [] ys x (k, is) = absurd cc
in-onto (y ∷ xs) ys x (zero, is) = in-onto-back xs (y ∷ ys) x (zero, is)
in-onto (y ∷ xs) ys x (suc k, is) = in-onto xs (y ∷ ys) x (k, is)

pub in-map : {A B : Type 0} (f : A → B) (xs : List A) (x : A) → In xs x → In (map f xs) (f x)
in-map f [] x (k, is) = absurd cc
in-map f (y ∷ xs) x (zero, is) = (zero, ap (λ y. Some (f y)) (same_Some y x is))
in-map f (y ∷ xs) x (suc k, is) = let found = in-map f xs x (k, is) in (suc found.0, found.1)

pub map-in : {A B : Type 0} (f : A → B) (xs : List A) (y : B) → In (map f xs) y → (x : A) × In xs x × (f x ≡ y)
map-in f [] y (k, is) = absurd cc
map-in f (x ∷ xs) y (zero, is) = (x, (zero, refl), same_Some (f x) y is)
map-in f (x ∷ xs) y (suc k, is) = let found = map-in f xs y (k, is) in (found.0, (suc found.1.0, found.1.1), found.2)

pub map-get : {A B : Type 0} (f : A → B) (xs : List A) (k : ℕ) (x : A) → slice_get xs k ≡ Some x → slice_get (map f xs) k ≡ Some (f x)
map-get f [] k x is = absurd cc
map-get f (y ∷ xs) zero x is = ap (λ y. Some (f y)) (same_Some y x is)
map-get f (y ∷ xs) (suc k) x is = map-get f xs k x is
