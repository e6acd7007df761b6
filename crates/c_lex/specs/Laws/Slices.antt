-- Laws of slices that pass a test, and of tables of spellings.
use Rattle.std.proofs.Common.{◌≡◌, ℕ, zero, suc, ◌+◌, ◌≤◌, min, List, [], ◌∷◌, length, take, Bool, true, false, cond, Some, refl, subst}
use Rattle.std.proofs.Common.{arith}
use Rattle.std.proofs.Math.Numerals.{one-add}
use Rattle.std.specs.List.{prefix_len, list_all, position_from}
use Rattle.std.specs.Str.{bytes_eq}
use Rattle.std.proofs.lemmas.Bool.{and_from, and_parts}
use Rattle.std.proofs.lemmas.Slice.Eq.{bytes_eq-Decides}
use Rattle.c_ast.specs.Words.{place_of}

front_all : (p : ℕ → Bool) (x : ℕ) (xs : List ℕ) (b : Bool) → p x ≡ b → list_all p (take (prefix_len p xs) xs) ≡ true
    → list_all p (take (cond b (1 + prefix_len p xs) 0) (x ∷ xs)) ≡ true
front_all p x xs true passes all = rw one-add (and_from (p x) _ passes all)
front_all p x xs false passes all = refl

-- each element of the longest front that passes does pass
pub list_all-front : (p : ℕ → Bool) (xs : List ℕ) → list_all p (take (prefix_len p xs) xs) ≡ true
list_all-front p [] = refl
list_all-front p (x ∷ xs) = front_all p x xs (p x) refl (list_all-front p xs)

-- a front that passes is no longer than the longest
pub front-bound : (p : ℕ → Bool) (n : ℕ) (xs : List ℕ) → list_all p (take n xs) ≡ true → n ≤ length xs → n ≤ prefix_len p xs
front-bound p zero xs all within = omega arith
front-bound p (suc n) [] all within = absurd (omega arith)
front-bound p (suc n) (x ∷ xs) all within =
    let parts = and_parts (p x) (list_all p (take n xs)) all in
    rw parts.0 (omega (arith, front-bound p n xs parts.1 (omega arith)))

found_in : (test : List ℕ → Bool) (bytes w : List ℕ) (ws : List (List ℕ)) (n place : ℕ) (same : Bool) → bytes_eq w bytes ≡ same →
    cond same (Some n) (position_from (λ v. bytes_eq v bytes) (n + 1) ws) ≡ Some place → test w ≡ true →
    (position_from (λ v. bytes_eq v bytes) (n + 1) ws ≡ Some place → test bytes ≡ true) → test bytes ≡ true
found_in test bytes w ws n place true same found passes later = subst (λ v. test v ≡ true) ((bytes_eq-Decides w bytes).0 same) passes
found_in test bytes w ws n place false same found passes later = later found

position-passes : (test : List ℕ → Bool) (bytes : List ℕ) (n place : ℕ) (table : List (List ℕ)) →
    position_from (λ v. bytes_eq v bytes) n table ≡ Some place → list_all test table ≡ true → test bytes ≡ true
position-passes test bytes n place [] found passes = cc
position-passes test bytes n place (w ∷ ws) found passes =
    let parts = and_parts (test w) (list_all test ws) passes in
    found_in test bytes w ws n place (bytes_eq w bytes) refl found parts.0
    (λ later. position-passes test bytes (n + 1) place ws later parts.1)

-- what stands in a table passes each test that the whole table passes
pub in_table : (test : List ℕ → Bool) (bytes : List ℕ) (table : List (List ℕ)) (place : ℕ) → place_of bytes table ≡ Some place
    → list_all test table ≡ true → test bytes ≡ true
in_table test bytes table place found passes = position-passes test bytes 0 place table found passes

-- so does each element of a shorter front
pub list_all-take : (p : ℕ → Bool) (limit : ℕ) (xs : List ℕ) → list_all p (take (min limit (prefix_len p xs)) xs) ≡ true
list_all-take p zero xs = subst (λ n. list_all p (take n xs) ≡ true) (let none : 0 ≡ min 0 (prefix_len p xs) = omega arith in none) refl
list_all-take p (suc limit) [] = subst (λ n. list_all p (take n []) ≡ true) (let none : 0 ≡ min (suc limit) 0 = omega arith in none) refl
list_all-take p (suc limit) (x ∷ xs) = by_first (p x) refl (list_all-take p limit xs)
  where
    by_first : (b : Bool) → p x ≡ b → list_all p (take (min limit (prefix_len p xs)) xs) ≡ true →
        list_all p (take (min (suc limit) (cond b (1 + prefix_len p xs) 0)) (x ∷ xs)) ≡ true
    by_first true passes later =
        subst (λ n. list_all p (take n (x ∷ xs)) ≡ true)
        (let more : suc (min limit (prefix_len p xs)) ≡ min (suc limit) (1 + prefix_len p xs) = omega arith in more)
        (and_from (p x) _ passes later)
    by_first false passes later =
        subst (λ n. list_all p (take n (x ∷ xs)) ≡ true) (let none : 0 ≡ min (suc limit) 0 = omega arith in none) refl
