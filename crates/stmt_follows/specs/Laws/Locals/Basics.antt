-- Choices, options and kinds of blocks (this project's own).
use Rattle.std.specs.Prelude.{◌≡◌, ◌≢◌, ℕ, Bool, true, false, nat_eq, Option, Some, None, refl, if◌then◌else◌}
use Rattle.std.proofs.Common.{arith}
use Rattle.std.proofs.lemmas.Bool.{eqb-true}
use Rattle.std.proofs.lemmas.Bool.Decides.{nat_tests}
use Rattle.block_meaning.specs.declared.kind.Kind.{Kind}
use Rattle.block_meaning.specs.declared.kind.Kind.TheVariants.{Local}
use Rattle.block_meaning.specs.Locals.{with_local}
use Rattle.block_meaning.specs.Running.{Context}

pub if_true : (b : Bool) {A : Type 0} (x y : A) → b ≡ true → (if b then x else y) ≡ x
if_true true x y is = refl
if_true false x y is = absurd (cc)

pub if_false : (b : Bool) {A : Type 0} (x y : A) → b ≡ false → (if b then x else y) ≡ y
if_false true x y is = absurd (cc)
if_false false x y is = refl

pub some_none : {A : Type 0} {o : Option A} {x : A} → o ≡ Some x → o ≡ None → ⊥
some_none some none = absurd (cc)

pub same_some : {A : Type 0} {o : Option A} {x y : A} → o ≡ Some x → o ≡ Some y → x ≡ y
same_some one other = cc

pub eq_same : (n : ℕ) → nat_eq n n ≡ true
eq_same n = grind (arith, nat_tests)

-- whose local a block is, and which
abbrev pub call_in : Kind → ℕ
call_in (Local call k) = call
call_in _ = 0

abbrev pub number_in : Kind → ℕ
number_in (Local call k) = k
number_in _ = 0

-- ---- a local more, or less

-- the context without a local
abbrev pub without : ℕ → Context → Context
without k here = record here { local = λ j. (if nat_eq j k then None else here.local j) }

-- another local is as it was
pub others_same : (here : Context) (k number j : ℕ) → j ≢ k → (with_local k number here).local j ≡ here.local j
others_same here k number j other = by_number (nat_eq j k) refl
  where
    by_number : (same : Bool) → nat_eq j k ≡ same → (with_local k number here).local j ≡ here.local j
    by_number true equal = absurd (other (eqb-true j k equal))
    by_number false differs = if_false (nat_eq j k) (Some number) (here.local j) differs

pub others_stay : (here : Context) (k j : ℕ) → j ≢ k → (without k here).local j ≡ here.local j
others_stay here k j other = by_number (nat_eq j k) refl
  where
    by_number : (same : Bool) → nat_eq j k ≡ same → (without k here).local j ≡ here.local j
    by_number true equal = absurd (other (eqb-true j k equal))
    by_number false differs = if_false (nat_eq j k) None (here.local j) differs
