-- Slots in the order of their owners, after a change, after a new one, and without the latest.
use Rattle.std.proofs.Common.{◌≡◌, refl, sym, subst, arith, ℕ, zero, suc, ◌-◌, ◌≤◌, false, List, [], ◌∷◌, ◌++◌, length}
use Rattle.std.proofs.Common.{Some, None}
use Rattle.std.proofs.lemmas.Bool.{ne_eqb}
use Rattle.std.specs.Prelude.{slice_get, slice_set}
use Rattle.block_meaning.specs.declared.kind.Kind.{Kind}
use Rattle.block_meaning.specs.declared.kind.Kind.TheVariants.{Local}
use Rattle.block_meaning.specs.Meaning.{is_of_call}
use Rattle.mean_memory.specs.declared.slot.Slot.{Slot}
use Rattle.mean_memory.specs.Laws.Places.{none_not_some, some_same}
use Rattle.mean_memory.specs.Owners.{owner, From, UpTo, InOrder}

-- ---- a change that keeps the kind

from_set : (n : ℕ) (slots : List Slot) (i : ℕ) (s s' : Slot) → slice_get slots i ≡ Some s → s'.kind ≡ s.kind → From n slots →
    From n (slice_set slots i s')
from_set n [] i s s' at kind from = tt
from_set n (x ∷ xs) zero s s' at kind from =
    (subst (λ k. n ≤ owner k) (sym kind) (subst (λ t. n ≤ owner t.kind) (some_same at) from.0), from.1)
from_set n (x ∷ xs) (suc i) s s' at kind from = (from.0, from_set n xs i s s' at kind from.1)

pub order_set : (slots : List Slot) (i : ℕ) (s s' : Slot) → slice_get slots i ≡ Some s → s'.kind ≡ s.kind → InOrder slots →
    InOrder (slice_set slots i s')
order_set [] i s s' at kind order = tt
order_set (x ∷ xs) zero s s' at kind order =
    (subst (λ k. From (owner k) xs) (sym kind) (subst (λ t. From (owner t.kind) xs) (some_same at) order.0), order.1)
order_set (x ∷ xs) (suc i) s s' at kind order =
    (from_set (owner x.kind) xs i s s' at kind order.0, order_set xs i s s' at kind order.1)

-- ---- one more

from_push : (n : ℕ) (slots : List Slot) (s : Slot) → From n slots → n ≤ owner s.kind → From n (slots ++ s ∷ [])
from_push n [] s from least = (least, tt)
from_push n (x ∷ xs) s from least = (from.0, from_push n xs s from.1 least)

pub order_push : (slots : List Slot) (s : Slot) → InOrder slots → UpTo (owner s.kind) slots → InOrder (slots ++ s ∷ [])
order_push [] s order most = (tt, tt)
order_push (x ∷ xs) s order most = (from_push (owner x.kind) xs s order.0 most.0, order_push xs s order.1 most.1)

-- ---- without the latest

from_front : (n : ℕ) (slots : List Slot) (s : Slot) → From n (slots ++ s ∷ []) → From n slots
from_front n [] s from = tt
from_front n (x ∷ xs) s from = (from.0, from_front n xs s from.1)

pub order_front : (slots : List Slot) (s : Slot) → InOrder (slots ++ s ∷ []) → InOrder slots
order_front [] s order = tt
order_front (x ∷ xs) s order = (from_front (owner x.kind) xs s order.0, order_front xs s order.1)

-- ---- the latest

most_first : (x y : Slot) (ys : List Slot) (n : ℕ) → From (owner x.kind) (y ∷ ys) → UpTo n (y ∷ ys) → owner x.kind ≤ n
most_first x y ys n from most =
    let first : owner x.kind ≤ owner y.kind = from.0 in
    let second : owner y.kind ≤ n = most.0 in
    omega arith

most_at : (slots : List Slot) (i : ℕ) (s : Slot) (n : ℕ) → InOrder slots → length slots ≡ suc i → slice_get slots i ≡ Some s →
    owner s.kind ≤ n → UpTo n slots
most_at [] i s n order last at most = tt
most_at (x ∷ []) zero s n order last at most = (subst (λ t. owner t.kind ≤ n) (sym (some_same at)) most, tt)
most_at (x ∷ y ∷ ys) zero s n order last at most = absurd (omega arith)
most_at (x ∷ []) (suc i) s n order last at most = absurd (none_not_some at)
most_at (x ∷ y ∷ ys) (suc i) s n order last at most =
    let rest : UpTo n (y ∷ ys) = most_at (y ∷ ys) i s n order.1 (omega arith) at most in
    (most_first x y ys n order.0 rest, rest)

past : (slots : List Slot) (i : ℕ) → length slots ≡ suc i → slice_get slots i ≡ None → ⊥
past [] i last at = absurd (omega arith)
past (x ∷ xs) zero last at = none_not_some (sym at)
past (x ∷ xs) (suc i) last at = past xs i (omega arith) at

before_end : (x : Slot) (xs : List Slot) → length (x ∷ xs) - 1 ≡ length xs
before_end x xs = omega arith

-- the latest belongs to the latest owner
pub latest_most : (slots : List Slot) (s : Slot) (n : ℕ) → InOrder slots → slice_get slots (length slots - 1) ≡ Some s → owner s.kind ≤ n →
    UpTo n slots
latest_most [] s n order at most = tt
latest_most (x ∷ xs) s n order at most = most_at (x ∷ xs) (length xs) s n order refl
    (subst (λ i. slice_get (x ∷ xs) i ≡ Some s) (before_end x xs) at) most

pub none_most : (slots : List Slot) (n : ℕ) → slice_get slots (length slots - 1) ≡ None → UpTo n slots
none_most [] n at = tt
none_most (x ∷ xs) n at = absurd (past (x ∷ xs) (length xs) refl (subst (λ i. slice_get (x ∷ xs) i ≡ None) (before_end x xs) at))

-- an owner that is no later than a call's number is not that call
pub not_of_call : (kind : Kind) (call : ℕ) → owner kind ≤ call → is_of_call call kind ≡ false
not_of_call (Local c k) call most = ne_eqb c call (λ e. omega (arith, e))
not_of_call _ call most = refl
