-- Parts of symbolic code, where the whole stands (this project's own).
use Rattle.std.specs.Prelude.{◌≡◌, ℕ, zero, suc, ◌+◌, List, [], ◌∷◌, ◌++◌, length, slice_get, Some}
use Rattle.std.proofs.Common.{arith, ap, subst, length-append}
use Rattle.c_type_base.specs.declared.typed.Typed.{Typed}
use Rattle.a64_code.specs.State.{State}
use Rattle.mte_machine.specs.Run.{Steps}
use Rattle.mte_machine.specs.Laws.Steps.{Steps-add}
use Rattle.block_meaning.specs.declared.value.Value.{Value}
use Rattle.block_meaning.specs.Running.{Function, Context, State as MeaningState}
use Rattle.sym_code.specs.declared.item.SymItem.{SymItem}
use Rattle.sym_code.specs.declared.item.SymItem.TheVariants as item
use Rattle.code_relation.specs.Follows.{Code}
use Rattle.code_relation.specs.Items.{Place, Spot, spot_at, Acts, StandsAt}
use Rattle.code_relation.specs.Sites.{Given}
use Rattle.code_relation.specs.Trees.{LeaveSteps, no_scope, scope, ComesToLeave}

-- ---- lists

pub get_front : {A : Type 0} (xs ys : List A) (k : ℕ) (x : A) → slice_get xs k ≡ Some x → slice_get (xs ++ ys) k ≡ Some x
get_front [] ys k x is = absurd (cc)
get_front (y ∷ xs) ys zero x is = is
get_front (y ∷ xs) ys (suc k) x is = get_front xs ys k x is

get_at : {A : Type 0} (xs : List A) (j i : ℕ) (x : A) → j ≡ i → slice_get xs j ≡ Some x → slice_get xs i ≡ Some x
get_at xs j i x same is = subst (λ k. slice_get xs k ≡ Some x) same is

pub get_back : {A : Type 0} (xs ys : List A) (k : ℕ) (x : A) → slice_get ys k ≡ Some x → slice_get (xs ++ ys) (length xs + k) ≡ Some x
get_back [] ys k x is = get_at ys k (0 + k) x (omega arith) is
get_back (y ∷ xs) ys k x is = get_at (y ∷ (xs ++ ys)) (suc (length xs + k)) (length (y ∷ xs) + k) x (omega arith) (get_back xs ys k x is)

-- ---- places

-- the same place, from an item on
abbrev pub from_item : ℕ → Place → Place
from_item n p = record { at = λ k. p.at (n + k); label = p.label; scope_steps = λ k. p.scope_steps (n + k) }

pub from_item-start : (n : ℕ) (p : Place) → (from_item n p).at 0 ≡ p.at n
from_item-start n p = ap p.at (omega arith)

pub from_item-end : (p : Place) (xs ys : List SymItem) → (from_item (length xs) p).at (length ys) ≡ p.at (length (xs ++ ys))
from_item-end p xs ys = ap p.at (omega (arith, length-append xs ys))

-- ---- the parts stand where the whole does

pub StandsAt-front : {c : Code} {f : Function} {p : Place} (xs ys : List SymItem) → StandsAt c f p (xs ++ ys) → StandsAt c f p xs
StandsAt-front xs ys stands = record { acts = λ k i is. stands.acts k i (get_front xs ys k i is) }

pub StandsAt-back : {c : Code} {f : Function} {p : Place} (xs ys : List SymItem) → StandsAt c f p (xs ++ ys) →
    StandsAt c f (from_item (length xs) p) ys
StandsAt-back {c} {f} {p} xs ys stands = record {
  acts = λ k i is. moved k i (stands.acts (length xs + k) i (get_back xs ys k i is));
}
  where
    behind : ℕ → ℕ → Spot
    behind k to =
        record { from = p.at (length xs + k); to = p.at to; label = p.label; steps = p.scope_steps (length xs + k) }

    moved : (k : ℕ) (i : SymItem) → Acts c f (spot_at p (length xs + k)) i → Acts c f (spot_at (from_item (length xs) p) k) i
    moved k i acts = subst (λ to. Acts c f (behind k to) i) (let e : suc (length xs + k) ≡ length xs + suc k = omega arith in e) acts

-- ---- what is not counted

pub LeaveSteps-front : {p : Place} {s t : State} {extra : ℕ} (xs ys : List SymItem) → LeaveSteps xs p s t extra →
    LeaveSteps (xs ++ ys) p s t extra
LeaveSteps-front xs ys no_scope = no_scope
LeaveSteps-front xs ys (scope k first last n before jump r there behind to steps pc led few) =
    scope k first last n before jump r (get_front xs ys k (item.LeaveScope first last) there)
    (get_front xs ys (suc k) (item.Jump n) behind) to steps pc led few

-- in the second part, to which steps have led
pub LeaveSteps-back : {p : Place} {s t u : State} {made : ℕ} (xs ys : List SymItem) {extra : ℕ} → Steps made s t →
    LeaveSteps ys (from_item (length xs) p) t u extra → LeaveSteps (xs ++ ys) p s u extra
LeaveSteps-back xs ys first_led no_scope = no_scope
LeaveSteps-back {made = made} xs ys first_led (scope k first last n before jump r there behind to steps pc led few) =
    scope (length xs + k) first last n (made + before) jump r (get_back xs ys k (item.LeaveScope first last) there)
    (get_at (xs ++ ys) (length xs + suc k) (suc (length xs + k)) (item.Jump n) (omega arith)
    (get_back xs ys (suc k) (item.Jump n) behind)) to (Steps-add first_led steps) pc led few

-- ---- an item where the function ends

-- in the first part, and in the second
pub ComesToLeave-front : {g : Given} {p : Place} {here : Context} {s : State} {v : Value} {now : MeaningState} {t : State} {file : Typed}
    (f : Function) (first : ℕ) (xs ys : List SymItem) →
    ComesToLeave g (record { file = file; function = f; items = xs; first = first }) p here s v now t →
    ComesToLeave g (record { file = file; function = f; items = xs ++ ys; first = first }) p here s v now t
ComesToLeave-front f first xs ys comes = record {
  position = comes.position;
  leave = get_front xs ys comes.position item.Leave comes.leave;
  value = comes.value;
  tags = comes.tags;
  comes = comes.comes;
  same = comes.same;
}

pub ComesToLeave-back : {g : Given} {p : Place} {here : Context} {s : State} {v : Value} {now : MeaningState} {t : State} {file : Typed}
    (f : Function) (first : ℕ) (xs ys : List SymItem) →
    ComesToLeave g (record { file = file; function = f; items = ys; first = first }) (from_item (length xs) p) here s v now t →
    ComesToLeave g (record { file = file; function = f; items = xs ++ ys; first = first }) p here s v now t
ComesToLeave-back f first xs ys comes = record {
  position = length xs + comes.position;
  leave = get_back xs ys comes.position item.Leave comes.leave;
  value = comes.value;
  tags = comes.tags;
  comes = comes.comes;
  same = comes.same;
}
