-- The code of an expression, or of a place, follows it wherever it lies, where all kinds of nodes do (this project's own).
use Rattle.std.specs.Prelude.{◌≡◌, ℕ, ◌≤◌, true, List}
use Rattle.std.proofs.Common.{arith}
use Rattle.c_ast.specs.declared.token.Span.{Span as TextSpan}
use Rattle.c_type_base.specs.declared.expr.TExpr.{TExpr}
use Rattle.c_type_base.specs.declared.expr.TNode.{out-TNode}
use Rattle.a64_code.specs.declared.instr.Reg.{Reg}
use Rattle.a64_code.specs.State.{State}
use Rattle.frame_layout.specs.Needs.{need}
use Rattle.block_meaning.specs.Expressions.{parts_at}
use Rattle.block_meaning.specs.ExpressionsInOrder.{ValueInOrder, Designates}
use Rattle.block_meaning.specs.Meaning.{calls_at}
use Rattle.block_meaning.specs.Running.{Context, State as MeaningState}
use Rattle.code_runs.specs.Laws.Bounded.{changes}
use Rattle.code_relation.specs.Follows.{Follows, Does, IsIn, Span}
use Rattle.code_relation.specs.Relates.{Relates}
use Rattle.code_relation.specs.Trees.{expression_tree, place_tree}
use Rattle.sym_code.specs.declared.item.SymItem.{SymItem}
use Rattle.code_follows.specs.Covered.{covered}
use Rattle.code_follows.specs.Nodes.{Nodes}
use Rattle.code_follows.specs.Parts.{ValueFollows, PlaceFollows, coded_in}
use Rattle.code_follows.specs.Scene.{Scene, IsFree, Lies}
use Rattle.code_follows.specs.Laws.Whole.{all_below}

-- the scene in another context
abbrev pub scene_at : Scene → Context → Scene
scene_at k here = record k { here = here }

-- where code lies in a function
abbrev pub span_in : Scene → ℕ → ℕ → Span
span_in k from to = record { function = k.function; from = from; to = to }

-- code lies where it lies, whatever the context is
pub Lies-anywhere : {k : Scene} (here : Context) {code : ℕ → List SymItem} {from to : ℕ} → Lies k code from to →
    Lies (scene_at k here) code from to
Lies-anywhere here lies = record {
  position = lies.position;
  place = lies.place;
  label_is = lies.label_is;
  stands = lies.stands;
  from_is = lies.from_is;
  to_is = lies.to_is;
}

at_other : {k : Scene} {here : Context} {needs first : ℕ} {reg : Reg} → IsFree k needs first reg → IsFree (scene_at k here) needs first reg
at_other free = record { low = free.low; high = free.high; temps = free.temps; near = free.near }

-- all nodes do what they mean, in each context of the function
pub record AllNodes (k : Scene) : Type 0 where
  pub nodes : (here : Context) → IsIn k.function here → Nodes (scene_at k here)

module _ {k : Scene} (all : AllNodes k) {first : ℕ} {reg : Reg} {from to : ℕ} where
  -- an expression of the scope, into a register that is free
  pub expression_follows : (e : TExpr) → ValueInOrder k.scope e → covered e ≡ true → IsFree k (need e) first reg →
      Lies k ((coded_in k e).value first reg) from to → (depth : ℕ) (around : TextSpan) →
      Follows k.code (expression_tree k.code.given (λ here. (parts_at (calls_at k.bound) here depth).value_in around e) first
      (span_in k from to) reg)
  expression_follows e in_order cov free lies depth around = record {
    does = λ here now s within relates begins.
        at here now s within relates begins.0 begins.1
        ((all_below (all.nodes here begins.0) depth).value e in_order cov);
  }
    where
      at : (here : Context) (now : MeaningState) (s : State) → now.work ≤ k.code.reach → Relates k.code.given here now s →
          IsIn k.function here → s.pc ≡ from → ValueFollows (scene_at k here) depth e →
          Does k.code (expression_tree k.code.given (λ h. (parts_at (calls_at k.bound) h depth).value_in around e) first
          (span_in k from to) reg) here now s
      at here now s within relates inside pc follows = record {
        extra = 0;
        bounded =
            changes (record { least = omega arith; most = omega arith }) (λ v. record { wider = omega (arith, follows.least) })
            (λ v then t gave. (gave.came.comes, gave.result_is.holds))
            ((((follows.around around).part.yields first reg from to (at_other free)
            (Lies-anywhere here lies)).goes now s within relates pc).bounded);
      }

  -- the place of what one designates
  pub place_follows : (e : TExpr) → Designates k.scope e.ty (out-TNode e.node) → covered e ≡ true → IsFree k (need e) first reg →
      Lies k ((coded_in k e).place first reg) from to → (depth : ℕ) →
      Follows k.code (place_tree k.code.given (λ here. (parts_at (calls_at k.bound) here depth).place e) first (span_in k from to) reg)
  place_follows e in_order cov free lies depth = record {
    does = λ here now s within relates begins.
        at here now s within relates begins.0 begins.1
        ((all_below (all.nodes here begins.0) depth).place e in_order cov);
  }
    where
      at : (here : Context) (now : MeaningState) (s : State) → now.work ≤ k.code.reach → Relates k.code.given here now s →
          IsIn k.function here → s.pc ≡ from → PlaceFollows (scene_at k here) depth e →
          Does k.code (place_tree k.code.given (λ h. (parts_at (calls_at k.bound) h depth).place e) first (span_in k from to) reg)
          here now s
      at here now s within relates inside pc follows = record {
        extra = 0;
        bounded =
            changes (record { least = omega arith; most = omega arith }) (λ p. record { wider = omega arith })
            (λ p then t gave. (gave.came.comes, gave.result_is.is))
            (((follows.part.place.yields first reg from to (at_other free)
            (Lies-anywhere here lies)).goes now s within relates pc).bounded);
      }
