-- Parts of a loop's turn, of which a step was made that pays for the next unit of work (this project's own).
use Rattle.std.specs.Prelude.{◌≡◌, ℕ, zero, suc, ◌+◌, ◌≤◌, Bool, true, false, refl}
use Rattle.std.proofs.Common.{arith}
use Rattle.a64_code.specs.State.{State}
use Rattle.block_meaning.specs.Expressions.{value_of}
use Rattle.block_meaning.specs.Running.{Run, goes_on, one_of, and_then, unit_then, choice, State as MeaningState}
use Rattle.block_meaning.specs.Statements.{Flow, StmtParts}
use Rattle.block_meaning.specs.declared.value.Value.{Value}
use Rattle.c_type_base.specs.declared.expr.TExpr.{TExpr}
use Rattle.code_follows.specs.Scene.{Scene, IsScene, structs_in, frame_in, Lies}
use Rattle.code_follows.specs.Laws.Coming.{Came-part, Came-spent, pays}
use Rattle.code_relation.specs.Follows.{Code}
use Rattle.code_relation.specs.Laws.Follows.{does_unit}
use Rattle.code_relation.specs.Laws.Outcomes.{spent}
use Rattle.code_runs.specs.Bounded.{Account, Room, later}
use Rattle.gen_stmt.specs.Statements.{value}
use Rattle.stmt_follows.specs.Expressions.{ValueRuns}
use Rattle.stmt_follows.specs.Parts.{Ways, IsAhead, Here, After, Proceeds, Flows}
use Rattle.stmt_follows.specs.Laws.Flowing.{over_few, no_spare, Ends-since}
use Rattle.stmt_follows.specs.Laws.Proceeding.{spent_one, per_one, Bounds-here, Proceeds-ahead}

-- a unit of work, and then one run and another
pub unit_then-apart : {A B : Type 0} (m : Run A) (f : A → Run B) (now : MeaningState) →
    and_then (unit_then m) f now ≡ unit_then (and_then m f) now
unit_then-apart m f now = by_work now.work
  where
    by_work : (work : ℕ) → goes_on (one_of work m now) f ≡ one_of work (and_then m f) now
    by_work zero = refl
    by_work (suc left) = refl

-- one of two runs, and then another
pub Proceeds-chosen : {A B : Type 0} {c : Code} {room : A → Room} {Q : A → MeaningState → State → Type 0} {a : Account} (m n : Run B)
    (f : B → Run A) {now : MeaningState} {t : State} (b : Bool) → (b ≡ true → Proceeds c room Q a (and_then m f) now t) →
    (b ≡ false → Proceeds c room Q a (and_then n f) now t) → Proceeds c room Q a (and_then (choice b m n) f) now t
Proceeds-chosen m n f true one other = record { bounded = (one refl).bounded }
Proceeds-chosen m n f false one other = record { bounded = (other refl).bounded }

module _ {A : Type 0} {k : Scene} {room : A → Room} {Q : A → MeaningState → State → Type 0} {s : State} where
  -- the unit of work for which a step was made
  pub Proceeds-paid : {a : Account} {spare : ℕ} {at : ℕ} {m : Run A} {now : MeaningState} {t : State} → Here k s at a 0 spare now t →
      IsAhead a 1 now → (Here k s at a 0 (spare + k.code.per) (spent now) t → Proceeds k.code room Q a m (spent now) t) →
      Proceeds k.code room Q a (unit_then m) now t
  Proceeds-paid {a} {spare} {at} {m} {now} {t} on before more = record {
    bounded = does_unit k.code m now (record { least = omega (arith, on.least); most = omega (arith, on.most) })
        on.came.comes.relates.outside.output (λ left is. (more (owing left is)).bounded);
  }
    where
      owing : (left : ℕ) → now.work ≡ suc left → Here k s at a 0 (spare + k.code.per) (spent now) t
      owing left is = record {
        came = Came-spent on.came;
        least = omega (arith, before.ahead, is, spent_one left now is);
        most = omega (arith, on.most, per_one k.code.per left now is);
        within = omega (arith, on.within, is, spent_one left now is);
      }

  -- a statement, and then what stands on how it is left
  pub Proceeds-flow_ahead : {w : Ways} {a : Account} {spare from middle : ℕ} {m : Run Flow} {f : Flow → Run A} {now : MeaningState}
      {t : State} → Flows k w from middle m → 96 ≤ k.code.per → Here k s from a 0 spare now t → IsAhead a 1 now →
      ((x : Flow) (then : MeaningState) (u : State) (n : ℕ) → After k w s middle (later n a) spare x then u →
      IsAhead (later n a) 1 then → Proceeds k.code room Q (later n a) (f x) then u) →
      Proceeds k.code room Q a (and_then m f) now t
  Proceeds-flow_ahead {w} {middle = middle} {now = now} {t} flows pays on before more =
      Proceeds-ahead (flows.flows now t on.within on.came.comes.relates on.came.comes.pc) over_few pays (Bounds-here on) before
      (λ x then u n bounds ahead ends. more x then u n (record {
        ends = Ends-since k w s t middle x then u on.came.comes.kept ends;
        bounds = record {
          least = bounds.least;
          most = omega (arith, bounds.most, no_spare x);
          within = bounds.within;
        };
      }) ahead)

  -- an expression whose value is not used
  pub Proceeds-value_ahead : {a : Account} {spare from middle : ℕ} {now : MeaningState} {t : State} {f : Value → Run A} →
      IsScene k → (parts : StmtParts) (e : TExpr) → ValueRuns k (parts.expr k.here) e →
      Lies k (value (structs_in k) (frame_in k) e) from middle → Here k s from a 0 spare now t → IsAhead a 1 now →
      ((v : Value) (then : MeaningState) (u : State) (n : ℕ) → Here k s middle (later n a) 0 spare then u → IsAhead (later n a) 1 then →
      Proceeds k.code room Q (later n a) (f v) then u) →
      Proceeds k.code room Q a (and_then (value_of (parts.expr k.here) e) f) now t
  Proceeds-value_ahead {now = now} {t} scene parts e runs lies on before more =
      Proceeds-ahead
      (record { bounded = ((runs.yields _ _ lies).goes now t on.within on.came.comes.relates on.came.comes.pc).bounded })
      (λ x. omega arith) (pays scene) (Bounds-here on) before (λ v then u n bounds ahead gave. more v then u n (record {
        came = Came-part (omega arith) (λ is. absurd (cc)) gave.came on.came;
        least = omega (arith, bounds.least);
        most = omega (arith, bounds.most);
        within = bounds.within;
      }) ahead)
