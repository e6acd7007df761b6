-- How a turn of a loop ends, and how the next one begins (this project's own).
use Rattle.std.specs.Prelude.{◌≡◌, ℕ, zero, suc}
use Rattle.std.proofs.Common.{arith}
use Rattle.a64_code.specs.State.{State}
use Rattle.block_meaning.specs.Running.{Run, and_then, unit_then, State as MeaningState}
use Rattle.block_meaning.specs.Statements.{Flow, Next, Broke, Continued, Returned, Turn, after_body, loop}
use Rattle.block_meaning.specs.Statements.{around as around_turn}
use Rattle.code_follows.specs.Scene.{Scene, IsScene}
use Rattle.code_follows.specs.Laws.Coming.{pays}
use Rattle.code_follows.specs.Laws.Going.{On-at}
use Rattle.code_runs.specs.Bounded.{Account}
use Rattle.stmt_follows.specs.Parts.{Ways, Ends, flow_room, IsAhead, Here, After, Proceeds}
use Rattle.stmt_follows.specs.Laws.Ahead.{unit_then-apart, Proceeds-paid}
use Rattle.stmt_follows.specs.Laws.Flowing.{Here-comes, Proceeds-next}
use Rattle.stmt_follows.specs.Laws.Proceeding.{Proceeds-same, Proceeds-stuck, Proceeds-done, Proceeds-unit, Proceeds-jump, Here-less}
use Rattle.code_follows.specs.Laws.Jumping.{Jumps}
use Rattle.code_follows.specs.Laws.Operand.{IsAt-on}

-- From where its turns are tested the code does so many turns, of which the next is paid for.
pub record LoopsOn (k : Scene) (w : Ways) (s : State) (at to : ℕ) (run : Run Flow) : Type 0 where
  pub goes : (a : Account) (now : MeaningState) (t : State) → Here k s at a 0 70 now t → IsAhead a 1 now →
      Proceeds k.code flow_room (Ends k w s to) a run now t

-- a turn, behind its unit of work, and then the others
pub record TurnsOn (k : Scene) (w : Ways) (s : State) (at to : ℕ) (turn : Run Turn) (run : Run Flow) : Type 0 where
  pub goes : (a : Account) (now : MeaningState) (t : State) → Here k s at a 0 80 now t →
      Proceeds k.code flow_room (Ends k w s to) a (and_then turn (λ x. around_turn x run)) now t

-- from one turn to all
pub loops_on : {k : Scene} {w : Ways} {s : State} {at to : ℕ} {turn : Run Turn} → IsScene k →
    ((run : Run Flow) → LoopsOn k w s at to run → TurnsOn k w s at to turn run) → (bound : ℕ) →
    LoopsOn k w s at to (loop bound (unit_then turn))
loops_on scene each zero = record { goes = λ a now t on before. Proceeds-stuck }
loops_on {turn = turn} scene each (suc more) =
    let rest = loops_on scene each more in
    record {
      goes = λ a now t on before.
          Proceeds-same (unit_then-apart turn (λ x. around_turn x (loop more (unit_then turn))) now)
          (Proceeds-paid on before (λ paid.
          (each (loop more (unit_then turn)) rest).goes a _ t (Here-less 80 (omega (arith, pays scene)) paid)));
    }

-- the body was left: by the next turn, or behind the loop
pub after_turn : {k : Scene} {w : Ways} {s : State} {test to : ℕ} {broke continued : ℕ} {a : Account} {run : Run Flow}
    {now : MeaningState} {t : State} (x : Flow) → broke ≡ to → continued ≡ test →
    After k (record { broke = broke; continued = continued; Leaving = w.Leaving }) s test a 80 x now t → IsAhead a 1 now →
    LoopsOn k w s test to run → Proceeds k.code flow_room (Ends k w s to) a (around_turn (after_body x) run) now t
after_turn Next broke continued after before rest =
    rest.goes _ _ _ (Here-comes 70 after.ends after.bounds (omega arith)) before
after_turn Broke broke continued after before rest =
    Proceeds-next (On-at broke (Here-comes 0 after.ends after.bounds (omega arith)))
after_turn Continued broke continued after before rest =
    rest.goes _ _ _ (On-at continued (Here-comes 70 after.ends after.bounds (omega arith))) before
after_turn (Returned v) broke continued after before rest =
    Proceeds-done (Returned v) after.bounds (omega arith)
    (record { at = after.ends.at; leaving = after.ends.leaving; value = after.ends.value; comes = after.ends.comes })

-- the first turn, whose unit of work the jump to the test pays for
pub turns_first : {k : Scene} {w : Ways} {s : State} {from test to : ℕ} {a : Account} {now : MeaningState} {t : State} {turn : Run Turn} →
    IsScene k → Here k s from a 0 0 now t → Jumps k from test →
    ((run : Run Flow) → LoopsOn k w s test to run → TurnsOn k w s test to turn run) → (bound : ℕ) →
    Proceeds k.code flow_room (Ends k w s to) a (loop bound (unit_then turn)) now t
turns_first scene on first each zero = Proceeds-stuck
turns_first {now = now} {t} {turn} scene on first each (suc more) =
    Proceeds-same (unit_then-apart turn (λ x. around_turn x (loop more (unit_then turn))) now)
    (Proceeds-unit on (λ owing.
    Proceeds-jump 80 (first.jumps t (IsAt-on owing)) owing (omega arith) (omega (arith, pays scene)) (λ there.
    (each (loop more (unit_then turn)) (loops_on scene each more)).goes _ _ _ there)))
