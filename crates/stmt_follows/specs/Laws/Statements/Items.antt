-- Statements one after another, as the parts of a block (this project's own).
use Rattle.std.specs.Prelude.{ℕ, List, [], ◌∷◌}
use Rattle.std.proofs.Common.{arith}
use Rattle.a64_code.specs.State.{State}
use Rattle.block_meaning.specs.Running.{Run, State as MeaningState}
use Rattle.block_meaning.specs.Statements.{Flow, Next, Broke, Continued, Returned, on_next, in_order}
use Rattle.code_follows.specs.Scene.{Scene, IsScene}
use Rattle.code_follows.specs.Laws.Coming.{pays}
use Rattle.code_follows.specs.Laws.Going.{On-at}
use Rattle.code_follows.specs.Laws.Here.{and_then-gives}
use Rattle.code_runs.specs.Bounded.{Account}
use Rattle.gen_stmt.specs.Statements.{ItemCode, items, item_codes}
use Rattle.stmt_follows.specs.Parts.{Ways, Ends, flow_room, Here, After, Proceeds, StmtPart}
use Rattle.stmt_follows.specs.Laws.Flowing.{Here-comes, Proceeds-flow, Proceeds-as, Proceeds-next, StmtPart-by}
use Rattle.stmt_follows.specs.Laws.Proceeding.{Proceeds-same, Proceeds-done}
use Rattle.stmt_follows.specs.Laws.Standing.{Standing-turn, Standing-none}

-- the code of each of some parts does what it means
pub data AllFlow (k : Scene) : List ItemCode → List (Run Flow) → Type 1 where
  no_part : AllFlow k [] []
  part : {i : ItemCode} {is : List ItemCode} {m : Run Flow} {ms : List (Run Flow)} → StmtPart k i.code m → AllFlow k is ms →
      AllFlow k (i ∷ is) (m ∷ ms)

-- what follows a statement is reached where that goes on, and else it is left as that is
on_to_next : {k : Scene} {w : Ways} {s : State} {middle to : ℕ} {a : Account} {m : Run Flow} {now : MeaningState} {t : State} (x : Flow) →
    After k w s middle a 0 x now t → (Here k s middle a 0 0 now t → Proceeds k.code flow_room (Ends k w s to) a m now t) →
    Proceeds k.code flow_room (Ends k w s to) a (on_next x m) now t
on_to_next Next after more = record { bounded = (more (Here-comes 0 after.ends after.bounds (omega arith))).bounded }
on_to_next Broke after more = Proceeds-done Broke after.bounds (omega arith) after.ends
on_to_next Continued after more = Proceeds-done Continued after.bounds (omega arith) after.ends
on_to_next (Returned v) after more = Proceeds-done (Returned v) after.bounds (omega arith) after.ends

pub items_follow : {k : Scene} {is : List ItemCode} {ms : List (Run Flow)} → IsScene k → AllFlow k is ms →
    StmtPart k (items is) (in_order ms)
items_follow scene no_part = StmtPart-by (λ around Leaving from to stands a now s on.
    Proceeds-next (On-at (Standing-none stands) on))
items_follow scene (part {i} {is} {m} {ms} first rest) =
    let others = items_follow scene rest in
    StmtPart-by (λ around Leaving from to stands a now s on.
    let pieces = Standing-turn (i.code around) (item_codes around is) stands in
    Proceeds-flow (first.part around Leaving from pieces.middle pieces.front) (pays scene) on (λ x then u n after.
    on_to_next x after (λ there.
    Proceeds-same (and_then-gives (in_order ms) then)
    (Proceeds-flow (others.part around Leaving pieces.middle to pieces.back) (pays scene) there (λ y last v m left. Proceeds-as y left)))))
