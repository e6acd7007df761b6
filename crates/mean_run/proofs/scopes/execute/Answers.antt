use Rattle.std.proofs.Common.{sym, subst}
use Rattle.mean_machine.specs.Execution.{execute, scope, sequence}
use Rattle.block_meaning.specs.Statements.{declared}
use Rattle.mean_run.specs.Laws.Scopes.{block-opened, for-opened, moves-for}
use Rattle.mean_run.specs.Laws.Moving.{moves-here}
use Rattle.mean_run.specs.Processes.{Moves, world_of}
use Rattle.mean_run.proofs.scopes.execute.Goals as goal

pub returns-in-Block : goal.returns-in-Block
returns-in-Block c = λ here k now process.
    subst (λ s. Moves c.block.new.p now c.block.result (execute here k s now)) (sym (block-opened c.in-Block.is))
    (subst (λ is. Moves c.block.new.p now c.block.result (scope here k (declared is) (λ inner frames. sequence inner frames is) now))
    c.as_slice.ensures (c.block.ensures here k now process))

pub returns-in-For : goal.returns-in-For
returns-in-For c = λ here k now process.
    subst (λ s. Moves c.for_loop.new.p now c.for_loop.result (execute here k s now)) (sym (for-opened c.in-For.is))
    (moves-for here k now c.as_slice-in-For.ensures c.as_ref.ensures.value c.as_ref-in-For.ensures.value c.as_ref-in-For-2.ensures.value
    c.get.ensures (c.for_loop.ensures here k now process))

pub returns-in_default : goal.returns-in_default
returns-in_default c = λ here k now process.
    moves-here process.at (c.execute_plain.ensures (world_of c.args.p.now) here k now process.stack process.shown)
