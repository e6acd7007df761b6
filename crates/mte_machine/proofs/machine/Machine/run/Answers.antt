use Rattle.std.proofs.Common.{◌≡◌, refl, arith}
use Rattle.a64_code.specs.Outside.{Outside}
use Rattle.mte_machine.specs.Machine.{state_of}
use Rattle.mte_machine.specs.Objects.{objects}
use Rattle.mte_machine.proofs.Led.{Led-more, run_ended, run_out}
use Rattle.mte_machine.proofs.machine.Machine.run.Goals as goal

pub loop-ran-preserved : goal.loop-ran-preserved
loop-ran-preserved g c =
    Led-more c.loop-ran.ran _ (λ (w : Outside). state_of g.M.TagMemory c.loop-ran.self w) _ _
    (objects g.S.Source g.K.Sink c.loop-ran.source c.loop-ran.sink) _ c.loop-ran.invariant (rw c.in_default.is at c.execute.ensures)

pub returns-in-Ended : goal.returns-in-Ended
returns-in-Ended g c =
    run_ended c.args.n c.loop-ran.ran _ (λ (w : Outside). state_of g.M.TagMemory c.loop-ran.self w) _ _
    (objects g.S.Source g.K.Sink c.loop-ran.source c.loop-ran.sink) _ c.in-Ended.end (λ w. refl) c.loop-ran.invariant
    (rw c.in-Ended.is at c.execute.ensures)
    c.loop-ran-test.true

pub returns : goal.returns
returns g c =
    let all : c.loop-ran.ran ≡ c.args.n = omega arith in
    rw (← all) (run_out c.loop-ran.ran _ _ _ _ (λ w. refl) c.loop-ran.invariant)
