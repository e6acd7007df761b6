use Rattle.a64_code.specs.Outside.{Outside}
use Rattle.mte_machine.specs.Machine.{state_of}
use Rattle.mte_machine.specs.Objects.{objects}
use Rattle.mte_machine.proofs.Led.{Led}
use Rattle.mte_machine.proofs.machine.Machine.run.Given as goal

abbrev pub invariant-loop-ran : goal.invariant-loop-ran
invariant-loop-ran g l =
    Led l.ran (λ (w : Outside). state_of g.M.TagMemory l.initial.self w) (λ (w : Outside). state_of g.M.TagMemory l.self w)
    (objects g.S.Source g.K.Sink l.initial.source l.initial.sink) (objects g.S.Source g.K.Sink l.source l.sink)
