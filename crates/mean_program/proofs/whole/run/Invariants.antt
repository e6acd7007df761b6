-- What the run kept, and that no count of faults fell.
use Rattle.std.proofs.Common.{◌≡◌, ◌≤◌, Err}
use Rattle.mean_program.specs.Held.{Aim, TurnGives}
use Rattle.mean_program.specs.Laws.Turns.{after}
use Rattle.mean_program.specs.declared.end.MeanFault.TheVariants.{InputFault, OutputFault}
use Rattle.mean_program.specs.declared.turn.Turn.TheVariants.{Ends}
use Rattle.mt_outside.specs.Told.{Rose}
use Rattle.mean_program.proofs.whole.run.Given as goal

abbrev pub invariant-loop : goal.invariant-loop
invariant-loop g l = record {
  gives : (aim : Aim) →
      TurnGives aim l.fn.p (after l.fn.answer) (g.S.Source.told l.fn.source) (g.K.Sink.told l.fn.sink) →
      TurnGives aim l.p l.next (g.S.Source.told l.source) (g.K.Sink.told l.sink);
  input_fault : l.next ≡ Ends (Err InputFault) → Rose (g.S.Source.faults l.fn.source) (g.S.Source.faults l.source);
  output_fault : l.next ≡ Ends (Err OutputFault) → Rose (g.K.Sink.faults l.fn.sink) (g.K.Sink.faults l.sink);
  input : g.S.Source.faults l.fn.source ≤ g.S.Source.faults l.source;
  output : g.K.Sink.faults l.fn.sink ≤ g.K.Sink.faults l.sink;
}
