use Rattle.std.proofs.Common.{sym, subst, ap, ◌∙◌, arith}
use Rattle.mean_program.specs.Held.{TurnGives}
use Rattle.mean_program.specs.declared.turn.Turn.TheVariants.{Ends}
use Rattle.mean_program.proofs.Starting.{rises, turn_part}
use Rattle.mean_program.proofs.whole.run.Goals as goal

pub loop-init : goal.loop-init
loop-init g c = record {
  gives = λ aim start. subst (λ t. TurnGives aim c.args.p.now t (g.S.Source.told c.args.source.now) (g.K.Sink.told c.args.sink.now))
      (sym c.after-next.ensures.is) start;
  input_fault = λ same. absurd (c.after-next.ensures.no_input_fault same);
  output_fault = λ same. absurd (c.after-next.ensures.no_output_fault same);
  input = omega arith;
  output = omega arith;
}

pub loop-preserved : goal.loop-preserved
loop-preserved g c =
    let kept = c.loop.invariant in
    let turn = c.take_turn-next.ensures in
    record {
      gives = λ aim start. turn.gives aim
          (subst (λ t. TurnGives aim c.loop.p t (g.S.Source.told c.loop.source) (g.K.Sink.told c.loop.sink)) c.in-Goes.is
          (kept.gives aim start));
      input_fault = λ same. rises kept.input (turn.input_fault same);
      output_fault = λ same. rises kept.output (turn.output_fault same);
      input = let then_ = turn.input_never_falls in let first = kept.input in omega arith;
      output = let then_ = turn.output_never_falls in let first = kept.output in omega arith;
    }

pub returns-in-Ends-clause-gives : goal.returns-in-Ends-clause-gives
returns-in-Ends-clause-gives g c = λ aim start.
    subst (λ t. TurnGives aim c.loop.p t (g.S.Source.told c.loop.source) (g.K.Sink.told c.loop.sink)) c.in-Ends.is
    (c.loop.invariant.gives aim start)

pub returns-in-Ends-clause-input_fault : goal.returns-in-Ends-clause-input_fault
returns-in-Ends-clause-input_fault g c = λ same. c.loop.invariant.input_fault (c.in-Ends.is ∙ ap Ends same)

pub returns-in-Ends-clause-output_fault : goal.returns-in-Ends-clause-output_fault
returns-in-Ends-clause-output_fault g c = λ same. c.loop.invariant.output_fault (c.in-Ends.is ∙ ap Ends same)

pub returns-clause-gives : goal.returns-clause-gives
returns-clause-gives g c = λ aim start.
    turn_part aim c.loop.p c.loop.next (g.S.Source.told c.loop.source) (g.K.Sink.told c.loop.sink) (c.loop.invariant.gives aim start)
