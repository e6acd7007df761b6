use Rattle.std.proofs.Common.{◌%◌, ◌∙◌, sym, subst, Ok}
use Rattle.std.proofs.lemmas.Bool.{eqb-true}
use Rattle.std.proofs.lemmas.List.{nil_from_length}
use Rattle.block_meaning.specs.Meaning.{outcome_of}
use Rattle.mean_expressions.specs.declared.frames.Control.TheVariants as control
use Rattle.mean_program.specs.Answers.{MeanGives}
use Rattle.mean_program.specs.Held.{TurnGives}
use Rattle.mean_program.specs.Laws.Goes.{turn-stepped}
use Rattle.mean_program.specs.Laws.Outside.{turn-done}
use Rattle.mean_program.specs.declared.end.MeanEnd.TheVariants as end
use Rattle.mean_program.proofs.turn.value_given.Goals as goal

pub returns-then-is_empty-clause-gives : goal.returns-then-is_empty-clause-gives
returns-then-is_empty-clause-gives c = λ aim input output holds.
    subst (λ n. MeanGives aim.before (outcome_of aim.result) (Ok (end.Done (n % 256))) input output) (sym c.number_in.ensures)
    (turn-done aim c.args.p.now c.args.v input output
    (sym c.as_slice.ensures.value ∙ nil_from_length c.as_slice.result.now (eqb-true _ 0 (sym c.if-is_empty.ensures))) holds)

pub returns-clause-gives : goal.returns-clause-gives
returns-clause-gives c = λ aim input output holds.
    subst (λ t. TurnGives aim c.step.new.p t input output) (sym c.after.ensures.is)
    (turn-stepped aim c.args.p.now c.step.new.p (control.GivesValue c.args.v) c.step.result input output holds c.step.ensures)
