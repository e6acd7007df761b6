use Rattle.std.proofs.Common.{arith, sym, ◌∙◌, ap, refl}
use Rattle.c_parse_base.specs.Reading.Answer.{and_then}
use Rattle.c_parse_base.specs.Laws.AnswerLaws.{answers_on, answers_by, answers_stop}
use Rattle.c_parse_base.specs.Laws.LoopLaws.{left, loop_end, loop_stops, loop_read, loop_takes}
use Rattle.c_parse.specs.declared.externals.Externals.{Externals}
use Rattle.c_parse.specs.Reading.Values.{more_externals}
use Rattle.c_parse.specs.Laws.UnitLaws.{next_good}
use Rattle.c_parse.specs.Laws.Code.{further_external, unit_is, next_is, next_read, may_follow}
use Rattle.c_parse.proofs.parser.unit.Goals as goal

pub returns-in_err-read-clause-answers : goal.returns-in_err-read-clause-answers
returns-in_err-read-clause-answers c = answers_on _ c.from_residual.ensures.1
    (answers_by (unit_is c.args.depth c.args.cursor.now) (answers_stop _ c.in_err-read.ensures.answers))

pub loop-alloc-init : goal.loop-alloc-init
loop-alloc-init c = record {
  reads = unit_is c.args.depth c.args.cursor.now
      ∙ ap (λ o. and_then o (left (further_external c.args.depth))) c.in_ok-read.ensures.answers.is;
  low = c.in_ok-read.ensures.low;
}

pub returns-in_err-next-clause-answers : goal.returns-in_err-next-clause-answers
returns-in_err-next-clause-answers c =
    answers_on _ c.from_residual-in_err-next.ensures.1
    (answers_by c.loop-alloc.invariant.reads (loop_stops (further_external c.args.depth) c.loop-alloc.read c.loop-alloc.cursor
    (sym c.begins_external.ensures ∙ c.loop-alloc-test.true) refl
    (answers_by (next_is c.args.depth c.loop-alloc.read c.loop-alloc.cursor) (answers_stop _ c.in_err-next.ensures.answers))))

pub loop-alloc-smaller : goal.loop-alloc-smaller
loop-alloc-smaller c = loop_takes (further_external c.args.depth) c.loop-alloc.read c.loop-alloc.cursor (next_good c.args.depth)
    (may_follow c.args.depth c.loop-alloc.read c.loop-alloc.invariant.low) (more_externals c.loop-alloc.read c.in_ok-next.next)
    c.external-in-loop-alloc.new.cursor (next_read c.args.depth c.loop-alloc.read c.in_ok-next.next c.loop-alloc.cursor
    c.external-in-loop-alloc.new.cursor c.in_ok-next.ensures.answers.is)

pub loop-alloc-preserved : goal.loop-alloc-preserved
loop-alloc-preserved c = record {
  reads = c.loop-alloc.invariant.reads
      ∙ loop_read (further_external c.args.depth) c.loop-alloc.read c.loop-alloc.cursor (next_good c.args.depth)
      (may_follow c.args.depth c.loop-alloc.read c.loop-alloc.invariant.low) (more_externals c.loop-alloc.read c.in_ok-next.next)
      c.external-in-loop-alloc.new.cursor (next_read c.args.depth c.loop-alloc.read c.in_ok-next.next c.loop-alloc.cursor
      c.external-in-loop-alloc.new.cursor c.in_ok-next.ensures.answers.is) (sym c.begins_external.ensures ∙ c.loop-alloc-test.true)
      ∙ ap (λ a. left (further_external c.args.depth) a c.external-in-loop-alloc.new.cursor) (sym c.in_ok-read-2.ensures);
  low = omega (arith, ap (λ (a : Externals). a.height) c.in_ok-read-2.ensures, c.in_ok-next.ensures.low, c.loop-alloc.invariant.low);
}

pub returns-clause-answers : goal.returns-clause-answers
returns-clause-answers c = record {
  is = c.loop-alloc.invariant.reads ∙ loop_end (further_external c.args.depth) c.loop-alloc.read c.loop-alloc.cursor
      (sym c.begins_external.ensures ∙ c.loop-alloc-test.false);
}
