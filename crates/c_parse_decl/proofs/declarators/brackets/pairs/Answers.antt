use Rattle.std.proofs.Common.{arith, sym, ◌∙◌, ap}
use Rattle.c_parse_base.specs.Reading.Answer.{and_then}
use Rattle.c_parse_base.specs.Laws.AnswerLaws.{answers_on, answers_by, answers_stop}
use Rattle.c_parse_base.specs.Laws.Depths.{is_below, not_below}
use Rattle.c_parse_base.specs.Laws.LoopLaws.{left, loop_end, loop_deep, loop_stops, loop_read, loop_takes}
use Rattle.c_parse_decl.specs.Laws.Declarators.BracketLaws.{pair_good}
use Rattle.c_parse_decl.specs.Laws.Declarators.Code.{further_pair, pairs_is, may_pair}
use Rattle.c_parse_decl.proofs.declarators.brackets.pairs.Goals as goal

pub returns-in_err-read-clause-answers : goal.returns-in_err-read-clause-answers
returns-in_err-read-clause-answers c =
    answers_on _ c.from_residual.ensures.1 (answers_by (pairs_is c.args.depth c.args.before c.args.cursor.now)
    (answers_stop _ c.in_err-read.ensures.answers))

pub loop-alloc-init : goal.loop-alloc-init
loop-alloc-init c = record {
  reads = pairs_is c.args.depth c.args.before c.args.cursor.now
      ∙ ap (λ o. and_then o (left (further_pair c.args.depth))) c.in_ok-read.ensures.answers.is;
  level = c.in_ok-read.ensures.low.0;
  low = c.in_ok-read.ensures.low.1;
}

pub returns-then-read-depth-clause-answers : goal.returns-then-read-depth-clause-answers
returns-then-read-depth-clause-answers c = record {
  is = c.loop-alloc.invariant.reads ∙ loop_deep (further_pair c.args.depth) c.loop-alloc.read c.loop-alloc.cursor
      (sym c.sees.ensures ∙ c.loop-alloc-test.true) (not_below c.loop-alloc.read.level c.args.depth (omega arith));
}

pub returns-in_err-read-2-clause-answers : goal.returns-in_err-read-2-clause-answers
returns-in_err-read-2-clause-answers c =
    answers_on _ c.from_residual-in_err-read-2.ensures.1
    (answers_by c.loop-alloc.invariant.reads (loop_stops (further_pair c.args.depth) c.loop-alloc.read c.loop-alloc.cursor
    (sym c.sees.ensures ∙ c.loop-alloc-test.true) (is_below c.loop-alloc.read.level c.args.depth (omega arith))
    c.in_err-read-2.ensures.answers))

pub loop-alloc-smaller : goal.loop-alloc-smaller
loop-alloc-smaller c = loop_takes (further_pair c.args.depth) c.loop-alloc.read c.loop-alloc.cursor (pair_good c.args.depth)
    (may_pair c.args.depth c.loop-alloc.read c.loop-alloc.invariant.low (omega arith)) c.in_ok-read-2.read
    c.pair-in-loop-alloc.new.cursor c.in_ok-read-2.ensures.answers.is

pub loop-alloc-preserved : goal.loop-alloc-preserved
loop-alloc-preserved c = record {
  reads = c.loop-alloc.invariant.reads
      ∙ loop_read (further_pair c.args.depth) c.loop-alloc.read c.loop-alloc.cursor (pair_good c.args.depth)
      (may_pair c.args.depth c.loop-alloc.read c.loop-alloc.invariant.low (omega arith)) c.in_ok-read-2.read
      c.pair-in-loop-alloc.new.cursor c.in_ok-read-2.ensures.answers.is (sym c.sees.ensures ∙ c.loop-alloc-test.true);
  level = c.in_ok-read-2.ensures.low.0;
  low = c.in_ok-read-2.ensures.low.1;
}

pub returns-clause-answers : goal.returns-clause-answers
returns-clause-answers c = record {
  is = c.loop-alloc.invariant.reads ∙ loop_end (further_pair c.args.depth) c.loop-alloc.read c.loop-alloc.cursor
      (sym c.sees.ensures ∙ c.loop-alloc-test.false);
}
