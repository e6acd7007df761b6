use Rattle.std.proofs.Common.{sym, ◌∙◌, ap, refl}
use Rattle.c_parse_base.specs.Reading.Answer.{and_then}
use Rattle.c_parse_base.specs.Laws.AnswerLaws.{answers_on, answers_by, answers_stop}
use Rattle.c_parse_base.specs.Laws.LoopLaws.{left, loop_end, loop_stops, loop_read, loop_takes}
use Rattle.c_parse_decl.specs.Reading.Members.{member}
use Rattle.c_parse_decl.specs.Laws.Members.Code.{further_member, members_is, behind_good}
use Rattle.c_parse_decl.proofs.members.parser.members.Goals as goal

pub returns-in_err-read-clause-answers : goal.returns-in_err-read-clause-answers
returns-in_err-read-clause-answers c =
    answers_on _ c.from_residual.ensures.1
    (answers_by (members_is c.args.depth c.args.cursor.now ∙ ap
    (λ a. and_then (member c.args.depth a c.args.cursor.now) (left (further_member c.args.depth))) (sym c.none.ensures))
    (answers_stop _ c.in_err-read.ensures.answers))

pub loop-alloc-init : goal.loop-alloc-init
loop-alloc-init c = record {
  reads = members_is c.args.depth c.args.cursor.now ∙ ap (λ o. and_then o (left (further_member c.args.depth)))
      (ap (λ a. member c.args.depth a c.args.cursor.now) (sym c.none.ensures) ∙ c.in_ok-read.ensures.answers.is);
  low = c.in_ok-read.ensures.low;
}

pub returns-in_err-read-2-clause-answers : goal.returns-in_err-read-2-clause-answers
returns-in_err-read-2-clause-answers c =
    answers_on _ c.from_residual-in_err-read-2.ensures.1
    (answers_by c.loop-alloc.invariant.reads (loop_stops (further_member c.args.depth) c.loop-alloc.read c.loop-alloc.cursor
    (sym c.begins_type.ensures ∙ c.loop-alloc-test.true) refl c.in_err-read-2.ensures.answers))

pub loop-alloc-smaller : goal.loop-alloc-smaller
loop-alloc-smaller c = loop_takes (further_member c.args.depth) c.loop-alloc.read c.loop-alloc.cursor (behind_good c.args.depth)
    (record { fits = c.loop-alloc.invariant.low; has_room = refl }) c.in_ok-read-2.read c.member-in-loop-alloc.new.cursor
    c.in_ok-read-2.ensures.answers.is

pub loop-alloc-preserved : goal.loop-alloc-preserved
loop-alloc-preserved c = record {
  reads = c.loop-alloc.invariant.reads
      ∙ loop_read (further_member c.args.depth) c.loop-alloc.read c.loop-alloc.cursor (behind_good c.args.depth)
      (record { fits = c.loop-alloc.invariant.low; has_room = refl }) c.in_ok-read-2.read c.member-in-loop-alloc.new.cursor
      c.in_ok-read-2.ensures.answers.is (sym c.begins_type.ensures ∙ c.loop-alloc-test.true);
  low = c.in_ok-read-2.ensures.low;
}

pub returns-clause-answers : goal.returns-clause-answers
returns-clause-answers c = record {
  is = c.loop-alloc.invariant.reads ∙ loop_end (further_member c.args.depth) c.loop-alloc.read c.loop-alloc.cursor
      (sym c.begins_type.ensures ∙ c.loop-alloc-test.false);
}
