use Rattle.std.proofs.Common.{arith, sym, ◌∙◌, ap, refl}
use Rattle.c_parse_base.specs.Reading.Answer.{Read, and_then}
use Rattle.c_parse_base.specs.Laws.AnswerLaws.{answers_on, answers_by, answers_stop, passed}
use Rattle.c_parse_base.specs.Laws.LoopLaws.{left, loop_end, loop_stops, loop_read, loop_takes}
use Rattle.c_parse_decl.specs.Reading.Declarators.{declarator}
use Rattle.c_parse_decl.specs.Reading.Members.{extended}
use Rattle.c_parse_decl.specs.declared.members.member_list.MemberList.{MemberList}
use Rattle.c_parse_decl.specs.Laws.Members.Code.{further_declarator, declarators_is, declarator_good, further_is, further_read}
use Rattle.c_parse_decl.proofs.members.parser.declarators.Goals as goal

pub returns-in_err-first-clause-answers : goal.returns-in_err-first-clause-answers
returns-in_err-first-clause-answers c =
    answers_on _ c.from_residual.ensures.1
    (answers_by (declarators_is c.args.depth c.args.of.now c.args.before c.args.cursor.now)
    (answers_stop _ (answers_stop _ c.in_err-first.ensures.answers)))

pub loop-alloc-init : goal.loop-alloc-init
loop-alloc-init c = record {
  reads = declarators_is c.args.depth c.args.of.now c.args.before c.args.cursor.now
      ∙ ap (λ o. and_then (and_then o (λ v us. Read (extended c.args.before v) us)) (left (further_declarator c.args.depth c.args.of.now)))
      c.in_ok-first.ensures.answers.is
      ∙ ap (λ a. left (further_declarator c.args.depth c.args.of.now) a c.declarator.new.cursor) (sym c.in_ok-read.ensures);
  low = omega (arith, ap (λ (a : MemberList). a.height) c.in_ok-read.ensures, c.in_ok-first.ensures.low, c.requires);
}

pub returns-in_err-next-clause-answers : goal.returns-in_err-next-clause-answers
returns-in_err-next-clause-answers c =
    let seen = sym c.sees.ensures ∙ c.loop-alloc-test.true in
    answers_on _ c.from_residual-in_err-next.ensures.1
    (answers_by c.loop-alloc.invariant.reads (loop_stops (further_declarator c.args.depth c.args.of.now) c.loop-alloc.read
    c.loop-alloc.cursor
    seen refl (answers_by (further_is c.args.depth c.args.of.now c.loop-alloc.read c.loop-alloc.cursor seen)
    (answers_stop _ (passed (declarator c.args.depth c.args.of.now) c.skip.ensures c.in_err-next.ensures.answers)))))

pub loop-alloc-smaller : goal.loop-alloc-smaller
loop-alloc-smaller c =
    let seen = sym c.sees.ensures ∙ c.loop-alloc-test.true in
    let read = passed (declarator c.args.depth c.args.of.now) c.skip.ensures c.in_ok-next.ensures.answers in
    loop_takes (further_declarator c.args.depth c.args.of.now) c.loop-alloc.read c.loop-alloc.cursor
    (declarator_good c.args.depth c.args.of.now) (record { fits = c.loop-alloc.invariant.low; has_room = refl })
    (extended c.loop-alloc.read c.in_ok-next.next) c.declarator-in-loop-alloc.new.cursor
    (further_read c.args.depth c.args.of.now c.loop-alloc.read c.in_ok-next.next c.loop-alloc.cursor
    c.declarator-in-loop-alloc.new.cursor seen read.is)

pub loop-alloc-preserved : goal.loop-alloc-preserved
loop-alloc-preserved c =
    let seen = sym c.sees.ensures ∙ c.loop-alloc-test.true in
    let read = passed (declarator c.args.depth c.args.of.now) c.skip.ensures c.in_ok-next.ensures.answers in
    record {
      reads = c.loop-alloc.invariant.reads
          ∙ loop_read (further_declarator c.args.depth c.args.of.now) c.loop-alloc.read c.loop-alloc.cursor
          (declarator_good c.args.depth c.args.of.now) (record { fits = c.loop-alloc.invariant.low; has_room = refl })
          (extended c.loop-alloc.read c.in_ok-next.next) c.declarator-in-loop-alloc.new.cursor
          (further_read c.args.depth c.args.of.now c.loop-alloc.read c.in_ok-next.next c.loop-alloc.cursor
          c.declarator-in-loop-alloc.new.cursor seen read.is) seen
          ∙ ap (λ a. left (further_declarator c.args.depth c.args.of.now) a c.declarator-in-loop-alloc.new.cursor)
          (sym c.in_ok-read-2.ensures);
      low = omega (arith, ap (λ (a : MemberList). a.height) c.in_ok-read-2.ensures, c.in_ok-next.ensures.low, c.loop-alloc.invariant.low);
    }

pub returns-clause-answers : goal.returns-clause-answers
returns-clause-answers c = record {
  is = c.loop-alloc.invariant.reads ∙ loop_end (further_declarator c.args.depth c.args.of.now) c.loop-alloc.read c.loop-alloc.cursor
      (sym c.sees.ensures ∙ c.loop-alloc-test.false);
}
