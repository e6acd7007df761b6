use Rattle.std.proofs.Common.{arith, sym, ◌∙◌, ap, refl}
use Rattle.c_parse_base.specs.Laws.AnswerLaws.{answers_on, answers_by, answers_stop, answers_next, passed}
use Rattle.c_parse_decl.specs.Reading.Objects.{one_object, object}
use Rattle.c_parse_decl.specs.Laws.Objects.Code.{rest_objects, ended_is, objects_end, objects_turn, objects_read, object_takes}
use Rattle.c_parse_decl.proofs.objects.parser.ended.Goals as goal

pub loop-alloc-init : goal.loop-alloc-init
loop-alloc-init c = record {
  reads = ended_is c.args.depth c.args.base.now (one_object c.args.first) c.args.cursor.now c.requires
      ∙ ap (λ a. rest_objects c.args.depth c.args.base.now a c.args.cursor.now) (sym c.in_ok-read.ensures);
  low = omega (arith, ap (λ a. a.height) c.in_ok-read.ensures, c.requires);
}

pub returns-in_err-next-clause-answers : goal.returns-in_err-next-clause-answers
returns-in_err-next-clause-answers c =
    answers_on _ c.from_residual-in_err-next.ensures.1
    (answers_by (c.loop-alloc.invariant.reads ∙ objects_turn c.args.depth c.args.base.now c.loop-alloc.read c.loop-alloc.cursor
    (sym c.sees.ensures ∙ c.loop-alloc-test.true))
    (answers_stop _ (answers_stop _ (answers_stop _ (answers_stop _
    (passed (object c.args.depth c.args.base.now) c.skip.ensures c.in_err-next.ensures.answers))))))

pub loop-alloc-smaller : goal.loop-alloc-smaller
loop-alloc-smaller c =
    let read = passed (object c.args.depth c.args.base.now) c.skip.ensures c.in_ok-next.ensures.answers in
    object_takes c.args.depth c.args.base.now c.loop-alloc.read c.in_ok-next.next c.loop-alloc.cursor c.object.new.cursor
    c.loop-alloc.invariant.low (sym c.sees.ensures ∙ c.loop-alloc-test.true) read.is

pub loop-alloc-preserved : goal.loop-alloc-preserved
loop-alloc-preserved c =
    let read = passed (object c.args.depth c.args.base.now) c.skip.ensures c.in_ok-next.ensures.answers in
    record {
      reads = c.loop-alloc.invariant.reads
          ∙ objects_read c.args.depth c.args.base.now c.loop-alloc.read c.in_ok-next.next c.loop-alloc.cursor c.object.new.cursor
          c.loop-alloc.invariant.low (sym c.sees.ensures ∙ c.loop-alloc-test.true) read.is
          ∙ ap (λ a. rest_objects c.args.depth c.args.base.now a c.object.new.cursor) (sym c.in_ok-read-2.ensures);
      low = omega (arith, ap (λ a. a.height) c.in_ok-read-2.ensures, c.in_ok-next.ensures.low, c.loop-alloc.invariant.low);
    }

pub returns-in_err-expect-clause-answers : goal.returns-in_err-expect-clause-answers
returns-in_err-expect-clause-answers c =
    answers_on _ c.from_residual-in_err-expect.ensures.1
    (answers_by (c.loop-alloc.invariant.reads ∙ objects_end c.args.depth c.args.base.now c.loop-alloc.read c.loop-alloc.cursor
    (sym c.sees.ensures ∙ c.loop-alloc-test.false))
    (answers_stop _ c.in_err-expect.ensures))

pub returns-clause-answers : goal.returns-clause-answers
returns-clause-answers c =
    answers_by (c.loop-alloc.invariant.reads ∙ objects_end c.args.depth c.args.base.now c.loop-alloc.read c.loop-alloc.cursor
    (sym c.sees.ensures ∙ c.loop-alloc-test.false))
    (answers_next _ c.in_ok-expect.ensures (record { is = refl }))
