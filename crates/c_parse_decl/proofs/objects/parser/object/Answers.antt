use Rattle.std.proofs.Common.{arith, sym, refl}
use Rattle.c_parse_base.specs.Laws.AnswerLaws.{answers_on, answers_by, answers_stop, answers_next, answers_made}
use Rattle.c_parse_decl.specs.Reading.Objects.{plain_of}
use Rattle.c_parse_decl.specs.Laws.Objects.Code.{object_is, no_value, value_deep, value_read}
use Rattle.c_parse_decl.proofs.objects.parser.object.Goals as goal

pub returns-in_err-read-clause-answers : goal.returns-in_err-read-clause-answers
returns-in_err-read-clause-answers c =
    answers_on _ c.from_residual.ensures.1 (answers_by (object_is c.args.depth c.args.base.now c.args.cursor.now)
    (answers_stop _ (answers_stop _ c.in_err-read.ensures.answers)))

pub returns-then-not-sees-clause-answers : goal.returns-then-not-sees-clause-answers
returns-then-not-sees-clause-answers c =
    answers_made c.plain.ensures
    (answers_by (object_is c.args.depth c.args.base.now c.args.cursor.now)
    (answers_next _ (answers_next _ c.in_ok-read.ensures.answers (record { is = refl }))
    (record { is = no_value c.args.depth (plain_of c.in_ok-read.read) c.declarator.new.cursor (sym c.if-not-sees.ensures) })))

pub returns-then-depth-lt2-clause-answers : goal.returns-then-depth-lt2-clause-answers
returns-then-depth-lt2-clause-answers c =
    answers_by (object_is c.args.depth c.args.base.now c.args.cursor.now)
    (answers_next _ (answers_next _ c.in_ok-read.ensures.answers (record { is = refl }))
    (record {
      is = value_deep c.args.depth (plain_of c.in_ok-read.read) c.declarator.new.cursor (sym c.if-not-sees.ensures)
          (omega arith);
    }))

pub returns-clause-answers : goal.returns-clause-answers
returns-clause-answers c =
    answers_by (object_is c.args.depth c.args.base.now c.args.cursor.now)
    (answers_next _ (answers_next _ c.in_ok-read.ensures.answers (record { is = refl }))
    (answers_by (value_read c.args.depth (plain_of c.in_ok-read.read) c.declarator.new.cursor (sym c.if-not-sees.ensures) (omega arith))
    c.value.ensures.answers))
