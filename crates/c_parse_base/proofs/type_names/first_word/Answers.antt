use Rattle.std.proofs.Common.{sym, ◌∙◌, refl}
use Rattle.c_parse_base.specs.Laws.AnswerLaws.{answers_on, answers_by, answers_stop, answers_next, answers_made}
use Rattle.c_parse_base.specs.Reading.TypeWords.{first_at}
use Rattle.c_parse_base.specs.Laws.TypeCode.{first_none, first_is, ending_read, ending_stop}
use Rattle.c_parse_base.proofs.type_names.first_word.Goals as goal

pub returns-in_default : goal.returns-in_default
returns-in_default c = record { is = first_none c.args.cursor.now (sym c.next_first.ensures ∙ c.in_default.is) }

pub returns-in_err-place : goal.returns-in_err-place
returns-in_err-place c =
    answers_on _ c.from_residual.ensures.1
    (answers_by (first_is c.args.cursor.now) (answers_stop _
    (ending_stop first_at c.args.cursor.now _ c.in-Some.word _ (sym c.in-Some.ensures) c.in_err-place.ensures)))

pub returns : goal.returns
returns c =
    answers_made c.first.ensures
    (answers_by (first_is c.args.cursor.now)
    (answers_next _ (ending_read first_at c.args.cursor.now _ c.in-Some.word c.in_ok-place.place
    (sym c.in-Some.ensures) c.in_ok-place.ensures) (record { is = refl })))
