use Rattle.std.proofs.Common.{sym, ◌∙◌, ap, refl}
use Rattle.c_parse_base.specs.Laws.AnswerLaws.{answers_on, answers_by, answers_stop, answers_next, answers_made, passed}
use Rattle.c_parse.specs.Reading.Values.{stored}
use Rattle.c_parse.specs.Reading.Externals.{head}
use Rattle.c_parse.specs.Laws.Code.{specifiers_stored, specifiers_plain}
use Rattle.c_parse.proofs.parser.specifiers.Goals as goal

pub returns-in_err-head-clause-answers : goal.returns-in_err-head-clause-answers
returns-in_err-head-clause-answers c =
    answers_on _ c.from_residual.ensures.1
    (answers_by (specifiers_plain c.args.depth c.args.cursor.now (sym c.next_storage.ensures ∙ c.in_default.is))
    (answers_stop _ c.in_err-head.ensures.answers))

pub returns-in_default-clause-answers : goal.returns-in_default-clause-answers
returns-in_default-clause-answers c =
    answers_by (specifiers_plain c.args.depth c.args.cursor.now (sym c.next_storage.ensures ∙ c.in_default.is))
    (answers_next _ c.in_ok-head.ensures.answers (record { is = refl }))

pub returns-in_err-head-2-clause-answers : goal.returns-in_err-head-2-clause-answers
returns-in_err-head-2-clause-answers c =
    answers_on _ c.from_residual-in_err-head-2.ensures.1
    (answers_by (specifiers_stored c.args.depth c.args.cursor.now c.in-Some.storage (sym c.in-Some.ensures))
    (answers_stop _ (passed (head c.args.depth) c.skip.ensures c.in_err-head-2.ensures.answers)))

pub returns-clause-answers : goal.returns-clause-answers
returns-clause-answers c =
    answers_made (ap (λ start. stored ((c.in-Some.storage, start), c.in_ok-head-2.head)) c.start-start.ensures)
    (answers_by (specifiers_stored c.args.depth c.args.cursor.now c.in-Some.storage (sym c.in-Some.ensures))
    (answers_next _ (passed (head c.args.depth) c.skip.ensures c.in_ok-head-2.ensures.answers) (record { is = refl })))
