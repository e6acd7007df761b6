use Rattle.std.proofs.Common.{◌-◌, refl}
use Rattle.c_parse_base.specs.Laws.AnswerLaws.{answers_on, answers_by, answers_stop, answers_next, answers_made, passed}
use Rattle.c_parse_decl.specs.Reading.Initializers.{initial}
use Rattle.c_parse_decl.specs.Reading.Objects.{plain_of}
use Rattle.c_parse_decl.specs.Laws.Objects.Code.{value_is}
use Rattle.c_parse_decl.proofs.objects.parser.value.Goals as goal

pub returns-in_err-behind-clause-answers : goal.returns-in_err-behind-clause-answers
returns-in_err-behind-clause-answers c =
    answers_on _ c.from_residual.ensures.1
    (answers_by (value_is c.args.depth (plain_of c.args.read) c.args.cursor.now c.requires.next)
    (answers_stop _ (passed (initial (c.args.depth - 2)) c.skip.ensures c.in_err-behind.ensures.answers)))

pub returns-clause-answers : goal.returns-clause-answers
returns-clause-answers c =
    answers_made c.valued.ensures
    (answers_by (value_is c.args.depth (plain_of c.args.read) c.args.cursor.now c.requires.next)
    (answers_next _ (passed (initial (c.args.depth - 2)) c.skip.ensures c.in_ok-behind.ensures.answers) (record { is = refl })))
