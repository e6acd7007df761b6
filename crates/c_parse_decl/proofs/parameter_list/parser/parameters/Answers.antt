use Rattle.c_ast.specs.declared.punctuator.Punctuator.TheVariants as mark
use Rattle.c_parse_base.specs.Laws.AnswerLaws.{answers_on, answers_by, answers_stop, answers_behind}
use Rattle.c_parse_base.specs.Reading.Words.{punct}
use Rattle.c_parse_decl.specs.Reading.Parameters.{inside}
use Rattle.c_parse_decl.specs.Laws.Parameters.Code.{parameters_is}
use Rattle.c_parse_decl.proofs.parameter_list.parser.parameters.Goals as goal

pub returns-in_err-expect-clause-answers : goal.returns-in_err-expect-clause-answers
returns-in_err-expect-clause-answers c =
    answers_on _ c.from_residual.ensures.1 (answers_by (parameters_is c.args.depth c.args.cursor.now)
    (answers_stop _ (answers_stop _ c.in_err-expect.ensures)))

pub returns-clause-answers : goal.returns-clause-answers
returns-clause-answers c =
    answers_by (parameters_is c.args.depth c.args.cursor.now)
    (answers_behind (punct mark.LeftParen) (λ _. inside c.args.depth) _ c.in_ok-expect.ensures c.inside.ensures.answers)
