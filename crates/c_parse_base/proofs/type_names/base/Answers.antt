use Rattle.std.proofs.Common.{sym}
use Rattle.c_parse_base.specs.Laws.AnswerLaws.{answers_by}
use Rattle.c_parse_base.specs.Laws.TypeCode.{base_struct, base_void, base_integer}
use Rattle.c_parse_base.proofs.type_names.base.Goals as goal

pub returns-then-sees_keyword-clause-answers : goal.returns-then-sees_keyword-clause-answers
returns-then-sees_keyword-clause-answers c = answers_by (base_struct c.args.cursor.now (sym c.if-sees_keyword.ensures))
    c.struct_type.ensures.answers

pub returns-then-sees_keyword-2-clause-answers : goal.returns-then-sees_keyword-2-clause-answers
returns-then-sees_keyword-2-clause-answers c =
    answers_by (base_void c.args.cursor.now (sym c.if-sees_keyword.ensures) (sym c.if-sees_keyword-2.ensures)) c.void_type.ensures.answers

pub returns-clause-answers : goal.returns-clause-answers
returns-clause-answers c =
    answers_by (base_integer c.args.cursor.now (sym c.if-sees_keyword.ensures) (sym c.if-sees_keyword-2.ensures)) c.integer.ensures.answers
