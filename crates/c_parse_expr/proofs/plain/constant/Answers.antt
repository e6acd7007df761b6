use Rattle.std.proofs.Common.{sym, ◌∙◌, ap}
use Rattle.c_ast.specs.Seen.{seen}
use Rattle.c_parse_base.specs.Reading.Answer.{Read}
use Rattle.c_parse_expr.specs.Laws.WordCode.{constant_other, constant_taken}
use Rattle.c_parse_expr.proofs.plain.constant.Goals as goal

pub returns-in_default-2-clause-answers : goal.returns-in_default-2-clause-answers
returns-in_default-2-clause-answers c =
    record {
      is = constant_other c.args.cursor.now (seen c.in-Some.token.now) c.in-Some.ensures
          (sym c.in_ok-read.ensures ∙ c.in_default-2.is);
    }

pub returns-clause-answers : goal.returns-clause-answers
returns-clause-answers c = record {
  is = constant_taken c.args.cursor.now (seen c.in-Some.token.now) c.in-Some-2.read c.in-Some.ensures
      (sym c.in_ok-read.ensures ∙ c.in-Some-2.is)
      ∙ ap (Read c.in-Some-2.read) (sym c.skip.ensures);
}
