use Rattle.std.proofs.Common.{sym, ◌∙◌, ap}
use Rattle.c_parse_base.specs.Reading.Answer.{Read}
use Rattle.c_parse_base.specs.Laws.AnswerLaws.{answers_by}
use Rattle.c_parse.specs.declared.behind.Behind.TheVariants as behind
use Rattle.c_parse.specs.Laws.Code.{tail_lone, tail_named}
use Rattle.c_parse.proofs.parser.tail.Goals as goal

pub returns-then-sees_lone-clause-answers : goal.returns-then-sees_lone-clause-answers
returns-then-sees_lone-clause-answers c = record {
  is = tail_lone c.args.depth c.args.specifiers.now c.args.cursor.now (sym c.if-sees_lone.ensures)
      ∙ ap (Read behind.Lone) (sym c.skip.ensures);
}

pub returns-clause-answers : goal.returns-clause-answers
returns-clause-answers c = answers_by (tail_named c.args.depth c.args.specifiers.now c.args.cursor.now (sym c.if-sees_lone.ensures))
    c.named.ensures.answers
