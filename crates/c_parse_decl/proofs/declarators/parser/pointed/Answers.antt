use Rattle.std.proofs.Common.{arith, sym}
use Rattle.c_parse_base.specs.Laws.AnswerLaws.{answers_by}
use Rattle.c_parse_decl.specs.Laws.Declarators.Code.{pointed_none, pointed_deep, pointed_some}
use Rattle.c_parse_decl.proofs.declarators.parser.pointed.Goals as goal

pub returns-then-not-sees-clause-answers : goal.returns-then-not-sees-clause-answers
returns-then-not-sees-clause-answers c = record { is = pointed_none c.args.depth c.args.base c.args.cursor.now (sym c.if-not-sees.ensures) }

pub returns-then-base-depth-clause-answers : goal.returns-then-base-depth-clause-answers
returns-then-base-depth-clause-answers c = record {
  is = pointed_deep c.args.depth c.args.base c.args.cursor.now
      (sym c.if-not-sees.ensures) (omega arith);
}

pub returns-clause-answers : goal.returns-clause-answers
returns-clause-answers c = answers_by (pointed_some c.args.depth c.args.base c.args.cursor.now (sym c.if-not-sees.ensures) (omega arith))
    c.stars.ensures.answers
