use Rattle.std.proofs.Common.{sym}
use Rattle.c_ast.specs.declared.punctuator.Punctuator.TheVariants as mark
use Rattle.c_parse_expr.specs.Reading.Expressions.{step_word}
use Rattle.c_parse_expr.specs.Laws.WordCode.{word_next, step_missing}
use Rattle.c_parse_expr.proofs.prefix.next_step.Goals as goal

pub returns-then-sees : goal.returns-then-sees
returns-then-sees c = sym (word_next step_word mark.PlusPlus c.args.cursor.now (sym c.if-sees.ensures))

pub returns-then-sees-2 : goal.returns-then-sees-2
returns-then-sees-2 c = sym (word_next step_word mark.MinusMinus c.args.cursor.now (sym c.if-sees-2.ensures))

pub returns : goal.returns
returns c = sym (step_missing c.args.cursor.now (sym c.if-sees.ensures) (sym c.if-sees-2.ensures))
