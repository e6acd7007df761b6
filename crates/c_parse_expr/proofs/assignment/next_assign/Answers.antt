use Rattle.std.proofs.Common.{sym}
use Rattle.c_ast.specs.declared.punctuator.Punctuator.TheVariants as mark
use Rattle.c_parse_expr.specs.Reading.Expressions.{assign_word}
use Rattle.c_parse_expr.specs.Laws.WordCode.{word_next, assign_missing}
use Rattle.c_parse_expr.proofs.assignment.next_assign.Goals as goal

pub returns-then-sees : goal.returns-then-sees
returns-then-sees c = sym (word_next assign_word mark.Equal c.args.cursor.now (sym c.if-sees.ensures))

pub returns-then-sees-2 : goal.returns-then-sees-2
returns-then-sees-2 c = sym (word_next assign_word mark.PlusEqual c.args.cursor.now (sym c.if-sees-2.ensures))

pub returns-then-sees-3 : goal.returns-then-sees-3
returns-then-sees-3 c = sym (word_next assign_word mark.MinusEqual c.args.cursor.now (sym c.if-sees-3.ensures))

pub returns-then-sees-4 : goal.returns-then-sees-4
returns-then-sees-4 c = sym (word_next assign_word mark.StarEqual c.args.cursor.now (sym c.if-sees-4.ensures))

pub returns-then-sees-5 : goal.returns-then-sees-5
returns-then-sees-5 c = sym (word_next assign_word mark.SlashEqual c.args.cursor.now (sym c.if-sees-5.ensures))

pub returns-then-sees-6 : goal.returns-then-sees-6
returns-then-sees-6 c = sym (word_next assign_word mark.PercentEqual c.args.cursor.now (sym c.if-sees-6.ensures))

pub returns-then-sees-7 : goal.returns-then-sees-7
returns-then-sees-7 c = sym (word_next assign_word mark.ShiftLeftEqual c.args.cursor.now (sym c.if-sees-7.ensures))

pub returns-then-sees-8 : goal.returns-then-sees-8
returns-then-sees-8 c = sym (word_next assign_word mark.ShiftRightEqual c.args.cursor.now (sym c.if-sees-8.ensures))

pub returns-then-sees-9 : goal.returns-then-sees-9
returns-then-sees-9 c = sym (word_next assign_word mark.AmpersandEqual c.args.cursor.now (sym c.if-sees-9.ensures))

pub returns-then-sees-10 : goal.returns-then-sees-10
returns-then-sees-10 c = sym (word_next assign_word mark.CaretEqual c.args.cursor.now (sym c.if-sees-10.ensures))

pub returns-then-sees-11 : goal.returns-then-sees-11
returns-then-sees-11 c = sym (word_next assign_word mark.BarEqual c.args.cursor.now (sym c.if-sees-11.ensures))

pub returns : goal.returns
returns c = sym (assign_missing c.args.cursor.now (sym c.if-sees.ensures) (sym c.if-sees-2.ensures) (sym c.if-sees-3.ensures)
    (sym c.if-sees-4.ensures) (sym c.if-sees-5.ensures) (sym c.if-sees-6.ensures) (sym c.if-sees-7.ensures) (sym c.if-sees-8.ensures)
    (sym c.if-sees-9.ensures) (sym c.if-sees-10.ensures) (sym c.if-sees-11.ensures))
