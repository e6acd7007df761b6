use Rattle.std.proofs.Common.{sym}
use Rattle.c_ast.specs.declared.punctuator.Punctuator.TheVariants as mark
use Rattle.c_parse_expr.specs.Reading.Expressions.{unary_word}
use Rattle.c_parse_expr.specs.Laws.WordCode.{word_next, unary_missing}
use Rattle.c_parse_expr.proofs.prefix.next_unary.Goals as goal

pub returns-then-sees : goal.returns-then-sees
returns-then-sees c = sym (word_next unary_word mark.Ampersand c.args.cursor.now (sym c.if-sees.ensures))

pub returns-then-sees-2 : goal.returns-then-sees-2
returns-then-sees-2 c = sym (word_next unary_word mark.Star c.args.cursor.now (sym c.if-sees-2.ensures))

pub returns-then-sees-3 : goal.returns-then-sees-3
returns-then-sees-3 c = sym (word_next unary_word mark.Plus c.args.cursor.now (sym c.if-sees-3.ensures))

pub returns-then-sees-4 : goal.returns-then-sees-4
returns-then-sees-4 c = sym (word_next unary_word mark.Minus c.args.cursor.now (sym c.if-sees-4.ensures))

pub returns-then-sees-5 : goal.returns-then-sees-5
returns-then-sees-5 c = sym (word_next unary_word mark.Tilde c.args.cursor.now (sym c.if-sees-5.ensures))

pub returns-then-sees-6 : goal.returns-then-sees-6
returns-then-sees-6 c = sym (word_next unary_word mark.Exclamation c.args.cursor.now (sym c.if-sees-6.ensures))

pub returns : goal.returns
returns c = sym (unary_missing c.args.cursor.now (sym c.if-sees.ensures) (sym c.if-sees-2.ensures) (sym c.if-sees-3.ensures)
    (sym c.if-sees-4.ensures) (sym c.if-sees-5.ensures) (sym c.if-sees-6.ensures))
