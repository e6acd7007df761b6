use Rattle.std.proofs.Common.{sym, ◌∙◌}
use Rattle.std.specs.Prelude.{refl}
use Rattle.c_ast.specs.declared.punctuator.Punctuator.TheVariants as mark
use Rattle.c_parse_expr.specs.Laws.WordCode.{suffix_seen, suffix_last}
use Rattle.c_parse_expr.proofs.suffix.sees_suffix.Goals as goal

pub returns-then-sees : goal.returns-then-sees
returns-then-sees c = sym (suffix_seen mark.LeftBracket refl c.args.cursor.now (sym c.if-sees.ensures))

pub returns-then-sees-2 : goal.returns-then-sees-2
returns-then-sees-2 c = sym (suffix_seen mark.LeftParen refl c.args.cursor.now (sym c.if-sees-2.ensures))

pub returns-then-sees-3 : goal.returns-then-sees-3
returns-then-sees-3 c = sym (suffix_seen mark.Dot refl c.args.cursor.now (sym c.if-sees-3.ensures))

pub returns-then-sees-4 : goal.returns-then-sees-4
returns-then-sees-4 c = sym (suffix_seen mark.Arrow refl c.args.cursor.now (sym c.if-sees-4.ensures))

pub returns-then-sees-5 : goal.returns-then-sees-5
returns-then-sees-5 c = sym (suffix_seen mark.PlusPlus refl c.args.cursor.now (sym c.if-sees-5.ensures))

pub returns : goal.returns
returns c = c.sees-6.ensures ∙ sym (suffix_last c.args.cursor.now (sym c.if-sees.ensures) (sym c.if-sees-2.ensures)
    (sym c.if-sees-3.ensures) (sym c.if-sees-4.ensures) (sym c.if-sees-5.ensures))
