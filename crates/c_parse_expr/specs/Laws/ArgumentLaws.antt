-- Lists of arguments, and their words.
use Rattle.std.specs.Prelude.{◌≡◌, ℕ, ◌≤◌, Bool, ◌||◌, List, ◌++◌, None, refl}
use Rattle.std.proofs.Common.{subst}
use Rattle.c_ast.specs.declared.token.Span.{Span}
use Rattle.c_ast.specs.Seen.{Seen as Token}
use Rattle.c_ast.specs.declared.expr.Expr.{Expr}
use Rattle.c_ast.specs.declared.punctuator.Punctuator.TheVariants as mark
use Rattle.c_grammar.specs.Words.{punctuator}
use Rattle.c_grammar.specs.Expressions as spells
use Rattle.c_grammar.specs.Expressions.{ArgumentList}
use Rattle.c_parse_base.specs.Reading.Answer.{word}
use Rattle.c_parse_base.specs.Reading.Good.{Language}
use Rattle.c_parse_base.specs.Reading.Languages.{Then, join, Chain, once, again, Made}
use Rattle.c_parse_base.specs.Reading.Words.{is, place_of, Spot, spot}
use Rattle.c_parse_expr.specs.declared.measured.Measured.{Measured}
use Rattle.c_parse_expr.specs.declared.suffix.Arguments.{Arguments}
use Rattle.c_parse_expr.specs.Reading.Nodes.{one_argument, more_arguments}
use Rattle.c_parse_expr.specs.Reading.Operators.{operator_word}
use Rattle.c_parse_expr.specs.Reading.Levels.{ExpressionWord, expression_on, measured, example}

abbrev pub ArgumentsWord : Language Token Arguments
ArgumentsWord a w = ArgumentList a.height a.trees w

abbrev pub LowArguments : ℕ → Arguments → Type 0
LowArguments d a = a.height ≤ d

abbrev pub comma : Token → Bool
comma = is (punctuator mark.Comma)

abbrev pub One : Language Token Arguments
One = Made one_argument ExpressionWord

abbrev pub Further : Arguments → Language Token Arguments
Further a = Made (λ (c : Span × Measured). more_arguments a c.1) (Then (Spot (punctuator mark.Comma)) (λ _. ExpressionWord))

further_made : (a : Arguments) (c : Span × Measured) (w u : List Token) → ArgumentsWord a w →
    Then (Spot (punctuator mark.Comma)) (λ _. ExpressionWord) c u →
    ArgumentsWord (more_arguments a c.1) (w ++ u)
further_made a c w u l (join {v = v} (spot t e) m) = spells.more_argument t l e m

pub arguments_into : (a : Arguments) (w : List Token) → Chain One Further a w → ArgumentsWord a w
arguments_into a w (once m) = subst (λ a. ArgumentsWord a w) m.is (spells.argument m.word)
arguments_into a w (again {a = b} {w = v} {u = u} c m) = subst (λ a. ArgumentsWord a (v ++ u)) m.is
    (further_made b m.source v u (arguments_into b v c) m.word)

abbrev pub listed : List Expr → ℕ → Arguments
listed es h = record { trees = es; height = h }

pub arguments_out : (h : ℕ) (es : List Expr) (w : List Token) → ArgumentList h es w → Chain One Further (listed es h) w
arguments_out h es w (spells.argument {e = e} m) = once (record { source = measured e h; is = refl; word = m })
arguments_out h es w (spells.more_argument {h = i} {k = j} {es = fs} {e = e} {u = u} {v = v} c l isc m) =
    again (arguments_out i fs u l) (record { source = (place_of c, measured e j); is = refl; word = join (spot c isc) m })

-- a comma goes on behind arguments
abbrev pub argument_on : Arguments → Token → Bool
argument_on a t = expression_on example t || comma t

pub comma_none : operator_word (punctuator mark.Comma) ≡ None
unfolding operator_word
comma_none = refl

pub close_none : operator_word (punctuator mark.RightParen) ≡ None
unfolding operator_word
close_none = refl

pub bracket_none : operator_word (punctuator mark.RightBracket) ≡ None
unfolding operator_word
bracket_none = refl
