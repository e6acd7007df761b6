-- The languages of expressions, and facts on their words.
use Rattle.std.specs.Prelude.{ℕ, ◌≤◌, Bool, ◌||◌, List, [], ◌∷◌, ◌==◌}
use Rattle.c_ast.specs.Seen.{Seen as Token}
use Rattle.c_ast.specs.declared.token.Lexeme.TheVariants as lexeme
use Rattle.c_ast.specs.declared.int_type.IntType.TheVariants as integer
use Rattle.c_ast.specs.declared.expr.Expr.{Expr}
use Rattle.c_ast.specs.declared.expr.Node.TheVariants as node
use Rattle.c_ast.specs.declared.punctuator.Punctuator.TheVariants as mark
use Rattle.c_grammar.specs.Words.{word_of, punctuator, a_name, a_number, a_character, a_text}
use Rattle.c_grammar.specs.Expressions.{Expression, Conditional, Primary, Postfix, Unary, Binary, spelled}
use Rattle.c_parse_base.specs.Reading.Good.{Language, Good}
use Rattle.c_parse_base.specs.Reading.Words.{token_of, one_word, among}
use Rattle.c_parse_expr.specs.declared.measured.Measured.{Measured}
use Rattle.c_parse_expr.specs.Reading.Operators.{operator_word, up_to}
use Rattle.c_parse_expr.specs.Reading.Expressions.{Expressions, suffix_words, first_words}

-- at most this many levels stand below the expression
abbrev pub Low : ℕ → Measured → Type 0
Low d v = v.height ≤ d

abbrev pub height_of : Measured → ℕ
height_of v = v.height

abbrev pub measured : Expr → ℕ → Measured
measured e h = record { tree = e; height = h }

abbrev pub PrimaryWord : Language Token Measured
PrimaryWord v w = Primary v.height v.tree w

abbrev pub PostfixWord : Language Token Measured
PostfixWord v w = Postfix v.height v.tree w

abbrev pub UnaryWords : Language Token Measured
UnaryWords v w = Unary v.height v.tree w

abbrev pub BinaryWords : ℕ → Language Token Measured
BinaryWords n v w = Binary n v.height v.tree w

-- whole expressions
abbrev pub ExpressionWord : Language Token Measured
ExpressionWord v w = Expression v.height v.tree w

abbrev pub ConditionalWord : Language Token Measured
ConditionalWord v w = Conditional v.height v.tree w

-- the words with which a primary expression begins
abbrev pub primary_words : List ℕ
primary_words = a_name ∷ a_number ∷ a_character ∷ a_text ∷ punctuator mark.LeftParen ∷ []

-- the tokens with which a primary expression begins
abbrev pub opens : Token → Bool
opens = among primary_words

-- the words with which an expression begins
abbrev pub begin_words : List ℕ
begin_words = first_words

-- the tokens with which an expression begins
abbrev pub begins : Token → Bool
begins = among begin_words

-- the words that go on behind an operand
abbrev pub operand_words : List ℕ
operand_words = a_text ∷ suffix_words

-- the words that go on behind an expression of a tier
abbrev pub goes_on_word : ℕ → ℕ → Bool
goes_on_word n w = one_word operand_words w || up_to n (operator_word w)

abbrev pub goes_on : ℕ → Measured → Token → Bool
goes_on n a t = goes_on_word n (word_of t)

-- the words that go on behind a conditional expression
abbrev pub conditional_word : ℕ → Bool
conditional_word w = goes_on_word 10 w || (w == punctuator mark.Question)

abbrev pub conditional_on : Measured → Token → Bool
conditional_on a t = conditional_word (word_of t)

-- the words of assignment
abbrev pub assign_words : List ℕ
assign_words = punctuator mark.Equal ∷ punctuator mark.PlusEqual ∷ punctuator mark.MinusEqual ∷ punctuator mark.StarEqual ∷ punctuator
    mark.SlashEqual ∷ punctuator mark.PercentEqual ∷
    punctuator mark.ShiftLeftEqual ∷ punctuator mark.ShiftRightEqual ∷ punctuator mark.AmpersandEqual ∷ punctuator
    mark.CaretEqual ∷ punctuator mark.BarEqual ∷ []

-- the words that go on behind an expression
abbrev pub expression_on : Measured → Token → Bool
expression_on a t = conditional_on a t || among assign_words t

-- the parsers of a level read the language
pub record GoodExpressions (d : ℕ) (e : Expressions) : Type 0 where
  pub expression : Good e.expression ExpressionWord (Low d) begins expression_on
  pub conditional : Good e.conditional ConditionalWord (Low d) begins conditional_on
  pub unary : Good e.unary UnaryWords (Low d) begins (λ _ t. among operand_words t)
  pub operand : Good (e.binary 0) (BinaryWords 0) (Low d) begins (λ _ t. among operand_words t)
  pub binary : (n : ℕ) → n ≤ 10 → Good (e.binary n) (BinaryWords n) (Low d) begins (goes_on n)

abbrev pub example_token : Token
example_token = token_of (lexeme.Number 0 integer.Int)

unfoldable pub example : Measured
example = record { tree = spelled (example_token ∷ []) (node.Constant 0 integer.Int); height = 0 }
