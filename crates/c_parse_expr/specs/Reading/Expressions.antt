-- The parser of expressions, by the number of levels that may stand below the expression.
use Rattle.std.specs.Prelude.{ℕ, zero, suc, Bool, true, nat_lt, if◌then◌else◌, List, [], ◌∷◌, ◌++◌, Option, Some, None, is_some, ◌==◌}
use Rattle.c_ast.specs.declared.token.Span.{Span}
use Rattle.c_ast.specs.Seen.{Seen as Token}
use Rattle.c_ast.specs.declared.token.Lexeme.{Lexeme}
use Rattle.c_ast.specs.declared.token.Lexeme.TheVariants as lexeme
use Rattle.c_ast.specs.declared.int_type.IntType.TheVariants as integer
use Rattle.c_ast.specs.declared.expr.Node.{Node}
use Rattle.c_ast.specs.declared.expr.Node.TheVariants as node
use Rattle.c_ast.specs.declared.operator.UnaryOperator.{UnaryOperator}
use Rattle.c_ast.specs.declared.operator.UnaryOperator.TheVariants as operator
use Rattle.c_ast.specs.declared.operator.AssignOperator.{AssignOperator}
use Rattle.c_ast.specs.declared.operator.AssignOperator.TheVariants as assign
use Rattle.c_ast.specs.declared.operator.Step.{Step}
use Rattle.c_ast.specs.declared.operator.Step.TheVariants as step
use Rattle.c_ast.specs.Tree.{expr}
use Rattle.c_ast.specs.declared.keyword.Keyword.TheVariants as key
use Rattle.c_ast.specs.declared.punctuator.Punctuator.TheVariants as mark
use Rattle.c_grammar.specs.Words.{word_of, keyword, punctuator, a_name, a_number, a_character, a_text}
use Rattle.c_parse_base.specs.declared.fault.Fault.TheVariants.{Unexpected}
use Rattle.c_parse_base.specs.Reading.Answer.{Stuck, Parser, word, thens, makes, sees, either, chain, optional}
use Rattle.c_parse_base.specs.Reading.Words as read
use Rattle.c_parse_base.specs.Reading.Words.{is, punct, name, place_of, among}
use Rattle.c_parse_base.specs.Reading.TypeNames.{begins_type, type_name}
use Rattle.c_parse_expr.specs.declared.measured.Measured.{Measured}
use Rattle.c_parse_expr.specs.declared.suffix.Arguments.{Arguments}
use Rattle.c_parse_expr.specs.declared.suffix.Suffix.{Suffix}
use Rattle.c_parse_expr.specs.declared.suffix.Suffix.TheVariants as suffix
use Rattle.c_parse_expr.specs.Reading.Nodes.{Quoted, text_of, joined, paren_of, one_argument, more_arguments, no_arguments, applied}
use Rattle.c_parse_expr.specs.Reading.Nodes.{step_of, unary_of, size_of, size_name_of, cast_of, binary_of, choice_of, assign_of}
use Rattle.c_parse_expr.specs.Reading.Nodes.{assignable}
use Rattle.c_parse_expr.specs.Reading.Operators.{pick_binary}

abbrev pub Reader : Type 0
Reader = Parser Token Measured

-- the parsers of expressions of one level
pub record Expressions : Type 0 where
  pub expression : Reader
  pub conditional : Reader
  pub unary : Reader
  pub bare : Reader
  pub grouped : Span → Reader
  pub binary : ℕ → Reader

-- what a token is that is an expression by itself
abbrev pub constant_node : Lexeme → Option Node
constant_node (lexeme.Name n) = Some (node.Variable n)
constant_node (lexeme.Number value ty) = Some (node.Constant value ty)
constant_node (lexeme.Character value) = Some (node.Constant value integer.Int)
constant_node _ = None

abbrev pub measured_at : Span → Option Node → Option Measured
measured_at place None = None
measured_at place (Some n) = Some (record { tree = expr place n; height = 0 })

abbrev pub pick_constant : Token → Option Measured
pick_constant t = measured_at (place_of t) (constant_node t.kind)

unfoldable pub constant : Reader
constant = word pick_constant

-- the bytes of a text
abbrev pub quoted_at : Span → Lexeme → Option Quoted
quoted_at place (lexeme.Text bytes) = Some (bytes, place)
quoted_at place _ = None

abbrev pub pick_text : Token → Option Quoted
pick_text t = quoted_at (place_of t) t.kind

abbrev pub is_text : Token → Bool
is_text t = is_some (pick_text t)

-- the texts behind a first one
unfoldable pub more_texts : Quoted → Parser Token Quoted
more_texts a = makes (joined a) (word pick_text)

-- adjacent texts
unfoldable pub texts : Reader
texts = makes text_of (chain is_text (λ _. true) (word pick_text) more_texts)

-- adjacent texts or a word
unfoldable pub plain : Reader
plain = either is_text true texts constant

-- there are levels left
abbrev pub room : ℕ → Bool
room d = nat_lt 0 d

-- what was read can be part of an expression
abbrev pub has_room : ℕ → Measured → Bool
has_room d a = nat_lt a.height d

-- `++` or `--` behind an operand
abbrev pub pick_step : Token → Option Suffix
pick_step t = if is (punctuator mark.PlusPlus) t then Some (suffix.Step step.PostIncrement (place_of t))
    else (if is (punctuator mark.MinusMinus) t then Some (suffix.Step step.PostDecrement (place_of t)) else None)

-- a member, or a step
unfoldable pub short_suffix : Parser Token Suffix
short_suffix = either (is (punctuator mark.Dot)) true (makes (λ c. suffix.Member c.1) (thens (punct mark.Dot) (λ _. name)))
    (either (is (punctuator mark.Arrow)) true (makes (λ c. suffix.Arrow c.1) (thens (punct mark.Arrow) (λ _. name))) (word pick_step))

-- the words with which it begins
abbrev pub suffix_words : List ℕ
suffix_words = punctuator mark.LeftBracket ∷ punctuator mark.LeftParen ∷ punctuator mark.Dot ∷ punctuator mark.Arrow ∷ punctuator
    mark.PlusPlus ∷ punctuator mark.MinusMinus ∷ []

abbrev pub begins_suffix : Token → Bool
begins_suffix = among suffix_words

-- one of them comes next
unfoldable pub sees_suffix : List Token → Bool
sees_suffix = sees begins_suffix

-- the words that are an expression each, and texts
abbrev pub plain_words : List ℕ
plain_words = a_name ∷ a_number ∷ a_character ∷ a_text ∷ []

-- the words that stand before an operand
abbrev pub step_words : List ℕ
step_words = punctuator mark.PlusPlus ∷ punctuator mark.MinusMinus ∷ []

abbrev pub unary_words : List ℕ
unary_words = punctuator mark.Ampersand ∷ punctuator mark.Star ∷ punctuator mark.Plus ∷ punctuator mark.Minus ∷ punctuator
    mark.Tilde ∷ punctuator mark.Exclamation ∷ []

-- the words with which an operand begins that is no cast, but "("
abbrev pub bare_words : List ℕ
bare_words = step_words ++ (unary_words ++ (keyword key.Sizeof ∷ plain_words))

abbrev pub begins_bare : Token → Bool
begins_bare = among bare_words

-- the words with which an expression begins
abbrev pub first_words : List ℕ
first_words = punctuator mark.LeftParen ∷ bare_words

-- a value and where its token stands
abbrev pub placed : {A : Type 0} → Span → Option A → Option (A × Span)
placed place None = None
placed place (Some a) = Some (a, place)

-- the step before an operand that a word is
abbrev pub step_word : ℕ → Option Step
step_word w = if w == punctuator mark.PlusPlus then Some step.PreIncrement
    else (if w == punctuator mark.MinusMinus then Some step.PreDecrement else None)

-- the operator before an operand that a word is
abbrev pub unary_word : ℕ → Option UnaryOperator
unary_word w = if w == punctuator mark.Ampersand then Some operator.AddressOf else (
    if w == punctuator mark.Star then Some operator.Dereference else (
    if w == punctuator mark.Plus then Some operator.Plus else (
    if w == punctuator mark.Minus then Some operator.Minus else (
    if w == punctuator mark.Tilde then Some operator.Complement else (
    if w == punctuator mark.Exclamation then Some operator.Not else None)))))

-- the operator of assignment that a word is, of which `=` is none
abbrev pub assign_word : ℕ → Option (Option AssignOperator)
assign_word w = if w == punctuator mark.Equal then Some None else (
    if w == punctuator mark.PlusEqual then Some (Some assign.Add) else (
    if w == punctuator mark.MinusEqual then Some (Some assign.Subtract) else (
    if w == punctuator mark.StarEqual then Some (Some assign.Multiply) else (
    if w == punctuator mark.SlashEqual then Some (Some assign.Divide) else (
    if w == punctuator mark.PercentEqual then Some (Some assign.Remainder) else (
    if w == punctuator mark.ShiftLeftEqual then Some (Some assign.ShiftLeft) else (
    if w == punctuator mark.ShiftRightEqual then Some (Some assign.ShiftRight) else (
    if w == punctuator mark.AmpersandEqual then Some (Some assign.BitAnd) else (
    if w == punctuator mark.CaretEqual then Some (Some assign.BitXor) else (
    if w == punctuator mark.BarEqual then Some (Some assign.BitOr) else None))))))))))

-- one token that is a value by its word, and where it stands
abbrev pub pick_placed : {A : Type 0} → (ℕ → Option A) → Token → Option (A × Span)
pick_placed f t = placed (place_of t) (f (word_of t))

-- a token that is a value by its word
abbrev pub has_word : {A : Type 0} → (ℕ → Option A) → Token → Bool
has_word f t = is_some (f (word_of t))

module _ (d : ℕ) (below : Expressions) where
  -- expr ")", behind a "(" at this place
  unfoldable pub opened : Span → Reader
  opened l = makes (paren_of l) (thens below.expression (λ _. punct mark.RightParen))

  -- a further argument
  unfoldable pub further : Arguments → Parser Token Arguments
  further a = makes (λ c. more_arguments a c.1) (thens (punct mark.Comma) (λ _. below.expression))

  -- expr { "," expr }
  unfoldable pub arguments : Parser Token Arguments
  arguments = chain (is (punctuator mark.Comma)) (λ _. true) (makes one_argument below.expression) further

  -- [ arguments ] ")"
  unfoldable pub called : Parser Token Suffix
  called = either (is (punctuator mark.RightParen)) true (makes (suffix.Call no_arguments) (punct mark.RightParen))
      (makes (λ c. suffix.Call c.0 c.1) (thens arguments (λ _. punct mark.RightParen)))

  -- expr "]"
  unfoldable pub indexed : Parser Token Suffix
  indexed = makes (λ c. suffix.Index c.0 c.1) (thens below.expression (λ _. punct mark.RightBracket))

  -- what follows an operand
  unfoldable pub behind : Parser Token Suffix
  behind = either (is (punctuator mark.LeftBracket)) true (makes (λ c. c.1) (thens (punct mark.LeftBracket) (λ _. indexed)))
      (either (is (punctuator mark.LeftParen)) true (makes (λ c. c.1) (thens (punct mark.LeftParen) (λ _. called))) short_suffix)

  unfoldable pub apply : Measured → Reader
  apply a = makes (applied a) behind

  -- texts or a word, and what follows
  unfoldable pub worded : Reader
  worded = chain begins_suffix (has_room d) plain apply

  -- expr ")" and what follows, behind a "(" at this place
  unfoldable pub grouped : Span → Reader
  grouped l = chain begins_suffix (has_room d) (opened l) apply

  -- `++` or `--`, and its operand
  unfoldable pub stepped : Reader
  stepped = makes step_of (thens (word (pick_placed step_word)) (λ _. below.unary))

  -- an operator, and its operand
  unfoldable pub operated : Reader
  operated = makes unary_of (thens (word (pick_placed unary_word)) (λ _. below.binary 0))

  -- tname ")", behind `sizeof (`
  unfoldable pub size_name : Span → Reader
  size_name place = makes (size_name_of place) (thens (type_name d) (λ _. punct mark.RightParen))

  -- what stands behind `sizeof (`: an expression there is two levels below
  unfoldable pub size_opened : Span → Span → Reader
  size_opened place l = either (among first_words) (nat_lt 1 d) (makes (size_of place) (below.grouped l)) (size_name place)

  -- what stands behind `sizeof`: only an operand that begins with "(" may be no level below
  unfoldable pub size_rest : Span → Reader
  size_rest place = either begins_bare (room d) (makes (size_of place) below.bare)
      (makes (λ c. c.1) (thens (punct mark.LeftParen) (size_opened place)))

  unfoldable pub sized : Reader
  sized = makes (λ c. c.1) (thens (read.key key.Sizeof) size_rest)

  -- an operand that is no cast and does not begin with "("
  unfoldable pub bare : Reader
  bare = either (has_word step_word) (room d) stepped (either (has_word unary_word) (room d) operated
      (either (is (keyword key.Sizeof)) true sized worded))

  -- an operand that is no cast
  unfoldable pub unary : Reader
  unary = either (is (punctuator mark.LeftParen)) (room d) (makes (λ c. c.1) (thens (punct mark.LeftParen) grouped)) bare

  -- tname ")" cast, behind a "(" at this place
  unfoldable pub casted : Span → Reader
  casted l = makes (cast_of l) (thens (type_name d) (λ _. thens (punct mark.RightParen) (λ _. below.binary 0)))

  -- what stands behind a "(" at this place
  unfoldable pub cast_or_group : Span → Reader
  cast_or_group l = either begins_type true (casted l) (grouped l)

  -- an operand
  unfoldable pub operand : Reader
  operand = either (is (punctuator mark.LeftParen)) (room d) (makes (λ c. c.1) (thens (punct mark.LeftParen) cast_or_group)) bare

  -- an operator of the tier, and its right operand
  unfoldable pub operation : ℕ → Measured → Reader
  operation n a = makes (binary_of a) (thens (word (pick_binary (suc n))) (λ _. below.binary n))

  unfoldable pub tier : ℕ → Reader
  tier zero = operand
  tier (suc n) = chain (λ t. is_some (pick_binary (suc n) t)) (has_room d) (tier n) (operation n)

  -- `? expr : cond`, behind a condition
  unfoldable pub chosen : Measured → Reader
  chosen c = makes (λ p. choice_of c p.1) (thens (punct mark.Question)
      (λ _. thens below.expression (λ _. thens (punct mark.Colon) (λ _. below.conditional))))

  -- binary, and perhaps a choice
  unfoldable pub conditional : Reader
  conditional = optional (is (punctuator mark.Question)) (λ _. true) (has_room d) (tier 10) chosen

  -- an operator of assignment, and what is assigned
  unfoldable pub assigned : Measured → Reader
  assigned a = makes (assign_of a) (thens (word (λ t. assign_word (word_of t))) (λ _. below.expression))

  unfoldable pub assignment : Reader
  assignment = optional (has_word assign_word) assignable (has_room d) conditional assigned

  abbrev pub layer : Expressions
  layer = record { expression = assignment; conditional = conditional; unary = unary; bare = bare; grouped = grouped; binary = tier }

abbrev pub nothing : Expressions
nothing = record {
  expression = Stuck Unexpected;
  conditional = Stuck Unexpected;
  unary = Stuck Unexpected;
  bare = Stuck Unexpected;
  grouped = λ l. Stuck Unexpected;
  binary = λ n. Stuck Unexpected;
}

-- the parsers of one level less than this many
unfoldable pub under : ℕ → Expressions
under zero = nothing
under (suc d) = layer d (under d)

-- the parsers where this many levels may stand below an expression
abbrev pub at : ℕ → Expressions
at d = layer d (under d)
