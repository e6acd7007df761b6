-- Which operator a token is.
use Rattle.std.specs.Prelude.{ℕ, if◌then◌else◌, ◌==◌, List, [], ◌∷◌, Option, Some, None, Bool, false, nat_le}
use Rattle.c_ast.specs.Seen.{Seen as Token}
use Rattle.c_ast.specs.declared.operator.BinaryOperator.{BinaryOperator}
use Rattle.c_ast.specs.declared.operator.BinaryOperator.TheVariants as binary
use Rattle.c_ast.specs.declared.punctuator.Punctuator.{Punctuator}
use Rattle.c_ast.specs.declared.punctuator.Punctuator.TheVariants as mark
use Rattle.c_grammar.specs.Words.{word_of, punctuator}
use Rattle.c_ast.specs.Operators.{binary_punctuator}
use Rattle.c_grammar.specs.Operators.{looseness}

abbrev pub operators : List BinaryOperator
operators =
    binary.Multiply ∷ binary.Divide ∷ binary.Remainder ∷ binary.Add ∷ binary.Subtract ∷ binary.ShiftLeft ∷ binary.ShiftRight ∷
    binary.Less ∷ binary.Greater ∷ binary.LessEqual ∷ binary.GreaterEqual ∷ binary.Equal ∷ binary.NotEqual ∷
    binary.BitAnd ∷ binary.BitXor ∷ binary.BitOr ∷ binary.And ∷ binary.Or ∷ []

-- the operator of a list whose punctuator is this word
abbrev pub among : List BinaryOperator → ℕ → Option BinaryOperator
among [] w = None
among (o ∷ os) w = if punctuator (binary_punctuator o) == w then Some o else among os w

-- the operator that a word is
unfoldable pub operator_word : ℕ → Option BinaryOperator
operator_word w = among operators w

abbrev pub in_tier : ℕ → Option BinaryOperator → Option BinaryOperator
in_tier n None = None
in_tier n (Some o) = if looseness o == n then Some o else None

-- the operator of a tier that a token is
unfoldable pub pick_binary : ℕ → Token → Option BinaryOperator
pick_binary n t = in_tier n (operator_word (word_of t))

-- the operator that a punctuator is
abbrev pub operator_of : Punctuator → Option BinaryOperator
operator_of mark.Star = Some binary.Multiply
operator_of mark.Slash = Some binary.Divide
operator_of mark.Percent = Some binary.Remainder
operator_of mark.Plus = Some binary.Add
operator_of mark.Minus = Some binary.Subtract
operator_of mark.ShiftLeft = Some binary.ShiftLeft
operator_of mark.ShiftRight = Some binary.ShiftRight
operator_of mark.Less = Some binary.Less
operator_of mark.Greater = Some binary.Greater
operator_of mark.LessEqual = Some binary.LessEqual
operator_of mark.GreaterEqual = Some binary.GreaterEqual
operator_of mark.EqualEqual = Some binary.Equal
operator_of mark.ExclamationEqual = Some binary.NotEqual
operator_of mark.Ampersand = Some binary.BitAnd
operator_of mark.Caret = Some binary.BitXor
operator_of mark.Bar = Some binary.BitOr
operator_of mark.AmpersandAmpersand = Some binary.And
operator_of mark.BarBar = Some binary.Or
operator_of _ = None

-- the operators of the tiers up to this one
abbrev pub up_to : ℕ → Option BinaryOperator → Bool
up_to n None = false
up_to n (Some o) = nat_le (looseness o) n
