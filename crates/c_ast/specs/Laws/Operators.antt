-- An operator follows from its number.
use Rattle.std.proofs.Common.{◌≡◌, refl, ℕ, ◌==◌, List, [], ◌∷◌, Option, Some, sym, ap, ◌∙◌}
use Rattle.std.specs.List.{find}
use Rattle.std.specs.Option.{unwrap_or}
use Rattle.c_ast.specs.declared.operator.UnaryOperator.{UnaryOperator}
use Rattle.c_ast.specs.declared.operator.UnaryOperator.TheVariants as unary
use Rattle.c_ast.specs.declared.operator.BinaryOperator.{BinaryOperator}
use Rattle.c_ast.specs.declared.operator.BinaryOperator.TheVariants as binary
use Rattle.c_ast.specs.declared.operator.AssignOperator.{AssignOperator}
use Rattle.c_ast.specs.declared.operator.AssignOperator.TheVariants as assign
use Rattle.c_ast.specs.Operators.{unary_number, binary_number, assign_number}

abbrev pub unary_operators : List UnaryOperator
unary_operators =
    unary.AddressOf ∷ unary.Dereference ∷ unary.Plus ∷ unary.Minus ∷ unary.Complement ∷ unary.Not ∷ []

-- the operator with a number
abbrev pub unary_of : ℕ → Option UnaryOperator
unary_of n = find (λ o. unary_number o == n) unary_operators

pub unary_of-number : (o : UnaryOperator) → unary_of (unary_number o) ≡ Some o
unary_of-number unary.AddressOf = refl
unary_of-number unary.Dereference = refl
unary_of-number unary.Plus = refl
unary_of-number unary.Minus = refl
unary_of-number unary.Complement = refl
unary_of-number unary.Not = refl

pub unary_number-injective : (o p : UnaryOperator) → unary_number o ≡ unary_number p → o ≡ p
unary_number-injective o p same = ap (λ found. unwrap_or found o) (sym (unary_of-number o) ∙ ap unary_of same ∙ unary_of-number p)

abbrev pub binary_operators : List BinaryOperator
binary_operators =
    binary.BitAnd ∷ binary.Multiply ∷ binary.Add ∷ binary.Subtract ∷ binary.Divide ∷ binary.Remainder ∷ binary.ShiftLeft ∷
    binary.ShiftRight ∷ binary.Less ∷ binary.Greater ∷ binary.LessEqual ∷ binary.GreaterEqual ∷ binary.Equal ∷
    binary.NotEqual ∷ binary.BitXor ∷ binary.BitOr ∷ binary.And ∷ binary.Or ∷ []

-- the operator with a number
abbrev pub binary_of : ℕ → Option BinaryOperator
binary_of n = find (λ o. binary_number o == n) binary_operators

pub binary_of-number : (o : BinaryOperator) → binary_of (binary_number o) ≡ Some o
binary_of-number binary.BitAnd = refl
binary_of-number binary.Multiply = refl
binary_of-number binary.Add = refl
binary_of-number binary.Subtract = refl
binary_of-number binary.Divide = refl
binary_of-number binary.Remainder = refl
binary_of-number binary.ShiftLeft = refl
binary_of-number binary.ShiftRight = refl
binary_of-number binary.Less = refl
binary_of-number binary.Greater = refl
binary_of-number binary.LessEqual = refl
binary_of-number binary.GreaterEqual = refl
binary_of-number binary.Equal = refl
binary_of-number binary.NotEqual = refl
binary_of-number binary.BitXor = refl
binary_of-number binary.BitOr = refl
binary_of-number binary.And = refl
binary_of-number binary.Or = refl

pub binary_number-injective : (o p : BinaryOperator) → binary_number o ≡ binary_number p → o ≡ p
binary_number-injective o p same = ap (λ found. unwrap_or found o) (sym (binary_of-number o) ∙ ap binary_of same ∙ binary_of-number p)

abbrev pub assign_operators : List AssignOperator
assign_operators =
    assign.Add ∷ assign.Subtract ∷ assign.Multiply ∷ assign.Divide ∷ assign.Remainder ∷ assign.ShiftLeft ∷
    assign.ShiftRight ∷ assign.BitAnd ∷ assign.BitXor ∷ assign.BitOr ∷ []

-- the operator with a number
abbrev pub assign_of : ℕ → Option AssignOperator
assign_of n = find (λ o. assign_number o == n) assign_operators

pub assign_of-number : (o : AssignOperator) → assign_of (assign_number o) ≡ Some o
assign_of-number assign.Add = refl
assign_of-number assign.Subtract = refl
assign_of-number assign.Multiply = refl
assign_of-number assign.Divide = refl
assign_of-number assign.Remainder = refl
assign_of-number assign.ShiftLeft = refl
assign_of-number assign.ShiftRight = refl
assign_of-number assign.BitAnd = refl
assign_of-number assign.BitXor = refl
assign_of-number assign.BitOr = refl

pub assign_number-injective : (o p : AssignOperator) → assign_number o ≡ assign_number p → o ≡ p
assign_number-injective o p same = ap (λ found. unwrap_or found o) (sym (assign_of-number o) ∙ ap assign_of same ∙ assign_of-number p)
