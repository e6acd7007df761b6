-- Two pointers under an operator that is no subtraction.
use Rattle.std.proofs.Common.{◌≡◌, ◌≢◌, refl, ℕ, Bool}
use Rattle.c_ast.specs.declared.operator.BinaryOperator.{BinaryOperator}
use Rattle.c_ast.specs.declared.operator.BinaryOperator.TheVariants as binary
use Rattle.c_ast.specs.declared.token.Span.{Span}
use Rattle.block_meaning.specs.declared.value.Pointer.{Pointer}
use Rattle.block_meaning.specs.declared.value.Value.{Value}
use Rattle.block_meaning.specs.Compare.{compared}
use Rattle.block_meaning.specs.Operators.{comparison, number_of_truth, on_pointers}
use Rattle.block_meaning.specs.Running.{Context, State, Run, gives, and_then, by_blocks}

abbrev pub compared_now : Context → Span → BinaryOperator → Pointer → Pointer → Run Bool
compared_now here span o p q = by_blocks (λ blocks. comparison here span (compared blocks o p q))

-- what a comparison gives as a value
abbrev pub compares : Context → Span → BinaryOperator → Pointer → Pointer → Run Value
compares here span o p q = and_then (compared_now here span o p q) (λ b. gives (number_of_truth b))

pub not_subtracted : (o : BinaryOperator) → o ≢ binary.Subtract → (here : Context) (span : Span) (size : ℕ) (p q : Pointer)
    (now : State) → on_pointers here span o size p q now ≡ compares here span o p q now
not_subtracted binary.Subtract differs here span size p q now = absurd (differs refl)
not_subtracted _ differs here span size p q now = refl
