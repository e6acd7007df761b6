-- Integer constant expressions and address constants (ISO C11 6.6): what an operator on constants gives.
use Rattle.std.specs.Prelude.{ℕ, ◌+◌, ◌*◌, ◌%◌, ◌^◌, Bool, true, false, Option, Some, None, nat_eq, if◌then◌else◌}
use Rattle.c_ast.specs.declared.int_type.IntType.{IntType}
use Rattle.c_ast.specs.declared.operator.BinaryOperator.{BinaryOperator}
use Rattle.c_ast.specs.declared.operator.BinaryOperator.TheVariants as binary
use Rattle.c_type_base.specs.Arithmetic.{negated, binary_value}
use Rattle.c_type_base.specs.declared.known.Constancy.{Constancy}
use Rattle.c_type_base.specs.declared.known.Fixed.{Fixed}
use Rattle.c_type_base.specs.declared.known.Constancy.TheVariants.{Varies, DividesByZero, Is}

-- ---- constants

abbrev pub computed : Option ℕ → Constancy
computed None = DividesByZero
computed (Some n) = Is n

-- both operands are evaluated
abbrev pub constant_of_both : (ℕ → ℕ → Option ℕ) → Constancy → Constancy → Constancy
constant_of_both by Varies b = Varies
constant_of_both by a Varies = Varies
constant_of_both by (Is a) (Is b) = computed (by a b)
constant_of_both by _ _ = DividesByZero

-- the second is evaluated only where the first is, or is not, 0 (6.5.13, 6.5.14)
abbrev pub constant_of_first : Bool → (ℕ → ℕ → Option ℕ) → Constancy → Constancy → Constancy
constant_of_first zero_ends by (Is a) DividesByZero =
    (if nat_eq a 0 then (if zero_ends then Is 0 else DividesByZero) else (if zero_ends then DividesByZero else Is 1))
constant_of_first zero_ends by a b = constant_of_both by a b

abbrev pub constant_of : BinaryOperator → IntType → Constancy → Constancy → Constancy
constant_of binary.And t = constant_of_first true (binary_value binary.And t)
constant_of binary.Or t = constant_of_first false (binary_value binary.Or t)
constant_of o t = constant_of_both (binary_value o t)

abbrev pub constant_of_one : (ℕ → Option ℕ) → Constancy → Constancy
constant_of_one by (Is a) = computed (by a)
constant_of_one by a = a

-- an integer constant expression whose chosen arm alone is evaluated (6.5.15)
abbrev pub chosen : Constancy → Constancy → Constancy → Constancy
chosen Varies a b = Varies
chosen c Varies b = Varies
chosen c a Varies = Varies
chosen DividesByZero a b = DividesByZero
chosen (Is n) a b = (if nat_eq n 0 then b else a)

-- ---- address constants: one with an integer constant more or less, times the size of what it points to (6.6 paragraph 9)

abbrev pub moved_by : ℕ → Fixed → Fixed
moved_by bytes f = record f { offset = (f.offset + bytes) % 2 ^ 64 }

abbrev pub moved : (ℕ → ℕ) → ℕ → Option Fixed → Constancy → Option Fixed
moved sign bytes (Some f) (Is n) = Some (moved_by (sign (n * bytes % 2 ^ 64)) f)
moved sign bytes _ _ = None

-- a number of bytes forward
abbrev pub forward : ℕ → ℕ
forward n = n

-- back, or forward
abbrev pub direction : Bool → ℕ → ℕ
direction true = negated
direction false = forward
