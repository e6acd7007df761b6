-- How many instructions the lists have at most, and that there is one where the meaning spends a unit of work (this project's own).
use Rattle.std.specs.Prelude.{◌≢◌, ◌≤◌, Bool, true, false, nat_le, [], length, Option, Some, None, refl}
use Rattle.std.specs.Prelude.{if◌then◌else◌}
use Rattle.std.proofs.Common.{arith}
use Rattle.c_ast.specs.declared.int_type.IntType.{IntType}
use Rattle.c_ast.specs.declared.operator.BinaryOperator.{BinaryOperator}
use Rattle.c_ast.specs.declared.operator.BinaryOperator.TheVariants as binary
use Rattle.c_ast.specs.declared.operator.UnaryOperator.{UnaryOperator}
use Rattle.c_ast.specs.declared.operator.UnaryOperator.TheVariants as unary
use Rattle.c_type_base.specs.declared.ty.Ty.{Ty, out-Ty}
use Rattle.c_type_base.specs.declared.ty.Ty.TheOpen.{Ty-F}
use Rattle.c_type_base.specs.Conversions.{is_signed, bits_of}
use Rattle.c_type_base.specs.Types.{TyLayer, int_of}
use Rattle.block_meaning.specs.ExpressionsInOrder.{Logical, group_of}
use Rattle.a64_code.specs.declared.instr.Reg.{Reg}
use Rattle.gen_base.specs.Conversions.{extend, wrap_into, has_all, between_integers, into_type, convert}
use Rattle.gen_base.specs.Integers.{is_wide, with_sign, on_integer}
use Rattle.gen_laws.specs.Operations.{integer_instrs}
use Rattle.gen_laws.specs.Laws.Moves.{few_moves}

-- ---- conversions

pub with_sign-few : (t : IntType) (r : Reg) → length (with_sign t r) ≤ 1
with_sign-few t r = by_sign (is_signed t) (is_wide t)
  where
    by_sign : (signed wide : Bool) → length (if signed then (if wide then [] else extend true (bits_of t) r) else []) ≤ 1
    by_sign true true = omega arith
    by_sign true false = omega arith
    by_sign false wide = omega arith

pub wrap_into-few : (t : IntType) (r : Reg) → length (wrap_into t r) ≤ 1
wrap_into-few t r = by_width (nat_le 64 (bits_of t))
  where
    by_width : (wide : Bool) → length (if wide then [] else extend (is_signed t) (bits_of t) r) ≤ 1
    by_width true = omega arith
    by_width false = omega arith

pub between-few : (s t : IntType) (r : Reg) → length (between_integers s t r) ≤ 1
between-few s t r = by_test (has_all t s)
  where
    by_test : (has : Bool) → length (if has then [] else wrap_into t r) ≤ 1
    by_test true = omega arith
    by_test false = wrap_into-few t r

into_type-few : (o : Option IntType) (t : TyLayer) (r : Reg) → length (into_type o t r) ≤ 4
into_type-few None (Ty-F.Int t) r = omega (arith, wrap_into-few t r)
into_type-few (Some s) (Ty-F.Int t) r = omega (arith, between-few s t r)
into_type-few None (Ty-F.Pointer t) r = omega arith
into_type-few (Some s) (Ty-F.Pointer t) r = (few_moves r 0).most
into_type-few o Ty-F.Void r = omega arith
into_type-few o (Ty-F.Array t n) r = omega arith
into_type-few o (Ty-F.Struct n) r = omega arith

pub convert-few : (t u : Ty) (r : Reg) → length (convert t u r) ≤ 4
convert-few t u r = into_type-few (int_of t) (out-Ty u) r

-- ---- operators on integers

pub integer_instrs-few : (o : BinaryOperator) (t : IntType) (r : Reg) → length (integer_instrs o t r) ≤ 3
integer_instrs-few binary.BitAnd t r = omega arith
integer_instrs-few binary.BitOr t r = omega arith
integer_instrs-few binary.BitXor t r = omega arith
integer_instrs-few binary.Multiply t r = omega (arith, with_sign-few t r)
integer_instrs-few binary.Add t r = omega (arith, with_sign-few t r)
integer_instrs-few binary.Subtract t r = omega (arith, with_sign-few t r)
integer_instrs-few binary.Divide t r = omega (arith, with_sign-few t r)
integer_instrs-few binary.Remainder t r = omega (arith, with_sign-few t r)
integer_instrs-few binary.ShiftLeft t r = omega (arith, with_sign-few t r)
integer_instrs-few binary.ShiftRight t r = omega (arith, with_sign-few t r)
integer_instrs-few binary.And t r = omega arith
integer_instrs-few binary.Or t r = omega arith
integer_instrs-few _ t r = omega arith

pub integer_instrs-some : (o : BinaryOperator) (t : IntType) (r : Reg) → group_of o ≢ Logical → 1 ≤ length (integer_instrs o t r)
integer_instrs-some binary.And t r evaluates = absurd (evaluates refl)
integer_instrs-some binary.Or t r evaluates = absurd (evaluates refl)
integer_instrs-some _ t r evaluates = omega arith

pub on_integer-few : (o : UnaryOperator) (t : IntType) (r : Reg) → length (on_integer o t r) ≤ 3
on_integer-few unary.Minus t r = omega (arith, with_sign-few t r)
on_integer-few unary.Complement t r = omega (arith, with_sign-few t r)
on_integer-few unary.Not t r = omega arith
on_integer-few _ t r = omega arith

pub on_integer-some : (o : UnaryOperator) (t : IntType) (r : Reg) → 1 ≤ length (on_integer o t r)
on_integer-some unary.Minus t r = omega arith
on_integer-some unary.Complement t r = omega arith
on_integer-some unary.Not t r = omega arith
on_integer-some _ t r = omega arith
