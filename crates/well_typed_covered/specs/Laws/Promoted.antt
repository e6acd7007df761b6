-- The types in which operators compute are promoted (ISO C11 6.3.1.8).
use Rattle.std.specs.Prelude.{◌≡◌, Bool, true, false, ◌||◌, refl}
use Rattle.std.proofs.Common.{ap, ◌∙◌}
use Rattle.c_ast.specs.declared.int_type.IntType.{IntType}
use Rattle.c_ast.specs.declared.int_type.IntType.TheVariants as int
use Rattle.c_ast.specs.declared.operator.AssignOperator.{AssignOperator}
use Rattle.c_ast.specs.declared.operator.AssignOperator.TheVariants as assign
use Rattle.c_type_base.specs.Conversions.{promoted, common, usual}
use Rattle.c_type_base.specs.Laws.Opened.{given_types}
use Rattle.c_type_base.specs.Types.{is_pointer}
use Rattle.c_type_base.specs.declared.ty.Ty.{Ty}
use Rattle.c_type_base.specs.declared.ty.Ty.TheVariants as ty
use Rattle.c_type_expr.specs.Expressions as checked
use Rattle.c_type_expr.specs.Expressions.{right_type}
use Rattle.block_meaning.specs.ExpressionsInOrder.{Group, Arithmetic, Shift, Comparison, Logical}
use Rattle.block_meaning.specs.Operators.{int_in, binary_of, computing_type}
use Rattle.code_follows.specs.Covered.{is_promoted, is_promoted_in, computes_in, operates_by, combines_in}
use Rattle.well_typed_covered.specs.Laws.Known.{int-is}

pub or-second : (a b : Bool) → b ≡ true → (a || b) ≡ true
or-second true b is = refl
or-second false b is = is

pub or-first : (a b : Bool) → a ≡ true → (a || b) ≡ true
or-first true b is = refl
or-first false b is = absurd cc

-- ---- integers

pub promoted-is : (t : IntType) → is_promoted (promoted t) ≡ true
promoted-is int.Char = refl
promoted-is int.SignedChar = refl
promoted-is int.UnsignedChar = refl
promoted-is int.Short = refl
promoted-is int.UShort = refl
promoted-is int.Int = refl
promoted-is int.UInt = refl
promoted-is int.Long = refl
promoted-is int.ULong = refl

int_common : (t : IntType) → is_promoted (common int.Int t) ≡ true
int_common int.Char = refl
int_common int.SignedChar = refl
int_common int.UnsignedChar = refl
int_common int.Short = refl
int_common int.UShort = refl
int_common int.Int = refl
int_common int.UInt = refl
int_common int.Long = refl
int_common int.ULong = refl

uint_common : (t : IntType) → is_promoted (common int.UInt t) ≡ true
uint_common int.Char = refl
uint_common int.SignedChar = refl
uint_common int.UnsignedChar = refl
uint_common int.Short = refl
uint_common int.UShort = refl
uint_common int.Int = refl
uint_common int.UInt = refl
uint_common int.Long = refl
uint_common int.ULong = refl

long_common : (t : IntType) → is_promoted (common int.Long t) ≡ true
long_common int.Char = refl
long_common int.SignedChar = refl
long_common int.UnsignedChar = refl
long_common int.Short = refl
long_common int.UShort = refl
long_common int.Int = refl
long_common int.UInt = refl
long_common int.Long = refl
long_common int.ULong = refl

pub usual-is : (s t : IntType) → is_promoted (usual s t) ≡ true
usual-is int.Char t = int_common (promoted t)
usual-is int.SignedChar t = int_common (promoted t)
usual-is int.UnsignedChar t = int_common (promoted t)
usual-is int.Short t = int_common (promoted t)
usual-is int.UShort t = int_common (promoted t)
usual-is int.Int t = int_common (promoted t)
usual-is int.UInt t = uint_common (promoted t)
usual-is int.Long t = long_common (promoted t)
usual-is int.ULong t = refl

-- ---- types

-- a type of a promoted integer
pub computes-int : (i : IntType) (t : Ty) → is_promoted i ≡ true → t ≡ ty.Int i → computes_in t ≡ true
computes-int i t promoted is = ap computes_in is ∙ ap is_promoted_in (int-is i) ∙ promoted

-- the first operand is of a type in which operators compute
pub operates-first : (g : Group) (s t : Ty) → computes_in s ≡ true → operates_by g s t ≡ true
operates-first Logical s t is = refl
operates-first Arithmetic s t is = or-second (is_pointer t) (computes_in s) is
operates-first Shift s t is = or-second (is_pointer t) (computes_in s) is
operates-first Comparison s t is = or-second (is_pointer t) (computes_in s) is

-- the second is a pointer
pub operates-second : (g : Group) (s t : Ty) → is_pointer t ≡ true → operates_by g s t ≡ true
operates-second Logical s t is = refl
operates-second Arithmetic s t is = or-first (is_pointer t) (computes_in s) is
operates-second Shift s t is = or-first (is_pointer t) (computes_in s) is
operates-second Comparison s t is = or-first (is_pointer t) (computes_in s) is

-- ---- operators with `=`

computing_is : (o : AssignOperator) (i s t : IntType) →
    is_promoted (computing_type (binary_of o) i (right_type (checked.binary_of o) s t)) ≡ true
computing_is assign.Add i s t = usual-is s t
computing_is assign.Subtract i s t = usual-is s t
computing_is assign.Multiply i s t = usual-is s t
computing_is assign.Divide i s t = usual-is s t
computing_is assign.Remainder i s t = usual-is s t
computing_is assign.ShiftLeft i s t = promoted-is i
computing_is assign.ShiftRight i s t = promoted-is i
computing_is assign.BitAnd i s t = usual-is s t
computing_is assign.BitXor i s t = usual-is s t
computing_is assign.BitOr i s t = usual-is s t

int_in_is : (i : IntType) → int_in (ty.Int i) ≡ i
unfolding given_types
int_in_is i = refl

pub combines-integers : (o : AssignOperator) (i j : IntType) (s t : Ty) → t ≡ ty.Int (right_type (checked.binary_of o) i j) →
    combines_in o s t ≡ true
combines-integers o i j s t is =
    let right = right_type (checked.binary_of o) i j in
    or-second (is_pointer s) (is_promoted (computing_type (binary_of o) (int_in s) (int_in t)))
    (ap (λ k. is_promoted (computing_type (binary_of o) (int_in s) k)) (ap int_in is ∙ int_in_is right) ∙ computing_is o (int_in s) i j)
