-- What the tables ask of an operand, from what the code found of it; and sizes modulo 2^64 in addresses.
use Rattle.std.proofs.Common.{◌≡◌, refl, sym, ◌∙◌, ap, ℕ, ◌%◌, Option, Some, None}
use Rattle.std.proofs.lemmas.Nat.{mul-mod_second}
use Rattle.c_ast.specs.declared.int_type.IntType.{IntType}
use Rattle.c_type_base.specs.declared.known.Constancy.{Constancy}
use Rattle.c_type_base.specs.declared.known.Constancy.TheVariants.{Varies, DividesByZero, Is}
use Rattle.c_type_base.specs.declared.known.Fixed.{Fixed}
use Rattle.c_type_expr.specs.declared.rows.operand.Operand.{Operand}
use Rattle.c_type_expr.specs.declared.rows.operand.Operand.TheVariants as operand
use Rattle.c_type_base.specs.Constants.{moved, moved_by}
use Rattle.c_type_expr.specs.Operators.{Sort, Integer, Neither}
use Rattle.c_type_expr.specs.Sorted.{sort_seen}

pub integer_is : (o : Operand) (t : IntType) (s : Sort) → sort_seen o ≡ s → o ≡ operand.Integer t → s ≡ Integer t
integer_is o t s seen is = sym seen ∙ ap sort_seen is

pub neither_is : (o : Operand) (s : Sort) → sort_seen o ≡ s → o ≡ operand.Neither → s ≡ Neither
neither_is o s seen is = sym seen ∙ ap sort_seen is

-- the size of an element counts modulo 2^64
pub moved_low : (sign : ℕ → ℕ) (bytes : ℕ) (f : Option Fixed) (c : Constancy) →
    moved sign (bytes % 18446744073709551616) f c ≡ moved sign bytes f c
moved_low sign bytes None c = refl
moved_low sign bytes (Some f) Varies = refl
moved_low sign bytes (Some f) DividesByZero = refl
moved_low sign bytes (Some f) (Is n) = ap (λ m. Some (moved_by (sign m) f)) (mul-mod_second n bytes 18446744073709551616)
