-- A value in another type (ISO C11 6.3.1.3, 6.3.2.3), in its register. A register has a value modulo 2^64, with the sign or zeros above the
-- bits of its type.
use Rattle.std.specs.Prelude.{ℕ, ◌-◌, nat_le, nat_lt, Bool, true, false, ◌&&◌, ◌||◌, List, [], ◌∷◌, Option, Some, None, if◌then◌else◌}
use Rattle.c_ast.specs.declared.int_type.IntType.{IntType}
use Rattle.c_type_base.specs.declared.ty.Ty.{Ty, out-Ty}
use Rattle.c_type_base.specs.declared.ty.Ty.TheOpen.{Ty-F}
use Rattle.c_type_base.specs.Conversions.{is_signed, bits_of}
use Rattle.c_type_base.specs.Types.{TyLayer, int_of}
use Rattle.a64_code.specs.declared.instr.Instr.{Instr}
use Rattle.a64_code.specs.declared.instr.Instr.TheVariants.{Sbfm, Ubfm}
use Rattle.a64_code.specs.declared.instr.Reg.{Reg}
use Rattle.a64_laws.specs.Constants.{constant_moves}

-- so many low bits, with the sign or zeros above them
abbrev pub extend : Bool → ℕ → Reg → List Instr
extend signed bits r = (if signed then Sbfm true 0 (bits - 1) r r else Ubfm true 0 (bits - 1) r r) ∷ []

-- any number as a value of a type
abbrev pub wrap_into : IntType → Reg → List Instr
wrap_into t r = if nat_le 64 (bits_of t) then [] else extend (is_signed t) (bits_of t) r

-- each value of the second type is the same one in the first
abbrev pub has_all : IntType → IntType → Bool
has_all t s =
    nat_le 64 (bits_of t)
    || (if is_signed s then is_signed t && nat_le (bits_of s) (bits_of t)
    else nat_lt (bits_of s) (bits_of t) || (nat_le (bits_of s) (bits_of t) && (if is_signed t then false else true)))

-- an integer of a type as one of another
abbrev pub between_integers : IntType → IntType → Reg → List Instr
between_integers s t r = if has_all t s then [] else wrap_into t r

-- what is no integer of a type has none of its own
abbrev pub into_integer : Option IntType → IntType → Reg → List Instr
into_integer None t r = wrap_into t r
into_integer (Some s) t r = between_integers s t r

-- the only number that a pointer is made of is the null constant
abbrev pub into_pointer : Option IntType → Reg → List Instr
into_pointer None r = []
into_pointer (Some s) r = constant_moves r 0

abbrev pub into_type : Option IntType → TyLayer → Reg → List Instr
into_type s (Ty-F.Int t) r = into_integer s t r
into_type s (Ty-F.Pointer t) r = into_pointer s r
into_type s _ r = []

-- a value of the first type as one of the second
abbrev pub convert : Ty → Ty → Reg → List Instr
convert s t r = into_type (int_of s) (out-Ty t) r
