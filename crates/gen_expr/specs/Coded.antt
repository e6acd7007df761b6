-- What is known of an expression for the code of what stands round it (this project's own). Its code comes into a register, and may use the
-- temps from a number on.
use Rattle.std.specs.Prelude.{ℕ, Bool, [], ◌∷◌, Option, Some, None, if◌then◌else◌}
use Rattle.c_type_base.specs.declared.ty.Ty.{Ty}
use Rattle.c_type_base.specs.Types.{is_struct}
use Rattle.a64_code.specs.declared.instr.Instr.TheVariants.{Nop}
use Rattle.a64_code.specs.declared.instr.Reg.{Reg}
use Rattle.gen_base.specs.Code.{Code, nothing, plain, in_turn}
use Rattle.gen_base.specs.Accesses.{OnStack, Behind, load_scalar}

abbrev pub Emits : Type 0
Emits = ℕ → Reg → Code

pub record Coded : Type 0 where
  pub ty : Ty
  -- the start of the safe slot that it designates, where loads and stores reach it from SP
  pub slot : Option ℕ
  -- its code changes the flags and no register but its own
  pub alone : Bool
  pub value : Emits
  -- the place of what it designates
  pub place : Emits
  -- the same, where the unit of work of a dereference is left to the next instruction
  pub pointer : Emits

abbrev pub no_code : Emits
no_code t r = nothing

-- instructions on the register alone
abbrev pub instead : Code → Emits
instead c t r = c

-- an expression that designates no object
abbrev pub computed : Bool → Emits → Ty → Coded
computed alone value ty = record { ty = ty; slot = None; alone = alone; value = value; place = no_code; pointer = no_code }

-- one that does, whose place is made by a code that pays for itself
abbrev pub designated : Bool → Emits → Ty → Coded
designated alone place ty = record { ty = ty; slot = None; alone = alone; value = no_code; place = place; pointer = place }

-- one whose place is the value of a pointer
abbrev pub pointed : Bool → Emits → Ty → Coded
pointed alone pointer ty = record {
  ty = ty;
  slot = None;
  alone = alone;
  value = no_code;
  place = λ t r. in_turn (pointer t r ∷ plain (Nop ∷ []) ∷ []);
  pointer = pointer;
}

-- ---- the value of what it designates

abbrev pub read_slot : Coded → Option ℕ → Emits
read_slot e (Some start) t r = plain (load_scalar e.ty (OnStack start) r ∷ [])
read_slot e None t r = in_turn (e.pointer t r ∷ plain (load_scalar e.ty (Behind r) r ∷ []) ∷ [])

-- a struct is where it stands
abbrev pub read : Coded → Emits
read e t r = if is_struct e.ty then e.place t r else read_slot e e.slot t r
