-- Lists of instructions that compute a number into a register (this project's own).
use Rattle.std.specs.Prelude.{◌≡◌, ◌≢◌, ℕ, ◌^◌, ◌<◌, ◌≤◌, List, length, Option, Some, None}
use Rattle.c_ast.specs.declared.int_type.IntType.{IntType}
use Rattle.c_type_base.specs.Conversions.{promoted, wrap}
use Rattle.a64_code.specs.declared.instr.Instr.{Instr}
use Rattle.a64_code.specs.declared.instr.Reg.{Reg}
use Rattle.a64_code.specs.State.{State}
use Rattle.a64_laws.specs.Runs.{Runs}

-- all but PC, flags and registers is the same in both states
pub record SameButResults (s t : State) : Type 0 where
  pub sp : t.sp ≡ s.sp
  pub byte : t.byte ≡ s.byte
  pub tag : t.tag ≡ s.tag
  pub regions : t.regions ≡ s.regions
  pub guard : t.guard ≡ s.guard
  pub choices : t.choices ≡ s.choices
  pub drawn : t.drawn ≡ s.drawn
  pub outside : t.outside ≡ s.outside

-- A list puts a number into a register, a step an instruction. Of the other registers it leaves those that it spares, and all
-- else as it was, flags and PC aside.
pub record Computes (instrs : List Instr) (into : Reg) (value : ℕ) (spares : ℕ → Type 0) (from : State) : Type 0 where
  pub to : State
  pub runs : Runs instrs (length instrs) from to
  pub holds : to.register into.0 ≡ value
  pub registers : (r : ℕ) → r ≢ into.0 → spares r → to.register r ≡ from.register r
  pub same : SameButResults from to

-- what a list spares: all other registers, all but one, or all but X16 and X17
abbrev pub all : ℕ → Type 0
all r = Unit {0}

abbrev pub all_but : Reg → ℕ → Type 0
all_but q r = r ≢ q.0

abbrev pub all_but_both : ℕ → Type 0
all_but_both r = (r ≢ 16) × (r ≢ 17)

-- a register for values: X9 to X15
pub record IsForValues (r : Reg) : Type 0 where
  pub from : 9 ≤ r.0
  pub to : r.0 ≤ 15

-- X16 has the first operand, and a register for values the second
pub record Operands (r : Reg) (a b : ℕ) (s : State) : Type 0 where
  pub for_values : IsForValues r
  pub first : s.register 16 ≡ a
  pub second : s.register r.0 ≡ b
  pub first_fits : a < 2 ^ 64
  pub second_fits : b < 2 ^ 64

-- a number is a value of a type
abbrev pub IsOf : IntType → ℕ → Type 0
IsOf t n = n ≡ wrap t n

-- a value of a type that may be an integer type
abbrev pub IsOfSome : Option IntType → ℕ → Type 0
IsOfSome None n = Unit {0}
IsOfSome (Some t) n = IsOf t n

-- a type in which operators compute: int, long, and the unsigned ones
abbrev pub IsPromoted : IntType → Type 0
IsPromoted t = promoted t ≡ t
