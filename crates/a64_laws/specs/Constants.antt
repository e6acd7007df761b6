-- The list of moves that puts a constant into a register (this project's own).
use Rattle.std.specs.Prelude.{◌≡◌, ◌≢◌, ℕ, zero, suc, ◌/◌, ◌%◌, ◌^◌, true, List, [], ◌∷◌, ◌++◌, length}
use Rattle.a64_code.specs.declared.instr.Instr.{Instr}
use Rattle.a64_code.specs.declared.instr.Instr.TheVariants.{Movz, Movk}
use Rattle.a64_code.specs.declared.instr.Reg.{Reg}
use Rattle.a64_code.specs.State.{State}
use Rattle.a64_laws.specs.Runs.{Runs}

-- a halfword above the lowest is moved where it is not zero
abbrev pub kept_halfword : ℕ → ℕ → Reg → List Instr
kept_halfword hw zero rd = []
kept_halfword hw (suc bits) rd = Movk true hw (suc bits) rd ∷ []

abbrev pub constant_moves : Reg → ℕ → List Instr
constant_moves rd value =
    (((Movz true 0 (value % 2 ^ 16) rd ∷ []) ++ kept_halfword 1 (value / 2 ^ 16 % 2 ^ 16) rd)
    ++ kept_halfword 2 (value / 2 ^ 32 % 2 ^ 16) rd) ++ kept_halfword 3 (value / 2 ^ 48) rd

-- all but PC and registers is the same in both states
pub record SameButRegisters (s t : State) : Type 0 where
  pub sp : t.sp ≡ s.sp
  pub flags : t.flags ≡ s.flags
  pub byte : t.byte ≡ s.byte
  pub tag : t.tag ≡ s.tag
  pub regions : t.regions ≡ s.regions
  pub guard : t.guard ≡ s.guard
  pub choices : t.choices ≡ s.choices
  pub drawn : t.drawn ≡ s.drawn
  pub outside : t.outside ≡ s.outside

-- a list puts a number into a register, a step an instruction, and changes nothing else
pub record PutsConstant (rd : Reg) (value : ℕ) (instrs : List Instr) (from : State) : Type 0 where
  pub to : State
  pub runs : Runs instrs (length instrs) from to
  pub holds : to.register rd.0 ≡ value
  pub registers : (r : ℕ) → r ≢ rd.0 → to.register r ≡ from.register r
  pub same : SameButRegisters from to
