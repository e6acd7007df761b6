-- What an instruction may change besides PC (this project's own). Of a store that is the bytes and granules at its address.
use Rattle.std.specs.Prelude.{◌≡◌, ℕ, ◌*◌, ◌==◌, Bool, true, false, ◌||◌, refl}
use Rattle.mt_base.specs.Granules.{granule_of}
use Rattle.mt_base.specs.Memory.{is_between}
use Rattle.mt_base.specs.Pointers.{address_of}
use Rattle.a64_code.specs.declared.instr.Instr.{Instr}
use Rattle.a64_code.specs.declared.instr.Instr.TheVariants.{Cbz, Cbnz, B, Bl, BCond, Ret}
use Rattle.a64_code.specs.declared.instr.Reg.{Reg}
use Rattle.a64_code.specs.State.{State, is_sp}
use Rattle.a64_code.specs.Services.{service_register}
use Rattle.a64_code.specs.Shape.{Result, Shape, GoesOn, Puts, PutsWithFlags, PutsAndDraws, Branches, BranchesWithLink, Loads, LoadsPair}
use Rattle.a64_code.specs.Shape.{Stores, StoresPair, StoresTags, Clears, Serves, link_register}
use Rattle.a64_code.specs.Effect.{shape}

pub record Reach : Type 0 where
  -- the registers by number, and SP and the flags
  pub registers : ℕ → Bool
  pub sp : Bool
  pub flags : Bool
  -- the bytes by address, and the tags of granules by number
  pub bytes : ℕ → Bool
  pub tags : ℕ → Bool
  -- whether it draws a choice, asks something of the outside, or may go elsewhere than to the next instruction
  pub draws : Bool
  pub asks : Bool
  pub branches : Bool

abbrev pub nothing : Reach
nothing = record {
  registers = λ _. false;
  sp = false;
  flags = false;
  bytes = λ _. false;
  tags = λ _. false;
  draws = false;
  asks = false;
  branches = false;
}

-- a register, in a field that takes the number 31 for the stack pointer or in one that does not
abbrev pub register : Bool → Reg → Reach
register takes_sp r = record nothing { registers = λ n. n == r.0; sp = is_sp takes_sp r }

-- both registers
abbrev pub registers : Bool → Reg → Bool → Reg → Reach
registers takes_sp r takes_sp_too q =
    record nothing { registers = λ n. (n == r.0) || (n == q.0); sp = is_sp takes_sp r || is_sp takes_sp_too q }

abbrev pub branch : Reach
branch = record nothing { branches = true }

-- so many bytes at a pointer's address, and so many granules
abbrev pub bytes : ℕ → ℕ → Reach
bytes count pointer = record nothing { bytes = is_between (address_of pointer) count }

abbrev pub granules : ℕ → ℕ → Reach
granules count pointer = record nothing { tags = is_between (granule_of (address_of pointer)) count }

-- what a result may change
abbrev pub result : Result → Reach
result r = register r.takes_sp r.register

-- what an instruction of a shape may change
abbrev pub reach_of : Shape → Reach
reach_of GoesOn = nothing
reach_of (Puts r) = result r
reach_of (PutsWithFlags flags r) = record (result r) { flags = true }
reach_of (PutsAndDraws r) = record (result r) { draws = true }
reach_of (Branches taken address) = branch
reach_of (BranchesWithLink address) = record (register false link_register) { branches = true }
reach_of (Loads access r) = result r
reach_of (LoadsPair access first second) = registers first.takes_sp first.register second.takes_sp second.register
reach_of (Stores count pointer checked value) = bytes count pointer
reach_of (StoresPair pointer checked first second) = bytes 16 pointer
reach_of (StoresTags count pointer tag) = granules count pointer
reach_of (Clears count pointer tag) = record (granules count pointer) { bytes = is_between (address_of pointer) (16 * count) }
reach_of (Serves number) = record (register false service_register) { asks = true }

-- what an instruction may change in a state
abbrev pub reach : Instr → State → Reach
reach instr s = reach_of (shape instr s)

-- whether an instruction may go elsewhere than to the next one
abbrev pub is_branch : Instr → Bool
is_branch (Cbz wide imm19 rt) = true
is_branch (Cbnz wide imm19 rt) = true
is_branch (B imm26) = true
is_branch (Bl imm26) = true
is_branch (BCond imm19 cond) = true
is_branch Ret = true
is_branch _ = false

pub reach-branches : (instr : Instr) (s : State) → (reach instr s).branches ≡ is_branch instr
reach-branches (Cbz wide imm19 rt) s = refl
reach-branches _ s = refl
