-- Lists of instructions run by position, with branches inside: each instruction's effect in turn, from position 0 on, where a
-- branch by 4 * k bytes moves k positions (this project's own).
use Rattle.std.specs.Prelude.{◌≡◌, ℕ, zero, suc, ◌+◌, ◌*◌, List, [], ◌∷◌, length, Option, Some, None}
use Rattle.a64_code.specs.declared.instr.Instr.{Instr}
use Rattle.a64_code.specs.declared.end.MachineEnd.{MachineEnd}
use Rattle.a64_code.specs.State.{State}
use Rattle.a64_code.specs.Stepped.{Leads, Ends}
use Rattle.a64_code.specs.Effect.{effect}

-- the instruction at a position
abbrev pub instr_at : List Instr → ℕ → Option Instr
instr_at [] k = None
instr_at (instr ∷ instrs) zero = Some instr
instr_at (instr ∷ instrs) (suc k) = instr_at instrs k

-- PC is at the position of an instruction, where the list is taken to stand at an address
pub record IsNext (instrs : List Instr) (base : ℕ) (s : State) (instr : Instr) : Type 0 where
  pub position : ℕ
  pub pc : s.pc ≡ base + 4 * position
  pub there : instr_at instrs position ≡ Some instr

-- the effect of the instruction at PC's position leads from one state to the other
pub record Moves (instrs : List Instr) (base : ℕ) (from to : State) : Type 0 where
  pub instr : Instr
  pub next : IsNext instrs base from instr
  pub leads : effect instr from ≡ Leads to

-- so do n of them, one after another
abbrev pub RunsFrom : List Instr → ℕ → ℕ → State → State → Type 0
RunsFrom instrs base zero from to = from ≡ to
RunsFrom instrs base (suc n) from to = (next : State) × Moves instrs base from next × RunsFrom instrs base n next to

-- n steps lead from position 0 to the position behind the last
pub record Runs (instrs : List Instr) (n : ℕ) (from to : State) : Type 0 where
  pub steps : RunsFrom instrs from.pc n from to
  pub pc : to.pc ≡ from.pc + 4 * length instrs

-- n steps lead from position 0 to an instruction that ends the run so
pub record RunsInto (instrs : List Instr) (n : ℕ) (from to : State) (end : MachineEnd) : Type 0 where
  pub steps : RunsFrom instrs from.pc n from to
  pub instr : Instr
  pub next : IsNext instrs from.pc to instr
  pub ends : effect instr to ≡ Ends end
