-- An example: a loop that counts down, as a meaning of three lines and as ten instructions.
use Rattle.std.specs.Prelude.{◌≡◌, ℕ, zero, suc, ◌+◌, ◌%◌, ◌^◌, ◌-◌, ◌<◌, ◌≤◌, true, List, [], ◌∷◌, ◌++◌, None}
use Rattle.mt_base.specs.Memory.{load}
use Rattle.a64_code.specs.declared.instr.Instr.TheVariants.{Ldr, Str, OrrReg, Svc, SubImm, Movz}
use Rattle.a64_code.specs.declared.instr.Reg.{Reg}
use Rattle.a64_code.specs.declared.end.MachineEnd.TheVariants.{Exited}
use Rattle.a64_code.specs.State.{State}
use Rattle.a64_code.specs.Stepped.{Ends}
use Rattle.a64_code.specs.Step.{step}
use Rattle.a64_laws.specs.Laws.Effects.Open.{IsOpen}
use Rattle.a64_laws.specs.Forms.{stack_pointer, zero_register}
use Rattle.code_runs.specs.Outcome.{Finishes, Unsaid, Meaning, gives, then, spends}
use Rattle.code_runs.specs.Bounded.{Setting}
use Rattle.a64_laws.specs.Branches.{Forward, Back, Always, OnZero}
use Rattle.code_runs.specs.Items.{Item, Plain, Jump, IsAt}

-- ---- the source: while (cell) { put(cell); cell = cell - 1; } return 0;

pub record Now : Type 0 where
  pub cell : ℕ
  pub left : ℕ
  pub output : List ℕ

abbrev pub spent : Now → Now
spent now = record now { left = now.left - 1 }

-- the low byte of the cell is put, and the cell is one less
abbrev pub turned : ℕ → Now → Now
turned less now = record now { cell = less; output = now.output ++ suc less % 256 ∷ [] }

abbrev pub body : ℕ → Meaning Now ℕ (Unit {0}) → Meaning Now ℕ (Unit {0})
body zero again now = gives tt now
body (suc less) again now = again (turned less now)

-- each test of the cell spends a unit
abbrev pub turns : ℕ → Meaning Now ℕ (Unit {0})
turns zero now = Unsaid
turns (suc fuel) now = spends (λ (n : Now). n.left) spent (λ n. body n.cell (turns fuel) n) now

abbrev pub program : ℕ → Meaning Now ℕ (Unit {0})
program fuel = then (turns fuel) (λ _ now. Finishes 0 now)

-- ---- the code

abbrev pub x0 : Reg
x0 = record { 0 = 0 }

abbrev pub x1 : Reg
x1 = record { 0 = 1 }

abbrev pub items : List Item
items =
    Plain (Ldr true 0 stack_pointer x1)
    ∷ Jump (OnZero true x1) (Forward 7)
    ∷ Plain (OrrReg true x1 zero_register x0)
    ∷ Plain (Svc 1)
    ∷ Plain (Ldr true 0 stack_pointer x1)
    ∷ Plain (SubImm true 0 1 x1 x1)
    ∷ Plain (Str true 0 stack_pointer x1)
    ∷ Jump Always (Back 7)
    ∷ Plain (Movz true 0 0 x0)
    ∷ Plain (Svc 3)
    ∷ []

-- a unit pays eight steps, the code goes on among its items, and its end is an exit
abbrev pub setting : ℕ → Setting Now ℕ
setting at = record {
  work = λ now. now.left;
  output = λ now. now.output;
  Over = λ end now s. step s ≡ Ends (Exited end);
  Inside = λ s. (at ≤ s.pc) × (s.pc < at + 40);
  per = 8;
}

-- PC is at a position of the items, the number at SP is this one, and the sink has taken these bytes
pub record Relates (loaded : State) (at position number : ℕ) (bytes : List ℕ) (s : State) : Type 0 where
  pub is_at : IsAt loaded at 40 position s
  pub aligned : s.sp % 8 ≡ 0
  pub below : s.sp < 2 ^ 56
  pub above : at + 40 ≤ s.sp
  pub memory : IsOpen s s.sp 8
  pub cell : load 8 s.byte s.sp ≡ number
  pub small : number < 2 ^ 64
  pub output : s.outside.output ≡ bytes
  pub whole : s.outside.put_failure ≡ None
