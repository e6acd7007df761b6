-- The state of the machine in the program (this project's own; the state itself is that of a64_code).
use Rattle.std.specs.Prelude.{ℕ, ◌%◌, false, List, length, slice_index}
use Rattle.tag_mem.specs.declared.access.TagMemory.{Ghosts}
use Rattle.a64_alu.specs.declared.flags.Flags.{Flags}
use Rattle.a64_code.specs.Outside.{Outside}
use Rattle.a64_code.specs.State.{State}
use Rattle.a64_code.specs.Stepped.{Stepped}
use Rattle.mte_machine.specs.declared.machine.Machine.{Machine}
use Rattle.mte_machine.specs.declared.step.Step.{Step}
use Rattle.mte_machine.specs.Run.{StepsAs}

-- What the machine is, where its memory shows what the ghost members of its type say and this is the outside.
abbrev pub state_of : {M : Type 0} → Ghosts M → Machine M → Outside → State
state_of shown m outside = record {
  register = λ i. slice_index m.registers i;
  sp = m.sp;
  pc = m.pc;
  flags = m.flags;
  byte = shown.byte m.memory;
  tag = shown.tags m.memory;
  regions = shown.regions m.memory;
  guard = shown.guard m.memory;
  choices = m.choices.items;
  drawn = m.drawn;
  outside = outside;
}

-- The machine does what `does` says of its state, over any outside, and answers so.
abbrev pub Executes : {M : Type 0} → Ghosts M → (State → Stepped) → Machine M → Step → Machine M → Type 0
Executes shown does old answer new =
    (outside : Outside) → StepsAs (does (state_of shown old outside)) (state_of shown old outside) answer (state_of shown new outside)

-- all of N, Z, C and V clear
abbrev pub clear_flags : Flags
clear_flags = record { negative = false; zero = false; carry = false; overflow = false }

-- The state at the start of a program: all registers zero, and so many choices drawn before.
abbrev pub initial_state : {M : Type 0} → Ghosts M → M → ℕ → ℕ → List ℕ → ℕ → Outside → State
initial_state shown memory pc sp choices drawn outside = record {
  register = λ _. 0;
  sp = sp;
  pc = pc;
  flags = clear_flags;
  byte = shown.byte memory;
  tag = shown.tags memory;
  regions = shown.regions memory;
  guard = shown.guard memory;
  choices = choices;
  drawn = drawn % length choices;
  outside = outside;
}
