-- An example: code in a region that may be written too, below the stack in the same region, which stores to its frame.
use Rattle.std.specs.Prelude.{◌≡◌, ℕ, ◌+◌, ◌%◌, ◌^◌, ◌<◌, ◌≤◌, ◌==◌, ◌||◌, true, false, List, [], ◌∷◌, ◌++◌, refl}
use Rattle.std.proofs.Common.{arith, inl}
use Rattle.mt_base.specs.Memory.{store}
use Rattle.a64_code.specs.declared.instr.Instr.{Instr}
use Rattle.a64_code.specs.declared.instr.Instr.TheVariants.{Movz, Str, Svc}
use Rattle.a64_code.specs.declared.instr.Reg.{Reg}
use Rattle.a64_code.specs.State.{State}
use Rattle.a64_laws.specs.Laws.Effects.Open.{IsOpen}
use Rattle.a64_laws.specs.Laws.Effects.Leaves.{Keeps}
use Rattle.mte_machine.specs.Run.{Steps, Stopped, run}
use Rattle.a64_code.specs.declared.end.MachineEnd.TheVariants.{Exited}
use Rattle.code_runs.specs.Laws.CodeAt.{HasCode, HasCode-kept}
use Rattle.a64_laws.specs.Forms.{stack_pointer, StoreWhole, puts_register, puts_bytes}
use Rattle.a64_laws.specs.Touches.{Touch, reach_from}
use Rattle.a64_laws.specs.Laws.OpenMemory.{IsOpen-kept}
use Rattle.a64_laws.specs.Laws.Results.{constant_moved}
use Rattle.a64_laws.specs.Laws.Runs.{Runs-two, RunsInto-one, RunsInto-behind}
use Rattle.a64_laws.specs.Laws.Services.{exited}
use Rattle.a64_laws.specs.Runs.{Runs}
use Rattle.a64_laws.specs.Laws.Stores.{store_at_sp}
use Rattle.code_runs.specs.Laws.Lists.{StepsUnder}
use Rattle.code_runs.specs.Laws.Apart.{IsTouchedApart, Steps-touched, stays_touched, run-touched}

abbrev x9 : Reg
x9 = record { 0 = 9 }

-- 7 at SP + 8
abbrev instrs : List Instr
instrs = Movz true 0 7 x9 ∷ Str true 1 stack_pointer x9 ∷ []

abbrev touch : Touch
touch = record { registers = λ n. n == 9; sp = false; flags = false; frame = 16; tags = false; draws = false; asks = false }

abbrev after : State → State
after s = puts_bytes (store 8 s.byte (s.sp + 8) 7) (puts_register x9 7 s)

-- two steps store it, and the code still stands
record Stored (s t : State) : Type 0 where
  steps : Steps 2 s t
  code : HasCode t s.pc instrs
  byte : t.byte ≡ store 8 s.byte (s.sp + 8) 7

stores : (s : State) → s.pc + 8 ≤ s.sp → s.sp % 16 ≡ 0 → s.sp + 16 ≤ 2 ^ 56 → IsOpen s (s.sp + 8) 8 → Runs instrs 2 s (after s)
unfolding puts_register puts_bytes
stores s above aligned below memory =
    Runs-two (constant_moved 7 x9 s (omega arith)) refl
    (store_at_sp StoreWhole 1 (s.sp + 8) x9 (puts_register x9 7 s) (omega arith) (omega (arith, below)) (omega (arith, aligned))
    (IsOpen-kept (record { regions = refl; guard = refl }) memory)) refl (omega (arith, above, below))

stored : (s : State) → HasCode s s.pc instrs → s.pc + 8 ≤ s.sp → s.sp % 16 ≡ 0 → s.sp + 16 ≤ 2 ^ 56 → IsOpen s (s.sp + 8) 8 →
    Stored s (after s)
unfolding puts_register puts_bytes
stored s code above aligned below memory = record {
  steps = led.steps.steps;
  code = HasCode-kept ((stays_touched apart).code (after s) led.holds) code;
  byte = refl;
}
  where
    apart : IsTouchedApart touch instrs s.pc s
    apart = record { passes = λ u. refl; below = below; apart = inl (omega (arith, above)) }

    led : StepsUnder (Keeps (reach_from touch s.sp) s) 2 s (after s)
    led = Steps-touched code apart (stores s above aligned below memory)

-- with an exit behind it the run ends so, within any number of steps above two
exited_behind : (m : ℕ) (s : State) → HasCode s s.pc (instrs ++ (Svc 3 ∷ [])) → s.pc + 12 ≤ s.sp → s.sp % 16 ≡ 0 →
    s.sp + 16 ≤ 2 ^ 56 → IsOpen s (s.sp + 8) 8 → 2 < m → run m s ≡ Stopped (Exited (s.register 0 % 256)) (after s)
unfolding puts_register puts_bytes
exited_behind m s code above aligned below memory more =
    run-touched {touch = record touch { registers = λ n. (n == 0) || (n == 9); asks = true }} m code
    (record { passes = λ u. refl; below = below; apart = inl (omega (arith, above)) })
    (RunsInto-behind (stores s (omega (arith, above)) aligned below memory) (RunsInto-one (exited (after s)))) more
