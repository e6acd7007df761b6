-- Examples: a byte of the input is put, a run exits with a number, and a division by zero is told.
use Rattle.std.specs.Prelude.{◌≡◌, ℕ, ◌+◌, ◌%◌, ◌^◌, ◌<◌, true, List, [], ◌∷◌, ◌++◌, Option, Some, None, map, refl}
use Rattle.std.proofs.Common.{arith, ap, subst}
use Rattle.a64_code.specs.declared.end.MachineEnd.TheVariants.{Exited, Divide}
use Rattle.a64_code.specs.declared.instr.Instr.{Instr}
use Rattle.a64_code.specs.declared.instr.Instr.TheVariants.{Svc, OrrReg, Movz, Cbnz, Udiv}
use Rattle.a64_code.specs.declared.instr.Reg.{Reg}
use Rattle.a64_code.specs.Outside.{next_number, after_next, after_put}
use Rattle.a64_code.specs.State.{State}
use Rattle.a64_code.specs.Stepped.{Stepped, Leads}
use Rattle.a64_code.specs.Effect.{effect}
use Rattle.a64_laws.specs.Branches.{Forward, OnOther}
use Rattle.a64_laws.specs.Forms.{x0, zero_register, next, puts_register, with_outside}
use Rattle.a64_laws.specs.Runs.{Runs, RunsInto}
use Rattle.a64_laws.specs.Laws.Branches.{jump-passed}
use Rattle.a64_laws.specs.Laws.Effects.Grows.{Grows, Grows-then, effect-grows}
use Rattle.a64_laws.specs.Laws.Effects.Leaves.{OnLeads}
use Rattle.a64_laws.specs.Laws.Effects.Takes.{Takes, LeftOf, Takes-then, effect-takes}
use Rattle.a64_laws.specs.Laws.Results.{constant_moved, moved}
use Rattle.a64_laws.specs.Laws.Runs.{Runs-one, Runs-two, Runs-cons, RunsInto-one, RunsInto-front, RunsInto-behind}
use Rattle.a64_laws.specs.Laws.Services.{byte_taken, byte_put, exited, divide_told}

abbrev x1 : Reg
x1 = record { 0 = 1 }

-- a byte is taken, kept in X1, and put
echoed : (byte : ℕ) (rest : List (Option ℕ)) (s : State) → s.outside.next_failure ≡ None → s.outside.put_failure ≡ None →
    s.outside.answers ≡ Some byte ∷ rest → byte < 256 → s.pc + 12 < 2 ^ 64 →
    (t : State) × Runs (Svc 2 ∷ OrrReg true x0 zero_register x1 ∷ Svc 1 ∷ []) 3 s t × (t.register 1 ≡ byte)
    × (t.outside.output ≡ s.outside.output ++ byte ∷ [])
unfolding puts_register with_outside
echoed byte rest s taking putting answers small pc = (
  puts_register x0 (u.register 0 % 256) (with_outside (after_put (u.register 0 % 256) u.outside) u),
  Runs-cons (byte_taken s taking) refl (omega (arith, pc)) (Runs-two (moved x0 x1 t (omega arith) (omega arith)) refl
      (byte_put u putting) refl (omega (arith, pc))),
  ap next_number answers,
  ap (λ (n : ℕ). s.outside.output ++ n ∷ []) (let low : next_number s.outside.answers % 256 ≡ byte = rw answers (omega (arith, small))
      in low),
)
  where
    t : State
    t = puts_register x0 (next_number s.outside.answers) (with_outside (after_next s.outside) s)

    u : State
    u = puts_register x1 (t.register 0) t

-- mov x0, #298; svc #3: the run ends with the low byte, which is 42, and what stands behind is not reached
exits : (s : State) → s.pc + 8 < 2 ^ 64 →
    (t : State) × RunsInto (((Movz true 0 298 x0 ∷ []) ++ (Svc 3 ∷ [])) ++ (Svc 4 ∷ [])) 1 s t (Exited 42)
unfolding puts_register
exits s pc = (
  puts_register x0 298 s,
  RunsInto-front (Svc 4 ∷ []) (RunsInto-behind (Runs-one (constant_moved 298 x0 s (omega arith)) refl (omega (arith, pc)))
      (RunsInto-one (exited (puts_register x0 298 s)))),
)

-- cbnz x1, over it; svc #4: where X1 is zero the division that would come is not done
divide_is_told : (s : State) → s.register 1 ≡ 0 → s.pc + 12 < 2 ^ 64 →
    (t : State) × RunsInto (((Cbnz true 2 x1 ∷ []) ++ (Svc 4 ∷ [])) ++ (Udiv true x1 x0 x0 ∷ [])) 1 s t Divide
unfolding next
divide_is_told s none pc = (
  next s,
  RunsInto-front (Udiv true x1 x0 x0 ∷ []) (RunsInto-behind (Runs-one (jump-passed (OnOther true x1) (Forward 2) s (rw none refl)) refl
      (omega (arith, pc))) (RunsInto-one (divide_told (next s)))),
)

-- whatever two instructions do, the output before them is the front of that behind them, and the input that is left an end of that before
record Streams (s u : State) : Type 0 where
  grows : Grows s u
  left : (bytes : List ℕ) → s.outside.answers ≡ map Some bytes → LeftOf bytes u.outside.answers

both_streams : (first second : Instr) (s t u : State) → effect first s ≡ Leads t → effect second t ≡ Leads u → Streams s u
both_streams first second s t u one two = record {
  grows = Grows-then (subst (λ (done : Stepped). OnLeads done (Grows s)) one (effect-grows first s))
      (subst (λ (done : Stepped). OnLeads done (Grows t)) two (effect-grows second t));
  left = takes.input;
}
  where
    takes : Takes s u
    takes = Takes-then (subst (λ (done : Stepped). OnLeads done (Takes s)) one (effect-takes first s))
        (subst (λ (done : Stepped). OnLeads done (Takes t)) two (effect-takes second t))
