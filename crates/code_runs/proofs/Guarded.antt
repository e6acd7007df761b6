-- An example: code that cannot be written takes a byte of the input and divides X1 by it, where it is not zero; a zero is told.
use Rattle.std.specs.Prelude.{◌≡◌, ◌≢◌, ℕ, zero, suc, ◌+◌, ◌/◌, ◌^◌, ◌<◌, ◌==◌, true, not, List, [], ◌∷◌, ◌++◌, map}
use Rattle.std.specs.Prelude.{All, Some, None, refl}
use Rattle.std.proofs.Common.{arith, ap}
use Rattle.std.proofs.lemmas.Bool.{ne_eqb}
use Rattle.tag_mem.specs.declared.access.TagMemory.{Ghosts}
use Rattle.a64_code.specs.declared.instr.Instr.{Instr}
use Rattle.a64_code.specs.declared.instr.Instr.TheVariants.{Udiv, Svc}
use Rattle.a64_code.specs.declared.instr.Reg.{Reg}
use Rattle.a64_code.specs.declared.end.MachineEnd.TheVariants.{Divide}
use Rattle.a64_code.specs.Outside.{next_number, after_next, outside_of}
use Rattle.a64_code.specs.State.{State}
use Rattle.a64_laws.specs.Branches.{Forward, OnOther}
use Rattle.a64_laws.specs.Forms.{x0, DivideUnsigned, next, puts_register, puts_pc, with_outside}
use Rattle.a64_laws.specs.Runs.{Runs, RunsInto}
use Rattle.a64_laws.specs.Laws.Branches.{jump-taken, jump-passed}
use Rattle.a64_laws.specs.Laws.Effects.InRange.{IsInRange, AnswersFit-bytes}
use Rattle.a64_laws.specs.Laws.Effects.Takes.{LeftOf}
use Rattle.a64_laws.specs.Laws.Results.{operated}
use Rattle.a64_laws.specs.Laws.Runs.{Runs-one, Runs-append, RunsFrom-one_at, RunsInto-one, RunsInto-behind, RunsInto-front}
use Rattle.a64_laws.specs.Laws.Services.{byte_taken, divide_told}
use Rattle.mte_machine.specs.Machine.{initial_state}
use Rattle.mte_machine.specs.Run.{Steps, Stopped, run}
use Rattle.mte_machine.specs.Laws.Steps.{Steps-add}
use Rattle.code_runs.specs.Items.{Item, Plain, Jump, instr_of, HasAt, IsAt}
use Rattle.code_runs.specs.Laws.CodeAt.{HasCode, CannotBeWritten, SameAt-within}
use Rattle.code_runs.specs.Laws.Fixed.{Fixed}
use Rattle.code_runs.specs.Laws.Inputs.{Takes-Steps}
use Rattle.code_runs.specs.Laws.Items.{HasAt-front, HasAt-back, HasAt-code, Steps-item}
use Rattle.code_runs.specs.Laws.Lists.{StepsUnder, Steps-Runs, run-RunsInto}
use Rattle.code_runs.specs.Laws.Ranges.{IsInRange-Steps, IsInRange-initial}

abbrev x1 : Reg
x1 = record { 0 = 1 }

-- the byte in X0, and a branch over the service that tells a division by zero
abbrev checks : List Item
checks = Plain (Svc 2) ∷ Jump (OnOther true x0) (Forward 2) ∷ Plain (Svc 4) ∷ []

-- the quotient in X0
abbrev divides : List Item
divides = Plain (Udiv true x0 x1 x0) ∷ []

abbrev instrs : List Instr
instrs = map instr_of (checks ++ divides)

-- the code is at PC and cannot be written, and no call of the source fails
record IsReady (s : State) : Type 0 where
  code : HasCode s s.pc instrs
  cannot : CannotBeWritten s s.pc 16
  fits : s.pc + 16 < 2 ^ 64
  whole : s.outside.next_failure ≡ None

abbrev asked : State → State
asked s = puts_register x0 (next_number s.outside.answers) (with_outside (after_next s.outside) s)

asks : (s : State) → IsReady s → Runs (Svc 2 ∷ []) 1 s (asked s)
unfolding puts_register with_outside
asks s ready = Runs-one (byte_taken s ready.whole) refl (omega (arith, ready.fits))

-- ---- a zero

tells : (s : State) → IsReady s → next_number s.outside.answers ≡ 0 → RunsInto instrs 2 s (next (asked s)) Divide
unfolding next puts_register with_outside
tells s ready none =
    RunsInto-front (map instr_of divides) (RunsInto-behind (asks s ready)
    (RunsInto-behind (Runs-one (jump-passed (OnOther true x0) (Forward 2) (asked s) (ap (λ (n : ℕ). not (n == 0)) none)) refl
    (omega (arith, ready.fits)))
    (RunsInto-one (divide_told (next (asked s))))))

-- each run of more than two steps ends so
told : (m : ℕ) (s : State) → IsReady s → next_number s.outside.answers ≡ 0 → 2 < m → run m s ≡ Stopped Divide (next (asked s))
told m s ready none more = run-RunsInto m ready.code ready.cannot (tells s ready none) more

-- ---- another byte

record Divided (s t : State) : Type 0 where
  runs : Runs instrs 3 s t
  quotient : t.register 0 ≡ s.register 1 / next_number s.outside.answers

divided : (s : State) → IsReady s → next_number s.outside.answers ≢ 0 → (t : State) × Divided s t
unfolding puts_register puts_pc with_outside
divided s ready other = (
  _,
  record {
    runs = Runs-append (Runs-append (asks s ready) passes)
        (Runs-one (operated DivideUnsigned true x0 x1 x0 (puts_pc ((asked s).pc + 8) (asked s)) (omega arith) (omega arith) (omega arith))
        refl (omega (arith, ready.fits)));
    quotient = rw (ne_eqb (next_number s.outside.answers) 0 other) refl;
  },
)
  where
    passes : Runs (map instr_of (Jump (OnOther true x0) (Forward 2) ∷ Plain (Svc 4) ∷ [])) 1 (asked s)
        (puts_pc ((asked s).pc + 8) (asked s))
    passes = record {
      steps = RunsFrom-one_at 0 _ (omega arith) refl (jump-taken (OnOther true x0) (Forward 2) (asked s) (omega (arith, ready.fits))
          (omega arith, omega (arith, ready.fits)) (ap not (ne_eqb (next_number s.outside.answers) 0 other)));
      pc = omega arith;
    }

-- three steps, in which the code stays, numbers stay in range, and input is taken from its front
record Leaves (s : State) (bytes : List ℕ) : Type 0 where
  to : State
  led : StepsUnder (Fixed s) 3 s to
  quotient : to.register 0 ≡ s.register 1 / next_number s.outside.answers
  range : IsInRange to
  left : LeftOf bytes to.outside.answers

leaves : (s : State) (bytes : List ℕ) → IsReady s → IsInRange s → s.outside.answers ≡ map Some bytes →
    next_number s.outside.answers ≢ 0 → Leaves s bytes
leaves s bytes ready range input other =
    let does = divided s ready other in
    let led = Steps-Runs ready.code ready.cannot does.1.runs in record {
      to = does.0;
      led = led;
      quotient = does.1.quotient;
      range = IsInRange-Steps 3 led.steps.steps range;
      left = (Takes-Steps 3 led.steps.steps).input bytes input;
    }

-- from the start of a program all numbers are in range
starts : {M : Type 0} (shown : Ghosts M) (memory : M) (pc sp byte : ℕ) (bytes : List ℕ) → ((at : ℕ) → shown.byte memory at < 256) →
    ((granule : ℕ) → shown.tags memory granule < 16) → sp < 2 ^ 64 → All (λ b. b < 2 ^ 8) (byte ∷ bytes) → byte ≢ 0 →
    IsReady (initial_state shown memory pc sp (7 ∷ []) 0 (outside_of (byte ∷ bytes))) →
    Leaves (initial_state shown memory pc sp (7 ∷ []) 0 (outside_of (byte ∷ bytes))) (byte ∷ bytes)
starts shown memory pc sp byte bytes bytes_below tags_below sp_fits below other ready =
    leaves _ (byte ∷ bytes) ready
    (IsInRange-initial shown memory pc sp (7 ∷ []) 0 (outside_of (byte ∷ bytes)) bytes_below tags_below (omega (arith, ready.fits)) sp_fits
    (λ none. absurd (cc)) seven (AnswersFit-bytes (byte ∷ bytes) below))
    refl other
  where
    seven : All (λ choice. choice < 16) (7 ∷ [])
    seven zero d h = omega arith
    seven (suc k) d h = absurd (omega (arith, h))

-- ---- the same code as items

stands : (s : State) → IsReady s → HasAt s s.pc (checks ++ divides)
stands s ready =
    HasAt-code s s.pc (checks ++ divides) ready.code (tt, ((omega arith, omega (arith, ready.fits)), (tt, (tt, tt)))) ready.fits

-- the branch in its part, and the division in the part behind
passed : (loaded : State) (at : ℕ) (s : State) → HasAt loaded at (checks ++ divides) → IsAt loaded at 16 1 s → s.register 0 ≢ 0 →
    (t : State) × Steps 2 s t × (t.register 0 ≡ s.register 1 / s.register 0)
unfolding puts_register puts_pc
passed loaded at s has is_at other = (
  _,
  Steps-add (Steps-item 1 (HasAt-front checks divides has)
      (record { code = SameAt-within is_at.code (omega arith) (omega arith); pc = is_at.pc }) refl
      (jump-taken (OnOther true x0) (Forward 2) s (omega (arith, is_at.pc, has.below)) (omega arith, omega (arith, is_at.pc, has.below))
      (ap not (ne_eqb (s.register 0) 0 other))))
      (Steps-item 0 (HasAt-back checks divides has) at_division refl
      (operated DivideUnsigned true x0 x1 x0 (puts_pc (s.pc + 8) s) (omega arith) (omega arith) (omega arith))),
  rw (ne_eqb (s.register 0) 0 other) refl,
)
  where
    at_division : IsAt loaded (at + 12) 4 0 (puts_pc (s.pc + 8) s)
    at_division = record {
      code = SameAt-within (record { regions = is_at.code.regions; bytes = is_at.code.bytes }) (omega arith) (omega arith);
      pc = omega (arith, is_at.pc);
    }
