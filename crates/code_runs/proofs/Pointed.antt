-- An example: code in a region that may be written too, which stores through a pointer to a place below the code.
use Rattle.std.specs.Prelude.{◌≡◌, ℕ, zero, suc, ◌+◌, ◌*◌, ◌%◌, ◌^◌, ◌<◌, ◌≤◌, true, false, List, [], ◌∷◌, Some, refl}
use Rattle.std.proofs.Common.{arith, ◌∙◌, subst}
use Rattle.std.proofs.lemmas.Bool.Decides.{nat_tests}
use Rattle.mt_base.specs.Granules.{granule_of}
use Rattle.mt_base.specs.Memory.{is_between, store}
use Rattle.mt_base.specs.Pointers.{address_of}
use Rattle.a64_code.specs.declared.instr.Instr.{Instr}
use Rattle.a64_code.specs.declared.instr.Instr.TheVariants.{Str}
use Rattle.a64_code.specs.declared.instr.Reg.{Reg}
use Rattle.a64_code.specs.State.{State}
use Rattle.a64_code.specs.Laws.Reach.{reach}
use Rattle.a64_laws.specs.Forms.{Points, StoreWhole, x0, puts_bytes}
use Rattle.a64_laws.specs.Runs.{instr_at}
use Rattle.a64_laws.specs.Laws.Effects.EffectLeaves.{effect-led}
use Rattle.a64_laws.specs.Laws.Effects.Leaves.{Leaves}
use Rattle.a64_laws.specs.Laws.Effects.Open.{IsOpen}
use Rattle.a64_laws.specs.Laws.Runs.{Runs-one}
use Rattle.a64_laws.specs.Laws.Stores.{store_through}
use Rattle.code_runs.specs.Laws.Apart.{IsApart, HoldsBeside, stays_apart}
use Rattle.code_runs.specs.Laws.CodeAt.{HasCode}
use Rattle.code_runs.specs.Laws.Lists.{StepsUnder, Steps-RunsFrom}

abbrev x1 : Reg
x1 = record { 0 = 1 }

abbrev instrs : List Instr
instrs = Str true 0 x1 x0 ∷ []

only : (k : ℕ) (instr : Instr) → instr_at instrs k ≡ Some instr → Str true 0 x1 x0 ≡ instr
only zero instr there = cc
only (suc k) instr there = absurd (cc)

-- X1 is a number without a tag, and 8 bytes from it on lie below the code
abbrev Below : ℕ → State → Type 0
Below p s = s.register 1 ≡ p

apart_there : (p base a : ℕ) (s : State) (instr : Instr) → Str true 0 x1 x0 ≡ instr → p + 8 ≤ base → base < 2 ^ 56 → Below p s → base ≤ a →
    (reach instr s).bytes a ≡ false
apart_there p base a s instr is below fits holds from =
    subst (λ (i : Instr). (reach i s).bytes a ≡ false) is (outside (let e : address_of ((s.register 1 + 0 * 8) % 2 ^ 64) ≡ p =
    omega (arith, holds, below, fits) in e))
  where
    outside : address_of ((s.register 1 + 0 * 8) % 2 ^ 64) ≡ p → is_between (address_of ((s.register 1 + 0 * 8) % 2 ^ 64)) 8 a ≡ false
    outside place = rw place (let e : is_between p 8 a ≡ false = grind (arith, nat_tests) in e)

is_apart : (p base : ℕ) → p + 8 ≤ base → base < 2 ^ 56 → IsApart instrs base (Below p)
is_apart p base below fits = record {
  kept = λ s t holds moves. kept s t moves.instr (only moves.next.position moves.instr moves.next.there)
      (effect-led moves.instr moves.leads)
      ∙ holds;
  apart = λ s t holds moves a from to. apart_there p base a s moves.instr (only moves.next.position moves.instr moves.next.there) below fits
      holds from;
}
  where
    kept : (s t : State) (instr : Instr) → Str true 0 x1 x0 ≡ instr → Leaves (reach instr s) s t → t.register 1 ≡ s.register 1
    kept s t instr is leaves = leaves.keeps.registers 1 (subst (λ (i : Instr). (reach i s).registers 1 ≡ false) is refl)

-- one step stores it, and the code still stands
stored : (s : State) → HasCode s s.pc instrs → s.register 1 + 8 ≤ s.pc → s.pc + 4 < 2 ^ 56 → s.register 1 % 8 ≡ 0 →
    IsOpen s (s.register 1) 8 → s.tag (granule_of (s.register 1)) ≡ 0 →
    StepsUnder (HoldsBeside s.pc 4 s (Below (s.register 1))) 1 s (puts_bytes (store 8 s.byte (s.register 1) (s.register 0)) s)
unfolding puts_bytes
stored s code below fits aligned memory untagged =
    Steps-RunsFrom 1 s _ code (stays_apart (is_apart (s.register 1) s.pc below (omega (arith, fits))))
    (record { holds = refl; same = record { regions = refl; bytes = λ a from to. refl } })
    (Runs-one (store_through StoreWhole 0 (s.register 1) 0 x1 x0 s (omega arith) points aligned memory untagged) refl
    (omega (arith, fits))).steps
  where
    points : Points ((s.register 1 + 0 * 8) % 2 ^ 64) (s.register 1) 0
    points = record { is_at = omega (arith, below, fits); has_tag = omega (arith, below, fits) }
