-- Code in a region that may be written too: it stays where it shares no byte with what it writes (this project's own).
use Rattle.std.specs.Prelude.{◌≡◌, ℕ, ◌+◌, ◌*◌, ◌^◌, ◌<◌, ◌≤◌, Bool, true, false, not, ◌&&◌, List, length, refl, ◌⊎◌}
use Rattle.std.proofs.Common.{arith, ◌∙◌, inl, inr}
use Rattle.std.proofs.lemmas.Bool.Decides.{nat_tests}
use Rattle.mt_base.specs.Memory.{is_between}
use Rattle.a64_code.specs.declared.instr.Instr.{Instr}
use Rattle.a64_code.specs.declared.end.MachineEnd.{MachineEnd}
use Rattle.a64_code.specs.State.{State}
use Rattle.a64_laws.specs.Laws.Effects.EffectLeaves.{effect-led}
use Rattle.a64_laws.specs.Laws.Effects.Kept.{keeps_same}
use Rattle.a64_laws.specs.Laws.Effects.Leaves.{Keeps}
use Rattle.a64_code.specs.Laws.Reach.{reach}
use Rattle.a64_laws.specs.Laws.Effects.Reaches.{Keeps-then}
use Rattle.mte_machine.specs.Run.{Stopped, run}
use Rattle.code_runs.specs.Laws.CodeAt.{HasCode, SameAt}
use Rattle.a64_laws.specs.Runs.{Moves, Runs, RunsInto}
use Rattle.a64_laws.specs.Touches.{Touch, touches_only, reach_from}
use Rattle.a64_laws.specs.Laws.Touches.{RunsFrom-keeps}
use Rattle.code_runs.specs.Laws.Lists.{StaysUnder, StepsUnder, Steps-RunsFrom, run-stays}

-- ---- any list

-- a property that each instruction keeps, and under which none reaches a byte of the list
pub record IsApart (instrs : List Instr) (base : ℕ) (P : State → Type 0) : Type 0 where
  pub kept : (s t : State) → P s → Moves instrs base s t → P t
  pub apart : (s t : State) → P s → (m : Moves instrs base s t) → (a : ℕ) → base ≤ a → a < base + 4 * length instrs →
      (reach m.instr s).bytes a ≡ false

-- so it holds, and the code is as it was
pub record HoldsBeside (at count : ℕ) (loaded : State) (P : State → Type 0) (s : State) : Type 0 where
  pub holds : P s
  pub same : SameAt at count loaded s

pub stays_apart : {instrs : List Instr} {base : ℕ} {loaded : State} {P : State → Type 0} → IsApart instrs base P →
    StaysUnder instrs base loaded (HoldsBeside base (4 * length instrs) loaded P)
stays_apart is = record {
  kept = λ s t beside moves. let keeps = (effect-led moves.instr moves.leads).keeps in record {
    holds = is.kept s t beside.holds moves;
    same = record {
      regions = keeps.regions ∙ beside.same.regions;
      bytes = λ a from below. keeps.bytes a (is.apart s t beside.holds moves a from below) ∙ beside.same.bytes a from below;
    };
  };
  code = λ s beside. beside.same;
}

-- ---- a list that passes the test of what it touches

-- the bytes of the list are not among those of the frame
pub record IsTouchedApart (touch : Touch) (instrs : List Instr) (base : ℕ) (s : State) : Type 0 where
  pub passes : (u : State) → touches_only touch instrs u ≡ true
  pub below : s.sp + touch.frame ≤ 2 ^ 56
  pub apart : (base + 4 * length instrs ≤ s.sp) ⊎ (s.sp + touch.frame ≤ base)

not_and : (a b : Bool) → b ≡ false → (a && b) ≡ false
not_and true b none = none
not_and false b none = refl

outside : (sp frame base count a : ℕ) → (base + count ≤ sp) ⊎ (sp + frame ≤ base) → base ≤ a → a < base + count →
    is_between sp frame a ≡ false
outside sp frame base count a (inl before) from below = grind (arith, nat_tests)
outside sp frame base count a (inr behind) from below = grind (arith, nat_tests)

pub stays_touched : {touch : Touch} {instrs : List Instr} {base : ℕ} {s : State} → IsTouchedApart touch instrs base s →
    StaysUnder instrs base s (Keeps (reach_from touch s.sp) s)
stays_touched {touch} {instrs} {base} {s} is = record {
  kept = λ u v keeps moves. Keeps-then keeps
      (RunsFrom-keeps touch instrs base s.sp 1 u v is.passes is.below (λ none. keeps.sp none) (v, moves, refl));
  code = λ u keeps. record {
    regions = keeps.regions;
    bytes = λ a from below. keeps.bytes a
        (not_and (not touch.sp) _ (outside s.sp touch.frame base (4 * length instrs) a is.apart from below));
  };
}

-- its effects are steps, whatever the rights of its region are, and the rest of the state is as it was
pub Steps-touched : {touch : Touch} {instrs : List Instr} {n : ℕ} {s t : State} → HasCode s s.pc instrs →
    IsTouchedApart touch instrs s.pc s → Runs instrs n s t → StepsUnder (Keeps (reach_from touch s.sp) s) n s t
Steps-touched {touch} {n = n} {s} {t} code is runs =
    Steps-RunsFrom n s t code (stays_touched is) (keeps_same (reach_from touch s.sp) s) runs.steps

-- and a list that ends the run ends it
pub run-touched : {touch : Touch} {instrs : List Instr} {n : ℕ} {s t : State} {end : MachineEnd} (m : ℕ) → HasCode s s.pc instrs →
    IsTouchedApart touch instrs s.pc s → RunsInto instrs n s t end → n < m → run m s ≡ Stopped end t
run-touched {touch} {s = s} m code is into within = run-stays m code (stays_touched is) (keeps_same (reach_from touch s.sp) s) into within
