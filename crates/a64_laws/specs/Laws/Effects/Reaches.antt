-- Reaches compared, and what a list of instructions leaves as it was (this project's own).
use Rattle.std.specs.Prelude.{◌≡◌, ℕ, false, List, [], ◌∷◌, ◌++◌}
use Rattle.std.proofs.Common.{◌∙◌, subst}
use Rattle.a64_code.specs.declared.instr.Instr.{Instr}
use Rattle.a64_code.specs.State.{State}
use Rattle.a64_code.specs.Stepped.{Leads}
use Rattle.a64_code.specs.Effect.{effect}
use Rattle.a64_code.specs.Laws.Reach.{Reach, reach}
use Rattle.a64_laws.specs.Laws.Effects.Leaves.{Keeps}
use Rattle.a64_laws.specs.Laws.Effects.Kept.{keeps_same}
use Rattle.a64_laws.specs.Laws.Effects.EffectLeaves.{effect-led}
use Rattle.a64_laws.specs.Laws.Effects.Carried.{Carries, CarriesFrom, Carries-first, Carries-nil, Carries-cons, Carries-same}

-- what is within the first reach is within the second, PC aside
pub record IsNarrower (narrow wide : Reach) : Type 0 where
  pub registers : (n : ℕ) → wide.registers n ≡ false → narrow.registers n ≡ false
  pub sp : wide.sp ≡ false → narrow.sp ≡ false
  pub flags : wide.flags ≡ false → narrow.flags ≡ false
  pub bytes : (at : ℕ) → wide.bytes at ≡ false → narrow.bytes at ≡ false
  pub tags : (granule : ℕ) → wide.tags granule ≡ false → narrow.tags granule ≡ false
  pub draws : wide.draws ≡ false → narrow.draws ≡ false
  pub asks : wide.asks ≡ false → narrow.asks ≡ false

-- ---- what is kept

pub Keeps-wider : {narrow wide : Reach} {s t : State} → IsNarrower narrow wide → Keeps narrow s t → Keeps wide s t
Keeps-wider within k = record {
  registers = λ n h. k.registers n (within.registers n h);
  sp = λ h. k.sp (within.sp h);
  flags = λ h. k.flags (within.flags h);
  bytes = λ at h. k.bytes at (within.bytes at h);
  tags = λ granule h. k.tags granule (within.tags granule h);
  regions = k.regions;
  guard = k.guard;
  choices = k.choices;
  drawn = λ h. k.drawn (within.draws h);
  outside = λ h. k.outside (within.asks h);
}

pub Keeps-then : {r : Reach} {s t u : State} → Keeps r s t → Keeps r t u → Keeps r s u
Keeps-then first rest = record {
  registers = λ n h. rest.registers n h ∙ first.registers n h;
  sp = λ h. rest.sp h ∙ first.sp h;
  flags = λ h. rest.flags h ∙ first.flags h;
  bytes = λ at h. rest.bytes at h ∙ first.bytes at h;
  tags = λ granule h. rest.tags granule h ∙ first.tags granule h;
  regions = rest.regions ∙ first.regions;
  guard = rest.guard ∙ first.guard;
  choices = rest.choices ∙ first.choices;
  drawn = λ h. rest.drawn h ∙ first.drawn h;
  outside = λ h. rest.outside h ∙ first.outside h;
}

-- ---- lists of instructions

-- each of them reaches no further than this, where it is carried out
abbrev pub AllWithin : Reach → List Instr → State → Type 0
AllWithin r [] s = Unit {0}
AllWithin r (instr ∷ instrs) s = IsNarrower (reach instr s) r × ((t : State) → effect instr s ≡ Leads t → AllWithin r instrs t)

pub AllWithin-append : (r : Reach) (xs ys : List Instr) (s : State) → AllWithin r xs s → ((t : State) → Carries xs s t → AllWithin r ys t)
    → AllWithin r (xs ++ ys) s
AllWithin-append r [] ys s within behind = behind s (Carries-nil s)
AllWithin-append r (x ∷ xs) ys s within behind =
    (within.0, λ t leads. AllWithin-append r xs ys t (within.1 t leads) (λ u carries. behind u (Carries-cons leads carries)))

-- then they leave what lies further
pub Carries-keeps : (r : Reach) (instrs : List Instr) (s t : State) → AllWithin r instrs s → Carries instrs s t → Keeps r s t
Carries-keeps r [] s t within carries = subst (Keeps r s) (Carries-same (Carries-nil s) carries) (keeps_same r s)
Carries-keeps r (instr ∷ instrs) s t within carries =
    let parts : CarriesFrom instr instrs s t = Carries-first instr instrs s t carries in
    Keeps-then (Keeps-wider within.0 (effect-led instr parts.first).keeps)
    (Carries-keeps r instrs parts.next t (within.1 parts.next parts.first) parts.rest)
