-- What no step changes: regions, guard, choices, and what cannot be written (this project's own).
use Rattle.std.specs.Prelude.{◌≡◌, ℕ, zero, suc, true, Option, Some, None, refl}
use Rattle.std.proofs.Common.{ap, ◌∙◌, subst}
use Rattle.mt_base.specs.Granules.{granule_of}
use Rattle.mt_base.specs.Memory.{is_protected}
use Rattle.a64_code.specs.declared.instr.Instr.{Instr}
use Rattle.a64_code.specs.State.{State}
use Rattle.a64_code.specs.Stepped.{Leads}
use Rattle.a64_code.specs.Effect.{effect}
use Rattle.a64_code.specs.Step.{fetched, carried_out, step}
use Rattle.a64_laws.specs.Laws.Effects.EffectLeaves.{effect-led}
use Rattle.mte_machine.specs.Run.{Running, Steps}
use Rattle.mte_machine.specs.Laws.Steps.{Steps-first}

-- regions, guard and choices are the same, and so is each byte that cannot be written, and the tag of its granule
pub record Fixed (s t : State) : Type 0 where
  pub regions : t.regions ≡ s.regions
  pub guard : t.guard ≡ s.guard
  pub choices : t.choices ≡ s.choices
  pub bytes : (a : ℕ) → is_protected s.regions a ≡ true → t.byte a ≡ s.byte a
  pub tags : (a : ℕ) → is_protected s.regions a ≡ true → t.tag (granule_of a) ≡ s.tag (granule_of a)

pub Fixed-same : (s : State) → Fixed s s
Fixed-same s = record { regions = refl; guard = refl; choices = refl; bytes = λ a h. refl; tags = λ a h. refl }

pub Fixed-then : {r s t : State} → Fixed r s → Fixed s t → Fixed r t
Fixed-then {r} {s} {t} first rest = record {
  regions = rest.regions ∙ first.regions;
  guard = rest.guard ∙ first.guard;
  choices = rest.choices ∙ first.choices;
  bytes = λ a h. rest.bytes a (ap (λ regions. is_protected regions a) first.regions ∙ h) ∙ first.bytes a h;
  tags = λ a h. rest.tags a (ap (λ regions. is_protected regions a) first.regions ∙ h) ∙ first.tags a h;
}

pub Fixed-effect : (instr : Instr) {s t : State} → effect instr s ≡ Leads t → Fixed s t
Fixed-effect instr {s} {t} leads = let left = effect-led instr leads in record {
  regions = left.keeps.regions;
  guard = left.keeps.guard;
  choices = left.keeps.choices;
  bytes = λ a h. left.keeps.bytes a (left.protected.bytes a h);
  tags = λ a h. left.keeps.tags (granule_of a) (left.protected.tags a h);
}

pub Fixed-step : {s t : State} → step s ≡ Leads t → Fixed s t
Fixed-step {s} {t} leads = by_instr (fetched s) leads
  where
    by_instr : (instr : Option Instr) → carried_out instr s ≡ Leads t → Fixed s t
    by_instr None led = absurd (cc)
    by_instr (Some instr) led = Fixed-effect instr led

pub Fixed-Steps : (n : ℕ) {s t : State} → Steps n s t → Fixed s t
Fixed-Steps zero {s} {t} steps = let running : Running s ≡ Running t = steps.runs in let same : s ≡ t = cc in
    subst (Fixed s) same (Fixed-same s)
Fixed-Steps (suc n) {s} {t} steps = let parts = Steps-first n s t steps in Fixed-then (Fixed-step parts.first) (Fixed-Steps n parts.rest)
