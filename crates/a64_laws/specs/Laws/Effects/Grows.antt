-- What the sink has taken only grows (this project's own).
use Rattle.std.specs.Prelude.{◌≡◌, ℕ, false, List, [], ◌∷◌, ◌++◌, refl}
use Rattle.std.proofs.Common.{ap, sym, ◌∙◌}
use Rattle.std.proofs.lemmas.List.{append_assoc, append-nil}
use Rattle.a64_code.specs.declared.instr.Instr.{Instr}
use Rattle.a64_code.specs.declared.instr.Instr.TheVariants.{Svc}
use Rattle.a64_code.specs.Outside.{Outside}
use Rattle.a64_code.specs.State.{State}
use Rattle.a64_code.specs.Stepped.{Stepped, Leads, Ends}
use Rattle.a64_code.specs.Services.{low_byte, service}
use Rattle.a64_code.specs.Effect.{effect}
use Rattle.a64_laws.specs.Laws.Effects.Leaves.{Leaves, OnLeads}
use Rattle.a64_laws.specs.Laws.Effects.Kept.{service_leads}
use Rattle.a64_laws.specs.Laws.Effects.EffectLeaves.{effect-leaves}
use Rattle.a64_code.specs.Laws.Reach.{reach}

-- the output of the second state begins with that of the first
pub record Grows (s t : State) : Type 0 where
  pub put : List ℕ
  pub output : t.outside.output ≡ s.outside.output ++ put

pub Grows-same : (s t : State) → t.outside ≡ s.outside → Grows s t
Grows-same s t same = record { put = []; output = ap (λ (o : Outside). o.output) same ∙ sym (append-nil s.outside.output) }

pub Grows-then : {r s t : State} → Grows r s → Grows s t → Grows r t
Grows-then {r} {s} {t} first rest = record {
  put = first.put ++ rest.put;
  output = rest.output ∙ ap (λ (before : List ℕ). before ++ rest.put) first.output ∙ append_assoc r.outside.output first.put rest.put;
}

service-grows : (number : ℕ) (s : State) → OnLeads (service number s) (Grows s)
service-grows number s =
    service_leads (Grows s) number s (record { put = low_byte s ∷ []; output = refl })
    (record { put = []; output = sym (append-nil s.outside.output) })

-- it is the same where the instruction asks nothing
unasked : (instr : Instr) (s : State) (done : Stepped) → (reach instr s).asks ≡ false → OnLeads done (Leaves (reach instr s) s) →
    OnLeads done (Grows s)
unasked instr s (Leads t) silent left = Grows-same s t (left.keeps.outside silent)
unasked instr s (Ends end) silent left = tt

pub effect-grows : (instr : Instr) (s : State) → OnLeads (effect instr s) (Grows s)
effect-grows (Svc imm16) s = service-grows imm16 s
effect-grows instr s = unasked instr s (effect instr s) refl (effect-leaves instr s)
