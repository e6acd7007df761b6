-- What an instruction takes of the input: nothing, or the next byte (this project's own).
use Rattle.std.specs.Prelude.{◌≡◌, ℕ, false, List, [], ◌∷◌, ◌++◌, map, Option, Some, refl}
use Rattle.std.proofs.Common.{ap, sym, ◌∙◌}
use Rattle.std.proofs.lemmas.List.{append_assoc}
use Rattle.a64_code.specs.declared.instr.Instr.{Instr}
use Rattle.a64_code.specs.declared.instr.Instr.TheVariants.{Svc}
use Rattle.a64_code.specs.Outside.{Outside, left_after}
use Rattle.a64_code.specs.State.{State}
use Rattle.a64_code.specs.Stepped.{Stepped, Leads, Ends}
use Rattle.a64_code.specs.Services.{service}
use Rattle.a64_code.specs.Effect.{effect}
use Rattle.a64_laws.specs.Laws.Effects.Leaves.{Leaves, OnLeads}
use Rattle.a64_laws.specs.Laws.Effects.Kept.{service_leads}
use Rattle.a64_laws.specs.Laws.Effects.EffectLeaves.{effect-leaves}
use Rattle.a64_code.specs.Laws.Reach.{reach}

-- the answers are bytes, and those are left of these
pub record LeftOf (bytes : List ℕ) (answers : List (Option ℕ)) : Type 0 where
  pub taken : List ℕ
  pub left : List ℕ
  pub is : answers ≡ map Some left
  pub whole : bytes ≡ taken ++ left

-- where the first state has bytes to answer, the second has what is left of them
pub record Takes (s t : State) : Type 0 where
  pub input : (bytes : List ℕ) → s.outside.answers ≡ map Some bytes → LeftOf bytes t.outside.answers

pub LeftOf-all : (bytes : List ℕ) (answers : List (Option ℕ)) → answers ≡ map Some bytes → LeftOf bytes answers
LeftOf-all bytes answers is = record { taken = []; left = bytes; is = is; whole = refl }

pub Takes-same : (s t : State) → t.outside ≡ s.outside → Takes s t
Takes-same s t same = record { input = λ bytes is. LeftOf-all bytes t.outside.answers (ap (λ (o : Outside). o.answers) same ∙ is) }

-- what is left of those that were left
pub LeftOf-then : {bytes : List ℕ} {between after : List (Option ℕ)} (one : LeftOf bytes between) → LeftOf one.left after →
    LeftOf bytes after
LeftOf-then one two = record {
  taken = one.taken ++ two.taken;
  left = two.left;
  is = two.is;
  whole = one.whole ∙ ap (λ (left : List ℕ). one.taken ++ left) two.whole ∙ sym (append_assoc one.taken two.taken two.left);
}

pub Takes-then : {r s t : State} → Takes r s → Takes s t → Takes r t
Takes-then first rest = record { input = λ bytes is. let one = first.input bytes is in LeftOf-then one (rest.input one.left one.is) }

one_taken : (answers : List (Option ℕ)) (bytes : List ℕ) → answers ≡ map Some bytes → LeftOf bytes (left_after answers)
one_taken answers [] is = record { taken = []; left = []; is = ap left_after is; whole = refl }
one_taken answers (byte ∷ bytes) is = record { taken = byte ∷ []; left = bytes; is = ap left_after is; whole = refl }

service-takes : (number : ℕ) (s : State) → OnLeads (service number s) (Takes s)
service-takes number s =
    service_leads (Takes s) number s (record { input = λ bytes is. LeftOf-all bytes s.outside.answers is })
    (record { input = λ bytes is. one_taken s.outside.answers bytes is })

-- it is the same where the instruction asks nothing
unasked : (instr : Instr) (s : State) (done : Stepped) → (reach instr s).asks ≡ false → OnLeads done (Leaves (reach instr s) s) →
    OnLeads done (Takes s)
unasked instr s (Leads t) silent left = Takes-same s t (left.keeps.outside silent)
unasked instr s (Ends end) silent left = tt

pub effect-takes : (instr : Instr) (s : State) → OnLeads (effect instr s) (Takes s)
effect-takes (Svc imm16) s = service-takes imm16 s
effect-takes instr s = unasked instr s (effect instr s) refl (effect-leaves instr s)
