-- What is refused, and what is not.
use Rattle.std.proofs.Common.{◌≡◌, ◌⊎◌, ℕ, List, inl, inr}
use Rattle.c_type_base.specs.declared.typed.Typed.{Typed}
use Rattle.frame_plan.specs.declared.refusal.PlanRefusal.{PlanRefusal}
use Rattle.frame_plan.specs.declared.refusal.PlanRefusal.TheVariants.{NoMemory}
use Rattle.frame_plan.specs.Lines.{lines}
use Rattle.frame_plan.specs.Refusal.{HasNoText, HasSizes}
use Rattle.frame_plan.specs.Laws.OneText.{one_fault, no_fault, sized_text}

pub refused_so : (typed : Typed) (e : PlanRefusal) → (e ≡ NoMemory) ⊎ HasNoText typed e → (fault : PlanRefusal) → HasNoText typed fault →
    (e ≡ fault) ⊎ (e ≡ NoMemory)
refused_so typed e (inl none) fault h = inr none
refused_so typed e (inr first) fault h = inl (one_fault typed e fault first h)

pub not_refused : (typed : Typed) (sizes : List ℕ) → HasSizes typed sizes → (fault : PlanRefusal) → HasNoText typed fault → ⊥
not_refused typed sizes found fault h = no_fault typed (lines typed) fault (sized_text typed sizes found) h
