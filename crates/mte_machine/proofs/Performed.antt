-- What an instruction does once memory has answered.
use Rattle.std.proofs.Common.{◌≡◌, Option, Some, None, Result, Ok, Err, subst, refl, ap, ◌∙◌}
use Rattle.a64_code.specs.State.{State, advanced}
use Rattle.a64_code.specs.Stepped.{Leads, unless}
use Rattle.a64_code.specs.declared.end.MachineEnd.{MachineEnd}
use Rattle.mte_machine.specs.declared.step.Step.{Step}
use Rattle.mte_machine.specs.declared.step.Step.TheVariants.{Ran, Ended}
use Rattle.mte_machine.specs.Run.{StepsAs}
use Rattle.mte_machine.specs.Accesses.{gives, Performs}
use Rattle.mte_machine.specs.Written.{FollowsWrite}

-- what was read leads to the state that it makes
pub loaded : {A : Type 0} (end : Option MachineEnd) (is value : A) (next : A → State) (old new : State) (answer : Step) →
    Ok value ≡ gives end is →
    (answer ≡ Ran) × (new ≡ next value) → StepsAs (unless end (next is)) old answer new
loaded {A} None is value next old new answer read went =
    let same : value ≡ is = cc in subst (λ (v : A). StepsAs (Leads (next v)) old answer new) same went
loaded {A} (Some end) is value next old new answer read went = let differ : ◌≡◌ {A = Result A MachineEnd} (Ok value) (Err end) = read in
    absurd (cc)

-- a read that was refused ends the run
pub not_loaded : {A : Type 0} (end : Option MachineEnd) (is : A) (fault : MachineEnd) (next old : State) → Err fault ≡ gives end is →
    StepsAs (unless end next) old (Ended fault) old
not_loaded {A} None is fault next old read = let differ : ◌≡◌ {A = Result A MachineEnd} (Err fault) (Ok is) = read in absurd (cc)
not_loaded {A} (Some end) is fault next old read = let same : ◌≡◌ {A = Result A MachineEnd} (Err fault) (Err end) = read in
    let ends : fault ≡ end = cc in (ap Ended ends, refl)

-- a write is done and the next instruction follows, or it ends the run
pub stored : (end : Option MachineEnd) (next old between new : State) (outcome : Result (Unit {0}) MachineEnd) (answer : Step) →
    Performs (unless end next) old outcome between → FollowsWrite outcome between answer new →
    StepsAs (unless end (advanced next)) old answer new
stored None next old between new (Ok done) answer wrote went = (went.0, went.1 ∙ ap advanced wrote.1)
stored None next old between new (Err fault) answer wrote went =
    let differ : ◌≡◌ {A = Result (Unit {0}) MachineEnd} (Err fault) (Ok tt) = wrote.0 in absurd (cc)
stored (Some end) next old between new (Ok done) answer wrote went =
    let differ : ◌≡◌ {A = Result (Unit {0}) MachineEnd} (Ok done) (Err end) = wrote.0 in absurd (cc)
stored (Some end) next old between new (Err fault) answer wrote went =
    let same : ◌≡◌ {A = Result (Unit {0}) MachineEnd} (Err fault) (Err end) = wrote.0 in let ends : fault ≡ end = cc in
    (went.0 ∙ ap Ended ends, went.1 ∙ wrote.1)
