-- A step over an outside that may fail, beside the same step over the same outside of which nothing fails (this project's own).
use Rattle.std.specs.Prelude.{◌≡◌, ℕ, ◌==◌, Bool, true, false, if◌then◌else◌, List, [], ◌∷◌, ◌++◌, Option, Some, None, refl}
use Rattle.std.proofs.Common.{sym, subst}
use Rattle.a64_code.specs.declared.instr.Instr.{Instr}
use Rattle.a64_code.specs.declared.instr.Instr.TheVariants.{Svc}
use Rattle.a64_code.specs.declared.end.MachineEnd.TheVariants.{Exited, BadCode, Divide, InputFault, OutputFault}
use Rattle.a64_code.specs.Outside.{Outside, fails_now}
use Rattle.a64_code.specs.State.{State}
use Rattle.a64_code.specs.Stepped.{Stepped, Leads, Ends}
use Rattle.a64_code.specs.Services.{low_byte, put_state, next_state, put_service, next_service, service}
use Rattle.a64_code.specs.Effect.{effect}
use Rattle.a64_code.specs.Step.{fetched, carried_out, step}
use Rattle.a64_code.specs.Laws.Ends.{EndsInside, effect_inside}
use Rattle.a64_laws.specs.Laws.Effects.OtherOutside.{over, leads_over, effect-over, fetched-over}

-- the outside of which no call fails any more
abbrev pub unfailing : Outside → Outside
unfailing o = record o { next_failure = None; put_failure = None }

abbrev pub unfailed : State → State
unfailed s = over unfailing s

-- it leads on, and the sink has then taken these bytes
pub record LeadsOnWith (output : List ℕ) (done : Stepped) : Type 0 where
  pub next : State
  pub leads : done ≡ Leads next
  pub output_is : next.outside.output ≡ output

-- By what is done from a state, what is done where nothing fails: the same, but for a call that fails. There it leads on,
-- and a put has put its byte.
abbrev pub DoesSame : State → Stepped → Stepped → Type 0
DoesSame s (Leads t) there = there ≡ Leads (unfailed t)
DoesSame s (Ends InputFault) there = LeadsOnWith s.outside.output there
DoesSame s (Ends OutputFault) there = LeadsOnWith (s.outside.output ++ low_byte s ∷ []) there
DoesSame s (Ends end) there = there ≡ Ends end

service-unfailed : (number : ℕ) (s : State) → DoesSame s (service number s) (service number (unfailed s))
service-unfailed number s = by_number (number == 1) (number == 2) (number == 3) (number == 4)
  where
    put_unfailed : (fails : Bool) →
        DoesSame s (if fails then Ends OutputFault else Leads (put_state s)) (put_service (unfailed s))
    put_unfailed true = record { next = _; leads = refl; output_is = refl }
    put_unfailed false = refl

    next_unfailed : (fails : Bool) →
        DoesSame s (if fails then Ends InputFault else Leads (next_state s)) (next_service (unfailed s))
    next_unfailed true = record { next = _; leads = refl; output_is = refl }
    next_unfailed false = refl

    by_number : (first second third fourth : Bool) →
        DoesSame s
        (if first then put_service s else if second then next_service s else if third then Ends
        (Exited (low_byte s)) else if fourth then Ends Divide else Ends (BadCode s.pc))
        (if first then put_service (unfailed s) else if second then next_service (unfailed s) else if third then Ends
        (Exited (low_byte s)) else if fourth then Ends Divide else Ends (BadCode s.pc))
    by_number true second third fourth = put_unfailed (fails_now s.outside.put_failure)
    by_number false true third fourth = next_unfailed (fails_now s.outside.next_failure)
    by_number false false true fourth = refl
    by_number false false false true = refl
    by_number false false false false = refl

inside_same : (s : State) (done there : Stepped) → EndsInside done → there ≡ leads_over unfailing done → DoesSame s done there
inside_same s (Leads t) there inside is = is
inside_same s (Ends InputFault) there inside is = absurd inside
inside_same s (Ends OutputFault) there inside is = absurd inside
inside_same s (Ends end) there inside is = is

pub effect-unfailed : (instr : Instr) (s : State) → DoesSame s (effect instr s) (effect instr (unfailed s))
effect-unfailed (Svc imm16) s = service-unfailed imm16 s
effect-unfailed instr s = inside_same s (effect instr s) (effect instr (unfailed s)) (effect_inside instr s refl)
    (effect-over unfailing instr s refl)

pub step-unfailed : (s : State) → DoesSame s (step s) (step (unfailed s))
step-unfailed s = subst (λ (found : Option Instr). DoesSame s (step s) (carried_out found (unfailed s))) (sym (fetched-over unfailing s))
    (by_instr (fetched s))
  where
    by_instr : (instr : Option Instr) → DoesSame s (carried_out instr s) (carried_out instr (unfailed s))
    by_instr None = refl
    by_instr (Some instr) = effect-unfailed instr s
