-- A turn of the code, from what the run keeps to what it keeps or gives.
use Rattle.std.proofs.Common.{◌≡◌, refl, sym, subst, ap, ◌∙◌, inl, inr, ℕ, List, ◌++◌, Option, Some, Result, Ok, Err}
use Rattle.block_meaning.specs.Laws.Settled.{IsWhole}
use Rattle.block_meaning.specs.Meaning.{outcome_of}
use Rattle.block_meaning.specs.Running.{Program, Context, State, Stop, Divide, Deep, More, IsUndefined, Stuck}
use Rattle.block_meaning.specs.Running as meaning
use Rattle.block_meaning.specs.declared.value.Value.{Value}
use Rattle.mean_machine.specs.Frames.{Machine, Runs, Ended}
use Rattle.mean_machine.specs.Laws.Computes.{Leads}
use Rattle.mean_machine.specs.Laws.Programs.{last}
use Rattle.mean_machine.specs.Laws.Resting.{leads-rests}
use Rattle.mean_effects.specs.Shown.{Quiet, EndsAs}
use Rattle.mean_expressions.specs.Stacked.{Sticks, StopsBy}
use Rattle.mean_run.specs.Processes.{Moved, MovesBy}
use Rattle.mean_expressions.specs.declared.frames.Control.{Control}
use Rattle.mean_effects.specs.declared.now.Ending.{Ending}
use Rattle.mean_effects.specs.declared.now.Ending.TheVariants as ending
use Rattle.mean_run.specs.declared.process.Process.{Process}
use Rattle.mean_program.specs.Answers.{Begins, Leaves, PutPart, MeanGives}
use Rattle.mean_program.specs.Held.{Aim, Holds, TurnGives}
use Rattle.mean_program.specs.declared.turn.Turn.{Turn}
use Rattle.mean_program.specs.declared.turn.Turn.TheVariants.{Goes, Ends}
use Rattle.mean_program.specs.declared.end.MeanEnd.{MeanEnd}
use Rattle.mean_program.specs.declared.end.MeanEnd.TheVariants as end
use Rattle.mean_program.specs.declared.end.MeanFault.{MeanFault}
use Rattle.mean_program.specs.declared.end.MeanFault.TheVariants as fault

-- the answer that a stop is
abbrev pub end_of : Ending → Result MeanEnd MeanFault
end_of ending.Divide = Ok end.Divide
end_of ending.Deep = Ok end.Deep
end_of ending.More = Ok end.More
end_of (ending.Undefined why file span) = Ok (end.Undefined why file span)
end_of ending.NoMemory = Err fault.NoMemory

-- ---- the machine never sticks

not_stuck : (program : Program) (r : meaning.Result Value) → IsWhole r → Sticks (last program r) → ⊥
not_stuck program (meaning.Goes v now) whole sticks = sticks
not_stuck program (meaning.Stops Stuck now) whole sticks = whole
not_stuck program (meaning.Stops Divide now) whole sticks = sticks
not_stuck program (meaning.Stops Deep now) whole sticks = sticks
not_stuck program (meaning.Stops More now) whole sticks = sticks
not_stuck program (meaning.Stops (IsUndefined u) now) whole sticks = sticks

never_sticks : (aim : Aim) (m : Machine) → Leads m (last aim.program aim.result) → Sticks m → ⊥
never_sticks aim (Runs d there k after) leads sticks = sticks
never_sticks aim (Ended why after) leads sticks =
    not_stuck aim.program aim.result aim.whole (subst Sticks (leads-rests refl leads) sticks)

-- ---- a step goes on

-- the machine stands so, and the outside is as it was
moved_on : (aim : Aim) (p : Process) (c : Control) (m : Machine) (before : State) (input output : Option (List ℕ)) →
    Leads m (last aim.program aim.result) → input ≡ Some before.input → output ≡ Some (aim.before ++ before.output) →
    Moved p before c m → Holds aim p c input output
moved_on aim p c m before input output leads left taken moved = record {
  here = moved.there;
  waiting = moved.stood.frames_below;
  now = moved.stood.after;
  is = record { at = moved.at; stack = moved.stood.stack; shown = moved.stood.now };
  leads = subst (λ x. Leads x (last aim.program aim.result)) moved.stood.is leads;
  left = left ∙ ap Some (sym moved.stood.quiet.input);
  taken = taken ∙ ap (λ x. Some (aim.before ++ x)) (sym moved.stood.quiet.output);
}

-- ---- a step ends

abbrev IsEnded : Machine → Type 0
IsEnded (Runs c here k now) = ⊥
IsEnded (Ended why now) = Unit {0}

abbrev stop_of : Machine → Stop
stop_of (Runs c here k now) = Stuck
stop_of (Ended why now) = why

abbrev state_in : Machine → State
state_in (Runs c here k now) = now
state_in (Ended why now) = now

abbrev stopped : Stop → State → meaning.Result Value
stopped why now = meaning.Stops why now

-- what is left of the input, and what was put, where the outside is as it was
leaves_so : (before : List ℕ) (why : Stop) (then_ now : State) (input output : Option (List ℕ)) → input ≡ Some then_.input →
    output ≡ Some (before ++ then_.output) → Quiet then_ now → Leaves before (outcome_of (meaning.Stops why now)) input output
leaves_so before why then_ now input output left taken quiet = record {
  input_left = left ∙ ap Some (sym quiet.input);
  put = taken ∙ ap (λ x. Some (before ++ x)) (sym quiet.output);
}

-- what was put so far, after a fault
part_so : (before : List ℕ) (r : meaning.Result Value) (then_ : State) (output : Option (List ℕ)) →
    output ≡ Some (before ++ then_.output) → Begins then_.output (outcome_of r).output → PutPart before (outcome_of r) output
part_so before r then_ output taken begins = record { part = then_.output; put = taken; begins = begins }

stops_so : (before : List ℕ) (e : Ending) (why : Stop) (then_ now : State) (input output : Option (List ℕ)) →
    IsWhole (stopped why now) → input ≡ Some then_.input → output ≡ Some (before ++ then_.output) →
    Begins then_.output now.output → EndsAs e why then_ now →
    MeanGives before (outcome_of (meaning.Stops why now)) (end_of e) input output
stops_so before e Stuck then_ now input output whole left taken begins ends = absurd whole
stops_so before ending.NoMemory why then_ now input output whole left taken begins ends =
    part_so before (meaning.Stops why now) then_ output taken begins
stops_so before ending.Divide Divide then_ now input output whole left taken begins ends =
    (tt, leaves_so before Divide then_ now input output left taken ends)
stops_so before ending.Divide _ then_ now input output whole left taken begins ends = absurd ends
stops_so before ending.Deep Deep then_ now input output whole left taken begins ends =
    (tt, leaves_so before Deep then_ now input output left taken ends)
stops_so before ending.Deep _ then_ now input output whole left taken begins ends = absurd ends
stops_so before ending.More More then_ now input output whole left taken begins ends =
    (tt, leaves_so before More then_ now input output left taken ends)
stops_so before ending.More _ then_ now input output whole left taken begins ends = absurd ends
stops_so before (ending.Undefined why file span) (IsUndefined u) then_ now input output whole left taken begins ends =
    ((ends.0, ends.1, ends.2), leaves_so before (IsUndefined u) then_ now input output left taken ends.3)
stops_so before (ending.Undefined why file span) _ then_ now input output whole left taken begins ends = absurd ends

-- the machine has ended, and so has the code
ends_by : (aim : Aim) (r : meaning.Result Value) → IsWhole r → (e : Ending) (why : Stop) (then_ after : State)
    (input output : Option (List ℕ)) → Ended why after ≡ last aim.program r → input ≡ Some then_.input →
    output ≡ Some (aim.before ++ then_.output) → Begins then_.output (outcome_of r).output → EndsAs e why then_ after →
    MeanGives aim.before (outcome_of r) (end_of e) input output
ends_by aim (meaning.Goes v now) whole e why then_ after input output same left taken begins ends = absurd (subst IsEnded same tt)
ends_by aim (meaning.Stops other now) whole e why then_ after input output same left taken begins ends =
    stops_so aim.before e other then_ now input output whole left taken begins
    (subst (λ x. EndsAs e other then_ x) (ap state_in same) (subst (λ x. EndsAs e x then_ after) (ap stop_of same) ends))

stops_by : (aim : Aim) (e : Ending) (m : Machine) (then_ : State) (input output : Option (List ℕ)) →
    Leads m (last aim.program aim.result) → input ≡ Some then_.input → output ≡ Some (aim.before ++ then_.output) →
    Begins then_.output (outcome_of aim.result).output → StopsBy then_ e m →
    MeanGives aim.before (outcome_of aim.result) (end_of e) input output
stops_by aim ending.NoMemory (Runs d there k after) then_ input output leads left taken begins stops =
    part_so aim.before aim.result then_ output taken begins
stops_by aim _ (Runs d there k after) then_ input output leads left taken begins stops = absurd stops
stops_by aim e (Ended why after) then_ input output leads left taken begins stops =
    ends_by aim aim.result aim.whole e why then_ after input output (leads-rests refl leads) left taken begins stops

-- ---- turns

-- what follows an answer of the code
abbrev pub after : Result Control Ending → Turn
after (Ok c) = Goes c
after (Err e) = Ends (end_of e)

-- the code moved as the machine did, which leads to the run's end
pub turn-moves : (aim : Aim) (p : Process) (r : Result Control Ending) (m : Machine) (then_ : State) (input output : Option (List ℕ)) →
    Leads m (last aim.program aim.result) → input ≡ Some then_.input → output ≡ Some (aim.before ++ then_.output) →
    Begins then_.output (outcome_of aim.result).output → MovesBy p then_ r m → TurnGives aim p (after r) input output
turn-moves aim p (Ok c) m then_ input output leads left taken begins (inl moved) =
    moved_on aim p c m then_ input output leads left taken moved
turn-moves aim p (Ok c) m then_ input output leads left taken begins (inr sticks) = absurd (never_sticks aim m leads sticks)
turn-moves aim p (Err e) m then_ input output leads left taken begins stops =
    stops_by aim e m then_ input output leads left taken begins stops
