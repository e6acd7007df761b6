-- Turns that put or take a byte, and the last one.
use Rattle.std.proofs.Common.{◌≡◌, refl, sym, subst, ap, ◌∙◌, append_assoc, append-nil, ℕ, List, [], ◌∷◌, ◌++◌}
use Rattle.std.proofs.Common.{zero, suc, Option, Some, None, Ok}
use Rattle.std.specs.Prelude.{◌%◌, ◌^◌, ◌-◌, take}
use Rattle.c_ast.specs.declared.token.Span.{Span}
use Rattle.c_type_base.specs.declared.expr.Callee.TheVariants as callee
use Rattle.block_meaning.specs.Expressions.{take_byte, first_number}
use Rattle.block_meaning.specs.Laws.Steady.{begins-itself, begins-through}
use Rattle.block_meaning.specs.Laws.Steady as steady
use Rattle.block_meaning.specs.Meaning.{outcome_of}
use Rattle.block_meaning.specs.Running.{Program, Context, State, Result, Goes, Stops}
use Rattle.block_meaning.specs.Values.{number_in}
use Rattle.block_meaning.specs.declared.value.Value.{Value}
use Rattle.block_meaning.specs.declared.value.Value.TheVariants.{Number, NoValue}
use Rattle.mean_machine.specs.Frames.{Machine, Runs, Ended, GivesValue, Frame}
use Rattle.mean_machine.specs.Going.{go_by, value}
use Rattle.mean_machine.specs.Laws.Computes.{Leads}
use Rattle.mean_machine.specs.Laws.Programs.{last}
use Rattle.mean_machine.specs.Laws.Putting.{put_by}
use Rattle.mean_machine.specs.Laws.PuttingOn.{leads-puts}
use Rattle.mean_machine.specs.Laws.Resting.{leads-rests}
use Rattle.mean_expressions.specs.Stacked.{Stacked, World, standing}
use Rattle.mean_run.specs.Processes.{IsProcess, world_of}
use Rattle.mean_expressions.specs.declared.frames.Control.{Control}
use Rattle.mean_expressions.specs.declared.frames.Control.TheVariants as control
use Rattle.mean_run.specs.declared.process.Process.{Process}
use Rattle.mean_program.specs.Answers.{Begins, PutPart, MeanGives}
use Rattle.mean_program.specs.Held.{Aim, Holds}
use Rattle.mean_program.specs.declared.end.MeanEnd.TheVariants as end
use Rattle.std.specs.Global.{Vec}

abbrev IsNil : {A : Type 0} → List A → Type 0
IsNil [] = Unit {0}
IsNil (x ∷ xs) = ⊥

-- ---- what was put is a part of what is put at the end

last_puts : (program : Program) (r : Result Value) → put_by (last program r) ≡ (outcome_of r).output
last_puts program (Goes v now) = refl
last_puts program (Stops why now) = refl

pub begins_so : {xs ys : List ℕ} → steady.Begins xs ys → Begins xs ys
begins_so begins = record { rest = begins.rest; is = begins.is }

pub leads-begins : (aim : Aim) (m : Machine) → Leads m (last aim.program aim.result) → Begins (put_by m) (outcome_of aim.result).output
leads-begins aim m leads =
    subst (λ x. Begins (put_by m) x) (last_puts aim.program aim.result) (begins_so (leads-puts leads))

-- ---- the code shows the same where only the outside differs

shown_with : (p : Process) (here : Context) (k : List Frame) (now : State) (input output : List ℕ) → IsProcess p here k now →
    IsProcess p here k (record now { input = input; output = output })
shown_with p here k now input output is = record {
  at = is.at;
  stack = is.stack;
  shown = record { memory = is.shown.memory; work = is.shown.work; calls = is.shown.calls };
}

-- ---- a byte is put

pub turn-puts : (aim : Aim) (p : Process) (span : Span) (vs : Vec Value) (input output after : Option (List ℕ)) →
    Holds aim p (control.Call span callee.Putchar vs) input output →
    ((taken : List ℕ) → output ≡ Some taken → after ≡ Some (taken ++ first_number vs.items % 256 ∷ [])) →
    Holds aim p (control.GivesValue (Number (first_number vs.items % 256))) input after
turn-puts aim p span vs input output after holds puts =
    let b = first_number vs.items % 256 in
    record {
      here = holds.here;
      waiting = holds.waiting;
      now = record holds.now { output = holds.now.output ++ b ∷ [] };
      is = shown_with p holds.here holds.waiting holds.now holds.now.input (holds.now.output ++ b ∷ []) holds.is;
      leads = holds.leads;
      left = holds.left;
      taken = puts _ holds.taken ∙ ap Some (append_assoc aim.before holds.now.output (b ∷ []));
    }

-- what of one byte the sink took
took_part : (count b : ℕ) (xs : List ℕ) → Begins (xs ++ take count (b ∷ [])) (xs ++ b ∷ [])
took_part zero b xs = record { rest = b ∷ []; is = ap (λ x. x ++ b ∷ []) (sym (append-nil xs)) }
took_part (suc zero) b xs = record { rest = []; is = sym (append-nil (xs ++ b ∷ [])) }
took_part (suc (suc count)) b xs = record { rest = []; is = sym (append-nil (xs ++ b ∷ [])) }

pub begins_on : {xs ys zs : List ℕ} → Begins xs ys → Begins ys zs → Begins xs zs
begins_on {xs = xs} first second = record {
  rest = first.rest ++ second.rest;
  is = second.is ∙ ap (λ l. l ++ second.rest) first.is ∙ append_assoc xs first.rest second.rest;
}

-- the sink failed
pub turn-unput : (aim : Aim) (p : Process) (span : Span) (vs : Vec Value) (input output after : Option (List ℕ)) (count : ℕ) →
    Holds aim p (control.Call span callee.Putchar vs) input output →
    ((taken : List ℕ) → output ≡ Some taken → after ≡ Some (taken ++ take count (first_number vs.items % 256 ∷ []))) →
    PutPart aim.before (outcome_of aim.result) after
turn-unput aim p span vs input output after count holds puts =
    let b = first_number vs.items % 256 in
    record {
      part = holds.now.output ++ take count (b ∷ []);
      put = puts _ holds.taken ∙ ap Some (append_assoc aim.before holds.now.output (take count (b ∷ [])));
      begins = begins_on (took_part count b holds.now.output) (leads-begins aim _ holds.leads);
    }

-- ---- a byte is taken

abbrev taken_from : Context → List Frame → List ℕ → State → Machine
taken_from here k xs now = go_by (take_byte (record now { input = xs })) (value here k)

took_one : (here : Context) (k : List Frame) (now : State) (b : ℕ) (rest xs : List ℕ) → xs ≡ b ∷ rest →
    taken_from here k xs now ≡ value here k (Number b) (record now { input = rest })
took_one here k now b rest xs same =
    subst (λ x. taken_from here k x now ≡ value here k (Number b) (record now { input = rest })) (sym same) refl

took_none : (here : Context) (k : List Frame) (now : State) (xs : List ℕ) → xs ≡ [] →
    taken_from here k xs now ≡ value here k (Number (2 ^ 64 - 1)) (record now { input = [] })
took_none here k now xs same =
    subst (λ x. taken_from here k x now ≡ value here k (Number (2 ^ 64 - 1)) (record now { input = [] })) (sym same) refl

abbrev or_none : Option (List ℕ) → List ℕ
or_none (Some xs) = xs
or_none None = []

pub turn-takes : (aim : Aim) (p : Process) (span : Span) (vs : Vec Value) (output : Option (List ℕ)) (b : ℕ) (rest : List ℕ) →
    Holds aim p (control.Call span callee.Getchar vs) (Some (b ∷ rest)) output →
    Holds aim p (control.GivesValue (Number b)) (Some rest) output
turn-takes aim p span vs output b rest holds = record {
  here = holds.here;
  waiting = holds.waiting;
  now = record holds.now { input = rest };
  is = shown_with p holds.here holds.waiting holds.now rest holds.now.output holds.is;
  leads = subst (λ m. Leads m (last aim.program aim.result))
      (took_one holds.here holds.waiting holds.now b rest holds.now.input (sym (ap or_none holds.left))) holds.leads;
  left = refl;
  taken = holds.taken;
}

pub turn-ends-input : (aim : Aim) (p : Process) (span : Span) (vs : Vec Value) (output : Option (List ℕ)) →
    Holds aim p (control.Call span callee.Getchar vs) (Some []) output →
    Holds aim p (control.GivesValue (Number (2 ^ 64 - 1))) (Some []) output
turn-ends-input aim p span vs output holds = record {
  here = holds.here;
  waiting = holds.waiting;
  now = record holds.now { input = [] };
  is = shown_with p holds.here holds.waiting holds.now [] holds.now.output holds.is;
  leads = subst (λ m. Leads m (last aim.program aim.result))
      (took_none holds.here holds.waiting holds.now holds.now.input (sym (ap or_none holds.left))) holds.leads;
  left = refl;
  taken = holds.taken;
}

-- what was put so far, where a call of the outside or of the host fails
pub turn-fails : (aim : Aim) (p : Process) (c : Control) (input output : Option (List ℕ)) → Holds aim p c input output →
    ((here : Context) (k : List Frame) (now : State) → Begins now.output (put_by (standing c here k now))) →
    PutPart aim.before (outcome_of aim.result) output
turn-fails aim p c input output holds begins = record {
  part = holds.now.output;
  put = holds.taken;
  begins = begins_on (begins holds.here holds.waiting holds.now) (leads-begins aim _ holds.leads);
}

-- ---- the last turn

not_empty : {A : Type 0} (front : List A) (top : A) → [] ≡ front ++ top ∷ [] → ⊥
not_empty [] top same = subst IsNil same tt
not_empty (x ∷ front) top same = subst IsNil same tt

nothing_waits : (k : List Frame) (w : World) (here : Context) → Stacked k [] w here → k ≡ []
nothing_waits [] w here stacked = refl
nothing_waits (g ∷ k) w here stacked = absurd (not_empty stacked.front stacked.top stacked.is)

abbrev value_in : Machine → Value
value_in (Runs (GivesValue v) here k now) = v
value_in _ = NoValue

abbrev state_in : Machine → State → State
state_in (Runs c here k now) other = now
state_in (Ended why now) other = other

abbrev IsRunning : Machine → Type 0
IsRunning (Runs c here k now) = Unit {0}
IsRunning (Ended why now) = ⊥

done_so : (aim : Aim) (r : Result Value) (here : Context) (v : Value) (now : State) (input output : Option (List ℕ)) →
    Runs (GivesValue v) here [] now ≡ last aim.program r → input ≡ Some now.input → output ≡ Some (aim.before ++ now.output) →
    MeanGives aim.before (outcome_of r) (Ok (end.Done (number_in v % 256))) input output
done_so aim (Stops why other) here v now input output same left taken = absurd (subst IsRunning same tt)
done_so aim (Goes u other) here v now input output same left taken =
    let states : now ≡ other = ap (λ m. state_in m now) same in (
      ap (λ m. number_in (value_in m) % 256) same,
      record {
        input_left = left ∙ ap (λ x. Some x.input) states;
        put = taken ∙ ap (λ x. Some (aim.before ++ x.output)) states;
      },
    )

pub turn-done : (aim : Aim) (p : Process) (v : Value) (input output : Option (List ℕ)) → p.stack.items ≡ [] →
    Holds aim p (control.GivesValue v) input output →
    MeanGives aim.before (outcome_of aim.result) (Ok (end.Done (number_in v % 256))) input output
turn-done aim p v input output empty holds =
    let none : holds.waiting ≡ [] = nothing_waits holds.waiting (world_of p) holds.here
    (subst (λ x. Stacked holds.waiting x (world_of p) holds.here) empty holds.is.stack) in
    let rests : Leads (Runs (GivesValue v) holds.here [] holds.now) (last aim.program aim.result) =
    subst (λ k. Leads (Runs (GivesValue v) holds.here k holds.now) (last aim.program aim.result)) none holds.leads in
    done_so aim aim.result holds.here v holds.now input output (leads-rests refl rests) holds.left holds.taken
