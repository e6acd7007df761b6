-- The end of a call: from where the exit of a function stands, with the value in X0, its steps lead back (this project's own).
use Rattle.std.specs.Prelude.{◌≡◌, ℕ, ◌%◌, ◌^◌, ◌<◌, ◌≤◌, ◌∷◌, refl}
use Rattle.std.proofs.Common.{arith, ap, sym, subst, ◌∙◌}
use Rattle.a64_code.specs.State.{State}
use Rattle.a64_laws.specs.Frames.{HasPair}
use Rattle.block_meaning.specs.declared.value.Value.{Value}
use Rattle.block_meaning.specs.Meaning.{open_bytes}
use Rattle.block_meaning.specs.ProgramsInOrder.{InOrder}
use Rattle.block_meaning.specs.Running.{Call, Context, Result, Goes, Stops, Divide, Deep, More, IsUndefined, Stuck}
use Rattle.block_meaning.specs.Running.{State as MeaningState}
use Rattle.code_runs.specs.Bounded.{Account, Room, Bounded}
use Rattle.code_runs.specs.Laws.Bounded.{IsWider-same, Reaches-changes}
use Rattle.code_runs.specs.Laws.Ranges.{IsInRange-Steps}
use Rattle.code_runs.specs.Within.{StepsWithin}
use Rattle.code_follows.specs.Laws.Stack.{stack_open}
use Rattle.code_relation.specs.Calls.{lowest, frame_of}
use Rattle.code_relation.specs.Follows.{Code, setting, Returns}
use Rattle.code_relation.specs.Injects.{Injects}
use Rattle.code_relation.specs.Kept.{KeepsAll}
use Rattle.code_relation.specs.Numbers.{Holds}
use Rattle.code_relation.specs.Outcomes.{outcome_of}
use Rattle.code_relation.specs.Relates.{Relates}
use Rattle.code_relation.specs.Sites.{Given, units_of}
use Rattle.code_relation.specs.Stands.{Stands, IsLocal}
use Rattle.code_relation.specs.Laws.Keeps.{KeepsAll-bytes, KeepsAll-then}
use Rattle.code_relation.specs.Laws.Lists.{get_within}
use Rattle.frame_layout.specs.declared.frame.Frame.{Frame}
use Rattle.gen_unit.specs.Functions.{exit}
use Rattle.stmt_follows.specs.Laws.Locals.Slots.{open_whole}
use Rattle.unit_follows.specs.Laws.Entering.{IsNewCall}
use Rattle.unit_follows.specs.Laws.ExitSteps.{IsAtExit, ExitDone, exit_done}
use Rattle.unit_follows.specs.Laws.Ended.{with_ended, moment, Holds-ended}
use Rattle.unit_follows.specs.Laws.Leaving.{Injects-left}
use Rattle.unit_follows.specs.Laws.Spares.Runs.{IsSince, IsKept}
use Rattle.unit_follows.specs.Laws.Standing.{Standing}

-- ---- what a run gives is told

-- where code does what a run does, and comes to something, the run has come to it too
pub Bounded-told : {A : Type 0} (c : Code) {a : Account} {room : A → Room} {s : State} {Q : A → MeaningState → State → Type 0}
    (r : Result A) → Bounded (setting c) a room s Q (outcome_of r) →
    Bounded (setting c) a room s (λ v last u. Q v last u × (r ≡ Goes v last)) (outcome_of r)
Bounded-told c {a} {room} (Goes v last) bounded = record {
  does = Reaches-changes (record { least = omega arith; most = omega arith }) (IsWider-same (room v)) (λ u holds. (holds, refl))
      bounded.does;
}
Bounded-told c (Stops Divide now) bounded = record { does = bounded.does }
Bounded-told c (Stops Deep now) bounded = record { does = bounded.does }
Bounded-told c (Stops More now) bounded = record { does = bounded.does }
Bounded-told c (Stops (IsUndefined u) now) bounded = record { does = bounded.does }
Bounded-told c (Stops Stuck now) bounded = record { does = tt }

-- ---- as the call was made

pub since_made : {g : Given} {here : Context} {now : MeaningState} → Stands g here now → IsSince (moment now) now
since_made {g} {here} {now} stands = record {
  blocks = omega arith;
  calls = omega arith;
  older = λ number call k b less is kind.
      let l : IsLocal g now b call k = stands.locals number b call k is kind in get_within now.calls call l.made_by l.call_is;
}

-- ---- in a call

-- what code keeps from the state at the start of a function's words
pub record InCall (g : Given) (here : Context) (c : Call) (s t : State) : Type 0 where
  pub pair : HasPair t.byte (lowest c) (s.register 29) (s.register 30)
  pub kept : KeepsAll (units_of g) s t here.open_calls

-- the call is over, where the run has kept what it has to
pub record Finished (c : Code) (here : Context) (now : MeaningState) (call : Call) (v : Value) (done : MeaningState) (s t : State) :
    Type 0 where
  pub to : State
  pub steps : ℕ
  pub least : 3 ≤ steps
  pub most : steps ≤ 4
  pub led : StepsWithin c.Inside steps t to
  pub returns : IsKept (moment now) now (with_ended call done) →
      Returns c.given (s.register 30) here s v (with_ended call done) to

pub call_finishes : {c : Code} {here inner : Context} {now done : MeaningState} {s t : State} (at : ℕ) (call : Call) (v : Value) →
    InOrder c.given.program → Injects c.given here now s → IsNewCall c.given here now call → Relates c.given inner done t →
    inner.open_calls ≡ call ∷ here.open_calls → t.pc ≡ at → Standing c at (exit (frame_of (units_of c.given) call.function)) →
    (frame_of (units_of c.given) call.function).bytes < 2 ^ 24 → 16 ≤ (frame_of (units_of c.given) call.function).bytes →
    InCall c.given here call s t → Holds c.given done v (t.register 0) → Finished c here now call v done s t
call_finishes {c} {here} {inner} {now} {done} {s} {t} at call v order injects new relates open_is pc leaves small some in_call holds =
    record {
      to = e.to;
      steps = e.steps;
      least = e.least;
      most = e.most;
      led = e.led;
      returns = λ kept. record {
        relates = record {
          injects = Injects-left call injects new within open_is kept e.left (IsInRange-Steps e.steps e.led.steps within.in_range);
          outside = record {
            output = ap (λ o. o.output) e.outside ∙ relates.outside.output;
            input = ap (λ o. o.answers) e.outside ∙ relates.outside.input;
            bytes = relates.outside.bytes;
            takes = ap (λ o. o.next_failure) e.outside ∙ relates.outside.takes;
            puts = ap (λ o. o.put_failure) e.outside ∙ relates.outside.puts;
          };
        };
        pc = e.pc;
        value = subst (λ n. Holds c.given (with_ended call done) v n)
            (sym (e.others 0 (λ same. omega (arith, same)) (λ same. omega (arith, same))))
            (Holds-ended c.given call done v (t.register 0) holds);
        kept = KeepsAll-then (units_of c.given) s t e.to here.open_calls in_call.kept
            (KeepsAll-bytes (units_of c.given) t e.to here.open_calls e.left.byte);
      };
    }
  where
    fr : Frame
    fr = frame_of (units_of c.given) call.function

    within : Injects c.given inner done t
    within = relates.injects

    place : open_bytes inner.open_calls ≡ call.place
    place = ap open_bytes open_is

    sp_is : t.sp ≡ lowest call
    sp_is = omega (arith, within.frames.sp, place)

    whole : call.place % 16 ≡ 0
    whole = ap (λ n. n % 16) (sym place)
        ∙ open_whole (units_of c.given) done.calls inner.open_calls within.stands.calls within.frames.in_order

    at_exit : IsAtExit fr (s.register 29) (s.register 30) t
    at_exit = record {
      safe = new.safe;
      small = small;
      below = omega (arith, within.frames.sp, small);
      aligned = omega (arith, sp_is, whole, new.fits, injects.loaded.stack_size.most);
      readable = (stack_open within t.sp 16
          (omega (arith, within.frames.sp, place, new.fits))
          (omega (arith, within.frames.sp, place, new.place_is, some))).readable;
      pair = subst (λ a. HasPair t.byte a (s.register 29) (s.register 30)) (sym sp_is) in_call.pair;
    }

    e : ExitDone c fr (s.register 29) (s.register 30) t
    e = exit_done fr (s.register 29) (s.register 30) leaves
        (record { pc = pc; as_loaded = within.as_loaded; in_range = within.in_range }) at_exit
