-- How the code stands after its parts, as the machine does.
use Rattle.std.proofs.Common.{◌≡◌, refl, sym, subst, ap, ◌∙◌, inl, inr, ℕ, zero, suc, List, Result, Ok, Err}
use Rattle.block_meaning.specs.declared.value.Value.{Value}
use Rattle.block_meaning.specs.declared.value.Pointer.{Pointer}
use Rattle.block_meaning.specs.Running.{Context, State, Stop, More, Stuck, unit_gives, one_of, gives}
use Rattle.block_meaning.specs.Running as meaning
use Rattle.mean_machine.specs.Frames as machine
use Rattle.mean_machine.specs.Going.{Stand, go_by, spend, spend_of, value, place}
use Rattle.mean_effects.specs.declared.now.Ending.{Ending}
use Rattle.mean_effects.specs.declared.now.Ending.TheVariants as ending
use Rattle.mean_effects.specs.declared.now.Now.{Now}
use Rattle.mean_expressions.specs.declared.frames.Control.{Control}
use Rattle.mean_expressions.specs.declared.frames.Control.TheVariants.{GivesValue, GivesPlace}
use Rattle.mean_expressions.specs.declared.frames.Frame.{Frame}
use Rattle.mean_effects.specs.Laws.Giving.{quiet-itself, quiet-through, ends_later, ends_stuck}
use Rattle.mean_effects.specs.Shown.{IsNow, Quiet, IsStuck, Gives, GivesBy}
use Rattle.mean_expressions.specs.Stacked.{World, Stacked, Stood, Sticks, StopsBy, StandsBy, Stands, standing}

-- ---- from an earlier state

pub stops_later : (a b : State) (e : Ending) (m : machine.Machine) → Quiet a b → StopsBy b e m → StopsBy a e m
stops_later a b e (machine.Runs d there k after) first stops = stops
stops_later a b e (machine.Ended why after) first stops = ends_later e why a b after first stops

pub stood_later : {n : Now} {frames : List Frame} {w : World} {here : Context} {a b : State} {c : Control} {m : machine.Machine} →
    Quiet a b → Stood n frames w here b c m → Stood n frames w here a c m
stood_later first stood = record {
  frames_below = stood.frames_below;
  after = stood.after;
  is = stood.is;
  stack = stood.stack;
  now = stood.now;
  quiet = quiet-through first stood.quiet;
}

later_by : (n : Now) (frames : List Frame) (w : World) (here : Context) (a b : State) (r : Result Control Ending) (m : machine.Machine) →
    Quiet a b → StandsBy n frames w here b r m → StandsBy n frames w here a r m
later_by n frames w here a b (Ok c) m first (inl stood) = inl (stood_later first stood)
later_by n frames w here a b (Ok c) m first (inr sticks) = inr sticks
later_by n frames w here a b (Err e) m first stops = stops_later a b e m first stops

pub stands-later : {n : Now} {frames : List Frame} {w : World} {here : Context} {a b : State} {r : Result Control Ending}
    {m : machine.Machine} → Quiet a b → Stands n frames w here b r m → Stands n frames w here a r m
stands-later {n = n} {frames = frames} {w = w} {here = here} {a = a} {b = b} {r = r} {m = m} first stands =
    record { told = later_by n frames w here a b r m first stands.told }

-- ---- what is free

pub stuck_by : (n : Now) (frames : List Frame) (w : World) (here : Context) (a : State) (r : Result Control Ending) (why : Stop)
    (after : State) → IsStuck why → StandsBy n frames w here a r (machine.Ended why after)
stuck_by n frames w here a (Ok c) why after stuck = inr stuck
stuck_by n frames w here a (Err e) Stuck after stuck = ends_stuck e a after
stuck_by n frames w here a (Err e) _ after stuck = absurd stuck

-- of what is stuck nothing is said
pub stands-stuck : (n : Now) (frames : List Frame) (w : World) (here : Context) (a : State) (r : Result Control Ending) (after : State) →
    Stands n frames w here a r (machine.Ended Stuck after)
stands-stuck n frames w here a r after = record { told = stuck_by n frames w here a r Stuck after tt }

pub free_by : (a : State) (m : machine.Machine) → StopsBy a ending.NoMemory m
free_by a (machine.Runs d there k after) = tt
free_by a (machine.Ended why after) = tt

-- want of memory is always free
pub stands-free : (n : Now) (frames : List Frame) (w : World) (here : Context) (a : State) (m : machine.Machine) →
    Stands n frames w here a (Err ending.NoMemory) m
stands-free n frames w here a m = record { told = free_by a m }

-- ---- after a part

-- a part was done that needs no stack, and then the machine goes on by its value
pub stands-then : {A : Type 0} {middle n : Now} {frames : List Frame} {w : World} {here : Context} {start : State}
    {first : Result A Ending} {a : A} {r : Result Control Ending} (m : meaning.Result A) (f : A → Stand) → first ≡ Ok a →
    Gives middle start first m → ((now : State) → IsNow middle now → Stands n frames w here now r (f a now)) →
    Stands n frames w here start r (go_by m f)
stands-then {middle = middle} {n = n} {frames = frames} {w = w} {here = here} {start = start} {r = r} (meaning.Goes b after) f is first
    each =
    let done = (subst (λ x. Gives middle start x (meaning.Goes b after)) is first).told in
    stands-later done.quiet (subst (λ x. Stands n frames w here after r (f x after)) done.same (each after done.shown))
stands-then {middle = middle} {n = n} {frames = frames} {w = w} {here = here} {start = start} {r = r} (meaning.Stops why after) f is first
    each = record {
      told = stuck_by n frames w here start r why after (subst (λ x. Gives middle start x (meaning.Stops why after)) is first).told;
    }

pub stops_by : {A : Type 0} (middle : Now) (start : State) (e : Ending) (m : meaning.Result A) (f : A → Stand) →
    GivesBy middle start (Err e) m → StopsBy start e (go_by m f)
stops_by middle start ending.NoMemory (meaning.Goes b after) f told = free_by start (f b after)
stops_by middle start _ (meaning.Goes b after) f told = absurd told
stops_by middle start e (meaning.Stops why after) f told = told

-- that part stopped
pub stands-stop : {A : Type 0} {middle n : Now} {frames : List Frame} {w : World} {here : Context} {start : State}
    {first : Result A Ending} {e : Ending} (m : meaning.Result A) (f : A → Stand) → first ≡ Err e → Gives middle start first m →
    Stands n frames w here start (Err e) (go_by m f)
stands-stop {middle = middle} {start = start} {e = e} m f is first =
    record { told = stops_by middle start e m f (subst (λ x. Gives middle start x m) is first).told }

pub spend_is : (work : ℕ) (next : Stand) (now : State) → spend_of work next now ≡
    go_by (one_of work (gives {A = Unit {0}} tt) now) (λ u. next)
spend_is zero next now = refl
spend_is (suc rest) next now = refl

-- a unit was spent, and then what follows
pub stands-spent : {middle n : Now} {frames : List Frame} {w : World} {here : Context} {start : State} {first : Result (Unit {0}) Ending}
    {u : Unit {0}} {r : Result Control Ending} (next : Stand) → first ≡ Ok u → Gives middle start first (unit_gives tt start) →
    ((now : State) → IsNow middle now → Stands n frames w here now r (next now)) → Stands n frames w here start r (spend next start)
stands-spent {n = n} {frames = frames} {w = w} {here = here} {start = start} {r = r} next is first each =
    subst (Stands n frames w here start r) (sym (spend_is start.work next start))
    (stands-then (unit_gives tt start) (λ v. next) is first each)

-- none was left
pub stands-unspent : {middle n : Now} {frames : List Frame} {w : World} {here : Context} {start : State}
    {first : Result (Unit {0}) Ending} {e : Ending} (next : Stand) → first ≡ Err e → Gives middle start first (unit_gives tt start) →
    Stands n frames w here start (Err e) (spend next start)
stands-unspent {n = n} {frames = frames} {w = w} {here = here} {start = start} {e = e} next is first =
    subst (Stands n frames w here start (Err e)) (sym (spend_is start.work next start))
    (stands-stop (unit_gives tt start) (λ v. next) is first)

-- ---- at once

-- the machine stands so
pub stands-at : {n : Now} {frames : List Frame} {w : World} {here : Context} {now : State} {c : Control} {m : machine.Machine}
    (k : List machine.Frame) → m ≡ standing c here k now → Stacked k frames w here → IsNow n now → Stands n frames w here now (Ok c) m
stands-at {now = now} k same stacked shown = record {
  told = inl (record {
    frames_below = k;
    after = now;
    is = same;
    stack = stacked;
    now = shown;
    quiet = quiet-itself now;
  });
}

-- it has a value
pub stands-value : {n : Now} {frames : List Frame} {w : World} {here : Context} {now : State} {k : List machine.Frame} {v u : Value} →
    v ≡ u → Stacked k frames w here → IsNow n now → Stands n frames w here now (Ok (GivesValue v)) (value here k u now)
stands-value {here = here} {now = now} {k = k} same stacked shown = stands-at k (ap (λ x. value here k x now) (sym same)) stacked shown

-- it has a place
pub stands-place : {n : Now} {frames : List Frame} {w : World} {here : Context} {now : State} {k : List machine.Frame} {p q : Pointer} →
    p ≡ q → Stacked k frames w here → IsNow n now → Stands n frames w here now (Ok (GivesPlace p)) (place here k q now)
stands-place {here = here} {now = now} {k = k} same stacked shown = stands-at k (ap (λ x. place here k x now) (sym same)) stacked shown
