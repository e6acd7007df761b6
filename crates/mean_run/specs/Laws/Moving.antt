-- How a whole process stands after its parts, as the machine does.
use Rattle.std.proofs.Common.{◌≡◌, sym, subst, inl, inr, Result, Ok, Err}
use Rattle.block_meaning.specs.Running.{Context, State, Stop, Stuck, unit_gives}
use Rattle.block_meaning.specs.Running as meaning
use Rattle.mean_machine.specs.Frames as machine
use Rattle.mean_machine.specs.Going.{Stand, go_by, spend}
use Rattle.mean_effects.specs.declared.now.Ending.{Ending}
use Rattle.mean_effects.specs.declared.now.Ending.TheVariants as ending
use Rattle.mean_effects.specs.declared.now.Now.{Now}
use Rattle.mean_effects.specs.Laws.Giving.{ends_stuck}
use Rattle.mean_effects.specs.Shown.{IsNow, Quiet, IsStuck, Gives}
use Rattle.mean_expressions.specs.declared.frames.Control.{Control}
use Rattle.mean_expressions.specs.Laws.Standing.{stood_later, stops_later, stops_by, free_by, spend_is}
use Rattle.mean_expressions.specs.Stacked.{IsAt, StandsBy, Stands}
use Rattle.mean_run.specs.declared.process.Process.{Process}
use Rattle.mean_run.specs.Processes.{world_of, MovesBy, Moves}

moves_by : (p : Process) (here : Context) (a : State) (r : Result Control Ending) (m : machine.Machine) → IsAt (world_of p) here →
    StandsBy p.now p.stack.items (world_of p) here a r m → MovesBy p a r m
moves_by p here a (Ok c) m at (inl stood) = inl (record { there = here; at = at; stood = stood })
moves_by p here a (Ok c) m at (inr sticks) = inr sticks
moves_by p here a (Err e) m at stops = stops

-- it goes on where it was
pub moves-here : {p : Process} {here : Context} {a : State} {r : Result Control Ending} {m : machine.Machine} → IsAt (world_of p) here →
    Stands p.now p.stack.items (world_of p) here a r m → Moves p a r m
moves-here {p = p} {here = here} {a = a} {r = r} {m = m} at stands = record { told = moves_by p here a r m at stands.told }

moves_later_by : (p : Process) (a b : State) (r : Result Control Ending) (m : machine.Machine) → Quiet a b → MovesBy p b r m →
    MovesBy p a r m
moves_later_by p a b (Ok c) m first (inl moved) =
    inl (record { there = moved.there; at = moved.at; stood = stood_later first moved.stood })
moves_later_by p a b (Ok c) m first (inr sticks) = inr sticks
moves_later_by p a b (Err e) m first stops = stops_later a b e m first stops

pub moves-later : {p : Process} {a b : State} {r : Result Control Ending} {m : machine.Machine} → Quiet a b → Moves p b r m → Moves p a r m
moves-later {p = p} {a = a} {b = b} {r = r} {m = m} first moves = record { told = moves_later_by p a b r m first moves.told }

moves_stuck_by : (p : Process) (a : State) (r : Result Control Ending) (why : Stop) (after : State) → IsStuck why →
    MovesBy p a r (machine.Ended why after)
moves_stuck_by p a (Ok c) why after stuck = inr stuck
moves_stuck_by p a (Err e) Stuck after stuck = ends_stuck e a after
moves_stuck_by p a (Err e) _ after stuck = absurd stuck

pub moves-stuck : (p : Process) (a : State) (r : Result Control Ending) (after : State) → Moves p a r (machine.Ended Stuck after)
moves-stuck p a r after = record { told = moves_stuck_by p a r Stuck after tt }

pub moves-free : (p : Process) (a : State) (m : machine.Machine) → Moves p a (Err ending.NoMemory) m
moves-free p a m = record { told = free_by a m }

-- a part was done, and then the machine goes on by its value
pub moves-then : {A : Type 0} {middle : Now} {p : Process} {start : State} {first : Result A Ending} {a : A} {r : Result Control Ending}
    (m : meaning.Result A) (f : A → Stand) → first ≡ Ok a → Gives middle start first m →
    ((now : State) → IsNow middle now → Moves p now r (f a now)) → Moves p start r (go_by m f)
moves-then {middle = middle} {p = p} {start = start} {r = r} (meaning.Goes b after) f is first each =
    let done = (subst (λ x. Gives middle start x (meaning.Goes b after)) is first).told in
    moves-later done.quiet (subst (λ x. Moves p after r (f x after)) done.same (each after done.shown))
moves-then {middle = middle} {p = p} {start = start} {r = r} (meaning.Stops why after) f is first each = record {
  told = moves_stuck_by p start r why after (subst (λ x. Gives middle start x (meaning.Stops why after)) is first).told;
}

pub moves-stop : {A : Type 0} {middle : Now} {p : Process} {start : State} {first : Result A Ending} {e : Ending} (m : meaning.Result A)
    (f : A → Stand) → first ≡ Err e → Gives middle start first m → Moves p start (Err e) (go_by m f)
moves-stop {middle = middle} {start = start} {e = e} m f is first =
    record { told = stops_by middle start e m f (subst (λ x. Gives middle start x m) is first).told }

pub moves-spent : {middle : Now} {p : Process} {start : State} {first : Result (Unit {0}) Ending} {u : Unit {0}}
    {r : Result Control Ending} (next : Stand) → first ≡ Ok u → Gives middle start first (unit_gives tt start) →
    ((now : State) → IsNow middle now → Moves p now r (next now)) → Moves p start r (spend next start)
moves-spent {p = p} {start = start} {r = r} next is first each = subst (Moves p start r) (sym (spend_is start.work next start))
    (moves-then (unit_gives tt start) (λ v. next) is first each)

pub moves-unspent : {middle : Now} {p : Process} {start : State} {first : Result (Unit {0}) Ending} {e : Ending} (next : Stand) →
    first ≡ Err e → Gives middle start first (unit_gives tt start) → Moves p start (Err e) (spend next start)
moves-unspent {p = p} {start = start} {e = e} next is first = subst (Moves p start (Err e)) (sym (spend_is start.work next start))
    (moves-stop (unit_gives tt start) (λ v. next) is first)
