-- Answers of the code, one after another.
use Rattle.std.proofs.Common.{◌≡◌, refl, subst, ◌∙◌, Result, Ok, Err}
use Rattle.block_meaning.specs.Running.{State, Stop, Divide, Deep, More, IsUndefined, Stuck, Run, goes_on}
use Rattle.block_meaning.specs.Running as meaning
use Rattle.mean_effects.specs.declared.now.Ending.{Ending}
use Rattle.mean_effects.specs.declared.now.Ending.TheVariants as ending
use Rattle.mean_effects.specs.declared.now.Now.{Now}
use Rattle.mean_effects.specs.Shown.{IsNow, Quiet, EndsAs, IsStuck, GivesBy, Gives}

pub quiet-itself : (s : State) → Quiet s s
quiet-itself s = record { input = refl; output = refl }

pub quiet-through : {a b c : State} → Quiet a b → Quiet b c → Quiet a c
quiet-through first second = record { input = second.input ∙ first.input; output = second.output ∙ first.output }

pub ends_later : (e : Ending) (why : Stop) (a b c : State) → Quiet a b → EndsAs e why b c → EndsAs e why a c
ends_later ending.NoMemory why a b c first ends = tt
ends_later ending.Divide Stuck a b c first ends = tt
ends_later ending.Divide Divide a b c first ends = quiet-through first ends
ends_later ending.Divide _ a b c first ends = absurd ends
ends_later ending.Deep Stuck a b c first ends = tt
ends_later ending.Deep Deep a b c first ends = quiet-through first ends
ends_later ending.Deep _ a b c first ends = absurd ends
ends_later ending.More Stuck a b c first ends = tt
ends_later ending.More More a b c first ends = quiet-through first ends
ends_later ending.More _ a b c first ends = absurd ends
ends_later (ending.Undefined why file span) Stuck a b c first ends = tt
ends_later (ending.Undefined why file span) (IsUndefined u) a b c first ends = (ends.0, ends.1, ends.2, quiet-through first ends.3)
ends_later (ending.Undefined why file span) _ a b c first ends = absurd ends

pub ends_stuck : (e : Ending) (a b : State) → EndsAs e Stuck a b
ends_stuck ending.NoMemory a b = tt
ends_stuck _ a b = tt

later_by : {A : Type 0} (n : Now) (a b : State) (r : Result A Ending) (m : meaning.Result A) → Quiet a b → GivesBy n b r m →
    GivesBy n a r m
later_by n a b (Ok x) (meaning.Goes y after) first gives =
    record { same = gives.same; shown = gives.shown; quiet = quiet-through first gives.quiet }
later_by n a b (Ok x) (meaning.Stops why after) first gives = gives
later_by n a b (Err e) (meaning.Goes y after) first gives = gives
later_by n a b (Err e) (meaning.Stops why after) first gives = ends_later e why a b after first gives

gives-later : {A : Type 0} {n : Now} {a b : State} {r : Result A Ending} {m : meaning.Result A} → Quiet a b → Gives n b r m →
    Gives n a r m
gives-later {n = n} {a = a} {b = b} {r = r} {m = m} first gives = record { told = later_by n a b r m first gives.told }

stuck_by : {A : Type 0} (n : Now) (a : State) (r : Result A Ending) (why : Stop) (after : State) → IsStuck why →
    GivesBy n a r (meaning.Stops why after)
stuck_by n a (Ok x) Stuck after stuck = tt
stuck_by n a (Err e) Stuck after stuck = ends_stuck e a after
stuck_by n a r _ after stuck = absurd stuck

-- of what is stuck nothing is said
pub gives-stuck : {A : Type 0} (n : Now) (a : State) (r : Result A Ending) (why : Stop) (after : State) → IsStuck why →
    Gives n a r (meaning.Stops why after)
gives-stuck n a r why after stuck = record { told = stuck_by n a r why after stuck }

free_by : {A : Type 0} (n : Now) (a : State) (m : meaning.Result A) → GivesBy {A = A} n a (Err ending.NoMemory) m
free_by n a (meaning.Goes b after) = tt
free_by n a (meaning.Stops why after) = tt

-- want of memory is always free
pub gives-free : {A : Type 0} (n : Now) (a : State) (m : meaning.Result A) → Gives n a (Err ending.NoMemory) m
gives-free n a m = record { told = free_by n a m }

-- the first part was done, and then what follows
pub gives-then : {A B : Type 0} {middle n : Now} {start : State} {a : A} {r : Result B Ending} (m : meaning.Result A) (f : A → Run B) →
    Gives middle start (Ok a) m → ((now : State) → IsNow middle now → Gives n now r (f a now)) → Gives n start r (goes_on m f)
gives-then {n = n} {r = r} (meaning.Goes b after) f first each = gives-later first.told.quiet
    (subst (λ x. Gives n after r (f x after)) first.told.same (each after first.told.shown))
gives-then {n = n} {start = start} {r = r} (meaning.Stops why after) f first each = gives-stuck n start r why after first.told

-- the first part stopped
pub gives-stop : {A B : Type 0} {middle n : Now} {start : State} (m : meaning.Result A) (f : A → Run B) (e : Ending) →
    Gives middle start (Err e) m → Gives {A = B} n start (Err e) (goes_on m f)
gives-stop {n = n} {start = start} (meaning.Goes b after) f ending.NoMemory first = gives-free n start (f b after)
gives-stop (meaning.Goes b after) f _ first = absurd first.told
gives-stop (meaning.Stops why after) f e first = record { told = first.told }

-- by what the code found: the first part was done
pub done-then : {A B : Type 0} {middle n : Now} {start : State} {a : A} {first : Result A Ending} {r : Result B Ending}
    (m : meaning.Result A) (f : A → Run B) → first ≡ Ok a → Gives middle start first m →
    ((now : State) → IsNow middle now → Gives n now r (f a now)) → Gives n start r (goes_on m f)
done-then {middle = middle} {start = start} m f is gives each = gives-then m f (subst (λ r. Gives middle start r m) is gives) each

-- the first part stopped
pub stopped-then : {A B : Type 0} {middle n : Now} {start : State} {e : Ending} {first : Result A Ending} (m : meaning.Result A)
    (f : A → Run B) → first ≡ Err e → Gives middle start first m → Gives {A = B} n start (Err e) (goes_on m f)
stopped-then {middle = middle} {start = start} {e = e} m f is gives = gives-stop m f e (subst (λ r. Gives middle start r m) is gives)

-- a value
pub gives-value : {A : Type 0} {n : Now} {now : State} {a b : A} → a ≡ b → IsNow n now → Gives n now (Ok a) (meaning.Goes b now)
gives-value {now = now} same shown = record { told = record { same = same; shown = shown; quiet = quiet-itself now } }
