-- Lists with one more, and frames that are pushed.
use Rattle.std.proofs.Common.{◌≡◌, sym, ap, ◌∙◌, arith, ℕ, ◌+◌, ◌<◌, List, [], ◌∷◌, ◌++◌, take, get_or, length}
use Rattle.std.proofs.Common.{subst, Some, Result, Ok, Err}
use Rattle.std.proofs.lemmas.Option.{slice_get_within, get_or_from_slice_get}
use Rattle.std.specs.Prelude.{slice_get}
use Rattle.std.proofs.lemmas.List.{take_more, length-take-le}
use Rattle.block_meaning.specs.Running.{State}
use Rattle.mean_machine.specs.Frames.{Machine}
use Rattle.mean_expressions.specs.declared.frames.Frame.{Frame}
use Rattle.mean_effects.specs.declared.now.Ending.{Ending}
use Rattle.mean_effects.specs.declared.now.Ending.TheVariants as ending
use Rattle.mean_run.specs.declared.process.Process.{Process}
use Rattle.mean_run.specs.Entering.{Pushed}
use Rattle.mean_run.specs.Laws.Moving.{moves-free}
use Rattle.mean_effects.specs.Shown.{IsNoMemory}
use Rattle.mean_run.specs.Processes.{Moves}

pub one_more : {A : Type 0} (xs : List A) (i : ℕ) (x : A) → i < length xs → x ≡ get_or xs i x → take i xs ++ x ∷ [] ≡ take (i + 1) xs
one_more xs i x below at = ap (λ y. take i xs ++ y ∷ []) at ∙ sym (take_more xs i x below)

pub one_there : {A : Type 0} (xs : List A) (i : ℕ) (x : A) → slice_get xs i ≡ Some x → take i xs ++ x ∷ [] ≡ take (i + 1) xs
one_there xs i x there =
    one_more xs i x (slice_get_within xs i x there) (sym (get_or_from_slice_get xs i x x there))

pub so_many : {A : Type 0} (xs : List A) (i : ℕ) → i < length xs → length (take i xs) ≡ i
so_many xs i below = length-take-le i xs (omega arith)

pub pushed_there : {r : Result (Unit {0}) Ending} {u : Unit {0}} (f : Frame) (before after : List Frame) → r ≡ Ok u →
    Pushed r f before after → after ≡ before ++ f ∷ []
pushed_there f before after is pushed = subst (λ x. Pushed x f before after) is pushed

no_memory : (p : Process) (a : State) (e : Ending) (m : Machine) → IsNoMemory e → Moves p a (Err e) m
no_memory p a ending.NoMemory m is = moves-free p a m
no_memory p a _ m is = absurd is

pub not_pushed : {p : Process} {a : State} {m : Machine} {r : Result (Unit {0}) Ending} {e : Ending} (f : Frame)
    (before after : List Frame) → r ≡ Err e → Pushed r f before after → Moves p a (Err e) m
not_pushed {p = p} {a = a} {m = m} {e = e} f before after is pushed =
    no_memory p a e m (subst (λ x. Pushed x f before after) is pushed)
