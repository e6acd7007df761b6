-- The same machine in other words.
use Rattle.std.proofs.Common.{◌≡◌, subst, List, Result, Option, None, Some}
use Rattle.std.specs.Prelude.{IfSome}
use Rattle.block_meaning.specs.Running.{Context, State}
use Rattle.mean_machine.specs.Frames.{Machine}
use Rattle.mean_expressions.specs.declared.frames.Control.{Control}
use Rattle.mean_expressions.specs.declared.frames.Frame.{Frame}
use Rattle.mean_effects.specs.declared.now.Ending.{Ending}
use Rattle.mean_effects.specs.declared.now.Now.{Now}
use Rattle.mean_expressions.specs.Stacked.{World, Stands}

pub machine-is : {n : Now} {frames : List Frame} {w : World} {here : Context} {now : State} {r : Result Control Ending} {a b : Machine} →
    a ≡ b → Stands n frames w here now r a → Stands n frames w here now r b
machine-is {n = n} {frames = frames} {w = w} {here = here} {now = now} {r = r} same stands =
    subst (Stands n frames w here now r) same stands

-- what holds of an option holds of what it has
pub if-some : {A : Type 0} (P : Option A → Type 0) (b : Option A) → P b → IfSome b (λ x. P (Some x))
if-some P None holds = tt
if-some P (Some x) holds = holds
