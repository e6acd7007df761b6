-- What the code answers to what a memory tells, and the parts of what it answers to.
use Rattle.std.specs.Prelude.{ℕ, Bool, true, false, Option, Some, None, Result, Ok, Err}
use Rattle.c_ast.specs.declared.token.Span.{Span}
use Rattle.block_meaning.specs.declared.access.Access.{Access}
use Rattle.block_meaning.specs.declared.reason.Reason.{Reason}
use Rattle.block_meaning.specs.Access.{overlap}
use Rattle.block_meaning.specs.Memory as spec
use Rattle.block_meaning.specs.Running.{Run, Context, and_then, with_blocks}
use Rattle.mean_effects.specs.declared.copying.Copy.{Copy}
use Rattle.mean_effects.specs.declared.now.Ending.{Ending}
use Rattle.mean_effects.specs.declared.now.Ending.TheVariants as ending
use Rattle.mean_effects.specs.Objects.{object_of}

-- by the reason against an access
abbrev pub answered : ℕ → Span → Option Reason → Result (Unit {0}) Ending
answered unit span None = Ok tt
answered unit span (Some why) = Err (ending.Undefined why unit span)

-- by whether it was done
abbrev pub done : Bool → Result (Unit {0}) Ending
done false = Err ending.NoMemory
done true = Ok tt

-- ---- the copy of a struct

abbrev pub copy_of : Copy → spec.Copy
copy_of c = record {
  source = object_of c.source;
  target = object_of c.target;
  source_span = c.source_span;
  target_span = c.target_span;
  span = c.span;
}

-- after both accesses were judged
abbrev pub copied_apart : Context → spec.Copy → Access → Run (Unit {0})
copied_apart here c to =
    and_then (spec.unless_overlap here c.span to (overlap c.source.at c.target.at to.size)) (λ _.
    with_blocks (spec.copied c.source.at c.target.at to.size))

-- after that of the source was
abbrev pub copied_onto : Context → spec.Copy → Access → Run (Unit {0})
copied_onto here c to = and_then (spec.judged here c.target_span to) (λ _. copied_apart here c to)
