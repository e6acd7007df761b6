use Rattle.c_types.specs.Laws.PromiseLaws.{typed-laid_out}
use Rattle.c_types.specs.Laws.TypedObjects.{typed-objects, typed-have_bytes}
use Rattle.plan_rows.proofs.frames.of_program.Goals as goal

-- the structs are laid out and have bytes, and the locals have types that objects may have
pub of_typed-requires-clause-laid_out : goal.of_typed-requires-clause-laid_out
of_typed-requires-clause-laid_out c = typed-laid_out c.args.program.now c.in-Ok.typed c.in-Ok.ensures.typed

pub of_typed-requires-clause-objects : goal.of_typed-requires-clause-objects
of_typed-requires-clause-objects c = typed-objects c.args.program.now c.in-Ok.typed c.in-Ok.ensures.typed

pub of_typed-requires-clause-bytes : goal.of_typed-requires-clause-bytes
of_typed-requires-clause-bytes c = typed-have_bytes c.args.program.now c.in-Ok.typed c.in-Ok.ensures.typed
