use Rattle.std.proofs.Common.{sym, subst}
use Rattle.c_type_base.specs.Layout.{LaidOut}
use Rattle.frame_plan.proofs.Clauses.{too_many, measured, refused}
use Rattle.frame_plan.proofs.sizes.frame_sizes.Goals as goal

pub returns-then-functions-gt-MOST_FUNCTIONS-clause-refused : goal.returns-then-functions-gt-MOST_FUNCTIONS-clause-refused
returns-then-functions-gt-MOST_FUNCTIONS-clause-refused c =
    too_many c.args.typed.now c.as_slice-functions.result.now c.as_slice-functions.ensures c.if-functions-gt-MOST_FUNCTIONS.true

pub sizes_of-requires-clause-laid_out : goal.sizes_of-requires-clause-laid_out
sizes_of-requires-clause-laid_out c = subst LaidOut (sym c.as_slice.ensures) c.requires.laid_out

pub returns-clause-found : goal.returns-clause-found
returns-clause-found c =
    measured c.args.typed.now c.as_slice.result.now c.as_slice-functions.result.now c.as_slice.ensures c.as_slice-functions.ensures
    c.if-functions-gt-MOST_FUNCTIONS.false c.sizes_of.result c.sizes_of.ensures.found

pub returns-clause-refused : goal.returns-clause-refused
returns-clause-refused c =
    refused c.args.typed.now c.as_slice.result.now c.as_slice-functions.result.now c.as_slice.ensures c.as_slice-functions.ensures
    c.if-functions-gt-MOST_FUNCTIONS.false c.sizes_of.result c.sizes_of.ensures.refused
