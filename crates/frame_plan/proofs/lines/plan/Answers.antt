use Rattle.std.proofs.Common.{sym, subst}
use Rattle.c_type_base.specs.Layout.{LaidOut}
use Rattle.frame_plan.proofs.Clauses.{only, refuses, too_many, planned, refused}
use Rattle.frame_plan.proofs.lines.plan.Goals as goal

pub returns-then-functions-gt-MOST_FUNCTIONS-clause-refused : goal.returns-then-functions-gt-MOST_FUNCTIONS-clause-refused
returns-then-functions-gt-MOST_FUNCTIONS-clause-refused c =
    too_many c.args.typed.now c.as_slice-functions.result.now c.as_slice-functions.ensures c.if-functions-gt-MOST_FUNCTIONS.true

pub lines_of-requires-clause-laid_out : goal.lines_of-requires-clause-laid_out
lines_of-requires-clause-laid_out c = subst LaidOut (sym c.as_slice.ensures) c.requires.laid_out

pub returns-clause-found : goal.returns-clause-found
returns-clause-found c =
    planned c.args.typed.now c.as_slice.result.now c.as_slice-functions.result.now c.as_slice.ensures c.as_slice-functions.ensures
    c.if-functions-gt-MOST_FUNCTIONS.false c.lines_of.result c.lines_of.ensures.found

pub returns-clause-refused : goal.returns-clause-refused
returns-clause-refused c =
    refused c.args.typed.now c.as_slice.result.now c.as_slice-functions.result.now c.as_slice.ensures c.as_slice-functions.ensures
    c.if-functions-gt-MOST_FUNCTIONS.false c.lines_of.result c.lines_of.ensures.refused

pub returns-clause-only : goal.returns-clause-only
returns-clause-only c = only c.args.typed.now c.lines_of.result (returns-clause-found c) (returns-clause-refused c)

pub returns-clause-refuses : goal.returns-clause-refuses
returns-clause-refuses c = refuses c.args.typed.now c.lines_of.result (returns-clause-found c) (returns-clause-refused c)
