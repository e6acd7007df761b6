use Rattle.std.proofs.Common.{refl, Some}
use Rattle.block_meaning.specs.Linkage as linkage
use Rattle.c_type_base.specs.Laws.Opened.{given_typed}
use Rattle.mean_expressions.specs.Laws.Standing.{stands-at, stands-free}
use Rattle.mean_expressions.proofs.First.{as-located}
use Rattle.mean_expressions.proofs.locating.locate.Goals as goal

pub returns-in-Text : goal.returns-in-Text
unfolding given_typed
returns-in-Text c = λ w here k now of_here of_window stacked of_now.
    as-located k c.args.e.now c.in-Text.is c.get.ensures
    (c.starts.ensures w here k c.args.stack.now.items now (Some (linkage.text_block here.program.units here.unit c.in-Text.number))
    (c.text_block.ensures here of_here) stacked of_now)

pub returns-in-Local : goal.returns-in-Local
unfolding given_typed
returns-in-Local c = λ w here k now of_here of_window stacked of_now.
    as-located k c.args.e.now c.in-Local.is c.get.ensures
    (c.starts-in-Local.ensures w here k c.args.stack.now.items now (here.local c.in-Local.number)
    (c.local_block.ensures here of_window) stacked of_now)

pub returns-in-Global : goal.returns-in-Global
unfolding given_typed
returns-in-Global c = λ w here k now of_here of_window stacked of_now.
    as-located k c.args.e.now c.in-Global.is c.get.ensures
    (c.starts-in-Global.ensures w here k c.args.stack.now.items now
    (Some (linkage.object_block here.program.units here.unit c.in-Global.number))
    (c.object_block.ensures here of_here) stacked of_now)

pub returns-in-Extern : goal.returns-in-Extern
unfolding given_typed
returns-in-Extern c = λ w here k now of_here of_window stacked of_now.
    as-located k c.args.e.now c.in-Extern.is c.get.ensures
    (c.starts-in-Extern.ensures w here k c.args.stack.now.items now (linkage.extern_block here.program.units here.unit c.in-Extern.number)
    (c.extern_block.ensures here of_here) stacked of_now)

pub returns-in-Paren : goal.returns-in-Paren
unfolding given_typed
returns-in-Paren c = λ w here k now of_here of_window stacked of_now.
    as-located k c.args.e.now c.in-Paren.is c.get.ensures
    (stands-at k refl stacked of_now)

pub returns-in-Unary : goal.returns-in-Unary
unfolding given_typed
returns-in-Unary c = λ w here k now of_here of_window stacked of_now.
    as-located k c.args.e.now c.in-Unary.is c.get.ensures
    (c.dereferenced.ensures c.args.n.now w here k c.args.e.now now stacked of_now)

pub returns-in-Index : goal.returns-in-Index
unfolding given_typed
returns-in-Index c = λ w here k now of_here of_window stacked of_now.
    as-located k c.args.e.now c.in-Index.is c.get.ensures
    (c.operand_first.ensures c.args.n.now w here k now stacked of_now)

pub returns-in-Member : goal.returns-in-Member
unfolding given_typed
returns-in-Member c = λ w here k now of_here of_window stacked of_now.
    as-located k c.args.e.now c.in-Member.is c.get.ensures
    (c.place_first.ensures c.args.n.now w here k now stacked of_now)

pub returns-in-Arrow : goal.returns-in-Arrow
unfolding given_typed
returns-in-Arrow c = λ w here k now of_here of_window stacked of_now.
    as-located k c.args.e.now c.in-Arrow.is c.get.ensures
    (c.operand_first-in-Arrow.ensures c.args.n.now w here k now stacked of_now)

pub returns-in-Assign : goal.returns-in-Assign
unfolding given_typed
returns-in-Assign c = λ w here k now of_here of_window stacked of_now.
    as-located k c.args.e.now c.in-Assign.is c.get.ensures
    (c.assigned_first.ensures c.args.n.now w here k now stacked of_now)

pub returns-in_default : goal.returns-in_default
returns-in_default c = λ w here k now of_here of_window stacked of_now. stands-free c.args.n.now c.args.stack.now.items w here now _
