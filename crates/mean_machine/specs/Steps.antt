-- The machine's step, its runs, and where it begins for a program.
use Rattle.std.specs.Prelude.{ℕ, zero, suc, List, [], ◌∷◌, codes}
use Rattle.c_type_base.specs.declared.expr.TNode.{out-TNode}
use Rattle.c_type_base.specs.declared.statement.TInit.{out-TInit}
use Rattle.c_type_base.specs.declared.statement.TStmt.{out-TStmt}
use Rattle.block_meaning.specs.Linkage.{Definition, AnObject, AFunction, defined}
use Rattle.block_meaning.specs.Meaning.{outside_of_calls}
use Rattle.block_meaning.specs.Running.{Program, Context, gives, with_some}
use Rattle.mean_machine.specs.Frames.{Control, Evaluate, Locate, Execute, Declare, Fill, GivesValue, GivesPlace, GivesFlow, Finished}
use Rattle.mean_machine.specs.Frames.{Frame, OnOperand, OnValue, OnPlace, OnFlow, OnDone, Machine, Runs, Ended}
use Rattle.mean_machine.specs.Going.{Stand, by, spend, nowhere}
use Rattle.mean_machine.specs.Evaluation.{evaluate, locate, operand_given, place_given}
use Rattle.mean_machine.specs.Execution.{enter, execute, declare, fill, value_given, flow_given, done_given}

-- a result, for what waits for it; a value for which nothing waits is the end
abbrev pub resume : Control → Context → List Frame → Stand
resume (GivesValue v) here [] = Runs (GivesValue v) here []
resume (GivesValue v) here (OnOperand f ∷ k) = operand_given enter here k f v
resume (GivesValue v) here (OnValue f ∷ k) = value_given here k f v
resume (GivesPlace p) here (OnPlace f ∷ k) = place_given here k f p
resume (GivesFlow w) here (OnFlow f ∷ k) = flow_given here k f w
resume Finished here (OnDone f ∷ k) = done_given here k f
resume _ here k = nowhere

abbrev pub step : Machine → Machine
step (Ended why now) = Ended why now
step (Runs (Evaluate around e) here k now) = evaluate enter here k around e (out-TNode e.node) now
step (Runs (Locate e) here k now) = locate here k e (out-TNode e.node) now
step (Runs (Execute s) here k now) = execute here k (out-TStmt s) now
step (Runs (Declare ds) here k now) = declare here k ds now
step (Runs (Fill o i) here k now) = fill here k o (out-TInit i) now
step (Runs c here k now) = resume c here k now

-- so many steps
abbrev pub run : ℕ → Machine → Machine
run zero m = m
run (suc n) m = run n (step m)

abbrev pub begin_with : Program → Definition → Stand
begin_with program (AnObject unit number) = nowhere
begin_with program (AFunction f) = spend (enter (outside_of_calls program) [] f [])

-- where it begins: with the call of `main`
abbrev pub begin : Program → Stand
begin program = by (with_some (defined program.units (codes "main")) gives) (begin_with program)
