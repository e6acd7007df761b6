-- No step takes back what was put: what a machine has put is a prefix of what it has put when it ends.
use Rattle.std.proofs.Common.{◌≡◌, refl, subst, ℕ, zero, suc, ◌+◌, Bool, true, false, List, [], ◌∷◌, map, Option, Some, None}
use Rattle.std.specs.Prelude.{◌||◌, leb, take, slice_get}
use Rattle.c_type_base.specs.declared.ty.Ty.{Ty, out-Ty}
use Rattle.c_type_base.specs.declared.ty.Ty.TheOpen.{Ty-F}
use Rattle.c_type_base.specs.declared.expr.TExpr.{TExpr}
use Rattle.c_type_base.specs.declared.expr.TNode.{out-TNode}
use Rattle.c_type_base.specs.declared.expr.TNode.TheOpen.{TNode-F}
use Rattle.c_type_base.specs.declared.statement.TInit.{TInit, out-TInit}
use Rattle.c_type_base.specs.declared.statement.TInit.TheOpen.{TInit-F}
use Rattle.c_type_base.specs.declared.statement.TDecl.{TDecl}
use Rattle.c_type_base.specs.declared.statement.TItem.{TItem, out-TItem}
use Rattle.c_type_base.specs.declared.statement.TItem.TheOpen.{TItem-F, TStmt-F}
use Rattle.c_type_base.specs.declared.statement.TStmt.{TStmt, out-TStmt}
use Rattle.c_type_base.specs.declared.typed.LocalInfo.{LocalInfo}
use Rattle.c_type_base.specs.declared.typed.MemberInfo.{MemberInfo}
use Rattle.c_type_base.specs.declared.typed.TFunction.{TFunction}
use Rattle.c_type_base.specs.Types.{TyLayer, is_struct, is_array}
use Rattle.block_meaning.specs.declared.value.Pointer.{Pointer}
use Rattle.block_meaning.specs.declared.value.Value.{Value}
use Rattle.block_meaning.specs.Expressions.{NodeLayer}
use Rattle.block_meaning.specs.Laws.Steady.{Begins, begins-itself, begins-through, Steady, steady-gives, steady-stuck, steady-deep}
use Rattle.block_meaning.specs.Laws.Steady.{steady-with_blocks, steady-then, steady-choice, steady-some}
use Rattle.block_meaning.specs.Laws.MoreWork.Locals.{new_block_steady, new_locals_steady}
use Rattle.block_meaning.specs.Laws.MoreWork.Values.{write_steady, copy_steady, truth_steady}
use Rattle.block_meaning.specs.Linkage.{function_named}
use Rattle.block_meaning.specs.Locals.{latest, local_info, end_locals, text_at, is_list, after_zero}
use Rattle.block_meaning.specs.Meaning.{frame_bytes, open_bytes, new_call, with_arguments, end_call, result_of}
use Rattle.block_meaning.specs.Memory.{Object}
use Rattle.block_meaning.specs.Running.{Function, Call, State, Run, gives, with_some, Context}
use Rattle.block_meaning.specs.Statements.{StmtLayer, ItemLayer, Flow, Next, Broke, Continued, Returned, Turn, Again, Leaves, after_body}
use Rattle.block_meaning.specs.Statements.{declared, local_of}
use Rattle.mean_machine.specs.Execution.{item, sequence, scope, entered_body, entered, enter, test, turn, holding, effect_then_turn}
use Rattle.mean_machine.specs.Execution.{after_turn, by_turn, execute, declared_object, declare_with, declare, fill_array, fill_one}
use Rattle.mean_machine.specs.Execution.{elements, members, fill_list, fill, else_part, value_given, after_item, flow_given, done_given}
use Rattle.mean_machine.specs.Frames.{Control, GivesValue, GivesPlace, GivesFlow, Finished, Evaluate, Locate, Execute, Declare, Fill}
use Rattle.mean_machine.specs.Frames.{Loop, While, DoWhile, For, ValueFrame, Effect, Drop, IfTest, Test, ThenTurn, Return, FillStruct}
use Rattle.mean_machine.specs.Frames.{FillScalar, FlowFrame, Items, Scope, Body, Called, DoneFrame, Declared, AfterDeclarations}
use Rattle.mean_machine.specs.Frames.{ForDeclared, Elements, Members, Frame, OnOperand, OnPlace, OnValue, OnFlow, OnDone, Machine, Runs}
use Rattle.mean_machine.specs.Frames.{Ended}
use Rattle.mean_machine.specs.Going.{Stand}
use Rattle.mean_machine.specs.Laws.Computes.{Leads}
use Rattle.mean_machine.specs.Laws.Putting.{put_by, Puts, puts-at, puts-by, puts-spend, puts-either, puts-nowhere}
use Rattle.mean_machine.specs.Laws.Putting.{evaluate_puts, locate_puts, operand_puts, place_puts}
use Rattle.mean_machine.specs.Steps.{resume, step, run}

-- ---- blocks and scopes

item_puts : (here : Context) (k : List Frame) (i : ItemLayer) → Puts (item here k i)
item_puts here k (TItem-F.Local ds) = puts-at _ _ _
item_puts here k (TItem-F.Stmt s) = puts-at _ _ _

sequence_puts : (here : Context) (k : List Frame) (is : List TItem) → Puts (sequence here k is)
sequence_puts here k [] = puts-at _ _ _
sequence_puts here k (i ∷ is) = item_puts here _ (out-TItem i)

scope_puts : (here : Context) (k : List Frame) (ns : List ℕ) {inside : Context → List Frame → Stand} →
    ((inner : Context) (k' : List Frame) → Puts (inside inner k')) → Puts (scope here k ns inside)
scope_puts here k [] each = each here k
scope_puts here k (n ∷ ns) each = puts-spend (puts-by (new_locals_steady here (n ∷ ns)) (λ inner. each inner _))

end_steady : (here : Context) (ns : List ℕ) → Steady (end_locals here ns)
end_steady here [] = steady-gives tt
end_steady here (n ∷ ns) = steady-then (steady-some (here.local n) (λ b. steady-with_blocks _)) (λ u. end_steady here ns)

-- ---- calls

some_steady : {A : Type 0} (a : Option A) → Steady (with_some a gives)
some_steady a = steady-some a (λ x. steady-gives x)

arguments_steady : (here : Context) (n : ℕ) (ls : List LocalInfo) (vs : List Value) → Steady (with_arguments here n ls vs)
arguments_steady here n [] [] = steady-gives here
arguments_steady here n (l ∷ ls) (v ∷ vs) =
    steady-then (steady-some (latest here.open_calls) (λ c. new_block_steady here n _)) (λ inner. arguments_steady inner (n + 1) ls vs)
arguments_steady here n [] (v ∷ vs) = steady-stuck
arguments_steady here n (l ∷ ls) [] = steady-stuck

call_steady : (here : Context) (f : Function) (place : ℕ) → Steady (new_call here f place)
call_steady here f place = record { puts = λ now. begins-itself now.output; grows = λ more now. refl }

body_steady : (c : Call) (ready : Context) (s : StmtLayer) → Steady (entered_body c ready s)
body_steady c ready (TStmt-F.Block is) = steady-then (new_locals_steady ready (declared is)) (λ inner. steady-gives _)
body_steady c ready _ = steady-stuck

entered_steady : (here : Context) (f : Function) (vs : List Value) (g : TFunction) (bytes : ℕ) → Steady (entered here f vs g bytes)
entered_steady here f vs g bytes =
    steady-choice (leb (open_bytes here.open_calls + bytes) here.program.stack)
    (steady-then (call_steady here f _) (λ inside. steady-some (latest inside.open_calls) (λ c.
    steady-then (arguments_steady inside 0 (take g.params g.locals) vs) (λ ready. body_steady c ready (out-TStmt g.body)))))
    steady-deep

pub enter_puts : (here : Context) (k : List Frame) (f : Function) (vs : List Value) → Puts (enter here k f vs)
enter_puts here k f vs =
    puts-by (some_steady (function_named here.program.units f)) (λ g.
    puts-by (some_steady (frame_bytes here.program f)) (λ bytes.
    puts-by (entered_steady here f vs g bytes) (λ e. sequence_puts e.inner _ e.items)))

-- ---- loops

test_puts : (here : Context) (k : List Frame) (l : Loop) (e : Option TExpr) {next : Stand} → Puts next → Puts (test here k l e next)
test_puts here k l None puts = puts
test_puts here k l (Some e) puts = puts-at _ _ _

turn_puts : (here : Context) (k : List Frame) (l : Loop) → Puts (turn here k l)
turn_puts here k (While e s) = puts-spend (puts-at _ _ _)
turn_puts here k (DoWhile s e) = puts-spend (puts-at _ _ _)
turn_puts here k (For h s) = puts-spend (test_puts here k (For h s) h.condition (puts-at _ _ _))

holding_puts : (here : Context) (k : List Frame) (l : Loop) → Puts (holding here k l)
holding_puts here k (While e s) = puts-at _ _ _
holding_puts here k (DoWhile s e) = turn_puts here k (DoWhile s e)
holding_puts here k (For h s) = puts-at _ _ _

effect_puts : (here : Context) (k : List Frame) (l : Loop) (e : Option TExpr) → Puts (effect_then_turn here k l e)
effect_puts here k l None = turn_puts here k l
effect_puts here k l (Some e) = puts-at _ _ _

after_puts : (here : Context) (k : List Frame) (l : Loop) → Puts (after_turn here k l)
after_puts here k (While e s) = turn_puts here k (While e s)
after_puts here k (DoWhile s e) = puts-at _ _ _
after_puts here k (For h s) = effect_puts here k (For h s) h.next

by_puts : (here : Context) (k : List Frame) (l : Loop) (t : Turn) → Puts (by_turn here k l t)
by_puts here k l Again = after_puts here k l
by_puts here k l (Leaves f) = puts-at _ _ _

-- ---- what is next

execute_puts : (here : Context) (k : List Frame) (s : StmtLayer) → Puts (execute here k s)
execute_puts here k (TStmt-F.Block is) = scope_puts here k (declared is) (λ inner k'. sequence_puts inner k' is)
execute_puts here k (TStmt-F.Expr e) = puts-at _ _ _
execute_puts here k TStmt-F.Empty = puts-at _ _ _
execute_puts here k (TStmt-F.If e s other) = puts-at _ _ _
execute_puts here k (TStmt-F.While e s) = turn_puts here k (While e s)
execute_puts here k (TStmt-F.DoWhile s e) = turn_puts here k (DoWhile s e)
execute_puts here k (TStmt-F.For ds first e next s) = scope_puts here k (map local_of ds) (λ inner k'. puts-at _ _ _)
execute_puts here k (TStmt-F.Return None span) = puts-at _ _ _
execute_puts here k (TStmt-F.Return (Some e) span) = puts-at _ _ _
execute_puts here k (TStmt-F.Break span) = puts-at _ _ _
execute_puts here k (TStmt-F.Continue span) = puts-at _ _ _

object_steady : (here : Context) (d : TDecl) → Steady (declared_object here d)
object_steady here d = steady-some (latest here.open_calls) (λ c. steady-some (local_info here c d.local) (λ l.
    steady-some (here.local d.local) (λ block. steady-gives _)))

zero_steady : (here : Context) (o : Object) (b : Bool) → Steady (after_zero here o b (gives tt))
zero_steady here o false = steady-gives tt
zero_steady here o true = steady-then (steady-with_blocks _) (λ u. steady-gives tt)

with_puts : (here : Context) (k : List Frame) (d : TDecl) (ds : List TDecl) (i : Option TInit) → Puts (declare_with here k d ds i)
with_puts here k d ds None = puts-at _ _ _
with_puts here k d ds (Some i) = puts-spend (puts-by (object_steady here d) (λ o.
    puts-by (zero_steady here o (is_list (out-TInit i) || is_array o.ty)) (λ u. puts-at _ _ _)))

declare_puts : (here : Context) (k : List Frame) (ds : List TDecl) → Puts (declare here k ds)
declare_puts here k [] = puts-at _ _ _
declare_puts here k (d ∷ ds) = with_puts here k d ds d.init

array_puts : (here : Context) (k : List Frame) (n : ℕ) (p : Pointer) (e : TExpr) (node : NodeLayer) → Puts (fill_array here k n p e node)
array_puts here k n p e (TNode-F.Text text) =
    puts-spend (puts-by (steady-some (text_at here text) (λ bytes. steady-with_blocks _)) (λ u. puts-at _ _ _))
array_puts here k n p e _ = puts-at _ _ _

one_puts : (here : Context) (k : List Frame) (o : Object) (e : TExpr) (t : TyLayer) → Puts (fill_one here k o e t)
one_puts here k o e (Ty-F.Array t n) = array_puts here k n o.at e (out-TNode e.node)
one_puts here k o e (Ty-F.Struct number) = puts-either (is_struct e.ty) (puts-at _ _ _) (puts-at _ _ _)
one_puts here k o e _ = puts-at _ _ _

elements_put : (here : Context) (k : List Frame) (first : Object) (n : ℕ) (is : List TInit) → Puts (elements here k first n is)
elements_put here k first n [] = puts-at _ _ _
elements_put here k first n (i ∷ is) = puts-at _ _ _

members_put : (here : Context) (k : List Frame) (p : Pointer) (ms : List MemberInfo) (is : List TInit) → Puts (members here k p ms is)
members_put here k p ms [] = puts-at _ _ _
members_put here k p [] (i ∷ is) = puts-nowhere
members_put here k p (m ∷ ms) (i ∷ is) = puts-at _ _ _

list_puts : (here : Context) (k : List Frame) (o : Object) (is : List TInit) (t : TyLayer) → Puts (fill_list here k o is t)
list_puts here k o is (Ty-F.Array t n) = elements_put here k _ 0 is
list_puts here k o is (Ty-F.Struct number) = members_put here k o.at _ is
list_puts here k o is _ = puts-nowhere

fill_puts : (here : Context) (k : List Frame) (o : Object) (i : TInit-F TInit) → Puts (fill here k o i)
fill_puts here k o (TInit-F.One e) = one_puts here k o e (out-Ty o.ty)
fill_puts here k o (TInit-F.List is span) = list_puts here k o is (out-Ty o.ty)

-- ---- what waited

else_puts : (here : Context) (k : List Frame) (other : Option TStmt) → Puts (else_part here k other)
else_puts here k None = puts-at _ _ _
else_puts here k (Some s) = puts-at _ _ _

value_puts : (here : Context) (k : List Frame) (f : ValueFrame) (v : Value) → Puts (value_given here k f v)
value_puts here k Effect v = puts-at _ _ _
value_puts here k Drop v = puts-at _ _ _
value_puts here k (IfTest e s other) v =
    puts-by (truth_steady here e.span v) (λ holds. puts-either holds (puts-at _ _ _) (else_puts here k other))
value_puts here k (Test l e) v = puts-by (truth_steady here e.span v) (λ holds. puts-either holds (holding_puts here k l) (puts-at _ _ _))
value_puts here k (ThenTurn l) v = turn_puts here k l
value_puts here k Return v = puts-at _ _ _
value_puts here k (FillStruct o e) v = puts-by (copy_steady here _) (λ u. puts-at _ _ _)
value_puts here k (FillScalar o e) v = puts-by (write_steady here e.span o v) (λ u. puts-at _ _ _)

item_after : (here : Context) (k : List Frame) (is : List TItem) (f : Flow) → Puts (after_item here k is f)
item_after here k is Next = sequence_puts here k is
item_after here k is Broke = puts-at _ _ _
item_after here k is Continued = puts-at _ _ _
item_after here k is (Returned v) = puts-at _ _ _

flow_puts : (here : Context) (k : List Frame) (g : FlowFrame) (f : Flow) → Puts (flow_given here k g f)
flow_puts here k (Items is) f = item_after here k is f
flow_puts here k (Scope outer ns) f = puts-by (end_steady here ns) (λ u. puts-at _ _ _)
flow_puts here k (Body l) f = by_puts here k l (after_body f)
flow_puts here k (Called outer c t) f =
    puts-by (steady-with_blocks (end_call c.number)) (λ u. puts-at (GivesValue (result_of t f)) outer k)

done_puts : (here : Context) (k : List Frame) (d : DoneFrame) → Puts (done_given here k d)
done_puts here k (Declared ds) = puts-at _ _ _
done_puts here k AfterDeclarations = puts-at _ _ _
done_puts here k (ForDeclared h s) = effect_puts here k (For h s) h.first
done_puts here k (Elements first n is) = elements_put here k first n is
done_puts here k (Members p ms is) = members_put here k p ms is

-- ---- machines

resume_puts : (c : Control) (here : Context) (k : List Frame) → Puts (resume c here k)
resume_puts (GivesValue v) here [] = puts-at _ _ _
resume_puts (GivesValue v) here (OnOperand f ∷ k) = operand_puts enter_puts here k f v
resume_puts (GivesValue v) here (OnValue f ∷ k) = value_puts here k f v
resume_puts (GivesPlace p) here (OnPlace f ∷ k) = place_puts here k f p
resume_puts (GivesFlow w) here (OnFlow f ∷ k) = flow_puts here k f w
resume_puts Finished here (OnDone f ∷ k) = done_puts here k f
resume_puts _ here k = puts-nowhere

step_puts : (m : Machine) → Begins (put_by m) (put_by (step m))
step_puts (Ended why now) = begins-itself now.output
step_puts (Runs (Evaluate around e) here k now) = (evaluate_puts enter_puts here k around e (out-TNode e.node)).puts now
step_puts (Runs (Locate e) here k now) = (locate_puts here k e (out-TNode e.node)).puts now
step_puts (Runs (Execute s) here k now) = (execute_puts here k (out-TStmt s)).puts now
step_puts (Runs (Declare ds) here k now) = (declare_puts here k ds).puts now
step_puts (Runs (Fill o i) here k now) = (fill_puts here k o (out-TInit i)).puts now
step_puts (Runs c here k now) = (resume_puts c here k).puts now

run_puts : (n : ℕ) (m : Machine) → Begins (put_by m) (put_by (run n m))
run_puts zero m = begins-itself (put_by m)
run_puts (suc n) m = begins-through (step_puts m) (run_puts n (step m))

pub leads-puts : {m n : Machine} → Leads m n → Begins (put_by m) (put_by n)
leads-puts {m = m} leads = subst (λ x. Begins (put_by m) (put_by x)) leads.is (run_puts leads.steps m)
