-- The steps of the machine in statements, declarations and initialisers, and at calls.
use Rattle.std.specs.Prelude.{ℕ, ◌+◌, ◌*◌, ◌||◌, List, [], ◌∷◌, map, take, slice_get, Option, Some, None}
use Rattle.c_type_base.specs.declared.ty.Ty.{Ty, out-Ty}
use Rattle.c_type_base.specs.declared.ty.Ty.TheOpen.{Ty-F}
use Rattle.c_type_base.specs.declared.expr.TExpr.{TExpr}
use Rattle.c_type_base.specs.declared.expr.TNode.{out-TNode}
use Rattle.c_type_base.specs.declared.expr.TNode.TheOpen.{TNode-F}
use Rattle.c_type_base.specs.declared.statement.TInit.{TInit, out-TInit}
use Rattle.c_type_base.specs.declared.statement.TInit.TheOpen.{TInit-F}
use Rattle.c_type_base.specs.declared.statement.TDecl.{TDecl}
use Rattle.c_type_base.specs.declared.statement.TItem.{TItem, out-TItem}
use Rattle.c_type_base.specs.declared.statement.TItem.TheOpen.{TItem-F, TStmt-F}
use Rattle.c_type_base.specs.declared.statement.TStmt.{TStmt, out-TStmt}
use Rattle.c_type_base.specs.declared.typed.MemberInfo.{MemberInfo}
use Rattle.c_type_base.specs.declared.typed.TFunction.{TFunction}
use Rattle.c_type_base.specs.Layout.{members_of}
use Rattle.c_type_base.specs.Types.{TyLayer, is_struct, is_array}
use Rattle.block_meaning.specs.declared.cell.Cell.TheVariants.{Byte}
use Rattle.block_meaning.specs.declared.value.Pointer.{Pointer}
use Rattle.block_meaning.specs.Blocks.{pointer, moved, stored}
use Rattle.block_meaning.specs.Expressions.{NodeLayer}
use Rattle.block_meaning.specs.Linkage.{function_named}
use Rattle.block_meaning.specs.Locals.{latest, local_info, new_locals, end_locals, text_at, is_list, after_zero}
use Rattle.block_meaning.specs.Meaning.{frame_bytes, open_bytes, new_call, with_arguments, end_call, result_of, unless_deep}
use Rattle.block_meaning.specs.Memory.{Object, object, structs_at, bytes_of, write, copy_struct}
use Rattle.block_meaning.specs.Operators.{is_true}
use Rattle.block_meaning.specs.Running.{Function, Call, Run, gives, stuck, and_then, with_blocks, with_some, Context}
use Rattle.block_meaning.specs.Statements.{StmtLayer, ItemLayer, Flow, Next, Broke, Continued, Returned, local_of, declared}
use Rattle.block_meaning.specs.Statements.{Turn, Again, Leaves, after_body, Heading}
use Rattle.block_meaning.specs.declared.value.Value.{Value}
use Rattle.block_meaning.specs.declared.value.Value.TheVariants.{NoValue}
use Rattle.block_meaning.specs.Values.{pointer_in}
use Rattle.mean_machine.specs.Frames.{Loop, While, DoWhile, For, Evaluate, Execute, Declare, Fill, ValueFrame, Effect, Drop, IfTest}
use Rattle.mean_machine.specs.Frames.{Test, ThenTurn, Return, FillStruct, FillScalar, FlowFrame, Items, Scope, Body, Called, DoneFrame}
use Rattle.mean_machine.specs.Frames.{Declared, AfterDeclarations, ForDeclared, Elements, Members, Frame, OnValue, OnFlow, OnDone, Runs}
use Rattle.mean_machine.specs.Going.{Stand, by, spend, either, nowhere, value, flow, finished}

-- an expression is evaluated for a frame
abbrev pub value_first : Context → List Frame → TExpr → ValueFrame → Stand
value_first here k e frame = Runs (Evaluate e.span e) here (OnValue frame ∷ k)

-- ---- the parts of a block

abbrev pub item : Context → List Frame → ItemLayer → Stand
item here k (TItem-F.Local ds) = Runs (Declare ds) here (OnDone AfterDeclarations ∷ k)
item here k (TItem-F.Stmt s) = Runs (Execute s) here k

abbrev pub sequence : Context → List Frame → List TItem → Stand
sequence here k [] = flow here k Next
sequence here k (i ∷ is) = item here (OnFlow (Items is) ∷ k) (out-TItem i)

-- a scope inside a function's outermost block, and what runs in it
abbrev pub scope : Context → List Frame → List ℕ → (Context → List Frame → Stand) → Stand
scope here k [] inside = inside here k
scope here k (n ∷ ns) inside = spend (by (new_locals here (n ∷ ns)) (λ inner. inside inner (OnFlow (Scope here (n ∷ ns)) ∷ k)))

-- ---- calls

-- a call that was entered
pub record Entry : Type 0 where
  pub call : Call
  pub inner : Context
  pub items : List TItem

abbrev pub entered_body : Call → Context → StmtLayer → Run Entry
entered_body c ready (TStmt-F.Block is) =
    and_then (new_locals ready (declared is)) (λ inner. gives (record { call = c; inner = inner; items = is }))
entered_body c ready _ = stuck

abbrev pub entered_call : List Value → TFunction → Context → Call → Run Entry
entered_call vs g inside c =
    and_then (with_arguments inside 0 (take g.params g.locals) vs) (λ ready. entered_body c ready (out-TStmt g.body))

abbrev pub entered : Context → Function → List Value → TFunction → ℕ → Run Entry
entered here f vs g bytes =
    let place = open_bytes here.open_calls + bytes in
    unless_deep here.program place (and_then (new_call here f place) (λ inside.
    with_some (latest inside.open_calls) (entered_call vs g inside)))

abbrev pub start_body : Context → List Frame → Ty → Entry → Stand
start_body here k t e = sequence e.inner (OnFlow (Called here e.call t) ∷ k) e.items

-- a function is called
abbrev pub enter : Context → List Frame → Function → List Value → Stand
enter here k f vs =
    by (with_some (function_named here.program.units f) gives) (λ g.
    by (with_some (frame_bytes here.program f) gives) (λ bytes.
    by (entered here f vs g bytes) (start_body here k g.result)))

-- ---- loops

abbrev pub test : Context → List Frame → Loop → Option TExpr → Stand → Stand
test here k l None next = next
test here k l (Some e) next = value_first here k e (Test l e)

-- a turn of a loop begins
abbrev pub turn : Context → List Frame → Loop → Stand
turn here k (While e s) = spend (value_first here k e (Test (While e s) e))
turn here k (DoWhile s e) = spend (Runs (Execute s) here (OnFlow (Body (DoWhile s e)) ∷ k))
turn here k (For h s) = spend (test here k (For h s) h.condition (Runs (Execute s) here (OnFlow (Body (For h s)) ∷ k)))

-- the condition of a loop holds
abbrev pub holding : Context → List Frame → Loop → Stand
holding here k (While e s) = Runs (Execute s) here (OnFlow (Body (While e s)) ∷ k)
holding here k (DoWhile s e) = turn here k (DoWhile s e)
holding here k (For h s) = Runs (Execute s) here (OnFlow (Body (For h s)) ∷ k)

-- an expression, if there is one, and then a turn
abbrev pub effect_then_turn : Context → List Frame → Loop → Option TExpr → Stand
effect_then_turn here k l None = turn here k l
effect_then_turn here k l (Some e) = value_first here k e (ThenTurn l)

-- a loop goes on after its body
abbrev pub after_turn : Context → List Frame → Loop → Stand
after_turn here k (While e s) = turn here k (While e s)
after_turn here k (DoWhile s e) = value_first here k e (Test (DoWhile s e) e)
after_turn here k (For h s) = effect_then_turn here k (For h s) h.next

abbrev pub by_turn : Context → List Frame → Loop → Turn → Stand
by_turn here k l Again = after_turn here k l
by_turn here k l (Leaves f) = flow here k f

-- ---- what is next

abbrev pub execute : Context → List Frame → StmtLayer → Stand
execute here k (TStmt-F.Block is) = scope here k (declared is) (λ inner k'. sequence inner k' is)
execute here k (TStmt-F.Expr e) = value_first here k e Effect
execute here k TStmt-F.Empty = flow here k Next
execute here k (TStmt-F.If e s other) = value_first here k e (IfTest e s other)
execute here k (TStmt-F.While e s) = turn here k (While e s)
execute here k (TStmt-F.DoWhile s e) = turn here k (DoWhile s e)
execute here k (TStmt-F.For ds first e next s) =
    let h : Heading = record { declared = ds; first = first; condition = e; next = next } in
    scope here k (map local_of ds) (λ inner k'. Runs (Declare ds) inner (OnDone (ForDeclared h s) ∷ k'))
execute here k (TStmt-F.Return None span) = flow here k (Returned NoValue)
execute here k (TStmt-F.Return (Some e) span) = value_first here k e Return
execute here k (TStmt-F.Break span) = flow here k Broke
execute here k (TStmt-F.Continue span) = flow here k Continued

-- the object that a declaration initialises
abbrev pub declared_object : Context → TDecl → Run Object
declared_object here d = with_some (latest here.open_calls) (λ c. with_some (local_info here c d.local) (λ l.
    with_some (here.local d.local) (λ block. gives (object l.ty (pointer block 0)))))

-- a list or a text first makes the whole object zero
abbrev pub zeroed : Context → Object → TInit → Run (Unit {0})
zeroed here o i = after_zero here o (is_list (out-TInit i) || is_array o.ty) (gives tt)

abbrev pub declare_with : Context → List Frame → TDecl → List TDecl → Option TInit → Stand
declare_with here k d ds None = Runs (Declare ds) here k
declare_with here k d ds (Some i) =
    spend (by (declared_object here d) (λ o. by (zeroed here o i) (λ u. Runs (Fill o i) here (OnDone (Declared ds) ∷ k))))

abbrev pub declare : Context → List Frame → List TDecl → Stand
declare here k [] = finished here k tt
declare here k (d ∷ ds) = declare_with here k d ds d.init

abbrev pub fill_text : Context → ℕ → Pointer → ℕ → Run (Unit {0})
fill_text here n p text = with_some (text_at here text) (λ bytes. with_blocks (stored p (map Byte (take n bytes))))

abbrev pub fill_array : Context → List Frame → ℕ → Pointer → TExpr → NodeLayer → Stand
fill_array here k n p e (TNode-F.Text text) = spend (by (fill_text here n p text) (finished here k))
fill_array here k n p e _ = value_first here k e Drop

abbrev pub fill_one : Context → List Frame → Object → TExpr → TyLayer → Stand
fill_one here k o e (Ty-F.Array t n) = fill_array here k n o.at e (out-TNode e.node)
fill_one here k o e (Ty-F.Struct number) = either (is_struct e.ty) (value_first here k e (FillStruct o e)) (value_first here k e Drop)
fill_one here k o e _ = value_first here k e (FillScalar o e)

abbrev pub elements : Context → List Frame → Object → ℕ → List TInit → Stand
elements here k first n [] = finished here k tt
elements here k first n (i ∷ is) =
    Runs (Fill (object first.ty (moved first.at (n * bytes_of here first.ty))) i) here (OnDone (Elements first (n + 1) is) ∷ k)

abbrev pub members : Context → List Frame → Pointer → List MemberInfo → List TInit → Stand
members here k p ms [] = finished here k tt
members here k p [] (i ∷ is) = nowhere
members here k p (m ∷ ms) (i ∷ is) = Runs (Fill (object m.ty (moved p m.offset)) i) here (OnDone (Members p ms is) ∷ k)

abbrev pub fill_list : Context → List Frame → Object → List TInit → TyLayer → Stand
fill_list here k o is (Ty-F.Array t n) = elements here k (object t o.at) 0 is
fill_list here k o is (Ty-F.Struct number) = members here k o.at (members_of (slice_get (structs_at here) number)) is
fill_list here k o is _ = nowhere

abbrev pub fill : Context → List Frame → Object → TInit-F TInit → Stand
fill here k o (TInit-F.One e) = fill_one here k o e (out-Ty o.ty)
fill here k o (TInit-F.List is span) = fill_list here k o is (out-Ty o.ty)

-- ---- what waited

abbrev pub else_part : Context → List Frame → Option TStmt → Stand
else_part here k None = flow here k Next
else_part here k (Some s) = Runs (Execute s) here k

abbrev pub struct_filled : Context → Object → TExpr → Value → Run (Unit {0})
struct_filled here o e v = copy_struct here (record {
  source = object o.ty (pointer_in v);
  target = o;
  source_span = e.span;
  target_span = e.span;
  span = e.span;
})

-- a part of a statement or of an initialiser has its value
abbrev pub value_given : Context → List Frame → ValueFrame → Value → Stand
value_given here k Effect v = flow here k Next
value_given here k Drop v = finished here k tt
value_given here k (IfTest e s other) v =
    by (is_true here e.span v) (λ holds. either holds (Runs (Execute s) here k) (else_part here k other))
value_given here k (Test l e) v = by (is_true here e.span v) (λ holds. either holds (holding here k l) (flow here k Next))
value_given here k (ThenTurn l) v = turn here k l
value_given here k Return v = flow here k (Returned v)
value_given here k (FillStruct o e) v = by (struct_filled here o e v) (finished here k)
value_given here k (FillScalar o e) v = by (write here e.span o v) (finished here k)

abbrev pub after_item : Context → List Frame → List TItem → Flow → Stand
after_item here k is Next = sequence here k is
after_item here k is f = flow here k f

-- a statement has ended
abbrev pub flow_given : Context → List Frame → FlowFrame → Flow → Stand
flow_given here k (Items is) f = after_item here k is f
flow_given here k (Scope outer ns) f = by (end_locals here ns) (λ u. flow outer k f)
flow_given here k (Body l) f = by_turn here k l (after_body f)
flow_given here k (Called outer c t) f = by (with_blocks (end_call c.number)) (λ u. value outer k (result_of t f))

-- a declaration or an initialiser has ended
abbrev pub done_given : Context → List Frame → DoneFrame → Stand
done_given here k (Declared ds) = Runs (Declare ds) here k
done_given here k AfterDeclarations = flow here k Next
done_given here k (ForDeclared h s) = effect_then_turn here k (For h s) h.first
done_given here k (Elements first n is) = elements here k first n is
done_given here k (Members p ms is) = members here k p ms is
