-- The machine computes declarations and initialisers.
use Rattle.std.proofs.Common.{ℕ, zero, suc, ◌+◌, ◌||◌, Bool, true, false, List, [], ◌∷◌, Option, Some, None}
use Rattle.std.specs.Prelude.{slice_get}
use Rattle.c_type_base.specs.declared.ty.Ty.{out-Ty}
use Rattle.c_type_base.specs.declared.ty.Ty.TheOpen.{Ty-F}
use Rattle.c_type_base.specs.declared.expr.TExpr.{TExpr}
use Rattle.c_type_base.specs.declared.expr.TNode.{out-TNode}
use Rattle.c_type_base.specs.declared.expr.TNode.TheOpen.{TNode-F}
use Rattle.c_type_base.specs.declared.statement.TInit.{TInit, out-TInit}
use Rattle.c_type_base.specs.declared.statement.TInit.TheOpen.{TInit-F}
use Rattle.c_type_base.specs.declared.statement.TDecl.{TDecl}
use Rattle.c_type_base.specs.declared.typed.MemberInfo.{MemberInfo}
use Rattle.c_type_base.specs.Layout.{members_of}
use Rattle.c_type_base.specs.Types.{TyLayer, is_struct, is_array}
use Rattle.block_meaning.specs.declared.value.Pointer.{Pointer}
use Rattle.block_meaning.specs.Blocks.{pointer, stored}
use Rattle.block_meaning.specs.Expressions.{NodeLayer, ExprParts, value_of}
use Rattle.block_meaning.specs.Locals.{InitParts, latest, local_info, fill_array, fill_struct, fill_one, fill_elements, fill_members}
use Rattle.block_meaning.specs.Locals.{fill_list, fill_node, fill_at, is_list, after_zero, init_local, declared_with}
use Rattle.block_meaning.specs.Locals.{declarations, only_run}
use Rattle.block_meaning.specs.Memory.{Object, object, structs_at}
use Rattle.block_meaning.specs.Opening.{zero_cells}
use Rattle.block_meaning.specs.Running.{Run, gives, and_then, with_blocks, with_some, Context}
use Rattle.block_meaning.specs.declared.value.Value.{Value}
use Rattle.mean_machine.specs.Frames.{Declare, Fill, ValueFrame, Drop, FillStruct, FillScalar, Declared, Elements, Members, Frame}
use Rattle.mean_machine.specs.Frames.{OnValue, OnDone, Runs}
use Rattle.mean_machine.specs.Going.{Stand, by, either, finished}
use Rattle.mean_machine.specs.Execution.{value_first, declared_object, zeroed, declare_with, fill_text, elements, members, fill}
use Rattle.mean_machine.specs.Execution.{value_given}
use Rattle.mean_machine.specs.Laws.Computes.{Computes, computes-by, computes-stuck, computes-next, computes-then, computes-unit}
use Rattle.mean_machine.specs.Laws.Computes.{computes-some}
use Rattle.mean_machine.specs.Laws.Evaluation.{PartsCompute}

-- the value of an expression, and what follows
pub value_computes : {here : Context} {parts : ExprParts} {B : Type 0} {f : Value → Run B} {to : B → Stand} → PartsCompute here parts →
    (k : List Frame) (e : TExpr) (frame : ValueFrame) → ((v : Value) → Computes (f v) (value_given here k frame v) to) →
    Computes (and_then (value_of parts e) f) (value_first here k e frame) to
value_computes of_parts k e frame each =
    computes-then (of_parts.value_in e.span e (OnValue frame ∷ k)) (λ v. computes-next (each v))

-- an expression whose value is dropped
drop_computes : {here : Context} {parts : ExprParts} → PartsCompute here parts → (k : List Frame) (e : TExpr) →
    Computes (only_run parts e) (value_first here k e Drop) (finished here k)
drop_computes of_parts k e = value_computes of_parts k e Drop (λ v. computes-by _ _)

-- an initialiser whose parts are computed
record Filling : Type 0 where
  here : Context
  parts : ExprParts
  fill_part : Object → TInit → Run (Unit {0})
  of_parts : PartsCompute here parts
  of_fill : (o : Object) (i : TInit) (k : List Frame) → Computes (fill_part o i) (Runs (Fill o i) here k) (finished here k)

abbrev init_of : Filling → InitParts
init_of f = record { here = f.here; parts = f.parts; fill = f.fill_part }

array_computes : (f : Filling) (k : List Frame) (n : ℕ) (p : Pointer) (e : TExpr) (level : NodeLayer) →
    Computes (fill_array (init_of f) n p e level) (Rattle.mean_machine.specs.Execution.fill_array f.here k n p e level) (finished f.here k)
array_computes f k n p e (TNode-F.Text text) = computes-unit (computes-by (fill_text f.here n p text) (finished f.here k))
array_computes f k n p e _ = drop_computes f.of_parts k e

struct_computes : (f : Filling) (k : List Frame) (o : Object) (e : TExpr) (b : Bool) → Computes (fill_struct (init_of f) o e b)
    (either b (value_first f.here k e (FillStruct o e)) (value_first f.here k e Drop)) (finished f.here k)
struct_computes f k o e false = drop_computes f.of_parts k e
struct_computes f k o e true = value_computes f.of_parts k e (FillStruct o e) (λ v. computes-by _ _)

one_computes : (f : Filling) (k : List Frame) (o : Object) (e : TExpr) (level : TyLayer) →
    Computes (fill_one (init_of f) o e level) (Rattle.mean_machine.specs.Execution.fill_one f.here k o e level) (finished f.here k)
one_computes f k o e (Ty-F.Array t n) = array_computes f k n o.at e (out-TNode e.node)
one_computes f k o e (Ty-F.Struct number) = struct_computes f k o e (is_struct e.ty)
one_computes f k o e _ = value_computes f.of_parts k e (FillScalar o e) (λ v. computes-by _ _)

elements_compute : (f : Filling) (k : List Frame) (first : Object) (n : ℕ) (is : List TInit) →
    Computes (fill_elements (init_of f) first n is) (elements f.here k first n is) (finished f.here k)
elements_compute f k first n [] = computes-by _ _
elements_compute f k first n (i ∷ is) =
    computes-then (f.of_fill _ i (OnDone (Elements first (n + 1) is) ∷ k)) (λ u. computes-next (elements_compute f k first (n + 1) is))

members_compute : (f : Filling) (k : List Frame) (p : Pointer) (ms : List MemberInfo) (is : List TInit) →
    Computes (fill_members (init_of f) p ms is) (members f.here k p ms is) (finished f.here k)
members_compute f k p ms [] = computes-by _ _
members_compute f k p [] (i ∷ is) = computes-stuck _ _
members_compute f k p (m ∷ ms) (i ∷ is) =
    computes-then (f.of_fill _ i (OnDone (Members p ms is) ∷ k)) (λ u. computes-next (members_compute f k p ms is))

list_computes : (f : Filling) (k : List Frame) (o : Object) (is : List TInit) (level : TyLayer) →
    Computes (fill_list (init_of f) o is level) (Rattle.mean_machine.specs.Execution.fill_list f.here k o is level) (finished f.here k)
list_computes f k o is (Ty-F.Array t n) = elements_compute f k (object t o.at) 0 is
list_computes f k o is (Ty-F.Struct number) = members_compute f k o.at (members_of (slice_get (structs_at f.here) number)) is
list_computes f k o is _ = computes-stuck _ _

init_computes : (f : Filling) (k : List Frame) (o : Object) (i : TInit-F TInit) →
    Computes (fill_node (init_of f) o i) (fill f.here k o i) (finished f.here k)
init_computes f k o (TInit-F.One e) = one_computes f k o e (out-Ty o.ty)
init_computes f k o (TInit-F.List is span) = list_computes f k o is (out-Ty o.ty)

fill_computes : {here : Context} {parts : ExprParts} → PartsCompute here parts → (depth : ℕ) (o : Object) (i : TInit) (k : List Frame) →
    Computes (fill_at here parts depth o i) (Runs (Fill o i) here k) (finished here k)
fill_computes of_parts zero o i k = computes-stuck _ _
fill_computes {here = here} {parts = parts} of_parts (suc depth) o i k = computes-next (init_computes (record {
  here = here;
  parts = parts;
  fill_part = fill_at here parts depth;
  of_parts = of_parts;
  of_fill = λ o' i' k'. fill_computes of_parts depth o' i' k';
}) k o (out-TInit i))

zero_computes : {m : Run (Unit {0})} {from : Stand} {to : Unit {0} → Stand} (here : Context) (o : Object) (b : Bool) → Computes m from to →
    Computes (after_zero here o b m) (by (after_zero here o b (gives tt)) (λ u. from)) to
zero_computes here o false each = each
zero_computes {from = from} here o true each =
    computes-then (computes-by (with_blocks (stored o.at (zero_cells (structs_at here) o.ty))) (λ u. from)) (λ u. each)

object_computes : {here : Context} {parts : ExprParts} → PartsCompute here parts → (depth : ℕ) (d : TDecl) (i : TInit) (k : List Frame) →
    Computes (with_some (latest here.open_calls) (init_local here parts depth d i))
    (by (declared_object here d) (λ o. by (zeroed here o i) (λ u. Runs (Fill o i) here k))) (finished here k)
object_computes {here = here} of_parts depth d i k = computes-some (latest here.open_calls) _ _ (λ c.
    computes-some (local_info here c d.local) _ _ (λ l. computes-some (here.local d.local) _ _ (λ block.
    let o = object l.ty (pointer block 0) in
    zero_computes here o (is_list (out-TInit i) || is_array l.ty) (fill_computes of_parts depth o i k))))

declared_computes : {here : Context} {parts : ExprParts} → PartsCompute here parts → (depth : ℕ) (d : TDecl) (ds : List TDecl)
    (k : List Frame) (i : Option TInit) → Computes (declarations here parts depth ds) (Runs (Declare ds) here k) (finished here k) →
    Computes (and_then (declared_with here parts depth d i) (λ u. declarations here parts depth ds)) (declare_with here k d ds i)
    (finished here k)
declared_computes of_parts depth d ds k None rest = rest
declared_computes of_parts depth d ds k (Some i) rest =
    computes-then (computes-unit (object_computes of_parts depth d i (OnDone (Declared ds) ∷ k))) (λ u. computes-next rest)

none_declared : (here : Context) (k : List Frame) → Computes (gives tt) (Runs (Declare []) here k) (finished here k)
none_declared here k = computes-next {from = Runs (Declare []) here k} (computes-by (gives tt) (finished here k))

one_declared : {m : Run (Unit {0})} (here : Context) (k : List Frame) (d : TDecl) (ds : List TDecl) →
    Computes m (declare_with here k d ds d.init) (finished here k) → Computes m (Runs (Declare (d ∷ ds)) here k) (finished here k)
one_declared here k d ds each = computes-next {from = Runs (Declare (d ∷ ds)) here k} each

pub declarations_compute : {here : Context} {parts : ExprParts} → PartsCompute here parts → (depth : ℕ) (ds : List TDecl)
    (k : List Frame) → Computes (declarations here parts depth ds) (Runs (Declare ds) here k) (finished here k)
declarations_compute {here = here} of_parts depth [] k = none_declared here k
declarations_compute {here = here} of_parts depth (d ∷ ds) k =
    one_declared here k d ds (declared_computes of_parts depth d ds k d.init (declarations_compute of_parts depth ds k))
