-- One level more leaves each initialiser and declaration that is not stuck as it is.
use Rattle.std.proofs.Common.{ℕ, zero, suc, ◌+◌, ◌||◌, Bool, true, false, List, [], ◌∷◌}
use Rattle.std.proofs.Common.{Option, Some, None}
use Rattle.std.specs.Prelude.{slice_get}
use Rattle.c_type_base.specs.declared.expr.TExpr.{TExpr}
use Rattle.c_type_base.specs.declared.expr.TNode.{out-TNode}
use Rattle.c_type_base.specs.declared.expr.TNode.TheOpen.{TNode-F}
use Rattle.block_meaning.specs.Expressions.{NodeLayer, ExprParts}
use Rattle.c_type_base.specs.declared.ty.Ty.{out-Ty}
use Rattle.c_type_base.specs.declared.ty.Ty.TheOpen.{Ty-F}
use Rattle.c_type_base.specs.declared.statement.TInit.{TInit, out-TInit}
use Rattle.c_type_base.specs.declared.statement.TInit.TheOpen.{TInit-F}
use Rattle.c_type_base.specs.declared.statement.TDecl.{TDecl}
use Rattle.c_type_base.specs.declared.typed.MemberInfo.{MemberInfo}
use Rattle.c_type_base.specs.Types.{TyLayer, is_struct, is_array}
use Rattle.c_type_base.specs.Layout.{members_of}
use Rattle.block_meaning.specs.declared.value.Pointer.{Pointer}
use Rattle.block_meaning.specs.Blocks.{pointer, stored}
use Rattle.block_meaning.specs.Opening.{zero_cells}
use Rattle.block_meaning.specs.Memory.{Object, object, structs_at}
use Rattle.block_meaning.specs.Locals.{InitParts, latest, local_info, only_run, fill_array, fill_struct, fill_one, fill_elements}
use Rattle.block_meaning.specs.Locals.{fill_members, fill_list, fill_node, fill_at, is_list, after_zero, declared_with, declarations}
use Rattle.block_meaning.specs.Laws.Settled.{Settles, settles-itself, settles-stuck, settles-then, settles-unit}
use Rattle.block_meaning.specs.Laws.Settled.{settles-some}
use Rattle.block_meaning.specs.Running.{Run, Context, with_blocks}
use Rattle.block_meaning.specs.Laws.Bound.Expressions.{PartsSettle}

record TwoInits : Type 0 where
  here : Context
  parts : ExprParts
  more_parts : ExprParts
  fill : Object → TInit → Run (Unit {0})
  more_fill : Object → TInit → Run (Unit {0})
  of_parts : PartsSettle parts more_parts
  of_fill : (o : Object) (i : TInit) → Settles (fill o i) (more_fill o i)

abbrev less_init : TwoInits → InitParts
less_init two = record { here = two.here; parts = two.parts; fill = two.fill }

abbrev larger_init : TwoInits → InitParts
larger_init two = record { here = two.here; parts = two.more_parts; fill = two.more_fill }

pub run_settles : {p q : ExprParts} → PartsSettle p q → (e : TExpr) → Settles (only_run p e) (only_run q e)
run_settles of_parts e = settles-then (of_parts.value e.span e) (λ v. settles-itself _)

array_settles : (two : TwoInits) (n : ℕ) (p : Pointer) (e : TExpr) (level : NodeLayer) →
    Settles (fill_array (less_init two) n p e level) (fill_array (larger_init two) n p e level)
array_settles two n p e (TNode-F.Text text) = settles-itself _
array_settles two n p e _ = run_settles two.of_parts e

struct_settles : (two : TwoInits) (o : Object) (e : TExpr) (is : Bool) →
    Settles (fill_struct (less_init two) o e is) (fill_struct (larger_init two) o e is)
struct_settles two o e false = run_settles two.of_parts e
struct_settles two o e true = settles-then (two.of_parts.value e.span e) (λ v. settles-itself _)

one_settles : (two : TwoInits) (o : Object) (e : TExpr) (level : TyLayer) →
    Settles (fill_one (less_init two) o e level) (fill_one (larger_init two) o e level)
one_settles two o e (Ty-F.Array t n) = array_settles two n o.at e (out-TNode e.node)
one_settles two o e (Ty-F.Struct number) = struct_settles two o e (is_struct e.ty)
one_settles two o e _ = settles-then (two.of_parts.value e.span e) (λ v. settles-itself _)

elements_settle : (two : TwoInits) (first : Object) (k : ℕ) (is : List TInit) →
    Settles (fill_elements (less_init two) first k is) (fill_elements (larger_init two) first k is)
elements_settle two first k [] = settles-itself _
elements_settle two first k (i ∷ is) = settles-then (two.of_fill _ i) (λ _. elements_settle two first (k + 1) is)

members_settle : (two : TwoInits) (p : Pointer) (ms : List MemberInfo) (is : List TInit) →
    Settles (fill_members (less_init two) p ms is) (fill_members (larger_init two) p ms is)
members_settle two p ms [] = settles-itself _
members_settle two p [] (i ∷ is) = settles-itself _
members_settle two p (m ∷ ms) (i ∷ is) = settles-then (two.of_fill _ i) (λ _. members_settle two p ms is)

list_settles : (two : TwoInits) (o : Object) (is : List TInit) (level : TyLayer) →
    Settles (fill_list (less_init two) o is level) (fill_list (larger_init two) o is level)
list_settles two o is (Ty-F.Array t n) = elements_settle two (object t o.at) 0 is
list_settles two o is (Ty-F.Struct number) = members_settle two o.at (members_of (slice_get (structs_at two.here) number)) is
list_settles two o is _ = settles-itself _

init_settles : (two : TwoInits) (o : Object) (i : TInit-F TInit) →
    Settles (fill_node (less_init two) o i) (fill_node (larger_init two) o i)
init_settles two o (TInit-F.One e) = one_settles two o e (out-Ty o.ty)
init_settles two o (TInit-F.List is span) = list_settles two o is (out-Ty o.ty)

fill_settles : (here : Context) {p q : ExprParts} → PartsSettle p q → (depth : ℕ) (o : Object) (i : TInit) →
    Settles (fill_at here p depth o i) (fill_at here q (suc depth) o i)
fill_settles here of_parts zero o i = settles-stuck _
fill_settles here {p = p} {q = q} of_parts (suc depth) o i = init_settles (record {
  here = here;
  parts = p;
  more_parts = q;
  fill = fill_at here p depth;
  more_fill = fill_at here q (suc depth);
  of_parts = of_parts;
  of_fill = fill_settles here of_parts depth;
}) o (out-TInit i)

zero_settles : (here : Context) (o : Object) (b : Bool) {m n : Run (Unit {0})} → Settles m n →
    Settles (after_zero here o b m) (after_zero here o b n)
zero_settles here o false settles = settles
zero_settles here o true settles =
    settles-then (settles-itself (with_blocks (stored o.at (zero_cells (structs_at here) o.ty)))) (λ _. settles)

declared_settles : (here : Context) {p q : ExprParts} → PartsSettle p q → (depth : ℕ) (d : TDecl) (i : Option TInit) →
    Settles (declared_with here p depth d i) (declared_with here q (suc depth) d i)
declared_settles here of_parts depth d None = settles-itself _
declared_settles here of_parts depth d (Some i) = settles-unit (settles-some (latest here.open_calls) (λ c.
    settles-some (local_info here c d.local) (λ l. settles-some (here.local d.local) (λ block.
    let o = object l.ty (pointer block 0) in
    zero_settles here o (is_list (out-TInit i) || is_array l.ty) (fill_settles here of_parts depth o i)))))

pub declarations_settle : (here : Context) {p q : ExprParts} → PartsSettle p q → (depth : ℕ) (ds : List TDecl) →
    Settles (declarations here p depth ds) (declarations here q (suc depth) ds)
declarations_settle here of_parts depth [] = settles-itself _
declarations_settle here of_parts depth (d ∷ ds) =
    settles-then (declared_settles here of_parts depth d d.init) (λ _. declarations_settle here of_parts depth ds)
