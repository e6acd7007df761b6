-- Locals and initialisers do the same with more work, or have put a part of it.
use Rattle.std.proofs.Common.{refl, ℕ, zero, suc, ◌+◌, Bool, true, false, ◌||◌, List, []}
use Rattle.std.proofs.Common.{◌∷◌, Option, Some, None}
use Rattle.std.specs.Prelude.{slice_get}
use Rattle.c_type_base.specs.declared.ty.Ty.{out-Ty}
use Rattle.c_type_base.specs.declared.ty.Ty.TheOpen.{Ty-F}
use Rattle.c_type_base.specs.declared.expr.TExpr.{TExpr}
use Rattle.c_type_base.specs.declared.expr.TNode.{out-TNode}
use Rattle.c_type_base.specs.declared.expr.TNode.TheOpen.{TNode-F}
use Rattle.c_type_base.specs.declared.statement.TDecl.{TDecl}
use Rattle.c_type_base.specs.declared.statement.TInit.{TInit, out-TInit}
use Rattle.c_type_base.specs.declared.statement.TInit.TheOpen.{TInit-F}
use Rattle.c_type_base.specs.declared.typed.MemberInfo.{MemberInfo}
use Rattle.c_type_base.specs.Layout.{members_of}
use Rattle.c_type_base.specs.Types.{TyLayer, is_struct, is_array}
use Rattle.block_meaning.specs.declared.value.Pointer.{Pointer}
use Rattle.block_meaning.specs.Blocks.{Block, pointer, stored}
use Rattle.block_meaning.specs.Expressions.{NodeLayer, ExprParts}
use Rattle.block_meaning.specs.Laws.Steady.{begins-itself, Steady, steady-gives}
use Rattle.block_meaning.specs.Laws.Steady.{steady-stuck, steady-with_blocks, steady-then, steady-unit}
use Rattle.block_meaning.specs.Laws.Steady.{steady-some}
use Rattle.block_meaning.specs.Locals.{InitParts, latest, local_info, new_block, new_locals, end_locals, scoped, text_at, only_run}
use Rattle.block_meaning.specs.Locals.{fill_array, fill_struct, fill_one, fill_elements, fill_members, fill_list, fill_node, fill_at}
use Rattle.block_meaning.specs.Locals.{is_list, after_zero, declared_with, declarations}
use Rattle.block_meaning.specs.Memory.{Object, object, structs_at}
use Rattle.block_meaning.specs.Opening.{zero_cells}
use Rattle.block_meaning.specs.Running.{Run, Context}
use Rattle.block_meaning.specs.Laws.MoreWork.Values.{write_steady, copy_steady}
use Rattle.block_meaning.specs.Laws.MoreWork.Expressions.{SteadyParts}

pub new_block_steady : (here : Context) (k : ℕ) (b : Block) → Steady (new_block here k b)
new_block_steady here k b = record { puts = λ now. begins-itself now.output; grows = λ more now. refl }

pub new_locals_steady : (here : Context) (ks : List ℕ) → Steady (new_locals here ks)
new_locals_steady here [] = steady-gives here
new_locals_steady here (k ∷ ks) = steady-then (steady-some (latest here.open_calls) (λ c.
    steady-some (local_info here c k) (λ l. new_block_steady here k _))) (λ inner. new_locals_steady inner ks)

end_locals_steady : (here : Context) (ks : List ℕ) → Steady (end_locals here ks)
end_locals_steady here [] = steady-gives tt
end_locals_steady here (k ∷ ks) =
    steady-then (steady-some (here.local k) (λ b. steady-with_blocks _)) (λ _. end_locals_steady here ks)

pub scope_steady : {A : Type 0} (here : Context) (ks : List ℕ) {f : Context → Run A} → ((inner : Context) → Steady (f inner)) →
    Steady (scoped here ks f)
scope_steady here [] each = each here
scope_steady here (k ∷ ks) each = steady-unit (steady-then (new_locals_steady here (k ∷ ks)) (λ inner.
    steady-then (each inner) (λ a. steady-then (end_locals_steady inner (k ∷ ks)) (λ _. steady-gives a))))

record SteadyInit (init : InitParts) : Type 0 where
  parts : SteadyParts init.parts
  fill : (o : Object) (i : TInit) → Steady (init.fill o i)

pub run_steady : {p : ExprParts} → SteadyParts p → (e : TExpr) → Steady (only_run p e)
run_steady of e = steady-then (of.value e.span e) (λ v. steady-gives tt)

array_steady : {init : InitParts} → SteadyInit init → (n : ℕ) (p : Pointer) (e : TExpr) (level : NodeLayer) →
    Steady (fill_array init n p e level)
array_steady {init = init} of n p e (TNode-F.Text text) =
    steady-unit (steady-some (text_at init.here text) (λ bytes. steady-with_blocks _))
array_steady of n p e _ = run_steady of.parts e

struct_steady : {init : InitParts} → SteadyInit init → (o : Object) (e : TExpr) (is : Bool) → Steady (fill_struct init o e is)
struct_steady of o e false = run_steady of.parts e
struct_steady {init = init} of o e true = steady-then (of.parts.value e.span e) (λ v. copy_steady init.here _)

one_steady : {init : InitParts} → SteadyInit init → (o : Object) (e : TExpr) (level : TyLayer) → Steady (fill_one init o e level)
one_steady of o e (Ty-F.Array t n) = array_steady of n o.at e (out-TNode e.node)
one_steady of o e (Ty-F.Struct number) = struct_steady of o e (is_struct e.ty)
one_steady {init = init} of o e _ = steady-then (of.parts.value e.span e) (λ v. write_steady init.here e.span o v)

elements_steady : {init : InitParts} → SteadyInit init → (first : Object) (k : ℕ) (is : List TInit) → Steady (fill_elements init first k is)
elements_steady of first k [] = steady-gives tt
elements_steady of first k (i ∷ is) = steady-then (of.fill _ i) (λ _. elements_steady of first (k + 1) is)

members_steady : {init : InitParts} → SteadyInit init → (p : Pointer) (ms : List MemberInfo) (is : List TInit) →
    Steady (fill_members init p ms is)
members_steady of p ms [] = steady-gives tt
members_steady of p [] (i ∷ is) = steady-stuck
members_steady of p (m ∷ ms) (i ∷ is) = steady-then (of.fill _ i) (λ _. members_steady of p ms is)

list_steady : {init : InitParts} → SteadyInit init → (o : Object) (is : List TInit) (level : TyLayer) → Steady (fill_list init o is level)
list_steady of o is (Ty-F.Array t n) = elements_steady of (object t o.at) 0 is
list_steady {init = init} of o is (Ty-F.Struct number) =
    members_steady of o.at (members_of (slice_get (structs_at init.here) number)) is
list_steady of o is _ = steady-stuck

init_steady : {init : InitParts} → SteadyInit init → (o : Object) (i : TInit-F TInit) → Steady (fill_node init o i)
init_steady of o (TInit-F.One e) = one_steady of o e (out-Ty o.ty)
init_steady of o (TInit-F.List is span) = list_steady of o is (out-Ty o.ty)

fill_steady : (here : Context) {p : ExprParts} → SteadyParts p → (depth : ℕ) (o : Object) (i : TInit) → Steady (fill_at here p depth o i)
fill_steady here of zero o i = steady-stuck
fill_steady here {p = p} of (suc depth) o i =
    init_steady {init = record { here = here; parts = p; fill = fill_at here p depth }}
    (record { parts = of; fill = fill_steady here of depth }) o (out-TInit i)

zero_steady : (here : Context) (o : Object) (b : Bool) {m : Run (Unit {0})} → Steady m → Steady (after_zero here o b m)
zero_steady here o false steady = steady
zero_steady here o true steady = steady-then (steady-with_blocks (stored o.at (zero_cells (structs_at here) o.ty))) (λ _. steady)

declared_steady : (here : Context) {p : ExprParts} → SteadyParts p → (depth : ℕ) (d : TDecl) (i : Option TInit) →
    Steady (declared_with here p depth d i)
declared_steady here of depth d None = steady-gives tt
declared_steady here of depth d (Some i) = steady-unit (steady-some (latest here.open_calls) (λ c.
    steady-some (local_info here c d.local) (λ l. steady-some (here.local d.local) (λ block.
    let o = object l.ty (pointer block 0) in
    zero_steady here o (is_list (out-TInit i) || is_array l.ty) (fill_steady here of depth o i)))))

pub declarations_steady : (here : Context) {p : ExprParts} → SteadyParts p → (depth : ℕ) (ds : List TDecl) →
    Steady (declarations here p depth ds)
declarations_steady here of depth [] = steady-gives tt
declarations_steady here of depth (d ∷ ds) =
    steady-then (declared_steady here of depth d d.init) (λ _. declarations_steady here of depth ds)
