-- Runs lead to later states: locals and initialisers (this project's own).
use Rattle.std.proofs.Common.{refl, sym, append-nil, map, take, ℕ, zero, suc, ◌+◌, Bool, true, false, ◌||◌, List, []}
use Rattle.std.proofs.Common.{◌∷◌, Option, Some, None}
use Rattle.std.specs.Prelude.{slice_get}
use Rattle.c_type_base.specs.declared.ty.Ty.{out-Ty}
use Rattle.c_type_base.specs.declared.ty.Ty.TheOpen.{Ty-F}
use Rattle.c_type_base.specs.declared.expr.TExpr.{TExpr}
use Rattle.c_type_base.specs.declared.expr.TNode.{out-TNode}
use Rattle.c_type_base.specs.declared.expr.TNode.TheOpen.{TNode-F}
use Rattle.c_type_base.specs.declared.statement.TDecl.{TDecl}
use Rattle.c_type_base.specs.declared.statement.TInit.{TInit, out-TInit}
use Rattle.c_type_base.specs.declared.statement.TInit.TheOpen.{TInit-F}
use Rattle.c_type_base.specs.declared.typed.MemberInfo.{MemberInfo}
use Rattle.c_type_base.specs.Layout.{members_of}
use Rattle.c_type_base.specs.Types.{TyLayer, is_struct, is_array}
use Rattle.block_meaning.specs.declared.cell.Cell.TheVariants.{Byte}
use Rattle.block_meaning.specs.declared.value.Pointer.{Pointer}
use Rattle.code_relation.specs.Laws.Placing.{get_front}
use Rattle.block_meaning.specs.Blocks.{Block, pointer, with_block, ended, stored}
use Rattle.block_meaning.specs.Expressions.{NodeLayer, ExprParts}
use Rattle.code_follows.specs.Laws.Lasting.Words.{stays-stored, stays-ended, lasts-gives}
use Rattle.code_follows.specs.Laws.Lasting.Words.{lasts-stuck, lasts-with_blocks, lasts-then, lasts-unit}
use Rattle.code_follows.specs.Laws.Lasting.Words.{lasts-some}
use Rattle.code_follows.specs.Later.{Lasts}
use Rattle.block_meaning.specs.Locals.{InitParts, latest, local_info, new_block, new_locals, end_locals, scoped, text_at, only_run}
use Rattle.block_meaning.specs.Locals.{fill_array, fill_struct, fill_one, fill_elements, fill_members, fill_list, fill_node, fill_at}
use Rattle.block_meaning.specs.Locals.{is_list, after_zero, declared_with, declarations}
use Rattle.block_meaning.specs.Memory.{Object, object, structs_at}
use Rattle.block_meaning.specs.Opening.{zero_cells}
use Rattle.block_meaning.specs.Running.{Run, Context}
use Rattle.code_follows.specs.Laws.Lasting.Values.{write_lasts, copy_lasts}
use Rattle.code_follows.specs.Laws.Lasting.Expressions.{LastingParts}

pub new_block_lasts : (here : Context) (k : ℕ) (b : Block) → Lasts (new_block here k b)
new_block_lasts here k b = record {
  leads = λ now. record {
    blocks = record {
      stays = λ number c is. record {
        block = c;
        is = get_front now.blocks (b ∷ []) number c is;
        kind_is = refl;
        size_is = refl;
      };
    };
    new_calls = [];
    calls_are = sym (append-nil now.calls);
    input = λ bytes. bytes;
  };
}

pub new_locals_lasts : (here : Context) (ks : List ℕ) → Lasts (new_locals here ks)
new_locals_lasts here [] = lasts-gives here
new_locals_lasts here (k ∷ ks) = lasts-then (lasts-some (latest here.open_calls) (λ c.
    lasts-some (local_info here c k) (λ l. new_block_lasts here k _))) (λ inner. new_locals_lasts inner ks)

pub end_locals_lasts : (here : Context) (ks : List ℕ) → Lasts (end_locals here ks)
end_locals_lasts here [] = lasts-gives tt
end_locals_lasts here (k ∷ ks) =
    lasts-then (lasts-some (here.local k) (λ b. lasts-with_blocks (with_block b ended) (stays-ended b))) (λ _. end_locals_lasts here ks)

pub scope_lasts : {A : Type 0} (here : Context) (ks : List ℕ) {f : Context → Run A} → ((inner : Context) → Lasts (f inner)) →
    Lasts (scoped here ks f)
scope_lasts here [] each = each here
scope_lasts here (k ∷ ks) each = lasts-unit (lasts-then (new_locals_lasts here (k ∷ ks)) (λ inner.
    lasts-then (each inner) (λ a. lasts-then (end_locals_lasts inner (k ∷ ks)) (λ _. lasts-gives a))))

record LastingInit (init : InitParts) : Type 0 where
  parts : LastingParts init.parts
  fill : (o : Object) (i : TInit) → Lasts (init.fill o i)

pub run_lasts : {p : ExprParts} → LastingParts p → (e : TExpr) → Lasts (only_run p e)
run_lasts of e = lasts-then (of.value e.span e) (λ v. lasts-gives tt)

array_lasts : {init : InitParts} → LastingInit init → (n : ℕ) (p : Pointer) (e : TExpr) (level : NodeLayer) →
    Lasts (fill_array init n p e level)
array_lasts {init = init} of n p e (TNode-F.Text text) =
    lasts-unit (lasts-some (text_at init.here text) (λ bytes.
    lasts-with_blocks (stored p (map Byte (take n bytes))) (stays-stored p (map Byte (take n bytes)))))
array_lasts of n p e _ = run_lasts of.parts e

struct_lasts : {init : InitParts} → LastingInit init → (o : Object) (e : TExpr) (is : Bool) → Lasts (fill_struct init o e is)
struct_lasts of o e false = run_lasts of.parts e
struct_lasts {init = init} of o e true = lasts-then (of.parts.value e.span e) (λ v. copy_lasts init.here _)

one_lasts : {init : InitParts} → LastingInit init → (o : Object) (e : TExpr) (level : TyLayer) → Lasts (fill_one init o e level)
one_lasts of o e (Ty-F.Array t n) = array_lasts of n o.at e (out-TNode e.node)
one_lasts of o e (Ty-F.Struct number) = struct_lasts of o e (is_struct e.ty)
one_lasts {init = init} of o e _ = lasts-then (of.parts.value e.span e) (λ v. write_lasts init.here e.span o v)

elements_lasts : {init : InitParts} → LastingInit init → (first : Object) (k : ℕ) (is : List TInit) → Lasts (fill_elements init first k is)
elements_lasts of first k [] = lasts-gives tt
elements_lasts of first k (i ∷ is) = lasts-then (of.fill _ i) (λ _. elements_lasts of first (k + 1) is)

members_lasts : {init : InitParts} → LastingInit init → (p : Pointer) (ms : List MemberInfo) (is : List TInit) →
    Lasts (fill_members init p ms is)
members_lasts of p ms [] = lasts-gives tt
members_lasts of p [] (i ∷ is) = lasts-stuck
members_lasts of p (m ∷ ms) (i ∷ is) = lasts-then (of.fill _ i) (λ _. members_lasts of p ms is)

list_lasts : {init : InitParts} → LastingInit init → (o : Object) (is : List TInit) (level : TyLayer) → Lasts (fill_list init o is level)
list_lasts of o is (Ty-F.Array t n) = elements_lasts of (object t o.at) 0 is
list_lasts {init = init} of o is (Ty-F.Struct number) =
    members_lasts of o.at (members_of (slice_get (structs_at init.here) number)) is
list_lasts of o is _ = lasts-stuck

init_lasts : {init : InitParts} → LastingInit init → (o : Object) (i : TInit-F TInit) → Lasts (fill_node init o i)
init_lasts of o (TInit-F.One e) = one_lasts of o e (out-Ty o.ty)
init_lasts of o (TInit-F.List is span) = list_lasts of o is (out-Ty o.ty)

fill_lasts : (here : Context) {p : ExprParts} → LastingParts p → (depth : ℕ) (o : Object) (i : TInit) → Lasts (fill_at here p depth o i)
fill_lasts here of zero o i = lasts-stuck
fill_lasts here {p = p} of (suc depth) o i =
    init_lasts {init = record { here = here; parts = p; fill = fill_at here p depth }}
    (record { parts = of; fill = fill_lasts here of depth }) o (out-TInit i)

zero_lasts : (here : Context) (o : Object) (b : Bool) {m : Run (Unit {0})} → Lasts m → Lasts (after_zero here o b m)
zero_lasts here o false lasts = lasts
zero_lasts here o true lasts = lasts-then
    (lasts-with_blocks (stored o.at (zero_cells (structs_at here) o.ty)) (stays-stored o.at (zero_cells (structs_at here) o.ty)))
    (λ _. lasts)

declared_lasts : (here : Context) {p : ExprParts} → LastingParts p → (depth : ℕ) (d : TDecl) (i : Option TInit) →
    Lasts (declared_with here p depth d i)
declared_lasts here of depth d None = lasts-gives tt
declared_lasts here of depth d (Some i) = lasts-unit (lasts-some (latest here.open_calls) (λ c.
    lasts-some (local_info here c d.local) (λ l. lasts-some (here.local d.local) (λ block.
    let o = object l.ty (pointer block 0) in
    zero_lasts here o (is_list (out-TInit i) || is_array l.ty) (fill_lasts here of depth o i)))))

pub declarations_lasts : (here : Context) {p : ExprParts} → LastingParts p → (depth : ℕ) (ds : List TDecl) →
    Lasts (declarations here p depth ds)
declarations_lasts here of depth [] = lasts-gives tt
declarations_lasts here of depth (d ∷ ds) =
    lasts-then (declared_lasts here of depth d d.init) (λ _. declarations_lasts here of depth ds)
