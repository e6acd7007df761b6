-- Locals and initialisers keep the blocks that were there, in contexts whose locals came later (this project's own).
use Rattle.std.proofs.Common.{◌≡◌, ◌≤◌, ◌∙◌, sym, ap, length, arith, length-append, refl, ℕ, zero, suc, ◌+◌, Bool, true, false, ◌||◌}
use Rattle.std.proofs.Common.{List, []}
use Rattle.std.proofs.Common.{◌∷◌, Option, Some, None}
use Rattle.std.specs.Prelude.{slice_get, nat_eq, if◌then◌else◌}
use Rattle.code_relation.specs.Laws.Changing.{SameBlock-same}
use Rattle.code_relation.specs.Laws.Lists.{InJoined, front, back, get_joined}
use Rattle.code_relation.specs.Laws.Placing.{get_front}
use Rattle.block_meaning.specs.declared.kind.Kind.TheVariants.{Local}
use Rattle.c_type_base.specs.declared.ty.Ty.{out-Ty}
use Rattle.c_type_base.specs.declared.ty.Ty.TheOpen.{Ty-F}
use Rattle.c_type_base.specs.declared.expr.TExpr.{TExpr}
use Rattle.c_type_base.specs.declared.expr.TNode.{out-TNode}
use Rattle.c_type_base.specs.declared.expr.TNode.TheOpen.{TNode-F}
use Rattle.c_type_base.specs.declared.statement.TDecl.{TDecl}
use Rattle.c_type_base.specs.declared.statement.TInit.{TInit, out-TInit}
use Rattle.c_type_base.specs.declared.statement.TInit.TheOpen.{TInit-F}
use Rattle.c_type_base.specs.declared.typed.MemberInfo.{MemberInfo}
use Rattle.c_type_base.specs.Layout.{members_of}
use Rattle.c_type_base.specs.Types.{TyLayer, is_struct, is_array}
use Rattle.block_meaning.specs.declared.value.Pointer.{Pointer}
use Rattle.block_meaning.specs.Blocks.{Block, pointer, ended}
use Rattle.block_meaning.specs.Expressions.{NodeLayer, ExprParts}
use Rattle.block_meaning.specs.Locals.{InitParts, latest, with_local, local_info, new_block, new_locals, end_locals, scoped, text_at}
use Rattle.block_meaning.specs.Locals.{only_run}
use Rattle.block_meaning.specs.Locals.{fill_array, fill_struct, fill_one, fill_elements, fill_members, fill_list, fill_node, fill_at}
use Rattle.block_meaning.specs.Locals.{is_list, after_zero, declared_with, declarations}
use Rattle.block_meaning.specs.Memory.{Object, object, structs_at}
use Rattle.block_meaning.specs.Opening.{zero_cells}
use Rattle.block_meaning.specs.Running.{Call, Run, Context}
use Rattle.unit_follows.specs.Laws.Spares.Runs.{Moment, AreNewer, SparesTo, Spares, kept-itself, spares-gives, spares-stuck}
use Rattle.unit_follows.specs.Laws.Spares.Runs.{spares-stored, spares-then}
use Rattle.unit_follows.specs.Laws.Spares.Runs.{spares-then_to, spares-unit, spares-some, spares-some_to, spares-blocks_by}
use Rattle.unit_follows.specs.Laws.Spares.Runs.{keeps-with_block}
use Rattle.unit_follows.specs.Laws.Spares.Values.{write_spares, copy_spares}
use Rattle.unit_follows.specs.Laws.Spares.Expressions.{SparesParts}

-- the locals in scope have blocks that came later, as did the latest call
pub record IsAbove (mark : Moment) (here : Context) : Type 0 where
  pub locals : (k number : ℕ) → here.local k ≡ Some number → mark.blocks ≤ number
  pub call : (c : Call) → latest here.open_calls ≡ Some c → mark.calls ≤ c.number

above_local : {mark : Moment} (here : Context) (k number : ℕ) → IsAbove mark here → mark.blocks ≤ number →
    IsAbove mark (with_local k number here)
above_local {mark} here k number above later = record {
  locals = λ j other is. by_number (nat_eq j k) j other is;
  call = above.call;
}
  where
    by_number : (b : Bool) (j other : ℕ) → (if b then Some number else here.local j) ≡ Some other → mark.blocks ≤ other
    by_number true j other is = let same : number ≡ other = cc in omega (arith, later, same)
    by_number false j other is = above.locals j other is

pub new_block_spares : {mark : Moment} (here : Context) (k call : ℕ) (b : Block) → IsAbove mark here → b.kind ≡ Local call k →
    mark.calls ≤ call → SparesTo mark (IsAbove mark) (new_block here k b)
new_block_spares {mark} here k call b above kind_is later = record {
  spares = λ now since. (
    record {
      blocks = omega (arith, length-append now.blocks (b ∷ []));
      calls = omega arith;
      each = λ number c less is.
          record { block = c; is = get_front now.blocks (b ∷ []) number c is; same = SameBlock-same c };
      newer = λ h number call j c more is kind. by_part number call j c h more (get_joined now.blocks (b ∷ []) number c is) kind;
    },
    above_local here k (length now.blocks) above since.blocks,
  );
}
  where
    of_new : (i other j : ℕ) (c : Block) → slice_get (b ∷ []) i ≡ Some c → c.kind ≡ Local other j → mark.calls ≤ other
    of_new zero other j c is kind =
        let same : b ≡ c = cc in
        let kinds : Local call k ≡ Local other j = sym kind_is ∙ ap (λ (x : Block). x.kind) same ∙ kind in
        let calls : call ≡ other = cc in
        omega (arith, later, calls)
    of_new (suc i) other j c is kind = absurd (cc)

    by_part : {blocks : List Block} (number other j : ℕ) (c : Block) → AreNewer mark blocks → mark.blocks ≤ number →
        InJoined blocks (b ∷ []) number c → c.kind ≡ Local other j → mark.calls ≤ other
    by_part number other j c h more (front is) kind = h number other j c more is kind
    by_part number other j c h more (back i same is) kind = of_new i other j c is kind

pub new_locals_spares : {mark : Moment} (here : Context) (ks : List ℕ) → IsAbove mark here →
    SparesTo mark (IsAbove mark) (new_locals here ks)
new_locals_spares here [] above = record { spares = λ now since. (kept-itself now, above) }
new_locals_spares {mark} here (k ∷ ks) above = spares-then_to (spares-some_to (latest here.open_calls) (λ c is.
    spares-some_to (local_info here c k) (λ l there. new_block_spares here k c.number _ above refl (above.call c is))))
    (λ inner over. new_locals_spares inner ks over)

end_locals_spares : {mark : Moment} (here : Context) (ks : List ℕ) → IsAbove mark here → Spares mark (end_locals here ks)
end_locals_spares here [] above = spares-gives tt
end_locals_spares here (k ∷ ks) above =
    spares-then (spares-some_to (here.local k) (λ b is. spares-blocks_by (keeps-with_block b ended
    (λ c less. absurd (omega (arith, less, above.locals k b is))) (λ c. refl)))) (λ _. end_locals_spares here ks above)

pub scope_spares : {A : Type 0} {mark : Moment} (here : Context) (ks : List ℕ) {f : Context → Run A} → IsAbove mark here →
    ((inner : Context) → IsAbove mark inner → Spares mark (f inner)) → Spares mark (scoped here ks f)
scope_spares here [] above each = each here above
scope_spares here (k ∷ ks) above each = spares-unit (spares-then_to (new_locals_spares here (k ∷ ks) above) (λ inner over.
    spares-then (each inner over) (λ a. spares-then (end_locals_spares inner (k ∷ ks) over) (λ _. spares-gives a))))

record SparesInit (mark : Moment) (init : InitParts) : Type 0 where
  parts : SparesParts mark init.parts
  fill : (o : Object) (i : TInit) → Spares mark (init.fill o i)

pub run_spares : {mark : Moment} {p : ExprParts} → SparesParts mark p → (e : TExpr) → Spares mark (only_run p e)
run_spares of e = spares-then (of.value e.span e) (λ v. spares-gives tt)

array_spares : {mark : Moment} {init : InitParts} → SparesInit mark init → (n : ℕ) (p : Pointer) (e : TExpr) (level : NodeLayer) →
    Spares mark (fill_array init n p e level)
array_spares {init = init} of n p e (TNode-F.Text text) =
    spares-unit (spares-some (text_at init.here text) (λ bytes. spares-stored p _))
array_spares of n p e _ = run_spares of.parts e

struct_spares : {mark : Moment} {init : InitParts} → SparesInit mark init → (o : Object) (e : TExpr) (is : Bool) →
    Spares mark (fill_struct init o e is)
struct_spares of o e false = run_spares of.parts e
struct_spares {init = init} of o e true = spares-then (of.parts.value e.span e) (λ v. copy_spares init.here _)

one_spares : {mark : Moment} {init : InitParts} → SparesInit mark init → (o : Object) (e : TExpr) (level : TyLayer) →
    Spares mark (fill_one init o e level)
one_spares of o e (Ty-F.Array t n) = array_spares of n o.at e (out-TNode e.node)
one_spares of o e (Ty-F.Struct number) = struct_spares of o e (is_struct e.ty)
one_spares {init = init} of o e _ = spares-then (of.parts.value e.span e) (λ v. write_spares init.here e.span o v)

elements_spares : {mark : Moment} {init : InitParts} → SparesInit mark init → (first : Object) (k : ℕ) (is : List TInit) →
    Spares mark (fill_elements init first k is)
elements_spares of first k [] = spares-gives tt
elements_spares of first k (i ∷ is) = spares-then (of.fill _ i) (λ _. elements_spares of first (k + 1) is)

members_spares : {mark : Moment} {init : InitParts} → SparesInit mark init → (p : Pointer) (ms : List MemberInfo) (is : List TInit) →
    Spares mark (fill_members init p ms is)
members_spares of p ms [] = spares-gives tt
members_spares of p [] (i ∷ is) = spares-stuck
members_spares of p (m ∷ ms) (i ∷ is) = spares-then (of.fill _ i) (λ _. members_spares of p ms is)

list_spares : {mark : Moment} {init : InitParts} → SparesInit mark init → (o : Object) (is : List TInit) (level : TyLayer) →
    Spares mark (fill_list init o is level)
list_spares of o is (Ty-F.Array t n) = elements_spares of (object t o.at) 0 is
list_spares {init = init} of o is (Ty-F.Struct number) =
    members_spares of o.at (members_of (slice_get (structs_at init.here) number)) is
list_spares of o is _ = spares-stuck

init_spares : {mark : Moment} {init : InitParts} → SparesInit mark init → (o : Object) (i : TInit-F TInit) →
    Spares mark (fill_node init o i)
init_spares of o (TInit-F.One e) = one_spares of o e (out-Ty o.ty)
init_spares of o (TInit-F.List is span) = list_spares of o is (out-Ty o.ty)

fill_spares : {mark : Moment} (here : Context) {p : ExprParts} → SparesParts mark p → (depth : ℕ) (o : Object) (i : TInit) →
    Spares mark (fill_at here p depth o i)
fill_spares here of zero o i = spares-stuck
fill_spares here {p = p} of (suc depth) o i =
    init_spares {init = record { here = here; parts = p; fill = fill_at here p depth }}
    (record { parts = of; fill = fill_spares here of depth }) o (out-TInit i)

zero_spares : {mark : Moment} (here : Context) (o : Object) (b : Bool) {m : Run (Unit {0})} → Spares mark m →
    Spares mark (after_zero here o b m)
zero_spares here o false spares = spares
zero_spares here o true spares = spares-then (spares-stored o.at (zero_cells (structs_at here) o.ty)) (λ _. spares)

declared_spares : {mark : Moment} (here : Context) {p : ExprParts} → SparesParts mark p → (depth : ℕ) (d : TDecl) (i : Option TInit) →
    Spares mark (declared_with here p depth d i)
declared_spares here of depth d None = spares-gives tt
declared_spares here of depth d (Some i) = spares-unit (spares-some (latest here.open_calls) (λ c.
    spares-some (local_info here c d.local) (λ l. spares-some (here.local d.local) (λ block.
    let o = object l.ty (pointer block 0) in
    zero_spares here o (is_list (out-TInit i) || is_array l.ty) (fill_spares here of depth o i)))))

pub declarations_spares : {mark : Moment} (here : Context) {p : ExprParts} → SparesParts mark p → (depth : ℕ) (ds : List TDecl) →
    Spares mark (declarations here p depth ds)
declarations_spares here of depth [] = spares-gives tt
declarations_spares here of depth (d ∷ ds) =
    spares-then (declared_spares here of depth d d.init) (λ _. declarations_spares here of depth ds)
