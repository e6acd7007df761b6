-- Nodes that designate an object are safe where their parts are.
use Rattle.std.proofs.Common.{◌≡◌, sym, subst, ap, ◌∙◌, ℕ, suc, ◌+◌, ◌<◌, arith}
use Rattle.std.proofs.Common.{List, Option, Some, None}
use Rattle.std.specs.List.{Contains}
use Rattle.std.proofs.lemmas.List.Elements.{All-contains}
use Rattle.c_ast.specs.declared.token.Span.{Span}
use Rattle.c_ast.specs.declared.operator.UnaryOperator.TheVariants as unary
use Rattle.c_type_base.specs.declared.ty.Ty.{Ty}
use Rattle.c_type_base.specs.declared.expr.TExpr.{TExpr}
use Rattle.c_type_base.specs.declared.expr.TNode.TheOpen.{TNode-F}
use Rattle.c_type_base.specs.declared.typed.MemberInfo.{MemberInfo}
use Rattle.c_type_base.specs.declared.typed.ExternInfo.{ExternInfo}
use Rattle.c_type_base.specs.declared.typed.GlobalInfo.{GlobalInfo}
use Rattle.c_type_base.specs.Types.{target_of}
use Rattle.block_meaning.specs.declared.value.Pointer.{Pointer}
use Rattle.block_meaning.specs.Blocks.{moved}
use Rattle.block_meaning.specs.Expressions.{start_of}
use Rattle.block_meaning.specs.Expressions.{starts, member_place}
use Rattle.block_meaning.specs.Expressions.{element_at, member_in, member_of}
use Rattle.block_meaning.specs.ExpressionsInOrder as order
use Rattle.block_meaning.specs.ExpressionsInOrder.{Scope, Group, Logical, group_of, is_sign, BinaryTypes, CompoundTypes, Converts}
use Rattle.block_meaning.specs.ExpressionsInOrder.{Callable}
use Rattle.block_meaning.specs.ExpressionsInOrder.{HasMember, IsDefined, HasValue, Designates, Arguments, int_type}
use Rattle.block_meaning.specs.Laws.Progress.Fits.{ValueWithin, PlaceWithin, fits-within, fits-more}
use Rattle.block_meaning.specs.Laws.Progress.Fits.{pointer_in-within}
use Rattle.block_meaning.specs.Laws.Progress.Linked.{global-there, text-there, extern-there}
use Rattle.block_meaning.specs.Laws.Progress.Memory.{read-safe}
use Rattle.block_meaning.specs.Laws.Progress.Safe.{Safe, safe-gives, safe-then}
use Rattle.block_meaning.specs.Laws.Progress.Safe.{safe-unit}
use Rattle.block_meaning.specs.Laws.Progress.Safe.{safe-some}
use Rattle.block_meaning.specs.Laws.Progress.Scenes.{LocalAt, Scene, here_of, later, lower}
use Rattle.block_meaning.specs.Linkage.{extern_at}
use Rattle.block_meaning.specs.Locals.{text_of}
use Rattle.block_meaning.specs.Memory.{object}
use Rattle.block_meaning.specs.declared.value.Value.{Value}
use Rattle.block_meaning.specs.declared.value.Value.TheVariants.{Address}
use Rattle.block_meaning.specs.Values.{pointer_in}
use Rattle.block_meaning.specs.Laws.Progress.Nodes.{site_of, ValueSafe, PlaceSafe, ValuePart, PlacePart, part-value}
use Rattle.block_meaning.specs.Laws.Progress.Nodes.{part-place, some-block, place_given}
use Rattle.block_meaning.specs.Laws.Progress.Values.{assign_value}

pub text_safe : {s : Scope} {t : Ty} (k : ℕ) (bytes : List ℕ) → text_of (order.file_of s) k ≡ Some bytes → PlaceSafe s t (TNode-F.Text k)
text_safe {s = s} k bytes is = record {
  depth = 0;
  safe = λ scene levels deep span around.
      place_given _ (omega (arith, scene.enough, text-there s.program.units s.unit k bytes is));
}

pub global_safe : {s : Scope} {t : Ty} (k : ℕ) (g : GlobalInfo) → order.global_of (order.file_of s) k ≡ Some g →
    PlaceSafe s t (TNode-F.Global k)
global_safe {s = s} k g is = record {
  depth = 0;
  safe = λ scene levels deep span around.
      place_given _ (omega (arith, scene.enough, global-there s.program.units s.unit k g is));
}

pub starts_safe : {n w : ℕ} (o : Option ℕ) (block : ℕ) → o ≡ Some block → block < n → Safe n w (starts o) PlaceWithin
starts_safe o block is within =
    safe-unit (λ v less. safe-some _ block is (safe-gives (start_of block) (λ k more. omega (arith, within, more))))

pub local_safe : {s : Scope} {t : Ty} (k : ℕ) → Contains s.locals k → PlaceSafe s t (TNode-F.Local k)
local_safe {s = s} k has = record {
  depth = 0;
  safe = λ {n = n} scene levels deep span around.
      let at = All-contains (LocalAt n scene.local) s.locals k scene.of_locals has in
      starts_safe (scene.local k) at.block at.is at.within;
}

pub extern_safe : {s : Scope} {t : Ty} (k : ℕ) (e : ExternInfo) → extern_at s.program.units s.unit k ≡ Some e →
    IsDefined s.program.units e.name → PlaceSafe s t (TNode-F.Extern k)
extern_safe {s = s} k e is defines = record {
  depth = 0;
  safe = λ scene levels deep span around.
      let there = extern-there s.program.units s.unit k e is defines in
      starts_safe _ there.block there.is (omega (arith, scene.enough, there.within));
}

pub place_paren_safe : {s : Scope} {e : TExpr} → PlacePart s e → PlaceSafe s e.ty (TNode-F.Paren e)
place_paren_safe {e = e} part = record {
  depth = suc part.depth;
  safe = λ scene levels deep span around. part-place e part scene levels (omega (arith, deep));
}

pub target_safe : {s : Scope} {e : TExpr} {t : Ty} → ValuePart s e → PlaceSafe s t (TNode-F.Unary unary.Dereference e)
target_safe {e = e} part = record {
  depth = suc part.depth;
  safe = λ scene levels deep span around. safe-then (part-value e part scene levels (omega (arith, deep)) e.span) (λ k more v fits.
      place_given (pointer_in v) (pointer_in-within k v (some-block (later k more scene)) (fits-within e.ty k v fits)));
}

pub element-within : (n bytes : ℕ) (v x : Value) → 0 < n → ValueWithin n v → ValueWithin n x → (element_at bytes v x).block < n
element-within n bytes (Address p) x some of_v of_x = of_v
element-within n bytes _ x some of_v of_x = pointer_in-within n x some of_x

pub index_safe : {s : Scope} {a i : TExpr} {t : Ty} → ValuePart s a → ValuePart s i → PlaceSafe s t (TNode-F.Index a i)
index_safe {a = a} {i = i} of_a of_i = record {
  depth = suc (of_a.depth + of_i.depth);
  safe = λ scene levels deep span around.
      safe-then (part-value a of_a scene levels (omega (arith, deep)) a.span) (λ k more v fits.
      safe-then (part-value i of_i (later k more scene) levels (omega (arith, deep)) i.span) (λ j further x fits_too.
      place_given (element_at _ v x) (element-within j _ v x (some-block (later j (omega (arith, more, further)) scene))
      (fits-within a.ty j v (fits-more a.ty k j further v fits)) (fits-within i.ty j x fits_too))));
}

pub found_safe : {s : Scope} {n w : ℕ} (scene : Scene s n w) (t : Ty) (k : ℕ) (m : MemberInfo) (p : Pointer) → HasMember s t k m →
    p.block < n → Safe n w (member_of (here_of scene) (Some t) k p) PlaceWithin
found_safe scene t k m p has within =
    safe-some _ m (ap (λ o. member_in (here_of scene) o k) has.is_struct ∙ has.member)
    (safe-gives (moved p m.offset) (λ j more. omega (arith, within, more)))

pub member_node : {s : Scope} {n w : ℕ} (e : TExpr) (part : PlacePart s e) (scene : Scene s n w) (levels : ℕ) → part.depth < levels →
    (span around : Span) (t : Ty) (k : ℕ) (m : MemberInfo) → HasMember s e.ty k m →
    Safe n w (member_place (site_of scene levels span around t) e k) PlaceWithin
member_node e part scene levels deep span around t k m has = safe-then (part-place e part scene levels deep) (λ j more p within.
    safe-unit (λ v less. found_safe (lower v (omega (arith, less)) (later j more scene)) e.ty k m p has within))

pub member_safe : {s : Scope} {e : TExpr} (k : ℕ) (m : MemberInfo) → PlacePart s e → HasMember s e.ty k m →
    PlaceSafe s m.ty (TNode-F.Member e k)
member_safe {e = e} k m part has = record {
  depth = suc part.depth;
  safe = λ scene levels deep span around. member_node e part scene levels (omega (arith, deep)) span around m.ty k m has;
}

pub member_value_safe : {s : Scope} {e : TExpr} (k : ℕ) (m : MemberInfo) → PlacePart s e → HasMember s e.ty k m →
    ValueSafe s m.ty (TNode-F.Member e k)
member_value_safe {e = e} k m part has = record {
  depth = suc part.depth;
  safe = λ scene levels deep span around.
      safe-then (member_node e part scene levels (omega (arith, deep)) span around m.ty k m has) (λ j more p within.
      read-safe (here_of scene) around (object m.ty p) within);
}

pub arrow_safe : {s : Scope} {e : TExpr} {t : Ty} (k : ℕ) (m : MemberInfo) → ValuePart s e → target_of e.ty ≡ Some t → HasMember s t k m →
    PlaceSafe s m.ty (TNode-F.Arrow e k)
arrow_safe {e = e} {t = t} k m part is has = record {
  depth = suc part.depth;
  safe = λ scene levels deep span around. safe-then (part-value e part scene levels (omega (arith, deep)) e.span) (λ j more v fits.
      safe-unit (λ u less.
      let inner = lower u (omega (arith, less)) (later j more scene) in
      subst (λ o. Safe j u (member_of (here_of scene) o k (pointer_in v)) PlaceWithin) (sym is)
      (found_safe inner t k m (pointer_in v) has (pointer_in-within j v (some-block inner) (fits-within e.ty j v fits)))));
}

pub struct_safe : {s : Scope} {a b : TExpr} → PlacePart s a → ValuePart s b → b.ty ≡ a.ty → PlaceSafe s a.ty (TNode-F.Assign None a b)
struct_safe {a = a} {b = b} of_a of_b same = record {
  depth = suc (of_a.depth + of_b.depth);
  safe = λ scene levels deep span around.
      safe-then (assign_value a b of_a of_b same scene levels (omega (arith, deep)) (omega (arith, deep)) span around a.ty)
      (λ k more v fits. safe-gives (pointer_in v) (λ j further.
      pointer_in-within j v (some-block (later j (omega (arith, more, further)) scene))
      (fits-within a.ty j v (fits-more a.ty k j further v fits))));
}
