-- Nodes that have a value are safe where their parts are.
use Rattle.std.proofs.Common.{◌≡◌, refl, subst, ℕ, suc, ◌+◌, ◌<◌, arith, Bool, true, false, not}
use Rattle.std.proofs.Common.{Some, None}
use Rattle.std.specs.Prelude.{if◌then◌else◌}
use Rattle.c_ast.specs.declared.token.Span.{Span}
use Rattle.c_ast.specs.declared.int_type.IntType.{IntType}
use Rattle.c_ast.specs.declared.int_type.IntType.TheVariants as int
use Rattle.c_ast.specs.declared.operator.UnaryOperator.{UnaryOperator}
use Rattle.c_ast.specs.declared.operator.UnaryOperator.TheVariants as unary
use Rattle.c_ast.specs.declared.operator.BinaryOperator.{BinaryOperator}
use Rattle.c_ast.specs.declared.operator.BinaryOperator.TheVariants as binary
use Rattle.c_ast.specs.declared.operator.AssignOperator.{AssignOperator}
use Rattle.c_ast.specs.declared.operator.Step.{Step}
use Rattle.c_type_base.specs.declared.ty.Ty.{Ty, out-Ty}
use Rattle.c_type_base.specs.declared.ty.Ty.TheVariants as ty
use Rattle.c_type_base.specs.declared.ty.Ty.TheOpen.{Ty-F}
use Rattle.c_type_base.specs.declared.expr.TExpr.{TExpr}
use Rattle.c_type_base.specs.declared.expr.TNode.TheOpen.{TNode-F}
use Rattle.c_type_base.specs.Types.{TyLayer, is_integer, is_scalar, is_void}
use Rattle.block_meaning.specs.declared.value.Pointer.{Pointer}
use Rattle.block_meaning.specs.Expressions.{Site, value_of, number_known, same_truth, logical_node}
use Rattle.block_meaning.specs.Expressions.{written, assigned}
use Rattle.block_meaning.specs.Expressions.{assign_node}
use Rattle.block_meaning.specs.Expressions.{parts_at}
use Rattle.block_meaning.specs.ExpressionsInOrder as order
use Rattle.block_meaning.specs.ExpressionsInOrder.{Scope, Group, Logical, group_of, is_sign, BinaryTypes, CompoundTypes, Converts}
use Rattle.block_meaning.specs.ExpressionsInOrder.{Callable}
use Rattle.block_meaning.specs.ExpressionsInOrder.{HasMember, IsDefined, HasValue, Designates, Arguments, int_type}
use Rattle.block_meaning.specs.Laws.Progress.Fits.{FitsLevel, Fits, fits-within, fits-more}
use Rattle.block_meaning.specs.Laws.Progress.Fits.{number-fits, address-fits, int-is_integer, pointer-is_pointer}
use Rattle.block_meaning.specs.Laws.Progress.Fits.{converted-fits, converted-void, cells_of-within}
use Rattle.block_meaning.specs.Laws.Progress.Memory.{read_scalar-safe, read-safe, write-safe, copy-safe}
use Rattle.block_meaning.specs.Laws.Progress.Operators.{truth-safe, operated-safe, combined-safe, stepped-fits}
use Rattle.block_meaning.specs.Laws.Progress.Safe.{Safe, safe-gives, safe-then, safe-weaker}
use Rattle.block_meaning.specs.Laws.Progress.Safe.{safe-unit}
use Rattle.block_meaning.specs.Laws.Progress.Safe.{safe-choice}
use Rattle.block_meaning.specs.Laws.Progress.Scenes.{Scene, here_of, later, lower}
use Rattle.block_meaning.specs.Memory.{object}
use Rattle.block_meaning.specs.Operators.{operand, operated, number_of_truth, gives_old, stepped}
use Rattle.block_meaning.specs.Running.{gives, and_then, unit_then}
use Rattle.block_meaning.specs.declared.value.Value.{Value}
use Rattle.block_meaning.specs.declared.value.Value.TheVariants.{Address, Struct}
use Rattle.block_meaning.specs.Values.{converted_to}
use Rattle.block_meaning.specs.Laws.Progress.Nodes.{site_of, ValueSafe, ValuePart, PlacePart, part-value}
use Rattle.block_meaning.specs.Laws.Progress.Nodes.{part-place, some-block, number_given}

pub constant_safe : (s : Scope) (i : IntType) (k : ℕ) → ValueSafe s (ty.Int i) (TNode-F.Constant k i)
constant_safe s i k =
    record { depth = 0; safe = λ scene levels deep span around. number_given (ty.Int i) k (int-is_integer i) }

pub paren_safe : {s : Scope} {e : TExpr} → ValuePart s e → ValueSafe s e.ty (TNode-F.Paren e)
paren_safe {e = e} part = record {
  depth = suc part.depth;
  safe = λ scene levels deep span around. part-value e part scene levels (omega (arith, deep)) around;
}

pub address_safe : {s : Scope} {e : TExpr} → PlacePart s e → ValueSafe s (ty.Pointer e.ty) (TNode-F.Unary unary.AddressOf e)
address_safe {e = e} part = record {
  depth = suc part.depth;
  safe = λ scene levels deep span around. safe-then (part-place e part scene levels (omega (arith, deep))) (λ k more p within.
      safe-unit (λ v less. safe-gives (Address p) (λ j further.
      address-fits (ty.Pointer e.ty) j (Address p) (pointer-is_pointer e.ty) (omega (arith, within, further)))));
}

pub denied_safe : {s : Scope} {e : TExpr} → ValuePart s e → ValueSafe s int_type (TNode-F.Unary unary.Not e)
denied_safe {e = e} part = record {
  depth = suc part.depth;
  safe = λ scene levels deep span around. safe-then (part-value e part scene levels (omega (arith, deep)) e.span) (λ k more x fits.
      safe-unit (λ v less. safe-then (truth-safe (here_of scene) e.span x) (λ j further b any.
      safe-gives (number_of_truth (not b)) (λ i last. number-fits int_type i _ (int-is_integer int.Int) tt))));
}

pub known_safe : {n w : ℕ} (t : Ty) (k : ℕ) → is_integer t ≡ true → Safe n w (unit_then (number_known (Some k))) (Fits t)
known_safe t k is = number_given t k is

pub signed_safe : {s : Scope} {e : TExpr} (o : UnaryOperator) → is_sign o ≡ true → ValuePart s e → is_integer e.ty ≡ true →
    ValueSafe s e.ty (TNode-F.Unary o e)
signed_safe {e = e} unary.Plus sign part is = record {
  depth = suc part.depth;
  safe = λ scene levels deep span around.
      safe-then (part-value e part scene levels (omega (arith, deep)) e.span) (λ k more x fits. known_safe e.ty _ is);
}
signed_safe {e = e} unary.Minus sign part is = record {
  depth = suc part.depth;
  safe = λ scene levels deep span around.
      safe-then (part-value e part scene levels (omega (arith, deep)) e.span) (λ k more x fits. known_safe e.ty _ is);
}
signed_safe {e = e} unary.Complement sign part is = record {
  depth = suc part.depth;
  safe = λ scene levels deep span around.
      safe-then (part-value e part scene levels (omega (arith, deep)) e.span) (λ k more x fits. known_safe e.ty _ is);
}
signed_safe _ sign part is = absurd cc

pub truth_given : {n w : ℕ} (b : Bool) → Safe n w (gives (number_of_truth b)) (Fits int_type)
truth_given b = safe-gives (number_of_truth b) (λ k more. number-fits int_type k (number_of_truth b) (int-is_integer int.Int) tt)

pub either_safe : {s : Scope} {n w : ℕ} (a b : TExpr) (decides : Bool) (of_a : ValuePart s a) (of_b : ValuePart s b) (scene : Scene s n w)
    (levels : ℕ) → of_a.depth < levels → of_b.depth < levels → (span around : Span) (t : Ty) →
    Safe n w (logical_node (site_of scene levels span around t) decides a b) (Fits int_type)
either_safe a b decides of_a of_b scene levels deep_a deep_b span around t =
    safe-then (part-value a of_a scene levels deep_a a.span) (λ k more x fits. safe-unit (λ v less.
    safe-then (truth-safe (here_of scene) a.span x) (λ j further first any.
    safe-choice (same_truth first decides) (truth_given decides)
    (safe-then (part-value b of_b (lower v (omega (arith, less)) (later j (omega (arith, more, further)) scene)) levels deep_b b.span)
    (λ i again y fits. safe-then (truth-safe (here_of scene) b.span y) (λ h last second any. truth_given second))))))

pub logical_safe : {s : Scope} {a b : TExpr} (o : BinaryOperator) → group_of o ≡ Logical → ValuePart s a → ValuePart s b →
    ValueSafe s int_type (TNode-F.Binary o a b)
logical_safe {a = a} {b = b} binary.And is of_a of_b = record {
  depth = suc (of_a.depth + of_b.depth);
  safe = λ scene levels deep span around.
      either_safe a b false of_a of_b scene levels (omega (arith, deep)) (omega (arith, deep)) span around int_type;
}
logical_safe {a = a} {b = b} binary.Or is of_a of_b = record {
  depth = suc (of_a.depth + of_b.depth);
  safe = λ scene levels deep span around.
      either_safe a b true of_a of_b scene levels (omega (arith, deep)) (omega (arith, deep)) span around int_type;
}
logical_safe _ is of_a of_b = absurd cc

pub not_logical : {o : BinaryOperator} {s t u : Ty} → BinaryTypes o s t u → group_of o ≡ Logical → ⊥
not_logical (order.arithmetic group is) logical = cc
not_logical (order.shift group is its) logical = cc
not_logical (order.comparison group is) logical = cc
not_logical (order.added is its) logical = cc
not_logical (order.added_to is its) logical = cc
not_logical (order.taken is its) logical = cc
not_logical (order.distance is) logical = cc

-- both operands, and then the operator
pub two_safe : {s : Scope} {n w : ℕ} (a b : TExpr) {t : Ty} (o : BinaryOperator) (of_a : ValuePart s a) (of_b : ValuePart s b) →
    BinaryTypes o a.ty b.ty t → (scene : Scene s n w) (levels : ℕ) → of_a.depth < levels → of_b.depth < levels → (span : Span) →
    let parts = parts_at scene.calls (here_of scene) levels in
    Safe n w (and_then (value_of parts a) (λ v. and_then (value_of parts b) (λ x.
    unit_then (operated (here_of scene) span o (operand a.ty v) (operand b.ty x))))) (Fits t)
two_safe a b o of_a of_b types scene levels deep_a deep_b span =
    safe-then (part-value a of_a scene levels deep_a a.span) (λ k more x fits.
    safe-then (part-value b of_b (later k more scene) levels deep_b b.span) (λ j further y fits_too.
    safe-unit (λ v less. operated-safe (here_of scene) span x y types (fits-more a.ty k j further x fits) fits_too)))

pub operated_safe : {s : Scope} {a b : TExpr} {t : Ty} (o : BinaryOperator) → ValuePart s a → ValuePart s b → BinaryTypes o a.ty b.ty t →
    ValueSafe s t (TNode-F.Binary o a b)
operated_safe binary.And of_a of_b types = absurd (not_logical types refl)
operated_safe binary.Or of_a of_b types = absurd (not_logical types refl)
operated_safe {a = a} {b = b} o of_a of_b types = record {
  depth = suc (of_a.depth + of_b.depth);
  safe = λ scene levels deep span around. two_safe a b o of_a of_b types scene levels (omega (arith, deep)) (omega (arith, deep)) span;
}

-- ---- assignments

pub struct_level : (n k : ℕ) (l : TyLayer) (p q : Pointer) → FitsLevel n l (Struct q) → p.block < k → FitsLevel k l (Struct p)
struct_level n k (Ty-F.Struct number) p q fits within = within
struct_level n k _ p q fits within = absurd fits

pub written_safe : {s : Scope} {n w : ℕ} (scene : Scene s n w) (at : Site) → at.here ≡ here_of scene → (span : Span) (t : Ty) (p : Pointer)
    (v : Value) → p.block < n → Fits t n v → Safe n w (written at span (object t p) v) (Fits t)
written_safe {n = n} scene at same span t p v within fits =
    safe-then (write-safe at.here span (object t p) v within (cells_of-within t n v (some-block scene) (fits-within t n v fits)))
    (λ k more a any. safe-gives v (λ j further. fits-more t n j (omega (arith, more, further)) v fits))

pub assigned_by : {s : Scope} {n w : ℕ} (scene : Scene s n w) (levels : ℕ) (span around : Span) (t : Ty) (a b : TExpr) (p : Pointer)
    (v : Value) → p.block < n → Fits a.ty n v → Safe n w (assigned (site_of scene levels span around t) a b p v) (Fits a.ty)
assigned_by {n = n} scene levels span around t a b p (Struct q) within fits =
    safe-then (copy-safe (here_of scene) _ (fits-within a.ty n (Struct q) fits) within) (λ k more c any.
    safe-gives (Struct p) (λ j further. struct_level n j (out-Ty a.ty) p q fits (omega (arith, within, more, further))))
assigned_by scene levels span around t a b p v within fits =
    written_safe scene (site_of scene levels span around t) refl a.span a.ty p v within fits

pub assign_value : {s : Scope} {n w : ℕ} (a b : TExpr) (of_a : PlacePart s a) (of_b : ValuePart s b) → b.ty ≡ a.ty → (scene : Scene s n w)
    (levels : ℕ) → of_a.depth < levels → of_b.depth < levels → (span around : Span) (t : Ty) →
    Safe n w (assign_node (site_of scene levels span around t) None a b) (Fits a.ty)
assign_value a b of_a of_b same scene levels deep_a deep_b span around t =
    safe-then (part-place a of_a scene levels deep_a) (λ k more p within.
    safe-then (part-value b of_b (later k more scene) levels deep_b b.span) (λ j further v fits.
    safe-unit (λ u less.
    let inner = lower u (omega (arith, less)) (later j (omega (arith, more, further)) scene) in
    assigned_by inner levels span around t a b p v (omega (arith, within, further)) (subst (λ t. Fits t j v) same fits))))

pub assigned_safe : {s : Scope} {a b : TExpr} → PlacePart s a → ValuePart s b → b.ty ≡ a.ty → ValueSafe s a.ty (TNode-F.Assign None a b)
assigned_safe {a = a} {b = b} of_a of_b same = record {
  depth = suc (of_a.depth + of_b.depth);
  safe = λ scene levels deep span around.
      assign_value a b of_a of_b same scene levels (omega (arith, deep)) (omega (arith, deep)) span around a.ty;
}

pub compound_safe : {s : Scope} {a b : TExpr} (o : AssignOperator) → PlacePart s a → ValuePart s b → CompoundTypes o a.ty b.ty →
    ValueSafe s a.ty (TNode-F.Assign (Some o) a b)
compound_safe {a = a} {b = b} o of_a of_b types = record {
  depth = suc (of_a.depth + of_b.depth);
  safe = λ scene levels deep span around.
      safe-then (part-place a of_a scene levels (omega (arith, deep))) (λ k more p within.
      safe-then (part-value b of_b (later k more scene) levels (omega (arith, deep)) b.span) (λ j further x fits.
      safe-unit (λ u less.
      safe-then (read_scalar-safe (here_of scene) a.span (object a.ty p) (omega (arith, within, further))) (λ i again v of_v.
      safe-then (combined-safe (here_of scene) span v x types of_v (fits-more b.ty j i again x fits)) (λ h last r of_r.
      written_safe (lower u (omega (arith, less)) (later h (omega (arith, more, further, again, last)) scene))
      (site_of scene levels span around a.ty) refl a.span a.ty p r (omega (arith, within, further, again, last)) of_r)))));
}

pub step_safe : {s : Scope} {e : TExpr} (o : Step) → PlacePart s e → is_scalar e.ty ≡ true → ValueSafe s e.ty (TNode-F.Step o e)
step_safe {e = e} o part is = record {
  depth = suc part.depth;
  safe = λ scene levels deep span around. safe-then (part-place e part scene levels (omega (arith, deep))) (λ k more p within.
      safe-unit (λ u less.
      safe-then (read_scalar-safe (here_of scene) e.span (object e.ty p) within) (λ j further v fits.
      let new = stepped (here_of scene) o e.ty v in
      let of_new = stepped-fits j (here_of scene) o e.ty v is fits in
      let enough = some-block (later j (omega (arith, more, further)) scene) in
      safe-then (write-safe (here_of scene) e.span (object e.ty p) new (omega (arith, within, further))
      (cells_of-within e.ty j new enough (fits-within e.ty j new of_new))) (λ i again a any.
      safe-gives (if gives_old o then v else new) (λ h last.
      old_or_new (gives_old o) e.ty h v new (fits-more e.ty j h (omega (arith, again, last)) v fits)
      (fits-more e.ty j h (omega (arith, again, last)) new of_new))))));
}
  where
    old_or_new : (b : Bool) (t : Ty) (n : ℕ) (v new : Value) → Fits t n v → Fits t n new → Fits t n (if b then v else new)
    old_or_new true t n v new of_v of_new = of_v
    old_or_new false t n v new of_v of_new = of_new

-- ---- other values

pub chosen_safe : {s : Scope} {c a b : TExpr} {t : Ty} → ValuePart s c → ValuePart s a → a.ty ≡ t → ValuePart s b → b.ty ≡ t →
    ValueSafe s t (TNode-F.Cond c a b)
chosen_safe {s = s} {c = c} {a = a} {b = b} {t = t} of_c of_a a_is of_b b_is = record {
  depth = suc (of_c.depth + (of_a.depth + of_b.depth));
  safe = λ scene levels deep span around.
      safe-then (part-value c of_c scene levels (omega (arith, deep)) c.span) (λ k more x fits. safe-unit (λ u less.
      safe-then (truth-safe (here_of scene) c.span x) (λ j further holds any.
      let inner = lower u (omega (arith, less)) (later j (omega (arith, more, further)) scene) in
      safe-choice holds
      (safe-weaker (part-value a of_a inner levels (omega (arith, deep)) a.span) (λ i again v fits. subst (λ t. Fits t i v) a_is fits))
      (safe-weaker (part-value b of_b inner levels (omega (arith, deep)) b.span) (λ i again v fits. subst (λ t. Fits t i v) b_is fits)))));
}

pub cast_safe : {s : Scope} {e : TExpr} {t : Ty} → ValuePart s e → Converts e.ty t → ValueSafe s t (TNode-F.Cast t e)
cast_safe {e = e} {t = t} part types = record {
  depth = suc part.depth;
  safe = λ scene levels deep span around. safe-then (part-value e part scene levels (omega (arith, deep)) e.span) (λ k more v fits.
      safe-unit (λ u less. safe-gives (converted_to t v) (λ j further.
      converted-fits j v (some-block (later j (omega (arith, more, further)) scene)) types (fits-more e.ty k j further v fits))));
}

pub void_safe : {s : Scope} {e : TExpr} {t : Ty} → ValuePart s e → is_void t ≡ true → ValueSafe s t (TNode-F.Cast t e)
void_safe {e = e} {t = t} part is = record {
  depth = suc part.depth;
  safe = λ scene levels deep span around. safe-then (part-value e part scene levels (omega (arith, deep)) e.span) (λ k more v fits.
      safe-unit (λ u less. safe-gives (converted_to t v) (λ j further. converted-void t j v is)));
}

pub convert_safe : {s : Scope} {e : TExpr} {t : Ty} → ValuePart s e → Converts e.ty t → ValueSafe s t (TNode-F.Convert e)
convert_safe {e = e} {t = t} part types = record {
  depth = suc part.depth;
  safe = λ scene levels deep span around. safe-then (part-value e part scene levels (omega (arith, deep)) e.span) (λ k more v fits.
      safe-gives (converted_to t v) (λ j further.
      converted-fits j v (some-block (later j (omega (arith, more, further)) scene)) types (fits-more e.ty k j further v fits)));
}

pub size_safe : {s : Scope} {e : TExpr} → ValueSafe s (ty.Int int.ULong) (TNode-F.SizeofExpr e)
size_safe = record { depth = 0; safe = λ scene levels deep span around. number_given _ _ (int-is_integer int.ULong) }

pub size_name_safe : {s : Scope} {t : Ty} → ValueSafe s (ty.Int int.ULong) (TNode-F.SizeofName t)
size_name_safe = record { depth = 0; safe = λ scene levels deep span around. number_given _ _ (int-is_integer int.ULong) }

pub read_safe : {s : Scope} {e : TExpr} → PlacePart s e → ValueSafe s e.ty (TNode-F.Read e)
read_safe {e = e} part = record {
  depth = suc part.depth;
  safe = λ scene levels deep span around. safe-then (part-place e part scene levels (omega (arith, deep))) (λ k more p within.
      read-safe (here_of scene) e.span (object e.ty p) within);
}

pub decay_safe : {s : Scope} {e : TExpr} (t : Ty) → PlacePart s e → ValueSafe s (ty.Pointer t) (TNode-F.Decay e)
decay_safe {e = e} t part = record {
  depth = suc part.depth;
  safe = λ scene levels deep span around. safe-then (part-place e part scene levels (omega (arith, deep))) (λ k more p within.
      safe-gives (Address p) (λ j further.
      address-fits (ty.Pointer t) j (Address p) (pointer-is_pointer t) (omega (arith, within, further))));
}
