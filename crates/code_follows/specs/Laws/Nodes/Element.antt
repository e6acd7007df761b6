-- The code of an element behind a pointer does what it means, in either order (ISO C11 6.5.2.1).
use Rattle.std.specs.Prelude.{◌≡◌, ℕ, false, ◌+◌, ◌*◌, ◌%◌, ◌^◌, true, Option, Some, None, [], ◌∷◌, refl}
use Rattle.std.proofs.Common.{arith, ap, sym, subst, ◌∙◌}
use Rattle.c_type_base.specs.Sizes.{size}
use Rattle.c_type_base.specs.Types.{is_integer, target_of}
use Rattle.c_type_base.specs.declared.expr.TExpr.{TExpr}
use Rattle.c_type_base.specs.declared.expr.TNode.TheOpen.{TNode-F}
use Rattle.c_type_base.specs.declared.ty.Ty.{Ty}
use Rattle.a64_code.specs.declared.instr.Instr.TheVariants.{Madd}
use Rattle.a64_code.specs.declared.instr.Reg.{Reg}
use Rattle.a64_laws.specs.Constants.{constant_moves}
use Rattle.block_meaning.specs.Blocks.{moved}
use Rattle.block_meaning.specs.Expressions.{element_at, place_node}
use Rattle.block_meaning.specs.Memory.{bytes_of}
use Rattle.block_meaning.specs.Operators.{int_in}
use Rattle.block_meaning.specs.Running.{gives}
use Rattle.block_meaning.specs.declared.value.Value.TheVariants.{Number, Address}
use Rattle.frame_layout.specs.Needs.{need, waiting}
use Rattle.gen_base.specs.Code.{plain, in_turn}
use Rattle.gen_base.specs.Operators.{wrapped_size, element}
use Rattle.gen_base.specs.Registers.{left, scratch}
use Rattle.gen_expr.specs.Nodes.{first_waits}
use Rattle.gen_laws.specs.Laws.PointerLengths.{element-few}
use Rattle.gen_laws.specs.Laws.Pointers.{advance-computes}
use Rattle.code_follows.specs.Leaves.{place_leaves}
use Rattle.code_follows.specs.Parts.{Part, ValueFollows, PlaceNode, coded_in, site_in}
use Rattle.code_follows.specs.Scene.{Scene, IsScene, given_in, structs_in, frame_in}
use Rattle.code_follows.specs.Values.{ValueIs, PlaceIs}
use Rattle.code_follows.specs.Waits.{WaitingLaws}
use Rattle.code_follows.specs.Laws.Computing.{are_quiet-append, constant_quiet}
use Rattle.code_follows.specs.Laws.Here.{PlacePart-paid}
use Rattle.code_follows.specs.Laws.Keeping.{value_lasts}
use Rattle.code_follows.specs.Laws.Layers.{coded-ty}
use Rattle.code_follows.specs.Laws.Moving.{moves_on}
use Rattle.code_follows.specs.Laws.Nodes.Integers.{IntegerIs, ValueIs-integer, target-none}
use Rattle.code_follows.specs.Laws.Nodes.Operated.{value_part}
use Rattle.code_follows.specs.Laws.Operand.{Listed, ValueIs-spent}
use Rattle.code_follows.specs.Laws.Operands.{DoesBoth, computes_it, operands_part}
use Rattle.code_follows.specs.Laws.PointerValues.{ValueIs-address, size_here}
use Rattle.code_follows.specs.Laws.Waiting.{values_last}
use Rattle.code_follows.specs.Laws.Walking.{are_quiet}

-- ---- the list

element_listed : (bytes : ℕ) (target : Option Ty) (reg : Reg) → Listed (element bytes target reg)
element_listed bytes target reg = record {
  quiet = by_target target;
  few = record { some = (element-few bytes target reg).some; few = omega (arith, (element-few bytes target reg).most) };
}
  where
    by_target : (target : Option Ty) → are_quiet (element bytes target reg) ≡ true
    by_target None =
        are_quiet-append (constant_moves scratch bytes) (Madd true scratch reg left reg ∷ []) (constant_quiet scratch bytes) refl
    by_target (Some target) =
        are_quiet-append (constant_moves scratch bytes) (Madd true scratch left reg reg ∷ []) (constant_quiet scratch bytes) refl

module _ {k : Scene} (scene : IsScene k) (t : Ty) where
  -- the pointer comes first
  element_does : (s u : Ty) → target_of s ≡ Some t → is_integer u ≡ true →
      DoesBoth k (ValueIs (given_in k) s) (ValueIs (given_in k) u) (PlaceIs (given_in k))
      (element (wrapped_size (structs_in k) t) (Some t))
      (λ v w. gives (element_at (bytes_of k.here t) v w))
  element_does s u of integer = record {
    list = λ reg. element_listed (wrapped_size (structs_in k) t) (Some t) reg;
    does = λ reg v w now m both.
        let one = ValueIs-address {s = s} of both.first in
        let count : ℕ = m.register reg.0 in
        let two : IntegerIs (int_in u) w count = ValueIs-integer u w count integer both.second in
        computes_it (moved one.pointer (count * size (structs_in k) t)) ((m.register 16 + count * wrapped_size (structs_in k) t) % 2 ^ 64)
        (ap (λ x. gives (element_at (bytes_of k.here t) x w) now) one.is
        ∙ ap (λ x. gives (element_at (bytes_of k.here t) (Address one.pointer) x) now) two.is
        ∙ ap (λ bytes. gives (moved one.pointer (count * bytes)) now) (size_here scene t both.relates))
        (advance-computes (wrapped_size (structs_in k) t) left reg reg (m.register 16) count m (record {
          pointer_low = omega arith;
          count_low = omega (arith, both.high);
          into_low = omega (arith, both.high);
          pointer_is = refl;
          count_is = refl;
        }) (omega arith) (omega (arith, both.room)))
        (record { is = moves_on count (size (structs_in k) t) one.number });
  }

  -- the pointer comes second
  second_does : (s u : Ty) → is_integer s ≡ true → target_of u ≡ Some t →
      DoesBoth k (ValueIs (given_in k) s) (ValueIs (given_in k) u) (PlaceIs (given_in k)) (element (wrapped_size (structs_in k) t) None)
      (λ v w. gives (element_at (bytes_of k.here t) v w))
  second_does s u integer of = record {
    list = λ reg. element_listed (wrapped_size (structs_in k) t) None reg;
    does = λ reg v w now m both.
        let count : ℕ = m.register 16 in
        let one : IntegerIs (int_in s) v count = ValueIs-integer s v count integer both.first in
        let two = ValueIs-address {s = u} of both.second in
        computes_it (moved two.pointer (count * size (structs_in k) t))
        ((m.register reg.0 + count * wrapped_size (structs_in k) t) % 2 ^ 64)
        (ap (λ x. gives (element_at (bytes_of k.here t) x w) now) one.is
        ∙ ap (λ x. gives (element_at (bytes_of k.here t) (Number count) x) now) two.is
        ∙ ap (λ bytes. gives (moved two.pointer (count * bytes)) now) (size_here scene t both.relates))
        (advance-computes (wrapped_size (structs_in k) t) reg left reg (m.register reg.0) count m (record {
          pointer_low = omega (arith, both.high);
          count_low = omega arith;
          into_low = omega (arith, both.high);
          pointer_is = refl;
          count_is = refl;
        }) (omega arith) (omega (arith, both.room)))
        (record { is = moves_on count (size (structs_in k) t) two.number });
  }

  -- an index by what is known of the first operand's type
  index_follows : WaitingLaws k → (depth : ℕ) (a i : TExpr) (target : Option Ty) → ValueFollows k depth a → ValueFollows k depth i →
      target_of a.ty ≡ target →
      DoesBoth k (ValueIs (given_in k) a.ty) (ValueIs (given_in k) i.ty) (PlaceIs (given_in k))
      (element (wrapped_size (structs_in k) t) target) (λ v w. gives (element_at (bytes_of k.here t) v w)) →
      PlaceNode k depth t (TNode-F.Index a i)
  index_follows waits depth a i target first second target_is does =
      let whole = operands_part place_leaves (coded_in k a).value (coded_in k i) (omega arith) scene waits (value_part a first)
      (value_part i second) (value_lasts k.bound k.here depth i.span i) (values_last k a.ty) (λ v now n is. ValueIs-spent is)
      (λ v now n is. ValueIs-spent is) does in
      let noted : target_of (coded_in k a).ty ≡ target = ap target_of (coded-ty (structs_in k) (frame_in k) a) ∙ target_is in
      record {
        at = λ span. PlacePart-paid
            (subst (λ x. Part k (λ m r. in_turn (first_waits left (coded_in k a).value (coded_in k i) m r
            ∷ plain (element (wrapped_size (structs_in k) t) x r) ∷ [])) (waiting (need a) (need i)) place_leaves false
            (PlaceIs (given_in k)) (place_node (site_in k depth span span t) (TNode-F.Index a i))) (sym noted) whole);
      }

-- `a[i]`
pub element_follows : (k : Scene) → IsScene k → WaitingLaws k → (depth : ℕ) (a i : TExpr) (t : Ty) → ValueFollows k depth a →
    target_of a.ty ≡ Some t → ValueFollows k depth i → is_integer i.ty ≡ true → PlaceNode k depth t (TNode-F.Index a i)
element_follows k scene waits depth a i t first of second integer =
    index_follows scene t waits depth a i (Some t) first second of (element_does scene t a.ty i.ty of integer)

-- `i[a]`
pub element_of_second_follows : (k : Scene) → IsScene k → WaitingLaws k → (depth : ℕ) (i a : TExpr) (t : Ty) → ValueFollows k depth i →
    is_integer i.ty ≡ true → ValueFollows k depth a → target_of a.ty ≡ Some t → PlaceNode k depth t (TNode-F.Index i a)
element_of_second_follows k scene waits depth i a t first integer second of =
    index_follows scene t waits depth i a None first second (target-none i.ty integer) (second_does scene t i.ty a.ty integer of)
