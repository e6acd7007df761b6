-- Where a scalar local in scope stands in a function without tagged slots, in reach from SP or not (this project's own).
use Rattle.std.specs.Prelude.{◌≡◌, ℕ, ◌+◌, ◌%◌, true, false, slice_get, Some}
use Rattle.std.proofs.Common.{arith, ap, sym, subst, ◌∙◌}
use Rattle.c_type_base.specs.Types.{is_scalar}
use Rattle.c_type_base.specs.declared.ty.Ty.{Ty}
use Rattle.c_type_base.specs.declared.typed.LocalInfo.{LocalInfo}
use Rattle.a64_code.specs.State.{State}
use Rattle.frame_layout.specs.declared.frame.Frame.{Frame}
use Rattle.frame_layout.specs.Frames.{frame}
use Rattle.frame_layout.specs.WellFormed.{is_tagged_slot}
use Rattle.block_meaning.specs.Linkage.{structs_of, function_named}
use Rattle.block_meaning.specs.Running.{Call, State as MeaningState}
use Rattle.code_relation.specs.Calls.{frame_of}
use Rattle.block_meaning.specs.Access.{is_null_block, is_text}
use Rattle.code_relation.specs.Relates.{Relates}
use Rattle.code_relation.specs.Sites.{Given, units_of, is_tagged_by}
use Rattle.code_relation.specs.Laws.FrameWords.{HasSlot, slot_of_local}
use Rattle.code_relation.specs.Laws.LocalBytes.{frame_is}
use Rattle.code_relation.specs.Laws.SlotSites.{InSlot, in_slot, sp_whole}
use Rattle.code_follows.specs.Scene.{Scene, IsScene, given_in, structs_in, frame_in}
use Rattle.code_follows.specs.Laws.ScalarBytes.{bytes_in, size-scalar, align-scalar, whole_sum}
use Rattle.code_follows.specs.Laws.Slots.{SlotPlace}
use Rattle.code_follows.specs.Laws.Stack.{stack_open}
use Rattle.stmt_follows.specs.Expressions.{IsPlace}
use Rattle.stmt_follows.specs.Laws.Locals.Apart.{none_tagged}

-- so many bytes above SP
pub record LocalPlace (k : Scene) (t : Ty) (now : MeaningState) (s : State) (number : ℕ) : Type 0 where
  pub start : ℕ
  pub place : SlotPlace k t start now s number

pub local_place : {k : Scene} {now : MeaningState} {s : State} → IsPlace k → Relates (given_in k) k.here now s → (t : Ty)
    (local number : ℕ) (l : LocalInfo) → slice_get k.scope.function.locals local ≡ Some l → l.ty ≡ t → is_scalar t ≡ true →
    k.here.local local ≡ Some number → LocalPlace k t now s number
local_place {k} {now} {s} place relates t local number l local_is type_is scalar scope =
    let scene : IsScene k = place.scene in
    let g : Given = given_in k in
    let c : Call = scene.inside.0 in
    let frame_same : frame_in k ≡ frame (structs_in k) k.scope.function =
    frame_is (units_of g) k.function k.scope.function scene.of_scope.function_is in
    let has : HasSlot (structs_in k) l (slice_get (frame (structs_in k) k.scope.function).slots local) =
    slot_of_local (structs_in k) k.scope.function local l local_is in
    let slot_is : slice_get (frame_in k).slots local ≡ Some has.slot =
    ap (λ (f : Frame). slice_get f.slots local) frame_same ∙ has.is in
    let safely : is_tagged_slot has.slot ≡ false =
    sym (ap (λ o. is_tagged_by o) slot_is) ∙ none_tagged (frame_in k).slots place.safe.safe local in
    let at : InSlot g now s c local l has.slot number =
    in_slot relates.injects scene.file.meant.in_order c k.scope.function local number l has.slot scene.inside.1
    (ap (λ f. function_named (units_of g) f) scene.inside.2 ∙ scene.of_scope.function_is) local_is
    (ap (λ f. slice_get (frame_of (units_of g) f).slots local) scene.inside.2 ∙ slot_is) safely scope in
    let of_local : is_scalar l.ty ≡ true = ap (λ u. is_scalar u) type_is ∙ scalar in
    let bytes : at.block.size ≡ bytes_in t =
    at.size_is ∙ size-scalar (structs_of (units_of g) c.function.unit) l.ty of_local ∙ ap (λ u. bytes_in u) type_is in
    let multiple : has.slot.start % bytes_in t ≡ 0 =
    subst (λ (u : Ty). has.slot.start % bytes_in u ≡ 0) type_is
    (subst (λ (n : ℕ). has.slot.start % n ≡ 0) (align-scalar (structs_of (units_of g) c.function.unit) l.ty of_local) at.aligned_to) in
    record {
      start = has.slot.start;
      place = record {
        block = at.block;
        lives = at.lives;
        not_null = ap (λ kind. is_null_block kind) at.kind_is;
        not_text = ap (λ kind. is_text kind) at.kind_is;
        size_is = bytes;
        start_is = at.start_is;
        near = record {
          whole = multiple;
          aligned = whole_sum t scalar s.sp has.slot.start (sp_whole relates.injects) multiple;
          below = omega (arith, at.before);
        };
        memory = stack_open relates.injects (s.sp + has.slot.start) (bytes_in t) (omega (arith, at.above))
            (omega (arith, at.before, bytes));
      };
    }
