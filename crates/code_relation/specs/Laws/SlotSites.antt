-- Where a local in scope lies whose slot is safe: so many bytes above SP, on a multiple of its alignment (this project's own).
use Rattle.std.specs.Prelude.{◌≡◌, ℕ, zero, suc, ◌+◌, ◌%◌, ◌≤◌, false, List, [], ◌∷◌, slice_get, Some, refl}
use Rattle.std.proofs.Common.{arith, ap, sym, subst, ◌∙◌}
use Rattle.c_type_base.specs.Laws.LayoutLaws.{round_up-multiple}
use Rattle.c_type_base.specs.Layout.{LaidOut}
use Rattle.c_type_base.specs.Sizes.{size, align}
use Rattle.c_type_base.specs.declared.typed.LocalInfo.{LocalInfo}
use Rattle.c_type_base.specs.declared.typed.StructInfo.{StructInfo}
use Rattle.c_type_base.specs.declared.typed.TFunction.{TFunction}
use Rattle.slot_safety.specs.declared.kind.Kind.{Kind as SlotKind}
use Rattle.slot_safety.specs.declared.kind.Kind.TheVariants.{Safe, Tagged}
use Rattle.frame_layout.specs.declared.frame.Frame.{Frame}
use Rattle.frame_layout.specs.declared.frame.Slot.{Slot}
use Rattle.frame_layout.specs.declared.placed.Part.{Part}
use Rattle.frame_layout.specs.Frames.{frame, first_tagged, tagged_end}
use Rattle.frame_layout.specs.Parts.{parts_from, parts}
use Rattle.frame_layout.specs.StatementNeeds.{stmt_need}
use Rattle.frame_layout.specs.WellFormed.{of_kind, is_tagged_slot}
use Rattle.frame_layout.specs.Laws.PartLaws.{parts-positive}
use Rattle.frame_layout.specs.Laws.WellFormedLaws.{aligned}
use Rattle.a64_code.specs.State.{State}
use Rattle.block_meaning.specs.declared.kind.Kind.TheVariants.{Local}
use Rattle.block_meaning.specs.Blocks.{Block}
use Rattle.block_meaning.specs.Linkage.{structs_of, function_named}
use Rattle.block_meaning.specs.Locals.{latest}
use Rattle.block_meaning.specs.Meaning.{open_bytes}
use Rattle.block_meaning.specs.ProgramsInOrder.{InOrder}
use Rattle.block_meaning.specs.Running.{Call, Program, Context, State as MeaningState}
use Rattle.code_relation.specs.Calls.{stack_end, lowest, frame_of, LieInOrder}
use Rattle.code_relation.specs.Injects.{Injects}
use Rattle.code_relation.specs.Sites.{Given, units_of, Lives, site_of_local, site_of_slot, slot_in, site_by, site_of}
use Rattle.code_relation.specs.Stands.{AreCalls, IsInScope, IsLocal}
use Rattle.code_relation.specs.Laws.FrameWords.{HasSlot, IsBehindWords, slot_behind, slot_of_local}
use Rattle.code_relation.specs.Laws.LocalBytes.{laid_out, frame_is}

-- ---- SP stands on a granule

places_whole : (p : Program) (calls cs : List Call) → AreCalls p.units calls cs → LieInOrder p.units cs → open_bytes cs % 16 ≡ 0
places_whole p calls [] are lie = refl
places_whole p calls (c ∷ cs) are lie =
    let f : TFunction = are.1.function in
    let structs : List StructInfo = structs_of p.units c.function.unit in
    let whole : (frame_of p.units c.function).bytes % 16 ≡ 0 =
    subst (λ (f : Frame). f.bytes % 16 ≡ 0) (sym (frame_is p.units c.function f are.1.is))
    (round_up-multiple (tagged_end (first_tagged (stmt_need f.body) (parts structs f)) (parts structs f)) 16) in
    omega (arith, lie.0, whole, places_whole p calls cs are.2 lie.1)

pub sp_whole : {g : Given} {here : Context} {now : MeaningState} {s : State} → Injects g here now s → s.sp % 16 ≡ 0
sp_whole {g} {here} {now} {s} injects =
    let whole : open_bytes here.open_calls % 16 ≡ 0 =
    places_whole g.program now.calls here.open_calls injects.stands.calls injects.frames.in_order in
    omega (arith, whole, injects.frames.sp)

-- ---- what the slot of a local has to hold

record HasPart (structs : List StructInfo) (l : LocalInfo) (ps : List Part) (k : ℕ) : Type 0 where
  part : Part
  is : slice_get ps k ≡ Some part
  align_is : part.align ≡ align structs l.ty

part_there : (structs : List StructInfo) (f : TFunction) (j : ℕ) (ls : List LocalInfo) (k : ℕ) (l : LocalInfo) →
    slice_get ls k ≡ Some l → HasPart structs l (parts_from structs f j ls) k
part_there structs f j [] k l is = absurd (cc)
part_there structs f j (x ∷ xs) zero l is =
    let same : x ≡ l = cc in
    record { part = _; is = refl; align_is = ap (λ (y : LocalInfo). align structs y.ty) same }
part_there structs f j (x ∷ xs) (suc k) l is =
    let rest : HasPart structs l (parts_from structs f (suc j) xs) k = part_there structs f (suc j) xs k l is in
    record { part = rest.part; is = rest.is; align_is = rest.align_is }

safe_kind : (kind : SlotKind) → of_kind kind ≡ false → kind ≡ Safe
safe_kind Safe is = refl
safe_kind Tagged is = absurd (cc)

safe_aligned : (structs : List StructInfo) → LaidOut structs → (f : TFunction) (k : ℕ) (l : LocalInfo) (s : Slot) →
    slice_get f.locals k ≡ Some l → slice_get (frame structs f).slots k ≡ Some s → is_tagged_slot s ≡ false →
    s.start % align structs l.ty ≡ 0
safe_aligned structs laid f k l s local is safely =
    let there : HasPart structs l (parts structs f) k = part_there structs f 0 f.locals k l local in
    subst (λ (n : ℕ). s.start % n ≡ 0) there.align_is
    (aligned (stmt_need f.body) (parts structs f) (parts-positive structs laid f 0 f.locals) k there.part s there.is is
    (safe_kind s.kind safely))

-- ---- the local

-- A local of the latest call, in a slot of its frame: it is alive, has the bytes of its type, and so many bytes above SP.
pub record InSlot (g : Given) (now : MeaningState) (s : State) (c : Call) (k : ℕ) (t : LocalInfo) (slot : Slot) (number : ℕ) : Type 0 where
  pub block : Block
  pub lives : Lives now number block
  pub kind_is : block.kind ≡ Local c.number k
  pub size_is : block.size ≡ size (structs_of (units_of g) c.function.unit) t.ty
  pub start_is : (site_of g now number block).start ≡ s.sp + slot.start
  pub aligned_to : slot.start % align (structs_of (units_of g) c.function.unit) t.ty ≡ 0
  pub above : stack_end ≤ s.sp + slot.start + g.program.stack
  pub before : s.sp + slot.start + block.size ≤ stack_end

-- what is known of the latest call
record IsLatest (g : Given) (now : MeaningState) (s : State) (c : Call) : Type 0 where
  there : slice_get now.calls c.number ≡ Some c
  lies : s.sp ≡ lowest c
  fits : (frame_of (units_of g) c.function).bytes ≤ c.place
  within : c.place ≤ stack_end
  held : c.place ≤ g.program.stack

is_latest : {g : Given} {here : Context} {now : MeaningState} {s : State} → Injects g here now s → (c : Call) →
    latest here.open_calls ≡ Some c → IsLatest g now s c
is_latest {g} {here} {now} {s} injects c is =
    by_calls here.open_calls is injects.stands.calls injects.frames.in_order injects.frames.sp injects.frames.fit
  where
    by_calls : (cs : List Call) → latest cs ≡ Some c → AreCalls (units_of g) now.calls cs → LieInOrder (units_of g) cs →
        s.sp + open_bytes cs ≡ stack_end → open_bytes cs ≤ g.program.stack → IsLatest g now s c
    by_calls [] is are lie sp fit = absurd (cc)
    by_calls (d ∷ ds) is are lie sp fit =
        let same : d ≡ c = cc in
        subst (λ x. IsLatest g now s x) same (record {
          there = are.0;
          lies = omega (arith, sp);
          fits = omega (arith, lie.0);
          within = omega (arith, sp);
          held = omega (arith, fit);
        })

module _ {g : Given} {here : Context} {now : MeaningState} {s : State} (injects : Injects g here now s) (order : InOrder g.program) where
  pub in_slot : (c : Call) (f : TFunction) (k number : ℕ) (l : LocalInfo) (slot : Slot) → latest here.open_calls ≡ Some c →
      function_named (units_of g) c.function ≡ Some f → slice_get f.locals k ≡ Some l → slot_in g c k ≡ Some slot →
      is_tagged_slot slot ≡ false → here.local k ≡ Some number → InSlot g now s c k l slot number
  in_slot c f k number l slot latest_is function_is local_is slot_is safely scope =
      let in_scope : IsInScope now (latest here.open_calls) k number = injects.stands.scope k number scope in
      let call_is : latest here.open_calls ≡ Some in_scope.of = in_scope.call_is in
      let same : in_scope.of ≡ c = cc in
      let b : Block = in_scope.block in
      let kind : b.kind ≡ Local c.number k = in_scope.kind_is ∙ ap (λ (x : Call). Local x.number k) same in
      let local : IsLocal g now b c.number k = injects.stands.locals number b c.number k in_scope.lives.is kind in
      let last : IsLatest g now s c = is_latest injects c latest_is in
      let by_local : slice_get now.calls c.number ≡ Some local.made_by = local.call_is in
      let by_latest : slice_get now.calls c.number ≡ Some c = last.there in
      let made : local.made_by ≡ c = cc in
      let named : function_named (units_of g) c.function ≡ Some local.function =
      ap (λ (x : Call). function_named (units_of g) x.function) (sym made) ∙ local.function_is in
      let functions : local.function ≡ f = cc in
      let of_locals : slice_get f.locals k ≡ Some local.info =
      ap (λ (x : TFunction). slice_get x.locals k) (sym functions) ∙ local.info_is in
      let infos : local.info ≡ l = cc in
      let structs : List StructInfo = structs_of (units_of g) c.function.unit in
      let frame_same : frame_of (units_of g) c.function ≡ frame structs f = frame_is (units_of g) c.function f function_is in
      let of_frame : slice_get (frame structs f).slots k ≡ Some slot =
      ap (λ (x : Frame). slice_get x.slots k) (sym frame_same) ∙ slot_is in
      let laid : LaidOut structs = laid_out g.program order c.function f function_is in
      let has : HasSlot structs l (slice_get (frame structs f).slots k) = slot_of_local structs f k l local_is in
      let has_is : slice_get (frame structs f).slots k ≡ Some has.slot = has.is in
      let slots : has.slot ≡ slot = cc in
      let behind : IsBehindWords (frame structs f) slot = slot_behind structs laid f k slot of_frame in
      let size_of : b.size ≡ size structs l.ty =
      local.size_is ∙ ap (λ (x : Call). size (structs_of (units_of g) x.function.unit) local.info.ty) made
      ∙ ap (λ (x : LocalInfo). size structs x.ty) infos in
      let holds : size structs l.ty ≤ slot.bytes = subst (λ (x : Slot). size structs l.ty ≤ x.bytes) slots has.holds in
      let before_end : slot.start + slot.bytes ≤ (frame_of (units_of g) c.function).bytes =
      subst (λ (x : Frame). slot.start + slot.bytes ≤ x.bytes) (sym frame_same) behind.before in
      let site_is : site_of g now number b ≡ site_of_slot g now.calls c (Some slot) =
      ap (λ kind. site_by g now.calls kind number) kind ∙ ap (λ o. site_of_local g now.calls o k) by_latest
      ∙ ap (λ o. site_of_slot g now.calls c o) slot_is in
      record {
        block = b;
        lives = in_scope.lives;
        kind_is = kind;
        size_is = size_of;
        start_is = ap (λ y. y.start) site_is ∙ ap (λ (n : ℕ). n + slot.start) (sym last.lies);
        aligned_to = safe_aligned structs laid f k l slot local_is of_frame safely;
        above = omega (arith, last.lies, last.held, last.within);
        before = omega (arith, last.lies, last.fits, last.within, before_end, holds, size_of);
      }
