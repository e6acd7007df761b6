-- Where the slots of locals stand, and that they hold them: behind the words of their frame (this project's own).
use Rattle.std.specs.Prelude.{◌≡◌, ℕ, zero, suc, ◌+◌, ◌*◌, ◌≤◌, List, [], ◌∷◌, slice_get, Option, Some, refl}
use Rattle.std.proofs.Common.{arith, subst}
use Rattle.c_type_base.specs.Layout.{LaidOut}
use Rattle.c_type_base.specs.Laws.LayoutLaws.{round_up-reaches}
use Rattle.c_type_base.specs.Sizes.{size}
use Rattle.c_type_base.specs.declared.typed.LocalInfo.{LocalInfo}
use Rattle.c_type_base.specs.declared.typed.StructInfo.{StructInfo}
use Rattle.c_type_base.specs.declared.typed.TFunction.{TFunction}
use Rattle.slot_safety.specs.declared.kind.Kind.{Kind}
use Rattle.slot_safety.specs.declared.kind.Kind.TheVariants.{Safe, Tagged}
use Rattle.frame_layout.specs.declared.frame.Frame.{Frame}
use Rattle.frame_layout.specs.declared.frame.Slot.{Slot}
use Rattle.frame_layout.specs.declared.placed.Part.{Part}
use Rattle.frame_layout.specs.Frames.{slot_of, slots_from, safe_step, tagged_step, count_step, first_safe, first_tagged, frame}
use Rattle.frame_layout.specs.Frames.{safe_end, tagged_end}
use Rattle.frame_layout.specs.Parts.{part_of, parts_from, parts}
use Rattle.frame_layout.specs.Scopes.{is_inner}
use Rattle.slot_safety.specs.Kinds.{is_tagged, kind_by}
use Rattle.frame_layout.specs.StatementNeeds.{stmt_need}
use Rattle.frame_layout.specs.Laws.FrameLaws.{Stands}
use Rattle.frame_layout.specs.Laws.PartLaws.{parts-positive}
use Rattle.frame_layout.specs.Laws.WellFormedLaws.{safe_room, safe_first, safe_within, tagged_within, stands}

-- ---- a local has a slot that holds it

pub record HasSlot (structs : List StructInfo) (l : LocalInfo) (s : Option Slot) : Type 0 where
  pub slot : Slot
  pub is : s ≡ Some slot
  pub holds : size structs l.ty ≤ slot.bytes

slot_holds : (safe tagged count : ℕ) (p : Part) (kind : Kind) → p.bytes ≤ (slot_of safe tagged count p kind).bytes
slot_holds safe tagged count p Safe = omega arith
slot_holds safe tagged count p Tagged = round_up-reaches p.bytes 16 (omega arith)

slots_hold : (structs : List StructInfo) (f : TFunction) (safe tagged count j : ℕ) (ls : List LocalInfo) (k : ℕ) (l : LocalInfo) →
    slice_get ls k ≡ Some l → HasSlot structs l (slice_get (slots_from safe tagged count (parts_from structs f j ls)) k)
slots_hold structs f safe tagged count j [] k l is = absurd (cc)
slots_hold structs f safe tagged count j (x ∷ xs) zero l is =
    let p : Part = part_of structs x (kind_by (is_tagged structs f j)) (is_inner f j) in
    let same : x ≡ l = cc in
    record {
      slot = slot_of safe tagged count p p.kind;
      is = refl;
      holds = subst (λ (m : LocalInfo). size structs m.ty ≤ (slot_of safe tagged count p p.kind).bytes) same
          (slot_holds safe tagged count p p.kind);
    }
slots_hold structs f safe tagged count j (x ∷ xs) (suc k) l is =
    let p : Part = part_of structs x (kind_by (is_tagged structs f j)) (is_inner f j) in
    slots_hold structs f (safe_step safe p p.kind) (tagged_step tagged p p.kind) (count_step count p.kind) (suc j) xs k l is

-- ---- and stands behind the words of the frame

pub record IsBehindWords (f : Frame) (s : Slot) : Type 0 where
  pub from_on : 24 + 8 * f.temps ≤ s.start
  pub before : s.start + s.bytes ≤ f.bytes

pub slot_behind : (structs : List StructInfo) → LaidOut structs → (f : TFunction) (k : ℕ) (s : Slot) →
    slice_get (frame structs f).slots k ≡ Some s → IsBehindWords (frame structs f) s
slot_behind structs laid f k s is = by_kind s.kind (stands words ps positive k s is)
  where
    words : ℕ
    words = stmt_need f.body

    ps : List Part
    ps = parts structs f

    positive : (k : ℕ) (p : Part) → slice_get ps k ≡ Some p → 1 ≤ p.align
    positive = parts-positive structs laid f 0 f.locals

    by_kind : (kind : Kind) → Stands (first_safe words) (safe_end (first_safe words) ps) (first_tagged words ps)
        (tagged_end (first_tagged words ps) ps) s kind → IsBehindWords (frame structs f) s
    by_kind Safe there = record {
      from_on = there.from_on;
      before = omega (arith, there.before, safe_within words ps positive);
    }
    by_kind Tagged there = record {
      from_on = omega (arith, there.from_on, safe_room words ps positive, safe_first words ps positive);
      before = omega (arith, there.before, tagged_within words ps positive);
    }

-- the words themselves are in the frame
pub words_within : (structs : List StructInfo) → LaidOut structs → (f : TFunction) →
    24 + 8 * (frame structs f).temps ≤ (frame structs f).bytes
words_within structs laid f =
    let positive = parts-positive structs laid f 0 f.locals in
    omega (arith, safe_room (stmt_need f.body) (parts structs f) positive, safe_within (stmt_need f.body) (parts structs f) positive)

-- the slot of a local, in the frame of its function
pub slot_of_local : (structs : List StructInfo) (f : TFunction) (k : ℕ) (l : LocalInfo) → slice_get f.locals k ≡ Some l →
    HasSlot structs l (slice_get (frame structs f).slots k)
slot_of_local structs f k l is =
    slots_hold structs f (first_safe (stmt_need f.body)) (first_tagged (stmt_need f.body) (parts structs f)) 0 0 f.locals k l is
