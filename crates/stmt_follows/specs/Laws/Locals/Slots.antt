-- Where the slots of locals lie: apart in a frame, and frames on whole granules of the stack (this project's own).
use Rattle.std.specs.Prelude.{◌≡◌, ℕ, ◌+◌, ◌%◌, ◌≤◌, List, [], ◌∷◌, slice_get, Option, Some, None, refl}
use Rattle.std.proofs.Common.{arith, ap, sym, subst, ◌∙◌}
use Rattle.c_type_base.specs.Layout.{LaidOut}
use Rattle.c_type_base.specs.Laws.LayoutLaws.{round_up-multiple}
use Rattle.c_type_base.specs.declared.typed.TFunction.{TFunction}
use Rattle.c_type_base.specs.declared.typed.Typed.{Typed}
use Rattle.frame_layout.specs.declared.frame.Frame.{Frame}
use Rattle.frame_layout.specs.declared.frame.Slot.{Slot}
use Rattle.frame_layout.specs.Frames.{frame, first_tagged, tagged_end}
use Rattle.frame_layout.specs.Parts.{parts}
use Rattle.frame_layout.specs.StatementNeeds.{stmt_need}
use Rattle.frame_layout.specs.Laws.FrameLaws.{Has}
use Rattle.frame_layout.specs.Laws.PartLaws.{parts-positive}
use Rattle.frame_layout.specs.Laws.WellFormedLaws.{apart}
use Rattle.block_meaning.specs.declared.kind.Kind.TheVariants.{Local}
use Rattle.block_meaning.specs.Blocks.{Block}
use Rattle.block_meaning.specs.Linkage.{structs_in, structs_of, function_in, function_named}
use Rattle.block_meaning.specs.Meaning.{open_bytes}
use Rattle.block_meaning.specs.ProgramsInOrder.{InOrder}
use Rattle.block_meaning.specs.Running.{Function, Call, Program, State as MeaningState}
use Rattle.code_relation.specs.Calls.{lowest, frame_by, frame_of, LieInOrder}
use Rattle.code_relation.specs.Sites.{Given, units_of, site_of_local, site_of_slot, slot_in, site_by, site_of}
use Rattle.code_relation.specs.Stands.{IsThere, AreCalls, IsLocal}
use Rattle.code_relation.specs.Laws.FrameWords.{HasSlot, IsBehindWords, slot_behind, slot_of_local}
use Rattle.code_relation.specs.Laws.Untouched.{Among, here, there}

-- ---- frames of functions that are there

laid_out : (p : Program) → InOrder p → (f : Function) (function : TFunction) → function_named p.units f ≡ Some function →
    LaidOut (structs_of p.units f.unit)
laid_out p order f function is = by_file (slice_get p.units f.unit) refl is
  where
    by_file : (u : Option Typed) → slice_get p.units f.unit ≡ u → function_in u f.number ≡ Some function → LaidOut (structs_in u)
    by_file None found is = absurd (cc)
    by_file (Some u) found is = (order.files f.unit u found).structs

frame_is : (units : List Typed) (f : Function) (function : TFunction) → function_named units f ≡ Some function →
    frame_of units f ≡ frame (structs_of units f.unit) function
frame_is units f function is = ap (λ o. frame_by units f.unit o) is

-- no byte is of the slots of two locals
pub slots_apart : (p : Program) → InOrder p → (f : Function) → IsThere p.units f → (j k : ℕ) (s t : Slot) (place : ℕ) →
    slice_get (frame_of p.units f).slots j ≡ Some s → slice_get (frame_of p.units f).slots k ≡ Some t → Has s place → Has t place → j ≡ k
slots_apart p order f of j k s t place one other first second =
    let same : frame_of p.units f ≡ frame (structs_of p.units f.unit) of.function = frame_is p.units f of.function of.is in
    apart (stmt_need of.function.body) (parts (structs_of p.units f.unit) of.function)
    (parts-positive (structs_of p.units f.unit) (laid_out p order f of.function of.is) of.function 0 of.function.locals) j k s t place
    (ap (λ (x : Frame). slice_get x.slots j) (sym same) ∙ one) (ap (λ (x : Frame). slice_get x.slots k) (sym same) ∙ other) first second

-- a frame has whole granules
frame_whole : (units : List Typed) (f : Function) → IsThere units f → (frame_of units f).bytes % 16 ≡ 0
frame_whole units f of =
    ap (λ (x : Frame). x.bytes % 16) (frame_is units f of.function of.is)
    ∙ round_up-multiple (tagged_end (first_tagged (stmt_need of.function.body) (parts (structs_of units f.unit) of.function))
    (parts (structs_of units f.unit) of.function)) 16

-- and starts on one
pub open_whole : (units : List Typed) (calls cs : List Call) → AreCalls units calls cs → LieInOrder units cs → open_bytes cs % 16 ≡ 0
open_whole units calls [] are lie = refl
open_whole units calls (c ∷ cs) are lie =
    omega (arith, lie.0, frame_whole units c.function are.1, open_whole units calls cs are.2 lie.1)

pub place_whole : (units : List Typed) (calls cs : List Call) (d : Call) → AreCalls units calls cs → LieInOrder units cs → Among d cs →
    d.place % 16 ≡ 0
place_whole units calls [] d are lie among = elim among [ ]
place_whole units calls (c ∷ cs) d are lie here = open_whole units calls (d ∷ cs) are lie
place_whole units calls (c ∷ cs) d are lie (there among) = place_whole units calls cs d are.2 lie.1 among

pub there_among : (units : List Typed) (calls cs : List Call) (d : Call) → AreCalls units calls cs → Among d cs → IsThere units d.function
there_among units calls [] d are among = elim among [ ]
there_among units calls (c ∷ cs) d are here = are.1
there_among units calls (c ∷ cs) d are (there among) = there_among units calls cs d are.2 among

-- ---- the slot of a local's block

pub record SlotAt (g : Given) (now : MeaningState) (number : ℕ) (b : Block) (c : Call) (k : ℕ) : Type 0 where
  pub slot : Slot
  pub is : slot_in g c k ≡ Some slot
  pub start_is : (site_of g now number b).start ≡ lowest c + slot.start
  pub holds : b.size ≤ slot.bytes
  pub before : slot.start + slot.bytes ≤ (frame_of (units_of g) c.function).bytes

pub slot_at : (g : Given) → InOrder g.program → (now : MeaningState) (number : ℕ) (b : Block) (call k : ℕ) →
    (l : IsLocal g now b call k) → b.kind ≡ Local call k → SlotAt g now number b l.made_by k
slot_at g order now number b call k l kind_is =
    let c : Call = l.made_by in
    let frame_same : frame_of (units_of g) c.function ≡ frame (structs_of (units_of g) c.function.unit) l.function =
    frame_is (units_of g) c.function l.function l.function_is in
    let has : HasSlot (structs_of (units_of g) c.function.unit) l.info
    (slice_get (frame (structs_of (units_of g) c.function.unit) l.function).slots k) =
    slot_of_local (structs_of (units_of g) c.function.unit) l.function k l.info l.info_is in
    let slot_is : slot_in g c k ≡ Some has.slot = ap (λ (f : Frame). slice_get f.slots k) frame_same ∙ has.is in
    let behind : IsBehindWords (frame_of (units_of g) c.function) has.slot =
    subst (λ f. IsBehindWords f has.slot) (sym frame_same)
    (slot_behind (structs_of (units_of g) c.function.unit) (laid_out g.program order c.function l.function l.function_is) l.function k
    has.slot has.is) in
    record {
      slot = has.slot;
      is = slot_is;
      start_is = ap (λ y. y.start) (ap (λ kind. site_by g now.calls kind number) kind_is
          ∙ ap (λ o. site_of_local g now.calls o k) l.call_is ∙ ap (λ o. site_of_slot g now.calls c o) slot_is);
      holds = omega (arith, l.size_is, has.holds);
      before = behind.before;
    }
