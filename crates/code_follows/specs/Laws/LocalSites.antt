-- Live locals lie above address 0 and below 2^56, and their pointers have tags (this project's own). So a pointer is null exactly where its
-- number is 0.
use Rattle.std.specs.Prelude.{ℕ, ◌+◌, ◌<◌, ◌≤◌, Bool, true, false, List, Some, if◌then◌else◌}
use Rattle.std.proofs.Common.{arith, sym, subst}
use Rattle.mt_base.specs.Laws.TagChoice.{next_tag-lt}
use Rattle.mt_base.specs.Tags.{base, slot_tag, zero_excluded}
use Rattle.frame_layout.specs.declared.frame.Slot.{Slot}
use Rattle.frame_layout.specs.WellFormed.{is_tagged_slot}
use Rattle.block_meaning.specs.Running.{Call}
use Rattle.code_relation.specs.Calls.{stack_end, lowest, frame_of}
use Rattle.code_relation.specs.Sites.{Given, units_of, choice_of, site_of_slot}
use Rattle.code_relation.specs.Laws.LocalBytes.{InFrame, in_frame}
use Rattle.code_relation.specs.Laws.Untouched.{Among, among_calls, place_within, frame_within}
use Rattle.code_follows.specs.Scene.{Scene, IsScene, given_in}
use Rattle.code_follows.specs.Laws.Pointing.{LocalsLie, pointers_true}
use Rattle.code_follows.specs.Laws.Truth.{PointersTrue}

tag_below : (g : Given) (calls : List Call) (c : Call) (s : Slot) → (site_of_slot g calls c (Some s)).tag < 16
tag_below g calls c s = by_kind (is_tagged_slot s)
  where
    by_kind : (tagged : Bool) → (if tagged then slot_tag (choice_of g calls c) s.index else 0) < 16
    by_kind true = next_tag-lt (base (choice_of g calls c)) s.index zero_excluded
    by_kind false = omega arith

pub ends_below : (c : Call) (start size bytes : ℕ) → start + size ≤ bytes → bytes ≤ c.place → c.place ≤ stack_end →
    lowest c + start + size ≤ stack_end
ends_below c start size bytes before within fit = omega (arith, before, within, fit)

pub locals_lie : {k : Scene} → IsScene k → LocalsLie k
locals_lie {k} scene = record {
  lie = λ now s number b call local relates lives kind_is.
      let injects = relates.injects in
      let order = scene.file.meant.in_order in
      let at : InFrame injects order number b call local = in_frame injects order number b call local lives.is kind_is in
      let among : Among at.of k.here.open_calls =
      among_calls (units_of (given_in k)) now.calls k.here.open_calls call at.of injects.stands.calls at.of_is
      (injects.frames.owned number b call local lives kind_is) in
      let fits : at.of.place ≤ stack_end =
      omega (
        arith,
        place_within (units_of (given_in k)) at.of k.here.open_calls injects.frames.in_order among,
        injects.frames.fit,
        injects.loaded.stack_size.most,
      ) in
      let ends : lowest at.of + at.slot.start + b.size ≤ stack_end =
      ends_below at.of at.slot.start b.size (frame_of (units_of (given_in k)) at.of.function).bytes
      (omega (arith, at.behind.before, at.holds))
      (frame_within (units_of (given_in k)) at.of k.here.open_calls injects.frames.in_order among) fits in
      record {
        above = omega (arith, at.start_is, at.behind.from_on);
        below = omega (arith, at.start_is, ends);
        tag = subst (λ y. y.tag < 16) (sym at.site_is) (tag_below (given_in k) now.calls at.of at.slot);
      };
}

pub pointers_of : {k : Scene} → IsScene k → PointersTrue k
pointers_of scene = pointers_true (locals_lie scene)
