-- What a neighbour is not: its place is in none of the tagged slots with the index of the slot that the access left, that slot among them.
use Rattle.std.proofs.Common.{◌≡◌, refl, sym, ap, ◌∙◌, ℕ, zero, suc, Bool, true, false, ◌&&◌, nat_eq, List, [], ◌∷◌, slice_get, Some, arith}
use Rattle.std.specs.Prelude.{if◌then◌else◌}
use Rattle.std.proofs.lemmas.Bool.Decides.{nat_tests}
use Rattle.slot_safety.specs.declared.kind.Kind.{Kind}
use Rattle.slot_safety.specs.declared.kind.Kind.TheVariants.{Safe, Tagged}
use Rattle.frame_layout.specs.declared.frame.Slot.{Slot}
use Rattle.frame_layout.specs.declared.frame.Frame.{Frame}
use Rattle.frame_layout.specs.WellFormed.{of_kind}
use Rattle.frame_layout.specs.Neighbours.{Access, Neighbour, place, has_place, has_tagged, apart}

same_number : (k : ℕ) → nat_eq k k ≡ true
same_number k = grind (arith, nat_tests)

here : (kind : Kind) (has same rest : Bool) → kind ≡ Tagged → same ≡ true →
    (if (of_kind kind && has) && same then false else rest) ≡ true → has ≡ false
here kind false same rest is equal passed = refl
here Safe true same rest is equal passed = cc
here Tagged true false rest is equal passed = cc
here Tagged true true rest is equal passed = cc

behind : (test rest : Bool) → (if test then false else rest) ≡ true → rest ≡ true
behind true rest passed = cc
behind false rest passed = passed

-- each of the tagged slots with the index is passed
pub apart-each : (index p : ℕ) (slots : List Slot) → apart index p slots ≡ true → (k : ℕ) (s : Slot) →
    slice_get slots k ≡ Some s → s.kind ≡ Tagged → s.index ≡ index → has_place s p ≡ false
apart-each index p [] passed k s is tag same = cc
apart-each index p (t ∷ slots) passed zero s is tag same =
    let first : t ≡ s = cc in
    let equal = ap (λ i. nat_eq i index) (ap (λ s. s.index) first ∙ same) ∙ same_number index in
    ap (λ s. has_place s p) (sym first)
    ∙ here t.kind (has_place t p) (nat_eq t.index index) (apart index p slots) (ap (λ s. s.kind) first ∙ tag) equal passed
apart-each index p (t ∷ slots) passed (suc k) s is tag same =
    apart-each index p slots (behind (has_tagged t p && nat_eq t.index index) (apart index p slots) passed) k s is tag same

-- the place is in no granule of the slot that the access left
pub outside : (f : Frame) (access : Access) (n : Neighbour f access) → has_place n.slot (place n.slot access.offset) ≡ false
outside f access n =
    apart-each n.slot.index (place n.slot access.offset) f.slots n.other_index access.number n.slot n.is n.tagged refl
