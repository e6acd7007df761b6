-- Where labels stand among items (this project's own).
use Rattle.std.specs.Prelude.{◌≡◌, ◌≢◌, ℕ, zero, suc, ◌+◌, ◌^◌, ◌<◌, ◌≤◌, Bool, true, false, nat_eq, nat_le, List, [], ◌∷◌}
use Rattle.std.specs.Prelude.{slice_get, Some, refl, if◌then◌else◌}
use Rattle.std.proofs.Common.{arith, ap, ◌∙◌}
use Rattle.std.proofs.lemmas.Bool.Decides.{nat_tests}
use Rattle.frame_layout.specs.declared.frame.Frame.{Frame}
use Rattle.gen_unit.specs.Labels.{end_of, label_in, is_label, form_of}
use Rattle.gen_unit.specs.Words.{Form, item_length}
use Rattle.sym_code.specs.declared.item.SymItem.{SymItem}
use Rattle.sym_code.specs.declared.item.SymItem.TheVariants as item
use Rattle.unit_follows.specs.Sound.{IsWithinReach}
use Rattle.unit_follows.specs.Laws.Lengths.{place_of, end-least}

-- ---- labels

equal : (m n : ℕ) → nat_eq m n ≡ true → m ≡ n
equal m n is = grind (arith, nat_tests)

equal_itself : (n : ℕ) → nat_eq n n ≡ true
equal_itself n = grind (arith, nat_tests)

labelled_so : (n : ℕ) (i : SymItem) → is_label n i ≡ true → i ≡ item.Label n
labelled_so n (item.Label m) is = ap item.Label (equal m n is)
labelled_so n _ is = absurd (cc)

pub label-at : (f : Form) (at : ℕ) (is : List SymItem) (k n : ℕ) → slice_get is k ≡ Some (item.Label n) →
    ((j : ℕ) → j < k → slice_get is j ≢ Some (item.Label n)) → label_in f at is n ≡ place_of f at is k
label-at f at [] k n there none = absurd (cc)
label-at f at (i ∷ is) zero n there none =
    ap (λ b. if b then at else label_in f (at + item_length f i) is n)
    (ap (is_label n) (let e : i ≡ item.Label n = cc in e) ∙ equal_itself n)
label-at f at (i ∷ is) (suc k) n there none = by_label (is_label n i) refl
    (label-at f (at + item_length f i) is k n there (λ j less same. none (suc j) (omega (arith, less)) same))
  where
    by_label : (b : Bool) → is_label n i ≡ b → label_in f (at + item_length f i) is n ≡ place_of f (at + item_length f i) is k →
        (if b then at else label_in f (at + item_length f i) is n) ≡ place_of f (at + item_length f i) is k
    by_label true is' later = absurd (none 0 (omega arith) (ap Some (labelled_so n i is')))
    by_label false is' later = later

pub label-within : (f : Form) (at : ℕ) (is : List SymItem) (n : ℕ) → label_in f at is n ≤ end_of f at is
label-within f at [] n = omega arith
label-within f at (i ∷ is) n = by_label (is_label n i) (label-within f (at + item_length f i) is n)
  where
    by_label : (b : Bool) → label_in f (at + item_length f i) is n ≤ end_of f (at + item_length f i) is →
        (if b then at else label_in f (at + item_length f i) is n) ≤ end_of f (at + item_length f i) is
    by_label true later = omega (arith, end-least f (at + item_length f i) is)
    by_label false later = later

-- ---- short branches

abbrev short : Frame → Form
short frame = record { frame = frame; long = false }

abbrev long : Frame → Form
long frame = record { frame = frame; long = true }

shorter : (frame : Frame) (i : SymItem) → item_length (short frame) i ≤ item_length (long frame) i
shorter frame (item.Plain i) = omega arith
shorter frame (item.Label n) = omega arith
shorter frame (item.Jump n) = omega arith
shorter frame (item.JumpIfZero r n) = omega arith
shorter frame (item.JumpIfNotZero r n) = omega arith
shorter frame (item.SlotAddress n r) = omega arith
shorter frame (item.GlobalAddress n r) = omega arith
shorter frame (item.ExternAddress n r) = omega arith
shorter frame (item.TextAddress n r) = omega arith
shorter frame (item.CallFunction n) = omega arith
shorter frame (item.CallExtern n) = omega arith
shorter frame item.Leave = omega arith
shorter frame (item.EnterScope slots) = omega arith
shorter frame (item.LeaveScope first last) = omega arith

ends_before : (frame : Frame) (at later : ℕ) (is : List SymItem) → at ≤ later → end_of (short frame) at is ≤ end_of (long frame) later is
ends_before frame at later [] less = less
ends_before frame at later (i ∷ is) less =
    ends_before frame (at + item_length (short frame) i) (later + item_length (long frame) i) is (omega (arith, less, shorter frame i))

-- The form of a function is such that its branches reach.
pub within-reach : (frame : Frame) (at : ℕ) (is : List SymItem) → end_of (form_of frame at is) at is < 2 ^ 25 →
    IsWithinReach (form_of frame at is) (end_of (form_of frame at is) at is)
within-reach frame at is near = record { jumps = near; branches = few }
  where
    less : (n : ℕ) → nat_le (2 ^ 18) n ≡ false → n < 2 ^ 18
    less n is = grind (arith, nat_tests)

    few : nat_le (2 ^ 18) (end_of (long frame) at is) ≡ false → end_of (form_of frame at is) at is < 2 ^ 18
    few is' = rw is' (omega (arith, less (end_of (long frame) at is) is', ends_before frame at at is (omega arith)))
