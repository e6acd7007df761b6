-- The loop over the slots of a frame.
use Rattle.std.proofs.Common.{◌≡◌, ℕ, zero, suc, ◌+◌, ◌<◌, ◌≤◌, List, [], ◌∷◌, ◌++◌, length, drop, get_or}
use Rattle.std.proofs.Common.{ap, sym, ◌∙◌, arith, append_assoc, subst, drop-cons, lit≤}
use Rattle.frame_layout.specs.declared.placed.Part.{Part}
use Rattle.frame_layout.specs.declared.frame.Slot.{Slot}
use Rattle.frame_layout.specs.Frames.{safe_step, safe_end, tagged_step, tagged_end, count_step, slot_of, slots_from, largest_frame}
use Rattle.frame_layout.specs.Parts.{ArePositive}
use Rattle.frame_layout.specs.Laws.FrameLaws.{safe_reaches, tagged_reaches}
use Rattle.c_type_base.specs.Layout.{round_up}
use Rattle.c_type_base.specs.Laws.LayoutLaws.{round_up-reaches}
use Rattle.std.proofs.lemmas.Option.{slice_get-get_or}
use Rattle.std.proofs.Math.Nat.{le_trans}
use Rattle.frame_layout.proofs.NeedTurns.{drop-here}

pub slots_turn : (ps : List Part) (i : ℕ) (p : Part) (safe tagged count : ℕ) (before after all : List Slot) → i < length ps →
    p ≡ get_or ps i p → before ++ slots_from safe tagged count (drop i ps) ≡ all →
    after ≡ before ++ slot_of safe tagged count p p.kind ∷ [] →
    after ++ slots_from (safe_step safe p p.kind) (tagged_step tagged p p.kind) (count_step count p.kind) (drop (i + 1) ps) ≡ all
slots_turn ps i p safe tagged count before after all within is passed turn =
    let rest = slots_from (safe_step safe p p.kind) (tagged_step tagged p p.kind) (count_step count p.kind) (drop (i + 1) ps) in
    ap (λ ss. ss ++ rest) turn
    ∙ append_assoc before (slot_of safe tagged count p p.kind ∷ []) rest
    ∙ ap (λ ys. before ++ slots_from safe tagged count ys) (sym (drop-here ps i p within is))
    ∙ passed

pub safe_rest : (ps : List Part) (i : ℕ) (p : Part) (safe : ℕ) → i < length ps → p ≡ get_or ps i p →
    safe_end (safe_step safe p p.kind) (drop (i + 1) ps) ≡ safe_end safe (drop i ps)
safe_rest ps i p safe within is = ap (safe_end safe) (sym (drop-here ps i p within is))

pub tagged_rest : (ps : List Part) (i : ℕ) (p : Part) (tagged : ℕ) → i < length ps → p ≡ get_or ps i p →
    tagged_end (tagged_step tagged p p.kind) (drop (i + 1) ps) ≡ tagged_end tagged (drop i ps)
tagged_rest ps i p tagged within is = ap (tagged_end tagged) (sym (drop-here ps i p within is))

-- ---- what is left of the frame is large enough

drop-at : (ps : List Part) (i : ℕ) (d : Part) → i < length ps → drop i ps ≡ get_or ps i d ∷ drop (i + 1) ps
drop-at ps i d within =
    let next : suc i ≡ i + 1 = omega arith in
    drop-cons ps i d within ∙ ap (λ j. get_or ps i d ∷ drop j ps) next

pub positive_at : (ps : List Part) (i : ℕ) (d : Part) → ArePositive ps → i < length ps → 1 ≤ (get_or ps i d).align
positive_at ps i d positive within = positive i (get_or ps i d) (slice_get-get_or ps i d within)

positive-drop : (i : ℕ) (ps : List Part) → ArePositive ps → ArePositive (drop i ps)
positive-drop zero ps positive = positive
positive-drop (suc i) [] positive = positive
positive-drop (suc i) (p ∷ ps) positive = positive-drop i ps (λ k q is. positive (suc k) q is)

pub safe_fits : (ps : List Part) (i : ℕ) (d : Part) (safe : ℕ) → ArePositive ps → i < length ps →
    safe_end safe (drop i ps) ≤ largest_frame → safe_step safe (get_or ps i d) (get_or ps i d).kind ≤ largest_frame
safe_fits ps i d safe positive within fits =
    le_trans
    (safe_reaches (safe_step safe (get_or ps i d) (get_or ps i d).kind) (drop (i + 1) ps) (positive-drop (i + 1) ps positive))
    (subst (λ ys. safe_end safe ys ≤ largest_frame) (drop-at ps i d within) fits)

pub safe_started : (ps : List Part) (i safe : ℕ) → ArePositive ps → safe_end safe (drop i ps) ≤ largest_frame → safe ≤ largest_frame
safe_started ps i safe positive fits = le_trans (safe_reaches safe (drop i ps) (positive-drop i ps positive)) fits

pub tagged_fits : (ps : List Part) (i : ℕ) (d : Part) (tagged : ℕ) → i < length ps → tagged_end tagged (drop i ps) ≤ largest_frame →
    tagged_step tagged (get_or ps i d) (get_or ps i d).kind ≤ largest_frame
tagged_fits ps i d tagged within fits =
    le_trans (tagged_reaches (tagged_step tagged (get_or ps i d) (get_or ps i d).kind) (drop (i + 1) ps))
    (subst (λ ys. tagged_end tagged ys ≤ largest_frame) (drop-at ps i d within) fits)

pub tagged_started : (ps : List Part) (i tagged : ℕ) → tagged_end tagged (drop i ps) ≤ largest_frame → tagged ≤ largest_frame
tagged_started ps i tagged fits = le_trans (tagged_reaches tagged (drop i ps)) fits

-- the safe slots end within the frame
pub safe_within : (ps : List Part) (safe tagged ended bytes : ℕ) → tagged ≡ round_up safe 16 → ended ≡ tagged_end tagged ps →
    bytes ≡ round_up ended 16 → bytes ≤ largest_frame → safe ≤ largest_frame
safe_within ps safe tagged ended bytes is1 is2 is3 fits =
    let first : safe ≤ round_up safe 16 = round_up-reaches safe 16 (lit≤ tt) in
    let second : tagged ≤ tagged_end tagged ps = tagged_reaches tagged ps in
    let third : ended ≤ round_up ended 16 = round_up-reaches ended 16 (lit≤ tt) in
    le_trans (subst (λ n. safe ≤ n) (sym is1) first)
    (le_trans (subst (λ n. tagged ≤ n) (sym is2) second)
    (le_trans (subst (λ n. ended ≤ n) (sym is3) third) fits))
