-- A turn of each loop.
use Rattle.std.proofs.Common.{◌≡◌, refl, ℕ, zero, suc, ◌+◌, ◌-◌, ◌*◌, ◌/◌, ◌%◌, ◌<◌, ◌≤◌, Bool, true, false, List, [], ◌∷◌, ◌++◌}
use Rattle.std.proofs.Common.{length, drop, take, slice_get, Some, None, Option, ap, sym, ◌∙◌, subst, arith, append_assoc, append-nil}
use Rattle.std.proofs.Common.{drop-cons, flat_map}
use Rattle.std.proofs.Math.Seq.{take-suc}
use Rattle.std.proofs.lemmas.List.{take-append-drop}
use Rattle.std.proofs.lemmas.Option.{slice_get-get_or}
use Rattle.std.specs.Prelude.{if◌then◌else◌, not, slice_index_or}
use Rattle.std.specs.List.{filter}
use Rattle.a64_code.specs.declared.instr.Instr.{Instr}
use Rattle.a64_code.specs.declared.instr.Instr.TheVariants.{Stg, St2g}
use Rattle.a64_code.specs.declared.instr.Reg.{Reg}
use Rattle.a64_laws.specs.Tagging.{tags_from}
use Rattle.slot_safety.specs.declared.kind.Kind.{Kind}
use Rattle.slot_safety.specs.declared.kind.Kind.TheVariants.{Safe, Tagged}
use Rattle.frame_layout.specs.declared.frame.Frame.{Frame}
use Rattle.frame_layout.specs.declared.frame.Slot.{Slot}
use Rattle.frame_layout.specs.WellFormed.{of_kind, is_tagged_slot, tagged_slots, Fill, IsWellFormed}
use Rattle.tag_plan.specs.Effects.{IsTaggedAt, AreNumbers}
use Rattle.tag_plan.specs.Laws.Entering.{IsAmong, is_among}
use Rattle.tag_plan.specs.Laws.Scopes.{stretch}
use Rattle.tag_plan.specs.Laws.Standing.{tagged_slots-append, fill-bytes}
use Rattle.tag_plan.specs.Lists.{place, slot_list, outer_tagged, is_outer_slot, listed, bytes_of, and_slot, between, clear_list, clearing}
use Rattle.tag_plan.specs.Stretches.{stretch_of, grow, grown, IsSmall, AreSmall}
use Rattle.tag_plan.specs.declared.stretch.Stretch.{Stretch}

drop-here : {A : Type 0} (xs : List A) (i : ℕ) (d : A) → i < length xs → drop i xs ≡ slice_index_or xs i d ∷ drop (i + 1) xs
drop-here xs i d within =
    let next : suc i ≡ i + 1 = omega arith in
    drop-cons xs i d within ∙ ap (λ j. slice_index_or xs i d ∷ drop j xs) next

take-here : {A : Type 0} (xs : List A) (i : ℕ) (d : A) → i < length xs → take (i + 1) xs ≡ take i xs ++ slice_index_or xs i d ∷ []
take-here xs i d within =
    let next : i + 1 ≡ suc i = omega arith in
    ap (λ j. take j xs) next ∙ take-suc xs i d within

take_all : {A : Type 0} (xs : List A) (i : ℕ) → length xs ≤ i → take i xs ≡ xs
take_all [] zero past = refl
take_all [] (suc i) past = refl
take_all (x ∷ xs) zero past = absurd (omega (arith, past))
take_all (x ∷ xs) (suc i) past = ap (λ ys. x ∷ ys) (take_all xs i (omega (arith, past)))

-- ---- granules

pairs_on : (tag : Reg) (first n : ℕ) → 2 ≤ n → tags_from tag place first n ≡ St2g first place tag ∷ tags_from tag place (first + 2) (n - 2)
pairs_on tag first zero some = absurd (omega (arith, some))
pairs_on tag first (suc zero) some = absurd (omega (arith, some))
pairs_on tag first (suc (suc n)) some = ap (λ k. St2g first place tag ∷ tags_from tag place (first + 2) k) (omega arith)

pub granules_turn : (tag : Reg) (pair n : ℕ) (before after all : List Instr) → pair < n / 2 →
    before ++ tags_from tag place (2 * pair) (n - 2 * pair) ≡ all → after ≡ before ++ St2g (2 * pair) place tag ∷ [] →
    after ++ tags_from tag place (2 * (pair + 1)) (n - 2 * (pair + 1)) ≡ all
granules_turn tag pair n before after all less passed turn =
    ap (λ code. code ++ rest (2 * (pair + 1)) (n - 2 * (pair + 1))) turn
    ∙ append_assoc before (St2g (2 * pair) place tag ∷ []) (rest (2 * (pair + 1)) (n - 2 * (pair + 1)))
    ∙ ap (λ first. before ++ St2g (2 * pair) place tag ∷ rest first (n - 2 * (pair + 1)))
    (let e : 2 * (pair + 1) ≡ 2 * pair + 2 = omega arith in e)
    ∙ ap (λ k. before ++ St2g (2 * pair) place tag ∷ rest (2 * pair + 2) k)
    (let e : n - 2 * (pair + 1) ≡ n - 2 * pair - 2 = omega arith in e)
    ∙ ap (λ code. before ++ code) (sym (pairs_on tag (2 * pair) (n - 2 * pair) (omega (arith, less))))
    ∙ passed
  where
    rest : ℕ → ℕ → List Instr
    rest first k = tags_from tag place first k

pub last_granule : (tag : Reg) (n : ℕ) (before all : List Instr) → n % 2 ≡ 1 →
    before ++ tags_from tag place (2 * (n / 2)) (n - 2 * (n / 2)) ≡ all → before ++ Stg (n - 1) place tag ∷ [] ≡ all
last_granule tag n before all odd passed =
    ap (λ first. before ++ Stg first place tag ∷ []) (let e : n - 1 ≡ 2 * (n / 2) = omega (arith, odd) in e)
    ∙ ap (λ k. before ++ tags_from tag place (2 * (n / 2)) k) (let e : 1 ≡ n - 2 * (n / 2) = omega (arith, odd) in e)
    ∙ passed

pub no_granule : (tag : Reg) (n : ℕ) (before all : List Instr) → (n % 2 ≡ 1 → ⊥) →
    before ++ tags_from tag place (2 * (n / 2)) (n - 2 * (n / 2)) ≡ all → before ≡ all
no_granule tag n before all even passed =
    sym (append-nil before)
    ∙ ap (λ k. before ++ tags_from tag place (2 * (n / 2)) k) (let e : 0 ≡ n - 2 * (n / 2) = omega (arith, halves) in e)
    ∙ passed
  where
    halves : n % 2 ≡ 0
    halves = omega (arith, even)

-- ---- stretches

bytes_of-append : (xs ys : List Slot) → bytes_of (xs ++ ys) ≡ bytes_of xs + bytes_of ys
bytes_of-append [] ys = omega arith
bytes_of-append (x ∷ xs) ys = omega (arith, bytes_of-append xs ys)

grows : (xs : List Slot) (s : Slot) → stretch_of (xs ++ s ∷ []) ≡ Some (grow (stretch_of xs) s)
grows [] s = ap (λ n. Some (record { start = s.start; bytes = n })) (let e : s.bytes + 0 ≡ s.bytes = omega arith in e)
grows (x ∷ xs) s = ap (λ n. Some (record { start = x.start; bytes = n }))
    (let e : bytes_of (x ∷ (xs ++ s ∷ [])) ≡ bytes_of (x ∷ xs) + s.bytes = omega (arith, bytes_of-append (x ∷ xs) (s ∷ [])) in e)

grown-is : (xs : List Slot) (s : Slot) → grown (stretch_of xs) s ≡ bytes_of (xs ++ s ∷ [])
grown-is [] s = omega arith
grown-is (x ∷ xs) s = omega (arith, bytes_of-append (x ∷ xs) (s ∷ []))

-- ---- the tagged ones

tagged-cons : (s : Slot) (ss : List Slot) (b : Bool) → is_tagged_slot s ≡ b →
    tagged_slots (s ∷ ss) ≡ (if b then s ∷ tagged_slots ss else tagged_slots ss)
tagged-cons s ss b is = rw is refl

outer-cons : (s : Slot) (ss : List Slot) (b : Bool) → s.inner ≡ b →
    filter is_outer_slot (s ∷ ss) ≡ (if not b then s ∷ filter is_outer_slot ss else filter is_outer_slot ss)
outer-cons s ss b is = rw is refl

abbrev lists : List Slot → List Instr
lists ss = flat_map slot_list (outer_tagged ss)

outer_list : (s : Slot) (ss : List Slot) → is_tagged_slot s ≡ true → s.inner ≡ false → lists (s ∷ ss) ≡ slot_list s ++ lists ss
outer_list s ss tag outer =
    ap (λ ts. flat_map slot_list (filter is_outer_slot ts)) (tagged-cons s ss true tag)
    ∙ ap (flat_map slot_list) (outer-cons s (tagged_slots ss) false outer)

inner_list : (s : Slot) (ss : List Slot) → is_tagged_slot s ≡ true → s.inner ≡ true → lists (s ∷ ss) ≡ lists ss
inner_list s ss tag inner =
    ap (λ ts. flat_map slot_list (filter is_outer_slot ts)) (tagged-cons s ss true tag)
    ∙ ap (flat_map slot_list) (outer-cons s (tagged_slots ss) true inner)

safe_list : (s : Slot) (ss : List Slot) → is_tagged_slot s ≡ false → lists (s ∷ ss) ≡ lists ss
safe_list s ss tag = ap (λ ts. flat_map slot_list (filter is_outer_slot ts)) (tagged-cons s ss false tag)

module _ (slots : List Slot) (i : ℕ) (d : Slot) (within : i < length slots) where
  item : Slot
  item = slice_index_or slots i d

  tagged-more : (b : Bool) → is_tagged_slot (slice_index_or slots i d) ≡ b →
      tagged_slots (take (i + 1) slots) ≡ tagged_slots (take i slots) ++ (if b then slice_index_or slots i d ∷ [] else [])
  tagged-more b tag =
      ap tagged_slots (take-here slots i d within)
      ∙ tagged_slots-append (take i slots) (slice_index_or slots i d ∷ [])
      ∙ ap (λ ss. tagged_slots (take i slots) ++ ss) (tagged-cons (slice_index_or slots i d) [] b tag)

  fewer : bytes_of (tagged_slots (take (i + 1) slots)) ≤ bytes_of (tagged_slots slots)
  fewer = omega (
    arith,
    bytes_of-append (tagged_slots (take (i + 1) slots)) (tagged_slots (drop (i + 1) slots)),
    ap bytes_of (sym (tagged_slots-append (take (i + 1) slots) (drop (i + 1) slots)) ∙ ap tagged_slots (take-append-drop (i + 1) slots)),
  )

  pub met_fits : (found : Option Stretch) → is_tagged_slot (slice_index_or slots i d) ≡ true → bytes_of (tagged_slots slots) ≤ 262144 →
      found ≡ stretch_of (tagged_slots (take i slots)) → grown found (slice_index_or slots i d) ≤ 262144
  met_fits found tag most met = omega (
    arith,
    ap (λ found. grown found (slice_index_or slots i d)) met,
    grown-is (tagged_slots (take i slots)) (slice_index_or slots i d),
    ap bytes_of (tagged-more true tag),
    fewer,
    most,
  )

  pub more_met : (found : Option Stretch) → is_tagged_slot (slice_index_or slots i d) ≡ true →
      found ≡ stretch_of (tagged_slots (take i slots)) →
      Some (grow found (slice_index_or slots i d)) ≡ stretch_of (tagged_slots (take (i + 1) slots))
  more_met found tag met =
      ap (λ found. Some (grow found (slice_index_or slots i d))) met
      ∙ sym (grows (tagged_slots (take i slots)) (slice_index_or slots i d))
      ∙ ap stretch_of (sym (tagged-more true tag))

  pub none_met : (found : Option Stretch) → is_tagged_slot (slice_index_or slots i d) ≡ false →
      found ≡ stretch_of (tagged_slots (take i slots)) → found ≡ stretch_of (tagged_slots (take (i + 1) slots))
  none_met found tag met = met ∙ ap stretch_of (sym (tagged-more false tag ∙ append-nil (tagged_slots (take i slots))))

  -- ---- the slots that live as long as the call

  pub small_here : AreSmall slots → is_tagged_slot (slice_index_or slots i d) ≡ true → IsSmall (slice_index_or slots i d)
  small_here small tag = small i (slice_index_or slots i d) (slice_get-get_or slots i d within) tag

  pub outer_turn : (before after all : List Instr) → is_tagged_slot (slice_index_or slots i d) ≡ true →
      (slice_index_or slots i d).inner ≡ false →
      before ++ flat_map slot_list (outer_tagged (drop i slots)) ≡ all → after ≡ before ++ slot_list (slice_index_or slots i d) →
      after ++ flat_map slot_list (outer_tagged (drop (i + 1) slots)) ≡ all
  outer_turn before after all tag outer passed turn =
      ap (λ code. code ++ lists (drop (i + 1) slots)) turn
      ∙ append_assoc before (slot_list (slice_index_or slots i d)) (lists (drop (i + 1) slots))
      ∙ ap (λ code. before ++ code) (sym (outer_list (slice_index_or slots i d) (drop (i + 1) slots) tag outer))
      ∙ ap (λ ss. before ++ lists ss) (sym (drop-here slots i d within))
      ∙ passed

  pub safe_turn : (before all : List Instr) → is_tagged_slot (slice_index_or slots i d) ≡ false →
      before ++ flat_map slot_list (outer_tagged (drop i slots)) ≡ all →
      before ++ flat_map slot_list (outer_tagged (drop (i + 1) slots)) ≡ all
  safe_turn before all tag passed =
      ap (λ code. before ++ code) (sym (safe_list (slice_index_or slots i d) (drop (i + 1) slots) tag))
      ∙ ap (λ ss. before ++ lists ss) (sym (drop-here slots i d within))
      ∙ passed

  pub inner_turn : (before all : List Instr) → is_tagged_slot (slice_index_or slots i d) ≡ true →
      (slice_index_or slots i d).inner ≡ true →
      before ++ flat_map slot_list (outer_tagged (drop i slots)) ≡ all →
      before ++ flat_map slot_list (outer_tagged (drop (i + 1) slots)) ≡ all
  inner_turn before all tag inner passed =
      ap (λ code. before ++ code) (sym (inner_list (slice_index_or slots i d) (drop (i + 1) slots) tag inner))
      ∙ ap (λ ss. before ++ lists ss) (sym (drop-here slots i d within))
      ∙ passed

-- ---- slots by their numbers

pub listed_turn : (slots : List Slot) (numbers : List ℕ) (i : ℕ) (s : Slot) (before after all : List Instr) → i < length numbers →
    slice_get slots (slice_index_or numbers i 0) ≡ Some s → before ++ flat_map slot_list (listed slots (drop i numbers)) ≡ all →
    after ≡ before ++ slot_list s → after ++ flat_map slot_list (listed slots (drop (i + 1) numbers)) ≡ all
listed_turn slots numbers i s before after all within at passed turn =
    ap (λ code. code ++ flat_map slot_list (listed slots (drop (i + 1) numbers))) turn
    ∙ append_assoc before (slot_list s) (flat_map slot_list (listed slots (drop (i + 1) numbers)))
    ∙ ap (λ found. before ++ flat_map slot_list (and_slot found (listed slots (drop (i + 1) numbers)))) (sym at)
    ∙ ap (λ ks. before ++ flat_map slot_list (listed slots ks)) (sym (drop-here numbers i 0 within))
    ∙ passed

numbers_at : (slots : List Slot) (from : ℕ) (ks : List ℕ) (i n : ℕ) → AreNumbers slots from ks → slice_get ks i ≡ Some n →
    IsTaggedAt slots n
numbers_at slots from [] i n numbers is = absurd (cc)
numbers_at slots from (k ∷ ks) zero n numbers is = subst (IsTaggedAt slots) (let e : k ≡ n = cc in e) numbers.1
numbers_at slots from (k ∷ ks) (suc i) n numbers is = numbers_at slots (suc k) ks i n numbers.2 is

pub number_there : (slots : List Slot) (numbers : List ℕ) (i : ℕ) → i < length numbers → AreNumbers slots 0 numbers →
    IsTaggedAt slots (slice_index_or numbers i 0)
number_there slots numbers i within all =
    numbers_at slots 0 numbers i (slice_index_or numbers i 0) all (slice_get-get_or numbers i 0 within)

-- ---- what well-formed frames give

kind_cases : (s : Slot) (kind : Kind) → s.kind ≡ kind → (f : Frame) → IsWellFormed f → (k : ℕ) → slice_get f.slots k ≡ Some s →
    s.start ≤ 262144
kind_cases s Safe is f well k at = omega (arith, well.safe k s at is, well.most)
kind_cases s Tagged is f well k at =
    omega (arith, (is_among well.first f.slots f.bytes k s well.filled at is).before, well.most)

pub starts_small : (f : Frame) (k : ℕ) (s : Slot) → IsWellFormed f → slice_get f.slots k ≡ Some s → s.start ≤ 262144
starts_small f k s well at = kind_cases s s.kind refl f well k at

pub tagged_small : (f : Frame) (k : ℕ) (s : Slot) → IsWellFormed f → slice_get f.slots k ≡ Some s → s.kind ≡ Tagged → IsSmall s
tagged_small f k s well at tag =
    let there = is_among well.first f.slots f.bytes k s well.filled at tag in
    record { start = omega (arith, there.before, well.most); bytes = omega (arith, there.before, well.most) }

by_test : (s : Slot) (kind : Kind) → s.kind ≡ kind → of_kind kind ≡ true → s.kind ≡ Tagged
by_test s Safe is tag = absurd (cc)
by_test s Tagged is tag = is

pub is_tagged_kind : (s : Slot) → is_tagged_slot s ≡ true → s.kind ≡ Tagged
is_tagged_kind s tag = by_test s s.kind refl tag

pub are_small : (f : Frame) → IsWellFormed f → AreSmall f.slots
are_small f well k s at tag = tagged_small f k s well at (is_tagged_kind s tag)

pub all_bytes : (f : Frame) → IsWellFormed f → bytes_of (tagged_slots f.slots) ≤ 262144
all_bytes f well = omega (arith, fill-bytes well.first (tagged_slots f.slots) f.bytes well.filled, well.most)

pub start_at : (f : Frame) (slots : List Slot) (k : ℕ) (d : Slot) → slots ≡ f.slots → IsWellFormed f → k < length f.slots →
    (slice_index_or slots k d).start ≤ 262144
start_at f slots k d same well within =
    subst (λ ss. (slice_index_or ss k d).start ≤ 262144) (sym same)
    (starts_small f k (slice_index_or f.slots k d) well (slice_get-get_or f.slots k d within))

pub tagged_there : (f : Frame) (k : ℕ) (s : Slot) → IsWellFormed f → slice_get f.slots k ≡ Some s → IsTaggedAt f.slots k → IsSmall s
tagged_there f k s well at there =
    let same : there.slot ≡ s = cc in
    tagged_small f k s well at (subst (λ s. s.kind ≡ Tagged) same there.tagged)

-- ---- stretches of a frame

pub clear_stretch : (ss : List Slot) (t : Stretch) → stretch_of ss ≡ Some t → clear_list ss ≡ clearing t.start (t.bytes / 16)
clear_stretch [] t is = absurd (cc)
clear_stretch (s ∷ ss) t is =
    let same : record { start = s.start; bytes = bytes_of (s ∷ ss) } ≡ t = cc in
    ap (λ (t : Stretch). clearing t.start (t.bytes / 16)) same

pub clear_nothing : (ss : List Slot) → stretch_of ss ≡ None → clear_list ss ≡ []
clear_nothing [] is = refl
clear_nothing (s ∷ ss) is = absurd (cc)

-- so many bytes and granules at most
pub record IsWithin (t : Stretch) : Type 0 where
  pub start : t.start ≤ 262144
  pub granules : t.bytes / 16 ≤ 16384

fill_within : (from : ℕ) (ss : List Slot) (to : ℕ) (t : Stretch) → Fill from ss to → to ≤ 262144 → stretch_of ss ≡ Some t → IsWithin t
fill_within from [] to t filled most is = absurd (cc)
fill_within from (s ∷ ss) to t filled most is =
    let same : record { start = s.start; bytes = bytes_of (s ∷ ss) } ≡ t = cc in
    let all : to ≡ from + bytes_of (s ∷ ss) = fill-bytes from (s ∷ ss) to filled in
    subst IsWithin same (record { start = omega (arith, filled.0, all, most); granules = omega (arith, all, most) })

pub frame_within : (f : Frame) (slots : List Slot) (t : Stretch) → slots ≡ f.slots → IsWellFormed f →
    Some t ≡ stretch_of (tagged_slots slots) → IsWithin t
frame_within f slots t same well is =
    fill_within well.first (tagged_slots f.slots) f.bytes t well.filled well.most
    (sym (is ∙ ap (λ ss. stretch_of (tagged_slots ss)) same))

pub frame_bytes : (f : Frame) (slots : List Slot) → slots ≡ f.slots → IsWellFormed f → bytes_of (tagged_slots slots) ≤ 262144
frame_bytes f slots same well = subst (λ ss. bytes_of (tagged_slots ss) ≤ 262144) (sym same) (all_bytes f well)

pub frame_small : (f : Frame) (slots : List Slot) → slots ≡ f.slots → IsWellFormed f → AreSmall slots
frame_small f slots same well = subst AreSmall (sym same) (are_small f well)

pub part_within : (f : Frame) (slots : List Slot) (first last : ℕ) (t : Stretch) → slots ≡ f.slots → IsWellFormed f →
    Some t ≡ stretch_of (tagged_slots (between slots first last)) → IsWithin t
part_within f slots first last t same well is =
    let there = stretch f first last well in
    fill_within there.from (tagged_slots (between f.slots first last)) there.to t there.filled (omega (arith, there.within, well.most))
    (sym (is ∙ ap (λ ss. stretch_of (tagged_slots (between ss first last))) same))

pub part_bytes : (f : Frame) (slots : List Slot) (first last : ℕ) → slots ≡ f.slots → IsWellFormed f →
    bytes_of (tagged_slots (between slots first last)) ≤ 262144
part_bytes f slots first last same well =
    let there = stretch f first last well in
    let all = fill-bytes there.from (tagged_slots (between f.slots first last)) there.to there.filled in
    subst (λ ss. bytes_of (tagged_slots (between ss first last)) ≤ 262144) (sym same)
    (omega (arith, all, there.within, well.most))
