-- What is wrong with an image, as the code finds it.
use Rattle.std.proofs.Common.{◌≡◌, ◌⊎◌, ◌≤◌, ◌<◌, ℕ, ◌+◌, ◌*◌, ◌^◌, List, length, Option, Some, None, Result, Ok, Err}
use Rattle.std.proofs.Common.{refl, sym, ap, ap₂, subst, ◌∙◌, inl, inr, arith, length-append}
use Rattle.std.specs.List.{position}
use Rattle.std.specs.Prelude.{IfErr}
use Rattle.std.specs.Result.{IsErrAnd}
use Rattle.elf_image.specs.Image.{Image}
use Rattle.elf_image.specs.Places.{IsValid, descriptors_place, dynamic_place, memory_end, rodata_end, rodata_place}
use Rattle.memtag_desc.specs.declared.interval.Interval.{Interval}
use Rattle.memtag_desc.specs.declared.refusal.DescRefusal.{DescRefusal}
use Rattle.memtag_desc.specs.declared.refusal.DescRefusal.TheVariants as desc
use Rattle.memtag_desc.specs.Descriptors.{Describes, DescribesFrom, nothing, next, end_of, interval_at}
use Rattle.memtag_desc.specs.Faults.{HasFault}
use Rattle.memtag_desc.specs.Laws.OneAnswer.{some_descriptor}
use Rattle.tag_startup.specs.declared.refusal.StartRefusal.{StartRefusal}
use Rattle.tag_startup.specs.declared.refusal.StartRefusal.TheVariants.{NoMemory}
use Rattle.tag_startup.specs.Laws.Inside.{first_within}
use Rattle.tag_startup.specs.Laws.Placed.{AreInOrder, in_order}
use Rattle.tag_startup.specs.Refusal.{of_descriptors}
use Rattle.tag_startup.specs.Starts.{StartFault, descriptors, counted_on, first_outside, is_outside, is_misplaced}

-- ---- the first that is outside

pub found_first : (image : Image) (objects : List Interval) (start end : ℕ) (one two : Option ℕ) → start ≡ dynamic_place image →
    end ≡ memory_end image → one ≡ position (is_outside start end) objects → two ≡ position (is_misplaced start end) image.relocs →
    counted_on (length objects) one two ≡ first_outside image objects
unfolding first_outside
found_first image objects start end one two from to first second =
    ap₂ (λ a b. counted_on (length objects) a b)
    (first ∙ ap₂ (λ s e. position (is_outside s e) objects) from to)
    (second ∙ ap₂ (λ s e. position (is_misplaced s e) image.relocs) from to)

-- its index is small, since all objects and relocations have bytes in the image
few_objects : (from : ℕ) (objects : List Interval) (bytes : List ℕ) → DescribesFrom from objects bytes → length objects ≤ length bytes
few_objects from objects bytes (nothing _) = omega arith
few_objects from objects bytes (next _ distance size others first rest is within described) =
    omega (
      arith,
      length-append first rest,
      some_descriptor distance size first is,
      few_objects (end_of (interval_at from distance size)) others rest described,
    )

tables_fit : (image : Image) → 24 * length image.relocs + length image.descriptors ≤ rodata_end image
unfolding rodata_end rodata_place descriptors_place
tables_fit image = omega arith

some_none : (n : ℕ) → ◌≡◌ {A = Option ℕ} None (Some n) → ⊥
some_none n e = cc

some_is : (n m : ℕ) → ◌≡◌ {A = Option ℕ} (Some n) (Some m) → n ≡ m
some_is n m e = cc

counted_within : (count more : ℕ) (one two : Option ℕ) (k : ℕ) → ((j : ℕ) → one ≡ Some j → j < count) →
    ((j : ℕ) → two ≡ Some j → j < more) → counted_on count one two ≡ Some k → k < count + more
counted_within count more None None k first second is = absurd (some_none k is)
counted_within count more None (Some j) k first second is = omega (arith, second j refl, some_is (count + j) k is)
counted_within count more (Some j) two k first second is = omega (arith, first j refl, some_is j k is)

outside_within : (image : Image) (objects : List Interval) (k : ℕ) → first_outside image objects ≡ Some k →
    k < length objects + length image.relocs
unfolding first_outside
outside_within image objects k is =
    counted_within (length objects) (length image.relocs) _ _ k (λ j. first_within _ objects j) (λ j. first_within _ image.relocs j) is

pub index_fits : (image : Image) (objects : List Interval) (k : ℕ) → IsValid image → Describes objects image.descriptors →
    first_outside image objects ≡ Some k → k < 2 ^ 32
index_fits image objects k valid described is =
    let order : AreInOrder image = in_order image valid in
    omega (
      arith,
      outside_within image objects k is,
      few_objects 0 objects image.descriptors described,
      tables_fit image,
      order.code_from,
      order.code_within,
      order.dynamic_from,
      order.end,
    )

-- ---- a refusal that a `?` passes on

passed_on : {T : Type 0} (r : Result T StartRefusal) (fault : StartRefusal) → IsErrAnd r (λ e. e ≡ fault) → r ≡ Err fault
passed_on (Ok x) fault h = absurd h
passed_on (Err e) fault h = ap Err h

abbrev pub IsRefused : {T : Type 0} → Image → Result T StartRefusal → Type 0
IsRefused image result = IfErr result (λ e. (e ≡ NoMemory) ⊎ StartFault image e)

pub refused_by : {T : Type 0} (image : Image) (result : Result T StartRefusal) (fault : StartRefusal) → IsErrAnd result (λ e. e ≡ fault) →
    (fault ≡ NoMemory) ⊎ StartFault image fault → IsRefused image result
refused_by image result fault passed cause = subst (IsRefused image) (sym (passed_on result fault passed)) cause

pub descriptors_cause : (image : Image) (e : DescRefusal) → (e ≡ desc.NoMemory) ⊎ HasFault image.descriptors e →
    (of_descriptors e ≡ NoMemory) ⊎ StartFault image (of_descriptors e)
descriptors_cause image desc.NoMemory cause = inl refl
descriptors_cause image e (inr fault) = inr (descriptors e fault)
descriptors_cause image e (inl none) = absurd (cc)
