-- An image of objects is valid: it has whole granules, and its memory is within the limit.
use Rattle.std.proofs.Common.{◌≡◌, ℕ, ◌*◌, ◌≤◌, Bool, true, false, nat_lt, List, Option, Some, None, length, refl, sym, ◌∙◌}
use Rattle.std.proofs.Common.{arith, inl, inr}
use Rattle.std.specs.Prelude.{if◌then◌else◌}
use Rattle.std.proofs.lemmas.Bool.{cases_lt, ltb-false}
use Rattle.elf_obj.specs.Object.{Object}
use Rattle.elf_image.specs.Image.{Image}
use Rattle.elf_image.specs.Places.{memory_end, IsValid}
use Rattle.linker.specs.declared.refusal.LinkRefusal.{LinkRefusal}
use Rattle.linker.specs.declared.refusal.LinkRefusal.TheVariants.{ImageTooLarge}
use Rattle.linker.specs.Names.{NumberedSymbol}
use Rattle.linker.specs.Data.{zero_size}
use Rattle.linker.specs.Tagged.{sized, IsFewest}
use Rattle.linker.specs.LinkFault.{LinkFault, too_many, repeated, no_main, missing, too_large, AreBound, object_limit}
use Rattle.linker.specs.LinkFault.{first_repeated, has_main}
use Rattle.linker.specs.LinkFault.{first_missing, excess, told_bytes, memory_limit, code_limit}
use Rattle.linker.specs.Linked.{Linked}
use Rattle.linker.specs.Laws.Sizes.{linked_sizes, same_memory}
use Rattle.linker.specs.Laws.OneImage.{linked_agrees}

-- ---- no condition on names holds

few_objects : (objects : List Object) → ((r : LinkRefusal) → LinkFault objects r → ⊥) → length objects ≤ object_limit
few_objects objects h = elim (cases_lt object_limit (length objects)) [
  | inl many ↦ absurd (h _ (too_many many))
  | inr few ↦ few
]

-- objects that no condition refuses are bound
pub bound : (objects : List Object) → ((r : LinkRefusal) → LinkFault objects r → ⊥) → AreBound objects
bound objects h = record { few = few; once = once; main = main; defined = defined }
  where
    few : length objects ≤ object_limit
    few = few_objects objects h

    no_repeat : (x : Option NumberedSymbol) → first_repeated objects ≡ x → first_repeated objects ≡ None
    no_repeat None is = is
    no_repeat (Some e) is = absurd (h _ (repeated e few is))

    once : first_repeated objects ≡ None
    once = no_repeat (first_repeated objects) refl

    some_main : (b : Bool) → has_main objects ≡ b → has_main objects ≡ true
    some_main true is = is
    some_main false is = absurd (h _ (no_main few once is))

    main : has_main objects ≡ true
    main = some_main (has_main objects) refl

    none_missing : (x : Option NumberedSymbol) → first_missing objects ≡ x → first_missing objects ≡ None
    none_missing None is = is
    none_missing (Some e) is = absurd (h _ (missing e few once main is))

    defined : first_missing objects ≡ None
    defined = none_missing (first_missing objects) refl

-- ---- nor that on its size

pub linked_fewest : (objects : List Object) (image : Image) → Linked objects image → IsFewest objects (length image.descriptors)
linked_fewest objects image h = record { agrees = linked_agrees objects image h; least = h.descriptors.fewest }

pub no_excess : (image : Image) → excess image ≡ None → memory_end image ≤ memory_limit
no_excess image h = by_tests (nat_lt code_limit (4 * length image.words)) (nat_lt memory_limit (memory_end image)) refl h
  where
    by_tests : (b c : Bool) → nat_lt memory_limit (memory_end image) ≡ c
        → (if b then Some (told_bytes (4 * length image.words)) else if c then Some (told_bytes (memory_end image)) else None) ≡ None
        → memory_end image ≤ memory_limit
    by_tests true c is g = absurd cc
    by_tests false true is g = absurd cc
    by_tests false false is g = ltb-false memory_limit (memory_end image) is

sized_zeros : (objects : List Object) (count : ℕ) → (sized objects count).zero_bytes ≡ zero_size objects
unfolding sized
sized_zeros objects count = refl

small : (objects : List Object) (image : Image) → Linked objects image → memory_end image ≤ memory_limit
small objects image h =
    let count = length image.descriptors in
    let sizes = linked_sizes objects image h in
    let same : memory_end image ≡ memory_end (sized objects count) =
    same_memory image (sized objects count) sizes (h.zero_bytes ∙ sym (sized_zeros objects count)) in
    let le = no_excess (sized objects count) (by_case (excess (sized objects count)) refl) in
    omega arith
  where
    by_case : (x : Option ℕ) → excess (sized objects (length image.descriptors)) ≡ x
        → excess (sized objects (length image.descriptors)) ≡ None
    by_case None is = is
    by_case (Some n) is =
        absurd (h.accepted (ImageTooLarge n)
        (too_large (length image.descriptors) n (bound objects h.accepted) (linked_fewest objects image h) is))

-- the image of objects has a file
pub linked_valid : (objects : List Object) (image : Image) → Linked objects image → IsValid image
linked_valid objects image h =
    let len = h.filled.len in
    let zeros = h.zero_bytes in
    let le = small objects image h in record { filled = omega arith; zero_bytes = omega arith; memory = le }
