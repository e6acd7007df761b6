-- What is in the writable part of an image can be read and written, and the guard is apart from it.
use Rattle.std.proofs.Common.{◌≡◌, ◌≤◌, ◌<◌, ℕ, ◌+◌, ◌-◌, ◌*◌, ◌%◌, Bool, true, false, ◌&&◌, ◌||◌, refl, ap, ◌∙◌, arith}
use Rattle.std.proofs.lemmas.Bool.Decides.{nat_tests}
use Rattle.mt_base.specs.Granules.{round16, granule_of}
use Rattle.mt_base.specs.Laws.Granules.{round16-covers}
use Rattle.mt_base.specs.Memory.{is_between, is_in_extent, is_in_span, is_mapped, is_protected, every_byte, some_byte}
use Rattle.mt_base.specs.Laws.Memory.{every_byte_from, some_byte_none}
use Rattle.tag_mem.specs.declared.access.Access.TheVariants.{Done}
use Rattle.tag_mem.specs.Answers.{read_answer, write_answer, set_tag_answer}
use Rattle.elf_image.specs.Image.{Image}
use Rattle.elf_image.specs.Places.{IsValid, rodata_end, code_place, code_end, dynamic_place, memory_end}
use Rattle.tag_startup.specs.Parts.{IsStack, load_address, part, loaded_regions, loaded_guard}
use Rattle.tag_startup.specs.Laws.Placed.{AreInOrder, in_order}

-- an address of the writable part
pub record IsWritable (image : Image) (at : ℕ) : Type 0 where
  pub from : load_address + dynamic_place image ≤ at
  pub below : at < load_address + memory_end image

above_interval : (start bytes at : ℕ) → start + bytes ≤ at → is_between start bytes at ≡ false
above_interval start bytes at above = grind (arith, nat_tests)

below_interval : (start bytes at : ℕ) → at < start → is_between start bytes at ≡ false
below_interval start bytes at below = grind (arith, nat_tests)

within_interval : (start bytes at : ℕ) → start ≤ at → at < start + bytes → is_between start bytes at ≡ true
within_interval start bytes at from below = grind (arith, nat_tests)

-- it is behind the read-only part and the code, and before the stack and its guard
not_read_only : (image : Image) (at : ℕ) → IsValid image → IsWritable image at →
    is_in_extent (part 0 (rodata_end image) false false) at ≡ false
not_read_only image at valid is = above_interval (load_address + 0) (round16 (rodata_end image - 0)) at
    (let order : AreInOrder image = in_order image valid in omega
    (arith, order.code_from, order.code_within, order.dynamic_from, is.from))

not_code : (image : Image) (at : ℕ) → IsValid image → IsWritable image at →
    is_in_extent (part (code_place image) (code_end image) false true) at ≡ false
not_code image at valid is = above_interval (load_address + code_place image) (round16 (code_end image - code_place image)) at
    (let order : AreInOrder image = in_order image valid in omega (arith, order.dynamic_from, is.from))

in_part : (image : Image) (at : ℕ) → IsValid image → IsWritable image at →
    is_in_extent (part (dynamic_place image) (memory_end image) true false) at ≡ true
in_part image at valid is = within_interval (load_address + dynamic_place image) (round16 (memory_end image - dynamic_place image)) at
    is.from
    (let order : AreInOrder image = in_order image valid in
    omega (arith, is.below, order.dynamic_within, round16-covers (memory_end image - dynamic_place image)))

not_guarded : (image : Image) (stack at : ℕ) → IsValid image → IsStack stack → IsWritable image at →
    is_in_span (loaded_guard stack) at ≡ false
not_guarded image stack at valid stack_is is = below_interval (loaded_guard stack).start (loaded_guard stack).bytes at
    (omega (arith, is.below, valid.memory, stack_is.most))

third_mapped : (a b c d : Bool) → c ≡ true → (a || (b || (c || (d || false)))) ≡ true
third_mapped true b c d is = refl
third_mapped false true c d is = refl
third_mapped false false c d is = rw is refl

third_writable : (a b c d : Bool) → a ≡ false → b ≡ false →
    ((a && true) || ((b && true) || ((c && false) || ((d && false) || false)))) ≡ false
third_writable a b true true first second = rw (first, second) refl
third_writable a b true false first second = rw (first, second) refl
third_writable a b false true first second = rw (first, second) refl
third_writable a b false false first second = rw (first, second) refl

pub writable_mapped : (image : Image) (stack at : ℕ) → IsValid image → IsWritable image at →
    is_mapped (loaded_regions image stack) at ≡ true
unfolding loaded_regions
writable_mapped image stack at valid is = third_mapped _ _ _ _ (in_part image at valid is)

pub writable_unprotected : (image : Image) (stack at : ℕ) → IsValid image → IsWritable image at →
    is_protected (loaded_regions image stack) at ≡ false
unfolding loaded_regions
writable_unprotected image stack at valid is = third_writable _ _ _ _ (not_read_only image at valid is) (not_code image at valid is)

-- so many bytes of it
pub record AreWritable (image : Image) (at count : ℕ) : Type 0 where
  pub from : load_address + dynamic_place image ≤ at
  pub to : at + count ≤ load_address + memory_end image

one_of : (image : Image) (at count k : ℕ) → AreWritable image at count → k < count → IsWritable image (at + k)
one_of image at count k are inside = record { from = omega (arith, are.from); below = omega (arith, are.to, inside) }

no_guard : (image : Image) (stack at count : ℕ) → IsValid image → IsStack stack → AreWritable image at count →
    some_byte (is_in_span (loaded_guard stack)) at count ≡ false
no_guard image stack at count valid stack_is are = some_byte_none (is_in_span (loaded_guard stack)) at count
    (λ k inside. not_guarded image stack (at + k) valid stack_is (one_of image at count k are inside))

all_mapped : (image : Image) (stack at count : ℕ) → IsValid image → AreWritable image at count →
    every_byte (is_mapped (loaded_regions image stack)) at count ≡ true
all_mapped image stack at count valid are = every_byte_from (is_mapped (loaded_regions image stack)) at count
    (λ k inside. writable_mapped image stack (at + k) valid (one_of image at count k are inside))

none_protected : (image : Image) (stack at count : ℕ) → IsValid image → AreWritable image at count →
    some_byte (is_protected (loaded_regions image stack)) at count ≡ false
none_protected image stack at count valid are = some_byte_none (is_protected (loaded_regions image stack)) at count
    (λ k inside. writable_unprotected image stack (at + k) valid (one_of image at count k are inside))

pub can_be_read : (image : Image) (stack at count : ℕ) → IsValid image → IsStack stack → AreWritable image at count →
    read_answer (loaded_regions image stack) (loaded_guard stack) at count ≡ Done
can_be_read image stack at count valid stack_is are =
    rw (no_guard image stack at count valid stack_is are, all_mapped image stack at count valid are) refl

pub can_be_written : (image : Image) (stack at count : ℕ) → IsValid image → IsStack stack → AreWritable image at count →
    write_answer (loaded_regions image stack) (loaded_guard stack) at count ≡ Done
can_be_written image stack at count valid stack_is are =
    rw (
      no_guard image stack at count valid stack_is are,
      all_mapped image stack at count valid are,
      none_protected image stack at count valid are,
    ) refl

-- a granule of it can get a tag
pub can_be_tagged : (image : Image) (stack at : ℕ) → IsValid image → IsStack stack → at % 16 ≡ 0 → AreWritable image at 16 →
    set_tag_answer (loaded_regions image stack) (loaded_guard stack) at ≡ Done
can_be_tagged image stack at valid stack_is whole are =
    ap (λ from. write_answer (loaded_regions image stack) (loaded_guard stack) from 16)
    (let e : granule_of at * 16 ≡ at = omega (arith, whole) in e)
    ∙ can_be_written image stack at 16 valid stack_is are
