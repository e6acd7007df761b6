-- The regions of an image and its stack are well placed.
use Rattle.std.proofs.Common.{◌≡◌, ◌≤◌, ℕ, ◌+◌, ◌-◌, ◌%◌, Bool, true, false, [], ◌∷◌, arith}
use Rattle.std.proofs.lemmas.List.Elements.{All-nil, All-cons}
use Rattle.mt_base.specs.Granules.{round16}
use Rattle.mt_base.specs.Memory.{Span, Extent}
use Rattle.tag_mem.specs.Regions.{AreApart, IsWhole, IsWellPlaced}
use Rattle.tag_mem.specs.Laws.Regions.{apart_below, guard_above, guard_below, no_regions, one_more}
use Rattle.elf_image.specs.Image.{Image}
use Rattle.elf_image.specs.Places.{IsValid, rodata_end, code_place, code_end, dynamic_place, dynamic_end, filled_place, file_end}
use Rattle.elf_image.specs.Places.{memory_end}
use Rattle.tag_startup.specs.Parts.{IsStack, load_address, part, stack_region, loaded_regions, loaded_guard}

-- each part of a valid image begins a granule, and ends before the next one begins
pub record AreInOrder (image : Image) : Type 0 where
  pub code_whole : code_place image % 16 ≡ 0
  pub dynamic_whole : dynamic_place image % 16 ≡ 0
  pub code_from : round16 (rodata_end image) ≤ code_place image
  pub code_within : code_place image ≤ code_end image
  pub dynamic_from : code_place image + round16 (code_end image - code_place image) ≤ dynamic_place image
  pub dynamic_within : dynamic_place image ≤ memory_end image
  pub file_within : file_end image ≤ memory_end image
  pub end : dynamic_place image + round16 (memory_end image - dynamic_place image) ≤ 268435456

code_whole : (image : Image) → code_place image % 16 ≡ 0
unfolding code_place
code_whole image = omega arith

dynamic_whole : (image : Image) → dynamic_place image % 16 ≡ 0
unfolding dynamic_place
dynamic_whole image = omega arith

code_from : (image : Image) → round16 (rodata_end image) ≤ code_place image
unfolding code_place
code_from image = omega arith

code_within : (image : Image) → code_place image ≤ code_end image
unfolding code_end
code_within image = omega arith

dynamic_from : (image : Image) → code_place image + round16 (code_end image - code_place image) ≤ dynamic_place image
unfolding dynamic_place
dynamic_from image = omega (arith, code_whole image, code_within image)

file_within : (image : Image) → file_end image ≤ memory_end image
unfolding memory_end
file_within image = omega arith

dynamic_within : (image : Image) → dynamic_place image ≤ file_end image
unfolding file_end filled_place dynamic_end
dynamic_within image = omega arith

pub in_order : (image : Image) → IsValid image → AreInOrder image
in_order image valid = record {
  code_whole = code_whole image;
  dynamic_whole = dynamic_whole image;
  code_from = code_from image;
  code_within = code_within image;
  dynamic_from = dynamic_from image;
  dynamic_within = omega (arith, dynamic_within image, file_within image);
  file_within = file_within image;
  end = omega (arith, dynamic_whole image, dynamic_within image, file_within image, valid.memory);
}

-- a part that begins and ends there is whole
whole_part : (start bytes : ℕ) (writable executable : Bool) → start % 16 ≡ 0 → start + round16 bytes ≤ 268435456 →
    IsWhole (record { start = load_address + start; bytes = round16 bytes; writable = writable; executable = executable })
whole_part start bytes writable executable multiple within =
    record { start_whole = omega (arith, multiple); bytes_whole = omega arith; within = omega (arith, within) }

pub well_placed : (image : Image) (stack : ℕ) → IsValid image → IsStack stack →
    IsWellPlaced (loaded_regions image stack) (loaded_guard stack)
unfolding loaded_regions
well_placed image stack valid is =
    one_more guard first (code ∷ writable ∷ last ∷ []) (whole_part 0 (rodata_end image - 0) false false (omega arith)
    (omega (arith, order.code_from, order.code_within, order.dynamic_from, order.end)))
    (guard_above guard first (omega (arith, order.code_from, order.code_within, order.dynamic_from, order.end, is.most)))
    (All-cons (AreApart first) code (writable ∷ last ∷ []) (apart_below first code (omega (arith, order.code_from)))
    (All-cons (AreApart first) writable (last ∷ []) (apart_below first writable
    (omega (arith, order.code_from, order.code_within, order.dynamic_from)))
    (All-cons (AreApart first) last [] (apart_below first last (omega
    (arith, order.code_from, order.code_within, order.dynamic_from, order.end, is.most))) (All-nil (AreApart first)))))
    (one_more guard code (writable ∷ last ∷ []) (whole_part (code_place image)
    (code_end image - code_place image) false true order.code_whole (omega (arith, order.dynamic_from, order.end)))
    (guard_above guard code (omega (arith, order.dynamic_from, order.end, is.most)))
    (All-cons (AreApart code) writable (last ∷ []) (apart_below code writable (omega (arith, order.dynamic_from)))
    (All-cons (AreApart code) last [] (apart_below code last (omega (arith, order.dynamic_from, order.end, is.most)))
    (All-nil (AreApart code))))
    (one_more guard writable (last ∷ []) (whole_part (dynamic_place image)
    (memory_end image - dynamic_place image) true false order.dynamic_whole order.end)
    (guard_above guard writable (omega (arith, order.end, is.most)))
    (All-cons (AreApart writable) last [] (apart_below writable last (omega (arith, order.end, is.most))) (All-nil (AreApart writable)))
    (one_more guard last [] (record {
      start_whole = omega (arith, is.whole, is.most);
      bytes_whole = omega (arith, is.whole);
      within =
          omega (arith, is.most);
    })
    (guard_below guard last (omega (arith, is.most)))
    (All-nil (AreApart last))
    (no_regions guard (omega (arith, is.whole, is.most)) (omega arith)))))
  where
    order : AreInOrder image
    order = in_order image valid

    guard : Span
    guard = loaded_guard stack

    first : Extent
    first = part 0 (rodata_end image) false false

    code : Extent
    code = part (code_place image) (code_end image) false true

    writable : Extent
    writable = part (dynamic_place image) (memory_end image) true false

    last : Extent
    last = stack_region stack
