-- What start-up leaves as the image's file has it: all that is not in the writable part.
use Rattle.std.proofs.Common.{◌≡◌, ◌≤◌, ◌<◌, ℕ, ◌+◌, ◌-◌, ◌*◌, Bool, true, false, ◌&&◌, ◌||◌, List, get_or, refl, arith}
use Rattle.std.proofs.lemmas.Bool.Decides.{nat_tests}
use Rattle.mt_base.specs.Granules.{round16}
use Rattle.mt_base.specs.Laws.Granules.{round16-covers}
use Rattle.mt_base.specs.Memory.{is_between, is_protected}
use Rattle.elf_image.specs.Image.{Image}
use Rattle.elf_image.specs.Places.{rodata_end, code_place, code_end, dynamic_place}
use Rattle.memtag_desc.specs.declared.interval.Interval.{Interval}
use Rattle.tag_startup.specs.Laws.Inside.{objects_within, relocs_placed}
use Rattle.tag_startup.specs.Laws.PlaceLaws.{byte_kept}
use Rattle.tag_startup.specs.Laws.TagLaws.{other_tag}
use Rattle.tag_startup.specs.Loaded.{before_relocations, loaded_byte}
use Rattle.tag_startup.specs.Parts.{load_address, loaded_regions, file_byte}
use Rattle.tag_startup.specs.Starts.{AreObjects}
use Rattle.tag_startup.specs.Tags.{loaded_tag}

before_interval : (start bytes at : ℕ) → at < start → is_between start bytes at ≡ false
before_interval start bytes at below = grind (arith, nat_tests)

-- bytes before the writable part are the file's
pub before_writable : (image : Image) (intervals : List Interval) (stack : ℕ) (tag : ℕ → ℕ) (at : ℕ) → AreObjects image intervals →
    at < load_address + dynamic_place image → loaded_byte image stack tag at ≡ file_byte image stack at
unfolding loaded_byte
before_writable image intervals stack tag at are below =
    byte_kept (before_relocations image stack tag) image.relocs at (λ k d inside.
    before_interval (load_address + (get_or image.relocs k d).place) 8 at
    (omega (arith, below, (relocs_placed image intervals are k d inside).from)))

-- granules before the writable part have the tag 0
pub untagged_before : (image : Image) (intervals : List Interval) (choices : List ℕ) (granule : ℕ) → AreObjects image intervals →
    granule * 16 < load_address + dynamic_place image → loaded_tag intervals choices granule ≡ 0
untagged_before image intervals choices granule are below =
    other_tag intervals choices granule (λ k d inside.
    before_interval (load_address + (get_or intervals k d).start) (get_or intervals k d).bytes (granule * 16)
    (omega (arith, below, (objects_within image intervals are k d inside).from)))

-- ---- what is only read

within_interval : (start bytes at : ℕ) → start ≤ at → at < start + bytes → is_between start bytes at ≡ true
within_interval start bytes at from below = grind (arith, nat_tests)

first_protected : (a b c d : Bool) → a ≡ true → ((a && true) || ((b && true) || ((c && false) || ((d && false) || false)))) ≡ true
first_protected a b c d is = rw is refl

second_protected : (a b c d : Bool) → b ≡ true → ((a && true) || ((b && true) || ((c && false) || ((d && false) || false)))) ≡ true
second_protected true b c d is = refl
second_protected false b c d is = rw is refl

-- the headers, tables and texts are in a region that cannot be written
pub texts_protected : (image : Image) (stack at : ℕ) → load_address ≤ at → at < load_address + rodata_end image →
    is_protected (loaded_regions image stack) at ≡ true
unfolding loaded_regions
texts_protected image stack at from below = first_protected _ _ _ _
    (within_interval (load_address + 0) (round16 (rodata_end image - 0)) at (omega (arith, from))
    (omega (arith, below, round16-covers (rodata_end image - 0))))

-- so is the code
pub code_protected : (image : Image) (stack at : ℕ) → load_address + code_place image ≤ at → at < load_address + code_end image →
    is_protected (loaded_regions image stack) at ≡ true
unfolding loaded_regions
code_protected image stack at from below = second_protected _ _ _ _
    (within_interval (load_address + code_place image) (round16 (code_end image - code_place image)) at from
    (omega (arith, from, below, round16-covers (code_end image - code_place image))))
