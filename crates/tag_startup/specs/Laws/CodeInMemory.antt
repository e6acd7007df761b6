-- The code of an image in memory.
use Rattle.std.proofs.Common.{◌≡◌, ◌≤◌, ◌<◌, ℕ, ◌+◌, ◌-◌, ◌*◌, ◌%◌, ◌^◌, Bool, true, false, ◌&&◌, ◌||◌, ◌==◌, List, length, get_or}
use Rattle.std.proofs.Common.{refl, ap, ◌∙◌, arith}
use Rattle.std.proofs.lemmas.Bool.{or_right}
use Rattle.std.proofs.lemmas.Bool.Decides.{nat_tests}
use Rattle.mt_base.specs.Granules.{round16}
use Rattle.mt_base.specs.Laws.Granules.{round16-covers}
use Rattle.mt_base.specs.Memory.{load, every_byte, is_between, is_in_extent, is_mapped, is_executable}
use Rattle.mt_base.specs.Laws.Memory.{every_byte_from}
use Rattle.a64_code.specs.Instruction.{instruction_of}
use Rattle.a64_code.specs.State.{State}
use Rattle.a64_code.specs.Step.{is_fetchable, fetched}
use Rattle.elf_image.specs.Image.{Image}
use Rattle.elf_image.specs.Places.{IsValid, code_place, code_end}
use Rattle.elf_image.specs.Pieces.{pieces}
use Rattle.elf_image.specs.FileByte.{byte_among}
use Rattle.elf_image.specs.Laws.CodeBytes.{code_byte, word_loaded}
use Rattle.memtag_desc.specs.declared.interval.Interval.{Interval}
use Rattle.tag_startup.specs.Laws.Kept.{before_writable}
use Rattle.tag_startup.specs.Loaded.{loaded_byte}
use Rattle.tag_startup.specs.Parts.{load_address, part, loaded_regions, file_byte}
use Rattle.tag_startup.specs.Starts.{AreObjects}
use Rattle.tag_startup.specs.Laws.Placed.{in_order}

-- so many bytes behind the load address are the code's
code_inside : (image : Image) (i : ℕ) → i < 4 * length image.words →
    is_in_extent (part (code_place image) (code_end image) false true) (load_address + code_place image + i) ≡ true
unfolding code_end
code_inside image i within =
    inside (load_address + code_place image) (code_place image + 4 * length image.words - code_place image) i (omega (arith, within))
  where
    inside : (start bytes k : ℕ) → k < bytes → is_between start (round16 bytes) (start + k) ≡ true
    inside start bytes k below = let covers : bytes ≤ round16 bytes = round16-covers bytes in grind (arith, nat_tests)

code_long : (image : Image) → code_end image ≡ code_place image + 4 * length image.words
unfolding code_end
code_long image = refl

-- where the second of several tests holds, one of them does
second : (a b c : Bool) → b ≡ true → (a || (b || c)) ≡ true
second a b c holds = or_right a (b || c) (rw holds refl)

second_executable : (a b c : Bool) → b ≡ true → ((a && false) || ((b && true) || c)) ≡ true
second_executable a b c holds = or_right (a && false) ((b && true) || c) (rw holds refl)

-- their region is executable, and is mapped
code_executable : (image : Image) (stack i : ℕ) → i < 4 * length image.words →
    is_executable (loaded_regions image stack) (load_address + code_place image + i) ≡ true
unfolding loaded_regions
code_executable image stack i within = second_executable _ _ _ (code_inside image i within)

code_mapped : (image : Image) (stack i : ℕ) → i < 4 * length image.words →
    is_mapped (loaded_regions image stack) (load_address + code_place image + i) ≡ true
unfolding loaded_regions
code_mapped image stack i within = second _ _ _ (code_inside image i within)

file_code : (image : Image) (stack i : ℕ) → i < 4 * length image.words →
    file_byte image stack (load_address + code_place image + i) ≡ byte_among (pieces image) (code_place image + i)
unfolding file_byte
file_code image stack i within =
    rw (code_mapped image stack i within) (ap (byte_among (pieces image))
    (let e : load_address + code_place image + i - load_address ≡ code_place image + i = omega arith in e))

-- relocations leave it as the file has it
loaded_code : (image : Image) (intervals : List Interval) (stack : ℕ) (tag : ℕ → ℕ) (i : ℕ) → IsValid image → AreObjects image intervals →
    i < 4 * length image.words →
    loaded_byte image stack tag (load_address + code_place image + i) ≡ byte_among (pieces image) (code_place image + i)
loaded_code image intervals stack tag i valid are within =
    before_writable image intervals stack tag (load_address + code_place image + i) are
    (omega (arith, within, (in_order image valid).dynamic_from, code_long image, round16-covers (code_end image - code_place image)))
    ∙ file_code image stack i within

-- the word of the code at an address
pub code_word : (image : Image) (intervals : List Interval) (stack : ℕ) (tag : ℕ → ℕ) (k : ℕ) → IsValid image →
    AreObjects image intervals → k < length image.words → get_or image.words k 0 < 2 ^ 32 →
    load 4 (loaded_byte image stack tag) (load_address + code_place image + 4 * k) ≡ get_or image.words k 0
code_word image intervals stack tag k valid are within short =
    word_loaded (loaded_byte image stack tag) (load_address + code_place image + 4 * k) (get_or image.words k 0) short
    (λ j small.
    ap (loaded_byte image stack tag) (let e : load_address + code_place image + 4 * k + j ≡ load_address + code_place image + (4 * k + j) =
    omega arith in e)
    ∙ loaded_code image intervals stack tag (4 * k + j) valid are (omega (arith, within, small))
    ∙ code_byte image k j valid within small)

code_fetchable : (image : Image) (stack k : ℕ) (s : State) → IsValid image → k < length image.words →
    s.regions ≡ loaded_regions image stack → s.pc ≡ load_address + code_place image + 4 * k → is_fetchable s ≡ true
code_fetchable image stack k s valid within regions pc = rw (aligned, each) refl
  where
    aligned : (s.pc % 4 == 0) ≡ true
    aligned = let whole : code_place image % 16 ≡ 0 = (in_order image valid).code_whole in grind (arith, nat_tests)

    each : every_byte (is_executable s.regions) s.pc 4 ≡ true
    each = rw (regions, pc) (every_byte_from (is_executable (loaded_regions image stack)) (load_address + code_place image + 4 * k) 4
        (λ j small.
        ap (is_executable (loaded_regions image stack))
        (let e : load_address + code_place image + 4 * k + j ≡ load_address + code_place image + (4 * k + j) = omega arith in e)
        ∙ code_executable image stack (4 * k + j) (omega (arith, within, small))))

-- A state with the memory of an image that starts, whose PC is at a word of the code, fetches that word's instruction.
pub code_fetched : (image : Image) (intervals : List Interval) (stack : ℕ) (tag : ℕ → ℕ) (k : ℕ) (s : State) → IsValid image →
    AreObjects image intervals → k < length image.words → get_or image.words k 0 < 2 ^ 32 →
    s.regions ≡ loaded_regions image stack → s.byte ≡ loaded_byte image stack tag → s.pc ≡ load_address + code_place image + 4 * k →
    fetched s ≡ instruction_of (get_or image.words k 0)
unfolding fetched
code_fetched image intervals stack tag k s valid are within short regions byte pc =
    rw (code_fetchable image stack k s valid within regions pc)
    (rw (byte, pc) (ap instruction_of (code_word image intervals stack tag k valid are within short)))
