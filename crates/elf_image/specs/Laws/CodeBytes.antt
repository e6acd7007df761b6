-- The bytes of an image's code, and that each valid image has a file.
use Rattle.std.specs.Prelude.{◌≡◌, ℕ, zero, suc, ◌+◌, ◌-◌, ◌*◌, ◌/◌, ◌%◌, ◌<◌, ◌^◌, List, [], ◌∷◌, ◌++◌, length, refl}
use Rattle.std.proofs.Common.{get_or, sym, ap, ◌∙◌, arith}
use Rattle.std.proofs.lemmas.List.{get_or_append_left, get_or-append-add}
use Rattle.std.specs.List.{flat_map}
use Rattle.elf_base.specs.Field.{StandsAt, field_bytes}
use Rattle.mt_base.specs.Memory.{load}
use Rattle.elf_image.specs.Image.{Image}
use Rattle.elf_image.specs.Places.{IsValid, code_place}
use Rattle.elf_base.specs.Layout.{word_bytes}
use Rattle.elf_image.specs.Pieces.{pieces, header_pieces, table_pieces, loaded_pieces}
use Rattle.elf_base.specs.Laying.{put_all}
use Rattle.elf_image.specs.ImageFile.{ImageFile}
use Rattle.elf_base.specs.Laws.OneLayout.{byte_of}
use Rattle.elf_base.specs.Laws.Lengths.{length-word_bytes, length-words}
use Rattle.elf_image.specs.FileByte.{byte_among}
use Rattle.elf_image.specs.Laws.FileBytes.{file_bytes}
use Rattle.elf_image.specs.Laws.Whole.{is_file}

-- a valid image has a file
abbrev pub file_of : Image → List ℕ
file_of image = put_all (loaded_pieces image) (put_all (table_pieces image) (put_all (header_pieces image) []))

pub file_of-is : (image : Image) → IsValid image → ImageFile image (file_of image)
file_of-is image valid = is_file image (file_of image) valid refl

-- the byte of a word among the bytes of several
word_byte : (words : List ℕ) (k j : ℕ) → k < length words → j < 4 → get_or (flat_map word_bytes words) (4 * k + j) 0 ≡ get_or
    (word_bytes (get_or words k 0)) j 0
word_byte [] k j within small = absurd (omega (arith, within))
word_byte (w ∷ ws) zero j within small =
    ap (λ i. get_or (word_bytes w ++ flat_map word_bytes ws) i 0) (let e : 4 * 0 + j ≡ j = omega arith in e)
    ∙ get_or_append_left (word_bytes w) (flat_map word_bytes ws) 0 j (omega (arith, small, length-word_bytes w))
word_byte (w ∷ ws) (suc k) j within small =
    let place : 4 * suc k + j ≡ length (word_bytes w) + (4 * k + j) = omega (arith, length-word_bytes w) in
    ap (λ i. get_or (word_bytes w ++ flat_map word_bytes ws) i 0) place
    ∙ get_or-append-add (word_bytes w) (flat_map word_bytes ws) (4 * k + j) 0
    ∙ word_byte ws k j (omega (arith, within)) small

-- the byte of a word of the code among the pieces of its image
pub code_byte : (image : Image) (k j : ℕ) → IsValid image → k < length image.words → j < 4 →
    byte_among (pieces image) (code_place image + (4 * k + j)) ≡ get_or (word_bytes (get_or image.words k 0)) j 0
code_byte image k j valid within small =
    sym (file_bytes image (file_of image) (code_place image + (4 * k + j)) is)
    ∙ byte_of (file_of image) (code_place image) (flat_map word_bytes image.words) (code_place image + (4 * k + j)) stands
    (omega arith) (omega (arith, within, small, length-words image.words))
    ∙ ap (λ i. get_or (flat_map word_bytes image.words) i 0) (let e : code_place image + (4 * k + j) - code_place image ≡ 4 * k + j =
    omega arith in e)
    ∙ word_byte image.words k j within small
  where
    is : ImageFile image (file_of image)
    is = file_of-is image valid

    stands : StandsAt (file_of image) (code_place image) (flat_map word_bytes image.words)
    stands = is.laid_out.stand.1.1.1.1.1.1.1.1.1.0

-- memory with the bytes of a word has the word
pub word_loaded : (byte : ℕ → ℕ) (at w : ℕ) → w < 2 ^ 32 → ((j : ℕ) → j < 4 → byte (at + j) ≡ get_or (word_bytes w) j 0) →
    load 4 byte at ≡ w
unfolding load field_bytes
word_loaded byte at w short each =
    let first : byte at ≡ w % 256 = ap byte (let e : at ≡ at + 0 = omega arith in e) ∙ each 0 (omega arith) in
    let second : byte (at + 1) ≡ w / 256 % 256 = each 1 (omega arith) in
    let third : byte (at + 1 + 1) ≡ w / 65536 % 256 = ap byte (let e : at + 1 + 1 ≡ at + 2 = omega arith in e) ∙ each 2 (omega arith) in
    let fourth : byte (at + 1 + 1 + 1) ≡ w / 16777216 % 256 =
    ap byte (let e : at + 1 + 1 + 1 ≡ at + 3 = omega arith in e) ∙ each 3 (omega arith) in
    omega (arith, first, second, third, fourth, short)
