-- The byte at each place of an image's file.
use Rattle.std.specs.Prelude.{ℕ, ◌-◌, ◌≤◌, ◌<◌, ◌+◌, true, false, List, [], ◌∷◌, length, slice_index, if◌then◌else◌}
use Rattle.std.proofs.Common.{◌≡◌, ◌⊎◌, inl, inr, get_or, arith}
use Rattle.std.proofs.lemmas.Bool.{cases_Bool}
use Rattle.std.proofs.lemmas.Bool.Decides.{nat_tests}
use Rattle.mt_base.specs.Memory.{is_between}
use Rattle.elf_image.specs.Image.{Image}
use Rattle.elf_base.specs.Layout.{Piece, AllStand, IsGap}
use Rattle.elf_image.specs.Pieces.{pieces}
use Rattle.elf_image.specs.ImageFile.{ImageFile}
use Rattle.elf_image.specs.FileByte.{byte_among}
use Rattle.elf_base.specs.Laws.OneLayout.{byte_of}

from_place : (place bytes i : ℕ) → is_between place bytes i ≡ true → place ≤ i
from_place place bytes i holds = grind (arith, nat_tests)

before_end : (place bytes i : ℕ) → is_between place bytes i ≡ true → i < place + bytes
before_end place bytes i holds = grind (arith, nat_tests)

beside : (place bytes i : ℕ) → is_between place bytes i ≡ false → (i < place) ⊎ (place + bytes ≤ i)
beside place bytes i other = grind (arith, nat_tests)

byte_of_file : (ps : List Piece) (file : List ℕ) (i : ℕ) → AllStand file ps → (IsGap i ps → get_or file i 0 ≡ 0) →
    get_or file i 0 ≡ byte_among ps i
byte_of_file [] file i stand zero = zero tt
byte_of_file (p ∷ ps) file i stand zero = elim (cases_Bool (is_between p.place (length p.bytes) i)) [
  | inl holds ↦ rw holds (byte_of file p.place p.bytes i stand.0 (from_place p.place (length p.bytes) i holds) (before_end p.place
      (length p.bytes) i holds))
  | inr other ↦ rw other (byte_of_file ps file i stand.1 (λ gap. zero (beside p.place (length p.bytes) i other, gap)))
]

-- the file of an image has the bytes of its pieces, and zeros elsewhere
pub file_bytes : (image : Image) (file : List ℕ) (i : ℕ) → ImageFile image file → slice_index file i ≡ byte_among (pieces image) i
file_bytes image file i is = byte_of_file (pieces image) file i is.laid_out.stand (λ gap. is.laid_out.gaps i gap)
