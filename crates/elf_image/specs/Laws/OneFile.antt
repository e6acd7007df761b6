-- An image has one file.
use Rattle.std.proofs.Common.{◌≡◌, ℕ, List}
use Rattle.elf_base.specs.Laws.OneLayout.{one_layout}
use Rattle.elf_image.specs.Image.{Image}
use Rattle.elf_image.specs.Places.{file_end}
use Rattle.elf_image.specs.Pieces.{pieces}
use Rattle.elf_image.specs.ImageFile.{ImageFile}

-- two files of one image are equal
pub one_file : (p : Image) (a b : List ℕ) → ImageFile p a → ImageFile p b → a ≡ b
one_file p a b ha hb = one_layout (pieces p) (file_end p) a b ha.laid_out hb.laid_out
