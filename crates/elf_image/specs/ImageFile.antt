-- Which bytes are the file of an image.
use Rattle.std.specs.Prelude.{ℕ, List}
use Rattle.elf_base.specs.Layout.{IsLaidOut}
use Rattle.elf_image.specs.Image.{Image}
use Rattle.elf_image.specs.Places.{file_end, IsValid}
use Rattle.elf_image.specs.Pieces.{pieces}

-- the bytes are the file of the image, which is valid
pub record ImageFile (p : Image) (file : List ℕ) : Type 0 where
  pub valid : IsValid p
  pub laid_out : IsLaidOut (pieces p) (file_end p) file
