-- The numbers of an image are within their ranges, as those of `ImageParts` are by their types.
use Rattle.std.specs.Prelude.{ℕ, ◌<◌, ◌^◌, List, FitsSigned}
use Rattle.std.specs.List.{AllByRecursion}
use Rattle.std.specs.Int.{w64}
use Rattle.elf_image.specs.declared.parts.RelativeReloc.{RelativeReloc}
use Rattle.elf_image.specs.Image.{Image}
use Rattle.elf_image.specs.ImageFile.{ImageFile}

-- the place and the addend of a relocation
pub record RelocFits (r : RelativeReloc) : Type 0 where
  pub place : r.place < 2 ^ 64
  pub addend : FitsSigned w64 r.addend

pub record HasRanges (p : Image) : Type 0 where
  pub entry : p.entry < 2 ^ 64
  pub relocs : AllByRecursion RelocFits p.relocs
  pub words : AllByRecursion (λ w. w < 2 ^ 32) p.words

-- the bytes are the file of the image, whose numbers are within their ranges: such an image is the only one
pub record IsFileOf (p : Image) (file : List ℕ) : Type 0 where
  pub is_file : ImageFile p file
  pub ranges : HasRanges p
