-- The parts of an image, without where they lie in memory.
use Rattle.std.specs.Prelude.{ℕ, List}
use Rattle.elf_image.specs.declared.parts.ImageParts.{ImageParts}
use Rattle.elf_image.specs.declared.parts.RelativeReloc.{RelativeReloc}

-- what an image holds; a `RelativeReloc` is R_AARCH64_RELATIVE (ELF for the Arm 64-bit architecture)
pub record Image : Type 0 where
  pub entry : ℕ
  pub relocs : List RelativeReloc
  pub descriptors : List ℕ
  pub rodata : List ℕ
  pub words : List ℕ
  pub filled : List ℕ
  pub zero_bytes : ℕ

-- the image that the parts make
abbrev pub image_of : ImageParts → Image
image_of p = record {
  entry = p.entry;
  relocs = p.relocs.items;
  descriptors = p.descriptors;
  rodata = p.rodata;
  words = p.words.items;
  filled = p.filled;
  zero_bytes = p.zero_bytes;
}
