-- Which image is that of which objects (ELF for the Arm 64-bit architecture, Memtag ABI; the places are this project's own).
use Rattle.std.specs.Prelude.{◌≡◌, ℕ, ◌≤◌, List, length}
use Rattle.elf_base.specs.Layout.{IsLaidOut}
use Rattle.elf_obj.specs.Object.{Object}
use Rattle.elf_image.specs.Image.{Image}
use Rattle.elf_image.specs.Places.{code_place}
use Rattle.memtag_desc.specs.declared.interval.Interval.{Interval}
use Rattle.memtag_desc.specs.Descriptors.{Describes}
use Rattle.linker.specs.declared.refusal.LinkRefusal.{LinkRefusal}
use Rattle.linker.specs.Addresses.{bases_of}
use Rattle.linker.specs.Code.{code_pieces, code_words}
use Rattle.linker.specs.Data.{rodata_pieces, rodata_size, filled_pieces, filled_size, zero_size}
use Rattle.linker.specs.Relocations.{relocations}
use Rattle.linker.specs.Tagged.{AreTagged, AgreesWithItself}
use Rattle.linker.specs.LinkFault.{LinkFault}

-- the descriptors of an image: they describe the tagged objects where this image has them, and no fewer bytes agree with themselves
pub record HasDescriptors (objects : List Object) (image : Image) : Type 0 where
  pub intervals : List Interval
  pub tagged : AreTagged objects (bases_of image) intervals
  pub described : Describes intervals image.descriptors
  pub fewest : (count : ℕ) → AgreesWithItself objects count → length image.descriptors ≤ count

-- The image is that of the objects, which are refused by no condition. It starts with the first word of its code. Each section has its
-- place, and what lies there is the object's, but for the fields of relocations. Between the sections are zeros.
pub record Linked (objects : List Object) (image : Image) : Type 0 where
  pub accepted : (refusal : LinkRefusal) → LinkFault objects refusal → ⊥
  pub entry : image.entry ≡ code_place image
  pub rodata : IsLaidOut (rodata_pieces objects) (rodata_size objects) image.rodata
  pub code : IsLaidOut (code_pieces objects (bases_of image)) (code_words objects) image.words
  pub filled : IsLaidOut (filled_pieces objects) (filled_size objects) image.filled
  pub zero_bytes : image.zero_bytes ≡ zero_size objects
  pub relocs : image.relocs ≡ relocations objects (bases_of image)
  pub descriptors : HasDescriptors objects image
