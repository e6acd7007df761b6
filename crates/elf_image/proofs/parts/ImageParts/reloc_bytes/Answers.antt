use Rattle.std.proofs.Common.{arith}
use Rattle.elf_image.specs.Image.{image_of}
use Rattle.elf_image.specs.Laws.Order.{Within, within}
use Rattle.elf_image.proofs.parts.ImageParts.reloc_bytes.Goals as goal

pub overflow_mul-result : goal.overflow_mul-result
overflow_mul-result c =
    let w : Within (image_of c.args.self.now) = within (image_of c.args.self.now) c.requires in
    omega arith
