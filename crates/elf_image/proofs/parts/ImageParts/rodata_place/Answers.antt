use Rattle.std.proofs.Common.{arith, ap, length}
use Rattle.elf_image.specs.Image.{image_of}
use Rattle.elf_image.specs.Laws.Order.{Within, within}
use Rattle.elf_image.proofs.parts.ImageParts.rodata_place.Goals as goal

pub overflow_add-descriptors_place : goal.overflow_add-descriptors_place
overflow_add-descriptors_place c =
    let w : Within (image_of c.args.self.now) = within (image_of c.args.self.now) c.requires in
    omega (arith, ap length c.as_slice.ensures)

pub round16-requires : goal.round16-requires
round16-requires c =
    let w : Within (image_of c.args.self.now) = within (image_of c.args.self.now) c.requires in
    omega (arith, ap length c.as_slice.ensures)
