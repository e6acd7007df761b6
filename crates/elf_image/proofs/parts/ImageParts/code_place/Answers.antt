use Rattle.std.proofs.Common.{arith}
use Rattle.elf_image.specs.Image.{image_of}
use Rattle.elf_image.specs.Laws.Order.{Within, within}
use Rattle.elf_image.proofs.parts.ImageParts.code_place.Goals as goal

pub round_page-requires : goal.round_page-requires
round_page-requires c =
    let w : Within (image_of c.args.self.now) = within (image_of c.args.self.now) c.requires in
    omega arith
