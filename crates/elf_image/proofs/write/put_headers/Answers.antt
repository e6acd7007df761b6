use Rattle.std.proofs.Common.{arith}
use Rattle.elf_image.specs.Image.{image_of}
use Rattle.elf_image.specs.Laws.Order.{InOrder, in_order}
use Rattle.elf_image.proofs.write.put_headers.Goals as goal

pub overflow_sub-filesz : goal.overflow_sub-filesz
overflow_sub-filesz c =
    let o : InOrder (image_of c.args.parts.now) = in_order (image_of c.args.parts.now) in
    omega arith

pub overflow_sub-memsz : goal.overflow_sub-memsz
overflow_sub-memsz c =
    let o : InOrder (image_of c.args.parts.now) = in_order (image_of c.args.parts.now) in
    omega arith
