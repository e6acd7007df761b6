use Rattle.std.proofs.Common.{arith}
use Rattle.elf_image.specs.Image.{image_of}
use Rattle.elf_image.specs.Laws.OneAnswer.{not_both}
use Rattle.elf_image.specs.Laws.OneImage.{one_image}
use Rattle.elf_image.proofs.Whole.{room_of, file_of}
use Rattle.elf_image.proofs.read.read_image.Goals as goal

pub returns-in_err-heads-clause-only : goal.returns-in_err-heads-clause-only
returns-in_err-heads-clause-only c = λ p is. absurd (not_both p c.args.bytes.now c.in_err-heads.field-0.0 is c.in_err-heads.ensures)

pub parts_at-requires : goal.parts_at-requires
parts_at-requires c = room_of c.args.bytes.now c.in_ok-heads.heads c.in_ok-heads.ensures.0 c.in_ok-heads.ensures.1

pub returns-clause-found : goal.returns-clause-found
returns-clause-found c =
    file_of c.args.bytes.now c.in_ok-heads.heads (image_of c.in_ok-parts.parts) (λ i. omega (arith, c.type_inv.bytes i))
    c.in_ok-heads.ensures.0 c.in_ok-heads.ensures.1 c.in_ok-parts.ensures

pub returns-clause-only : goal.returns-clause-only
returns-clause-only c = λ p is.
    one_image (image_of c.in_ok-parts.parts) p c.args.bytes.now
    (file_of c.args.bytes.now c.in_ok-heads.heads (image_of c.in_ok-parts.parts) (λ i. omega (arith, c.type_inv.bytes i))
    c.in_ok-heads.ensures.0 c.in_ok-heads.ensures.1 c.in_ok-parts.ensures) is
