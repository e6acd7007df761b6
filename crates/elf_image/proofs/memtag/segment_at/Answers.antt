use Rattle.std.proofs.Common.{◌≡◌, Ok, arith}
use Rattle.elf_base.specs.Standing.{phdr_at}
use Rattle.elf_base.specs.Laws.Standing.{reads_phdr}
use Rattle.elf_image.proofs.memtag.segment_at.Goals as goal

pub returns : goal.returns
returns c =
    let same : Ok c.in-Ok.segment ≡ Ok (phdr_at c.args.at c.args.bytes.now)
    = reads_phdr c.args.bytes.now c.args.at (Ok c.in-Ok.segment) (λ i. omega (arith, c.type_inv.bytes i)) c.requires c.in-Ok.ensures.only in
    cc
