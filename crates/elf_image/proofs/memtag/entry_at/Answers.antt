use Rattle.std.proofs.Common.{◌≡◌, Ok, arith}
use Rattle.elf_base.specs.Standing.{dyn_at}
use Rattle.elf_base.specs.Laws.Standing.{reads_dyn}
use Rattle.elf_image.proofs.memtag.entry_at.Goals as goal

pub returns : goal.returns
returns c =
    let same : Ok c.in-Ok.entry ≡ Ok (dyn_at c.args.at c.args.bytes.now)
    = reads_dyn c.args.bytes.now c.args.at (Ok c.in-Ok.entry) (λ i. omega (arith, c.type_inv.bytes i)) c.requires c.in-Ok.ensures.only in
    cc
