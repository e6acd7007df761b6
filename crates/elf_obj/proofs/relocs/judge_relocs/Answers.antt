use Rattle.std.proofs.Common.{◌<◌, length, arith}
use Rattle.elf_obj.proofs.Steps.{counted-at}
use Rattle.elf_obj.proofs.relocs.judge_relocs.Goals as goal

pub is_reloc-stands-requires-clause-counted : goal.is_reloc-stands-requires-clause-counted
is_reloc-stands-requires-clause-counted c =
    let within : c.loop-index.index < length c.args.relocs.now = omega arith in
    counted-at c.args.relocs.now c.loop-index.index _ c.requires.counted within
