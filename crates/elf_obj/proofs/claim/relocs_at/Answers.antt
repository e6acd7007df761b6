use Rattle.std.proofs.Common.{ℕ, ◌<◌, arith}
use Rattle.elf_obj.specs.Claimed.{reloc_at}
use Rattle.elf_obj.proofs.Claims.{each-step}
use Rattle.elf_obj.proofs.claim.relocs_at.Goals as goal

pub loop-index-preserved : goal.loop-index-preserved
loop-index-preserved c =
    let below : c.loop-index.index < c.args.count = omega arith in
    rw c.in_ok-push.ensures.items (each-step (λ (place : ℕ). reloc_at place c.args.file.now) 24 c.args.count c.loop-index.index c.args.at
    _ c.loop-index.relocs.items c.reloc_at.result below
    c.reloc_at.ensures c.loop-index.invariant)
