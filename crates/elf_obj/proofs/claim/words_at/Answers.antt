use Rattle.std.proofs.Common.{ℕ, ◌<◌, arith}
use Rattle.elf_base.specs.Place.{number_at}
use Rattle.elf_obj.proofs.Claims.{each-step}
use Rattle.elf_obj.proofs.claim.words_at.Goals as goal

pub loop-index-preserved : goal.loop-index-preserved
loop-index-preserved c =
    let below : c.loop-index.index < c.args.count = omega arith in
    rw c.in_ok-push.ensures.items (each-step (λ (place : ℕ). number_at 4 place c.args.file.now) 4 c.args.count c.loop-index.index
    c.args.at _ c.loop-index.words.items c.u32_at.result below
    c.u32_at.ensures c.loop-index.invariant)
