use Rattle.std.proofs.Common.{◌<◌, ◌∙◌, arith}
use Rattle.elf_obj.proofs.Claims.{symbols_at-step}
use Rattle.elf_obj.proofs.claim.symbols_at.Goals as goal

pub loop-index-preserved : goal.loop-index-preserved
loop-index-preserved c =
    let below : c.loop-index.index < c.args.count = omega arith in
    rw c.in_ok-push.ensures.items (symbols_at-step c.args.count c.loop-index.index c.args.at c.args.file.now c.loop-index.rest.now
    c.in_ok-name.name c.after-rest.result.now _
    c.loop-index.symbols.items c.symbol_at.result below (c.in_ok-name.ensures ∙ c.name_end-end.ensures.name)
    (c.after-rest.ensures ∙ c.name_end-end.ensures.after)
    c.symbol_at.ensures c.loop-index.invariant)
