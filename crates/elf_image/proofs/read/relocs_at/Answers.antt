use Rattle.std.proofs.Common.{◌≡◌, ℕ, sym, ap, ◌∙◌, arith}
use Rattle.elf_image.specs.Laws.Items.{relocs_at}
use Rattle.elf_image.proofs.Loops.{relocs_more}
use Rattle.elf_image.proofs.read.relocs_at.Goals as goal

pub loop-i-preserved : goal.loop-i-preserved
loop-i-preserved c =
    rw (c.in_ok-push.ensures.items, c.loop-i.invariant, c.reloc_at.ensures) (sym (relocs_more c.loop-i.i 0x140 c.args.bytes.now))

pub returns : goal.returns
returns c =
    let all : c.loop-i.i ≡ c.args.count = omega arith in
    c.loop-i.invariant ∙ ap (λ (k : ℕ). relocs_at k 0x140 c.args.bytes.now) all
