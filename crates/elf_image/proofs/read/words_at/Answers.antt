use Rattle.std.proofs.Common.{◌≡◌, ℕ, sym, ap, ◌∙◌, arith}
use Rattle.elf_image.specs.Laws.Items.{words_at}
use Rattle.elf_image.proofs.Loops.{words_more}
use Rattle.elf_image.proofs.read.words_at.Goals as goal

pub loop-i-preserved : goal.loop-i-preserved
loop-i-preserved c =
    rw (c.in_ok-push.ensures.items, c.loop-i.invariant, c.u32_at.ensures) (sym (words_more c.loop-i.i c.args.at c.args.bytes.now))

pub returns : goal.returns
returns c =
    let all : c.loop-i.i ≡ c.args.count = omega arith in
    c.loop-i.invariant ∙ ap (λ (k : ℕ). words_at k c.args.at c.args.bytes.now) all
