use Rattle.std.proofs.Common.{◌≡◌, ◌≢◌, ℕ, ◌<◌, get_or, sym, ◌∙◌, inl, inr, arith}
use Rattle.elf_image.specs.Faults.{agrees}
use Rattle.elf_image.proofs.Loops.{agrees_step, agrees_differs, agrees_end}
use Rattle.elf_image.proofs.bytes.agrees.Goals as goal

pub loop-i-preserved : goal.loop-i-preserved
loop-i-preserved c =
    let same : get_or c.args.bytes.now c.loop-i.i 0 ≡ get_or c.args.wanted.now c.loop-i.i 0 = omega arith in
    c.loop-i.invariant ∙ agrees_step c.args.bytes.now c.args.wanted.now c.loop-i.i (omega arith) (omega arith) same

pub returns-then-bytes-i : goal.returns-then-bytes-i
returns-then-bytes-i c =
    let other : get_or c.args.bytes.now c.loop-i.i 0 ≢ get_or c.args.wanted.now c.loop-i.i 0 = λ e. omega (arith, e) in
    sym (c.loop-i.invariant ∙ agrees_differs c.args.bytes.now c.args.wanted.now c.loop-i.i (omega arith) (omega arith) other)

pub returns-then-i-bytes : goal.returns-then-i-bytes
returns-then-i-bytes c = sym (c.loop-i.invariant ∙ agrees_end c.args.bytes.now c.args.wanted.now c.loop-i.i (inl (omega arith)))

pub returns : goal.returns
returns c = sym (c.loop-i.invariant ∙ agrees_end c.args.bytes.now c.args.wanted.now c.loop-i.i (inr (omega arith)))
