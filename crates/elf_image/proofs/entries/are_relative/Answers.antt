use Rattle.std.proofs.Common.{◌≡◌, ◌≢◌, ℕ, ◌+◌, ◌-◌, ◌*◌, ◌<◌, ◌≤◌, sym, ap, ◌∙◌, arith}
use Rattle.elf_base.specs.Place.{number_at}
use Rattle.elf_image.specs.Faults.{are_relative}
use Rattle.elf_image.proofs.Loops.{relative_step, relative_differs, relative_end}
use Rattle.elf_image.proofs.entries.are_relative.Goals as goal

pub loop-i-init : goal.loop-i-init
loop-i-init c =
    let whole : c.args.count ≡ c.args.count - 0 = omega arith in
    ap (λ (k : ℕ). are_relative k 0x140 c.args.bytes.now) whole

pub loop-i-preserved : goal.loop-i-preserved
loop-i-preserved c =
    let is : number_at 8 (0x140 + 24 * c.loop-i.i + 8) c.args.bytes.now ≡ 1027 = omega (arith, c.u64_at.ensures) in
    let within : c.loop-i.i < c.args.count = omega arith in
    c.loop-i.invariant ∙ relative_step c.args.count c.loop-i.i c.args.bytes.now within is

pub returns : goal.returns
returns c =
    let end : c.args.count ≤ c.loop-i.i = omega arith in
    sym (c.loop-i.invariant ∙ relative_end c.args.count c.loop-i.i (0x140 + 24 * c.loop-i.i) c.args.bytes.now end)

pub returns-then-u64_at-ne-RELATIVE : goal.returns-then-u64_at-ne-RELATIVE
returns-then-u64_at-ne-RELATIVE c =
    let within : c.loop-i.i < c.args.count = omega arith in
    let other : number_at 8 (0x140 + 24 * c.loop-i.i + 8) c.args.bytes.now ≢ 1027 = λ e. omega (arith, e, c.u64_at.ensures) in
    sym (c.loop-i.invariant ∙ relative_differs c.args.count c.loop-i.i c.args.bytes.now within other)
