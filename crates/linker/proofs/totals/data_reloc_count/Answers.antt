use Rattle.std.proofs.Common.{ℕ, List, ap, arith}
use Rattle.elf_obj.specs.declared.parts.ObjectParts.{ObjectParts}
use Rattle.linker.specs.Relocations.{data_reloc_count}
use Rattle.linker.proofs.Binding.{objects_left}
use Rattle.linker.proofs.totals.data_reloc_count.Goals as goal

pub loop-parts-preserved : goal.loop-parts-preserved
loop-parts-preserved c =
    let ps : List ObjectParts = c.args.objects.now in
    let i : ℕ = c.loop-parts.parts-index in
    let p : ObjectParts = c.parts-item.result in
    let left = ap data_reloc_count (objects_left ps i p c.loop-parts-test.true c.parts-item.is) in
    let len = c.len.ensures in
    let before = c.loop-parts.invariant.rest in
    let small = c.loop-parts.invariant.small in record { rest = omega arith; small = omega arith }
