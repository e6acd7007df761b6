use Rattle.std.proofs.Common.{map}
use Rattle.block_meaning.specs.declared.cell.Cell.TheVariants.{Byte}
use Rattle.mean_memory.specs.Laws.Slots.{read_there}
use Rattle.mean_memory.specs.Laws.Holding.{holds_stored}
use Rattle.mean_memory.proofs.memory.Memory.store_bytes.Goals as goal

pub returns : goal.returns
returns c = λ done blocks holds.
    let p = c.args.at in
    let s = c.index_mut.result.now in
    let there = read_there p.block c.in-Some.index s c.deref.ensures.value c.in-Some.ensures c.index_mut.ensures.value in
    holds_stored holds p (map Byte c.args.bytes.now) c.in-Some.index s c.store_bytes_slot.new.slot there.0 there.1
    c.store_bytes_slot.ensures.number (c.store_bytes_slot.ensures.block done)
