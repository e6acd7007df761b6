use Rattle.std.proofs.Common.{subst, map, take}
use Rattle.block_meaning.specs.Blocks.{stored}
use Rattle.block_meaning.specs.declared.cell.Cell.TheVariants.{Byte}
use Rattle.mean_memory.specs.Standing.{IsMemory}
use Rattle.mean_effects.specs.Laws.Storing.{gives-done}
use Rattle.mean_effects.proofs.filling.fill_text.Goals as goal

pub returns : goal.returns
returns c = λ now of_now.
    let a = c.args in
    let m = c.store_bytes.new.self in
    gives-done a.n.now m now (stored a.p (map Byte (take a.count a.bytes.now))) c.store_bytes.result c.done.result c.done.ensures of_now
    (λ it_was. subst (λ l. IsMemory m (stored a.p (map Byte l) now.blocks)) c.first_bytes-first.ensures
    (c.store_bytes.ensures it_was now.blocks of_now.memory))
