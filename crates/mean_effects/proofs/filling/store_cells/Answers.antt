use Rattle.block_meaning.specs.Blocks.{stored}
use Rattle.mean_effects.specs.Laws.Storing.{gives-done}
use Rattle.mean_effects.proofs.filling.store_cells.Goals as goal

pub returns : goal.returns
returns c = λ now of_now.
    let a = c.args in
    gives-done a.n.now c.store.new.self now (stored a.at a.cells.now) c.store.result c.done.result c.done.ensures of_now
    (λ it_was. c.store.ensures it_was now.blocks of_now.memory)
