use Rattle.block_meaning.specs.Memory.{copied}
use Rattle.mean_effects.specs.Laws.Storing.{gives-done}
use Rattle.mean_effects.proofs.copying.move_cells.Goals as goal

pub returns : goal.returns
returns c = λ now of_now.
    let a = c.args in
    gives-done a.n.now c.copy.new.self now (copied a.source a.target a.bytes) c.copy.result c.done.result c.done.ensures of_now
    (λ it_was. c.copy.ensures it_was now.blocks of_now.memory)
