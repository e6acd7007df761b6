use Rattle.std.proofs.Common.{ap, ◌∙◌, length, set, get_or}
use Rattle.block_meaning.specs.Blocks.{cells_in, with_cells}
use Rattle.mean_memory.specs.Shown.{block_in}
use Rattle.mean_memory.specs.Laws.Copying.{copied_between}
use Rattle.mean_memory.proofs.copying.copy_between.Goals as goal

pub returns : goal.returns
returns c = λ done.
    let a = c.args in
    copied_between a.slots.now a.source a.target a.part c.index-slots-target-2.result c.index-slots-source-2.result
    c.index-slots-target-3.result c.take_cells-cells.new.slot c.give_cells.new.slot c.requires.source c.requires.target c.requires.apart
    c.take_cells-cells.ensures.number c.take_cells-cells.ensures.kind c.give_cells.ensures.number c.give_cells.ensures.kind
    (c.give_cells.ensures.cells ∙ c.fill_from.ensures.is ∙ ap (with_cells a.part.target (cells_in (block_in (get_or
    (set a.slots.now a.target c.take_cells-cells.new.slot) a.source c.index-slots-source-2.result)) a.part.source a.part.bytes))
    c.take_cells-cells.ensures.cells)
    (ap length c.give_cells.ensures.cells ∙ c.fill_from.ensures.len ∙ ap length c.take_cells-cells.ensures.cells)
