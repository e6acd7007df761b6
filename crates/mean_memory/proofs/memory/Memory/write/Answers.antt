use Rattle.std.proofs.Common.{sym, ap, ◌∙◌}
use Rattle.block_meaning.specs.Access.{reason_against}
use Rattle.block_meaning.specs.Values.{cells_of}
use Rattle.mean_memory.specs.Laws.Slots.{read_there}
use Rattle.mean_memory.specs.Laws.Holding.{block_found, holds_written}
use Rattle.mean_memory.proofs.memory.Memory.write.Goals as goal

pub returns : goal.returns
returns c = λ blocks b holds at.
    let a = c.args.a in
    let s = c.index_mut.result.now in
    let there = read_there a.at.block c.in-Some.index s c.deref.ensures.value c.in-Some.ensures c.index_mut.ensures.value in
    record {
      is = c.write_slot.ensures.is
          ∙ ap (λ t. reason_against t a) (sym (block_found holds c.in-Some.index a.at.block s b there.0 there.1 at));
      leaves = holds_written holds a (cells_of c.args.ty.now c.args.v) c.in-Some.index s c.write_slot.new.slot c.write_slot.result
          there.0 there.1 c.write_slot.ensures.number c.write_slot.ensures.block;
    }
