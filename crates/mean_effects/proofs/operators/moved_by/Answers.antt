use Rattle.std.proofs.Common.{ap, ◌∙◌}
use Rattle.block_meaning.specs.Blocks.{pointer}
use Rattle.mean_effects.proofs.Modulo.{offset_moved}
use Rattle.mean_effects.proofs.operators.moved_by.Goals as goal

pub returns : goal.returns
returns c = λ size is. c.moved.ensures ∙ ap (pointer c.args.p.block) (offset_moved c.args.p.offset c.args.n c.args.bytes size is)
