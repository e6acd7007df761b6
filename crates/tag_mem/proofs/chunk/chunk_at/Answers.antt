use Rattle.std.proofs.Common.{arith, ◌+◌}
use Rattle.tag_mem.specs.Regions.{extents_of}
use Rattle.tag_mem.proofs.Mapped.{past_addresses}
use Rattle.tag_mem.proofs.chunk.chunk_at.Goals as goal

pub returns-in_default-clause-none : goal.returns-in_default-clause-none
returns-in_default-clause-none c =
    past_addresses (extents_of c.args.regions.now) (c.args.at + c.args.done) c.requires (omega (arith, c.in_default.ensures))
