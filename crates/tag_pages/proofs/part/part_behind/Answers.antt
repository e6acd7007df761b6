use Rattle.std.proofs.Common.{arith, ◌+◌}
use Rattle.tag_pages.specs.Parts.{extents}
use Rattle.tag_pages.proofs.Mapped.{past_addresses}
use Rattle.tag_pages.proofs.part.part_behind.Goals as goal

pub returns-in_err-address-clause-none : goal.returns-in_err-address-clause-none
returns-in_err-address-clause-none c =
    rw c.from_residual.ensures
    (past_addresses (extents c.args.regions.now) (c.args.at + c.args.done) c.requires.laid_out.whole
    (omega (arith, c.in_err-address.ensures)))
