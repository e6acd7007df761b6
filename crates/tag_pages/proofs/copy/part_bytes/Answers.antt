use Rattle.std.proofs.Common.{◌∙◌, sym, ap, length, get_or}
use Rattle.tag_pages.specs.Parts.{extents}
use Rattle.tag_pages.proofs.Parts.{offset_within}
use Rattle.tag_pages.proofs.Stored.{stored_at, stored_bytes}
use Rattle.tag_pages.proofs.copy.part_bytes.Goals as goal

pub part-requires : goal.part-requires
part-requires c =
    offset_within (extents c.args.regions.now) c.args.numbers.now c.args.at c.args.count c.args.part c.requires.part c.requires.within

pub returns-clause-value : goal.returns-clause-value
returns-clause-value c =
    c.part.ensures.value
    ∙ stored_bytes (extents c.args.regions.now) c.args.numbers.now c.args.pages.now c.args.at c.args.part
    (get_or c.args.pages.now c.args.part.page _) c.args.count
    (stored_at (extents c.args.regions.now) c.args.numbers.now c.args.pages.now c.args.at c.args.part _ c.requires.laid_out
    c.requires.paged c.requires.part)
    c.requires.within (ap length (sym c.part.ensures.value) ∙ c.part.ensures.len) c.part.ensures.in_range
