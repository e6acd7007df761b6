use Rattle.std.proofs.Common.{◌∙◌, sym, get_or}
use Rattle.tag_pages.specs.Parts.{extents}
use Rattle.tag_pages.proofs.Stored.{stored_at, stored_tag}
use Rattle.tag_pages.proofs.tags.tag_at.Goals as goal

pub returns-clause-value : goal.returns-clause-value
returns-clause-value c =
    c.tag.ensures
    ∙ sym
    (stored_tag (extents c.args.regions.now) c.args.numbers.now c.args.pages.now c.args.at c.in_ok-part.part
    (get_or c.args.pages.now c.in_ok-part.part.page _)
    (stored_at (extents c.args.regions.now) c.args.numbers.now c.args.pages.now c.args.at c.in_ok-part.part _ c.requires.laid_out
    c.requires.paged c.in_ok-part.ensures.found))
