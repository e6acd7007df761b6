use Rattle.std.proofs.Common.{get_or}
use Rattle.tag_pages.specs.Parts.{extents}
use Rattle.tag_pages.proofs.Held.{byte_same_page}
use Rattle.tag_pages.proofs.Stored.{stored_at, tag_put}
use Rattle.tag_pages.proofs.tags.put_tag.Goals as goal

pub returns-clause-bytes : goal.returns-clause-bytes
returns-clause-bytes c =
    byte_same_page (extents c.args.regions.now) c.args.numbers.now c.args.pages.now c.args.part.page
    (get_or c.args.pages.now c.args.part.page _) c.set_tag.new.self
    (stored_at (extents c.args.regions.now) c.args.numbers.now c.args.pages.now c.args.at c.args.part _ c.requires.laid_out
    c.requires.paged c.requires.part).is c.set_tag.ensures.bytes

pub returns-clause-tags : goal.returns-clause-tags
returns-clause-tags c =
    tag_put (extents c.args.regions.now) c.args.numbers.now c.args.pages.now c.args.at c.args.part
    (get_or c.args.pages.now c.args.part.page _) c.set_tag.new.self c.args.tag
    (stored_at (extents c.args.regions.now) c.args.numbers.now c.args.pages.now c.args.at c.args.part _ c.requires.laid_out
    c.requires.paged c.requires.part)
    c.set_tag.ensures.same c.set_tag.ensures.others
