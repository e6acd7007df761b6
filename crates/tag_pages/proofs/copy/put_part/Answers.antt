use Rattle.std.proofs.Common.{arith, get_or}
use Rattle.tag_pages.specs.Parts.{extents}
use Rattle.tag_pages.proofs.Parts.{offset_within}
use Rattle.tag_pages.proofs.Held.{tag_same_page}
use Rattle.tag_pages.proofs.Stored.{stored_at, byte_put}
use Rattle.tag_pages.proofs.copy.put_part.Goals as goal

pub put-requires : goal.put-requires
put-requires c =
    offset_within (extents c.args.regions.now) c.args.numbers.now c.args.at _ c.args.part c.requires.part c.requires.within

pub returns-clause-bytes : goal.returns-clause-bytes
returns-clause-bytes c =
    byte_put (extents c.args.regions.now) c.args.numbers.now c.args.pages.now c.args.at c.args.part
    (get_or c.args.pages.now c.args.part.page _) c.put.new.self c.args.source.now
    (stored_at (extents c.args.regions.now) c.args.numbers.now c.args.pages.now c.args.at c.args.part _ c.requires.laid_out
    c.requires.paged c.requires.part)
    c.requires.within c.put.ensures.len c.put.ensures.bytes (λ k. let small = c.type_inv.source k in omega arith)

pub returns-clause-tags : goal.returns-clause-tags
returns-clause-tags c =
    tag_same_page (extents c.args.regions.now) c.args.numbers.now c.args.pages.now c.args.part.page
    (get_or c.args.pages.now c.args.part.page _) c.put.new.self
    (stored_at (extents c.args.regions.now) c.args.numbers.now c.args.pages.now c.args.at c.args.part _ c.requires.laid_out
    c.requires.paged c.requires.part).is c.put.ensures.tags
