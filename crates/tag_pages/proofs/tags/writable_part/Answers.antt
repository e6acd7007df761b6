use Rattle.std.proofs.Common.{◌∙◌, sym, ap, not, true≢false}
use Rattle.tag_pages.proofs.tags.writable_part.Goals as goal

-- the region is not writable
pub returns-else-part-clause-none : goal.returns-else-part-clause-none
returns-else-part-clause-none c free =
    let found = c.in_ok-part.ensures.found in
    absurd (true≢false (ap not (sym c.if-part.false) ∙ sym (found.is_part.protected c.args.at found.from found.to) ∙ free))
