use Rattle.std.proofs.Common.{◌∙◌, sym, true≢false}
use Rattle.tag_mem.specs.Regions.{span_of}
use Rattle.tag_pages.specs.Parts.{extents}
use Rattle.tag_pages.proofs.Parts.{part_tagged, tagged_free}
use Rattle.tag_pages.proofs.tags.set_tag_at.Goals as goal

pub returns-in-Some-clause-answer : goal.returns-in-Some-clause-answer
returns-in-Some-clause-answer c =
    sym (part_tagged (extents c.args.regions.now) c.args.numbers.now (span_of c.args.guard) c.args.at c.in-Some.part c.requires.placed
    c.in-Some.ensures.found c.in-Some.ensures.writable)

-- where no part that is writable has the address, no tag may be set
pub returns-in-None-clause-done : goal.returns-in-None-clause-done
returns-in-None-clause-done c done =
    let free = tagged_free (extents c.args.regions.now) (span_of c.args.guard) c.args.at (sym done ∙ c.judge_write.ensures) in
    absurd (true≢false (sym free.mapped ∙ c.in-None.ensures.none free.unprotected))
