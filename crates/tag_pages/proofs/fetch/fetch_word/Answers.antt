use Rattle.std.proofs.Common.{◌∙◌, get_or}
use Rattle.tag_mem.specs.Answers.{is_fetchable}
use Rattle.tag_pages.specs.Parts.{extents}
use Rattle.tag_pages.proofs.Parts.{unmapped, not_fetched, part_fetched, none_iff, some_iff, false_iff}
use Rattle.tag_pages.proofs.Stored.{stored_at, stored_word}
use Rattle.tag_pages.proofs.fetch.fetch_word.Goals as goal

-- no region holds the address
pub returns-in_err-part-clause-there : goal.returns-in_err-part-clause-there
returns-in_err-part-clause-there c =
    none_iff c.from_residual.result (is_fetchable (extents c.args.regions.now) c.args.at) c.from_residual.ensures
    (not_fetched (extents c.args.regions.now) c.args.at (unmapped (extents c.args.regions.now) c.args.at c.in_err-part.ensures.none))

-- a part does, with all four bytes
pub returns-then-part-clause-there : goal.returns-then-part-clause-there
returns-then-part-clause-there c =
    some_iff (is_fetchable (extents c.args.regions.now) c.args.at)
    (part_fetched (extents c.args.regions.now) c.args.numbers.now c.args.at c.in_ok-part.part c.in_ok-part.ensures.found c.if-at-ne0.false
    c.if-part.true)

pub returns-then-part-clause-value : goal.returns-then-part-clause-value
returns-then-part-clause-value c =
    c.word.ensures.value
    ∙ stored_word (extents c.args.regions.now) c.args.numbers.now c.args.pages.now c.args.at c.in_ok-part.part
    (get_or c.args.pages.now c.in_ok-part.part.page _)
    (stored_at (extents c.args.regions.now) c.args.numbers.now c.args.pages.now c.args.at c.in_ok-part.part _ c.requires.laid_out
    c.requires.paged c.in_ok-part.ensures.found)
    c.if-at-ne0.false c.word.ensures.in_range

-- it is not executable
pub returns-else-part-clause-there : goal.returns-else-part-clause-there
returns-else-part-clause-there c =
    let found = c.in_ok-part.ensures.found in
    false_iff (is_fetchable (extents c.args.regions.now) c.args.at)
    (not_fetched (extents c.args.regions.now) c.args.at
    (found.is_part.executable c.args.at found.from found.to ∙ c.if-part.false))
