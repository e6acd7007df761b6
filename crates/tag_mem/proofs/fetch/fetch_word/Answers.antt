use Rattle.std.proofs.Common.{◌≡◌, ◌∙◌, ap, get_or, ◌-◌}
use Rattle.mt_base.specs.Memory.{load}
use Rattle.tag_mem.specs.Answers.{is_fetchable}
use Rattle.tag_mem.specs.Regions.{extents_of}
use Rattle.tag_mem.proofs.Judged.{holder_of}
use Rattle.tag_mem.proofs.Fetched.{unmapped, not_fetched, four_within, fetched, not_executable, fetched_word, none_iff, some_iff}
use Rattle.tag_mem.proofs.Fetched.{false_iff}
use Rattle.tag_mem.proofs.fetch.fetch_word.Goals as goal

-- no region holds the address
pub returns-in_err-place-clause-there : goal.returns-in_err-place-clause-there
returns-in_err-place-clause-there c =
    none_iff c.from_residual.result (is_fetchable (extents_of c.args.regions.now) c.args.at) c.from_residual.ensures
    (not_fetched (extents_of c.args.regions.now) c.args.at
    (unmapped (extents_of c.args.regions.now) c.args.at c.in_err-place.ensures.none))

-- a region does, with all four bytes
pub word_at-requires : goal.word_at-requires
word_at-requires c =
    let r = c.index-regions-place.result in
    let holder =
    holder_of c.args.regions.now c.in_ok-place.place c.args.at r c.requires.whole c.in_ok-place.ensures.found c.index-regions-place.is
    in
    let items : c.deref.result.now ≡ r.bytes.items = c.deref.ensures.value in
    rw items (four_within r c.args.at holder.whole holder.holds c.if-at-ne0.false)

pub returns-then-region-clause-there : goal.returns-then-region-clause-there
returns-then-region-clause-there c =
    let r = c.index-regions-place.result in
    let holder =
    holder_of c.args.regions.now c.in_ok-place.place c.args.at r c.requires.whole c.in_ok-place.ensures.found c.index-regions-place.is
    in
    some_iff (is_fetchable (extents_of c.args.regions.now) c.args.at)
    (fetched c.args.regions.now c.in_ok-place.place r c.args.at c.requires.apart holder.whole holder.here holder.holds c.if-at-ne0.false
    c.if-region.true)

pub returns-then-region-clause-value : goal.returns-then-region-clause-value
returns-then-region-clause-value c =
    let r = c.index-regions-place.result in
    let holder =
    holder_of c.args.regions.now c.in_ok-place.place c.args.at r c.requires.whole c.in_ok-place.ensures.found c.index-regions-place.is
    in
    let items : c.deref.result.now ≡ r.bytes.items = c.deref.ensures.value in
    c.word_at.ensures.value
    ∙ ap (λ xs. load 4 (λ k. get_or xs k 0) (c.args.at - r.start)) items
    ∙ fetched_word c.args.regions.now c.in_ok-place.place r c.args.at c.requires.apart holder.whole holder.here holder.holds
    c.if-at-ne0.false (rw items at c.word_at.ensures.in_range)

-- it is not executable
pub returns-else-region-clause-there : goal.returns-else-region-clause-there
returns-else-region-clause-there c =
    let r = c.index-regions-place.result in
    let holder =
    holder_of c.args.regions.now c.in_ok-place.place c.args.at r c.requires.whole c.in_ok-place.ensures.found c.index-regions-place.is
    in
    false_iff (is_fetchable (extents_of c.args.regions.now) c.args.at)
    (not_executable c.args.regions.now c.in_ok-place.place r c.args.at c.requires.apart holder.here holder.holds
    c.if-region.false)
