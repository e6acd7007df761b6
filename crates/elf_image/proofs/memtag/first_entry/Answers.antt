use Rattle.std.proofs.Common.{◌≡◌, ℤ, arith, ap, ◌∙◌, rules}
use Rattle.std.specs.Prelude.{pos, FitsSigned}
use mir.Syntax.{w64}
use Rattle.elf_image.proofs.Reading.{null, not_null, same_tag, not_tag}
use Rattle.elf_image.proofs.Walks.{entries_begin, entries_go_on, entries_end, entry_found, no_entry}
use Rattle.elf_image.proofs.memtag.first_entry.Goals as goal

pub loop-index-init : goal.loop-index-init
loop-index-init c = entries_begin c.args.tag c.args.bytes.now c.args.segment

pub loop-index-preserved : goal.loop-index-preserved
loop-index-preserved c =
    entries_go_on c.args.tag c.args.bytes.now c.args.segment c.loop-index.index c.entry_at-entry.result c.loop-index.invariant
    c.loop-index-test.true c.entry_at-entry.ensures (not_null c.entry_at-entry.result.tag c.if-entry-eq0.false)
    (not_tag c.entry_at-entry.result.tag c.from-tag.result c.args.tag c.from-tag.ensures c.if-entry-tag.false)

pub returns-then-entry-eq0 : goal.returns-then-entry-eq0
returns-then-entry-eq0 c =
    let fits : FitsSigned w64 c.entry_at-entry.result.tag = search rules in
    entries_end c.args.tag c.args.bytes.now c.args.segment c.loop-index.index c.entry_at-entry.result c.loop-index.invariant
    c.loop-index-test.true c.entry_at-entry.ensures (null c.entry_at-entry.result.tag fits c.if-entry-eq0.true)

pub returns-then-entry-tag : goal.returns-then-entry-tag
returns-then-entry-tag c =
    let fits : FitsSigned w64 c.entry_at-entry.result.tag = search rules in
    let others : FitsSigned w64 c.from-tag.result = search rules in
    entry_found c.args.tag c.args.bytes.now c.args.segment c.loop-index.index c.entry_at-entry.result c.loop-index.invariant
    c.loop-index-test.true c.entry_at-entry.ensures (not_null c.entry_at-entry.result.tag c.if-entry-eq0.false)
    (same_tag c.entry_at-entry.result.tag c.from-tag.result c.args.tag fits others c.from-tag.ensures c.if-entry-tag.true)

pub returns : goal.returns
returns c = no_entry c.args.tag c.args.bytes.now c.args.segment c.loop-index.index c.loop-index.invariant c.loop-index-test.false
