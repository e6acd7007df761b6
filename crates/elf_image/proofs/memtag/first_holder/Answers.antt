use Rattle.std.proofs.Common.{length, arith, sym, ◌∙◌}
use Rattle.elf_image.specs.MemtagEntries.{holds}
use Rattle.elf_image.proofs.Reading.{held}
use Rattle.elf_image.proofs.Walks.{segments_begin, segments_go_on, segment_found, no_segment}
use Rattle.elf_image.proofs.memtag.first_holder.Goals as goal

pub loop-k-init : goal.loop-k-init
loop-k-init c =
    segments_begin (holds (length c.args.bytes.now) c.args.address c.args.size) c.args.bytes.now c.args.headers c.requires

pub loop-k-preserved : goal.loop-k-preserved
loop-k-preserved c =
    segments_go_on (holds (length c.args.bytes.now) c.args.address c.args.size) c.args.bytes.now c.args.headers.place c.args.headers.count
    c.loop-k.k c.segment_at-segment.result c.loop-k.invariant c.loop-k-test.true c.segment_at-segment.ensures
    (sym c.holds.ensures ∙ c.if-holds.false)

pub returns-then-holds-clause-is : goal.returns-then-holds-clause-is
returns-then-holds-clause-is c =
    segment_found (holds (length c.args.bytes.now) c.args.address c.args.size) c.args.bytes.now c.args.headers.place c.args.headers.count
    c.loop-k.k c.segment_at-segment.result c.loop-k.invariant c.loop-k-test.true c.segment_at-segment.ensures
    (sym c.holds.ensures ∙ c.if-holds.true)

pub returns-then-holds-clause-front : goal.returns-then-holds-clause-front
returns-then-holds-clause-front c =
    (held (length c.args.bytes.now) c.args.address c.args.size c.segment_at-segment.result (sym c.holds.ensures ∙ c.if-holds.true)).front

pub returns-then-holds-clause-within : goal.returns-then-holds-clause-within
returns-then-holds-clause-within c =
    (held (length c.args.bytes.now) c.args.address c.args.size c.segment_at-segment.result (sym c.holds.ensures ∙ c.if-holds.true)).within

pub returns-clause-is : goal.returns-clause-is
returns-clause-is c =
    no_segment (holds (length c.args.bytes.now) c.args.address c.args.size) c.args.bytes.now c.args.headers.place c.args.headers.count
    c.loop-k.k c.loop-k.invariant c.loop-k-test.false
