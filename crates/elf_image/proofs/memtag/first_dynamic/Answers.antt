use Rattle.std.proofs.Common.{arith}
use Rattle.std.proofs.lemmas.Bool.{eq-eqb, ne_eqb}
use Rattle.elf_image.specs.MemtagFile.{is_dynamic}
use Rattle.elf_image.proofs.Walks.{segments_begin, segments_go_on, segment_found, no_segment}
use Rattle.elf_image.proofs.memtag.first_dynamic.Goals as goal

pub loop-k-init : goal.loop-k-init
loop-k-init c = segments_begin is_dynamic c.args.bytes.now c.args.headers c.requires

pub loop-k-preserved : goal.loop-k-preserved
loop-k-preserved c =
    segments_go_on is_dynamic c.args.bytes.now c.args.headers.place c.args.headers.count c.loop-k.k c.segment_at-segment.result
    c.loop-k.invariant c.loop-k-test.true c.segment_at-segment.ensures
    (ne_eqb c.segment_at-segment.result.kind 2 c.if-segment-eq-DYNAMIC.false)

pub returns-then-segment-eq-DYNAMIC : goal.returns-then-segment-eq-DYNAMIC
returns-then-segment-eq-DYNAMIC c =
    segment_found is_dynamic c.args.bytes.now c.args.headers.place c.args.headers.count c.loop-k.k c.segment_at-segment.result
    c.loop-k.invariant c.loop-k-test.true c.segment_at-segment.ensures
    (eq-eqb c.segment_at-segment.result.kind 2 c.if-segment-eq-DYNAMIC.true)

pub returns : goal.returns
returns c =
    no_segment is_dynamic c.args.bytes.now c.args.headers.place c.args.headers.count c.loop-k.k c.loop-k.invariant c.loop-k-test.false
