use Rattle.std.proofs.Common.{List, subst}
use Rattle.std.proofs.lemmas.List.{drop_all}
use Rattle.memtag_desc.specs.declared.interval.Interval.{Interval}
use Rattle.memtag_desc.proofs.Spelling.{IsWritten, writes_next, writes_all}
use Rattle.memtag_desc.proofs.writing.encode.Goals as goal

pub loop-interval-preserved : goal.loop-interval-preserved
loop-interval-preserved c =
    writes_next c.args.intervals.now c.loop-interval.interval-index c.loop-interval.end c.loop-interval.out.items
    c.put_descriptor.new.out.items c.loop-interval-test.true c.loop-interval.invariant c.in_ok-put_descriptor.ensures

pub returns : goal.returns
returns c =
    writes_all c.args.intervals.now c.loop-interval.end c.loop-interval.out.items
    (subst (λ (l : List Interval). IsWritten c.args.intervals.now l c.loop-interval.end c.loop-interval.out.items)
    (drop_all c.loop-interval.interval-index c.args.intervals.now c.loop-interval-test.false) c.loop-interval.invariant)
