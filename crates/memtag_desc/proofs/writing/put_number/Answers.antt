use Rattle.memtag_desc.proofs.Spelling.{puts_more, puts_all}
use Rattle.memtag_desc.proofs.writing.put_number.Goals as goal

pub loop-rest-preserved : goal.loop-rest-preserved
loop-rest-preserved c = rw c.in_ok-push.ensures.items (puts_more c.args.value c.loop-rest.rest c.args.out.now.items c.loop-rest.out.items
    c.loop-rest-test.true c.loop-rest.invariant)

pub returns : goal.returns
returns c = rw c.in_ok-push-2.ensures.items (puts_all c.args.value c.loop-rest.rest c.args.out.now.items c.loop-rest.out.items c.requires
    c.loop-rest-test.false c.loop-rest.invariant)
