use Rattle.std.proofs.lemmas.Result.{on_ok_weaker}
use Rattle.memtag_desc.proofs.Spelling.{adds_small, adds_large}
use Rattle.memtag_desc.proofs.writing.put_descriptor.Goals as goal

pub returns-then-size-le7 : goal.returns-then-size-le7
returns-then-size-le7 c =
    on_ok_weaker c.put_number.result (adds_small c.args.distance c.args.size c.args.out.now.items c.put_number.new.out.items
    c.requires.some c.if-size-le7.true) c.put_number.ensures

pub returns-in_ok-put_number : goal.returns-in_ok-put_number
returns-in_ok-put_number c =
    on_ok_weaker c.put_number-else-size-le7-2.result
    (adds_large c.args.distance c.args.size c.args.out.now.items c.put_number-else-size-le7.new.out.items
    c.put_number-else-size-le7-2.new.out.items c.if-size-le7.false c.in_ok-put_number.ensures)
    c.put_number-else-size-le7-2.ensures
