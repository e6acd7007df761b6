use Rattle.std.proofs.Common.{sym, arith, length}
use Rattle.tag_mem.specs.Regions.{span_of}
use Rattle.tag_pages.specs.Parts.{extents}
use Rattle.tag_pages.proofs.Parts.{part_read}
use Rattle.tag_pages.proofs.copy.read_bytes.Goals as goal

-- one part has all the bytes
pub returns-clause-answer : goal.returns-clause-answer
returns-clause-answer c =
    sym (part_read (extents c.args.regions.now) c.args.numbers.now (span_of c.args.guard) c.args.at (length c.args.out.now) c.in-Some.part
    c.requires.placed c.in-Some.ensures.found (omega (arith, c.room.ensures.within, c.if-room-out.true)))
