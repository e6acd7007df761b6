use Rattle.std.proofs.Common.{sym, arith, length}
use Rattle.tag_mem.specs.Regions.{span_of}
use Rattle.tag_pages.specs.Parts.{extents}
use Rattle.tag_pages.proofs.Parts.{part_written}
use Rattle.tag_pages.proofs.copy.write_bytes.Goals as goal

-- one part has all the bytes
pub returns-clause-answer : goal.returns-clause-answer
returns-clause-answer c =
    sym (part_written (extents c.args.regions.now) c.args.numbers.now (span_of c.args.guard) c.args.at (length c.args.bytes.now)
    c.in-Some.part c.requires.placed c.in-Some.ensures.found (omega (arith, c.room.ensures.within, c.if-room-bytes.true)) c.if-part.true)
