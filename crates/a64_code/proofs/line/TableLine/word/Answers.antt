use Rattle.a64_code.specs.Listed.{base_of, filled}
use Rattle.a64_code.proofs.Rooms.{placed-room}
use Rattle.a64_code.proofs.line.TableLine.word.Goals as goal

pub placed-requires-clause-room : goal.placed-requires-clause-room
placed-requires-clause-room c =
    placed-room (base_of c.args.self.now c.args.wide) (filled c.args.self.now c.args.wide c.args.values) c.requires
    (c.holds.ensures.0 c.if-holds.true)
