use Rattle.std.proofs.Common.{arith}
use Rattle.c_types.proofs.BodyLaws.{rounded_whole, rounded_rest}
use Rattle.c_types.proofs.body.rounded.Goals as goal

pub returns-then-over-eq0 : goal.returns-then-over-eq0
returns-then-over-eq0 c = rounded_whole c.args.place c.args.unit (omega arith) (omega arith) (omega arith)

pub returns-else-over-eq0 : goal.returns-else-over-eq0
returns-else-over-eq0 c =
    rounded_rest c.args.place c.args.unit c.saturating_add.result (omega arith) (omega arith) (omega arith) c.saturating_add.ensures
