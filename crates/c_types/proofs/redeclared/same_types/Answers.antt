use Rattle.c_types.proofs.RecallLaws.{lengths_apart}
use Rattle.c_types.proofs.redeclared.same_types.Goals as goal

pub returns-then-ss-ts : goal.returns-then-ss-ts
returns-then-ss-ts c = lengths_apart c.args.ss.now c.args.ts.now c.if-ss-ts.true
