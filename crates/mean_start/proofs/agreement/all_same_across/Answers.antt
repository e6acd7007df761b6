use Rattle.std.proofs.Common.{sym}
use Rattle.mean_start.proofs.Agreeing.{too_many}
use Rattle.mean_start.proofs.agreement.all_same_across.Goals as goal

pub returns-then-params-locals : goal.returns-then-params-locals
returns-then-params-locals c =
    sym (too_many c.args.structs.these.now c.args.structs.those.now c.args.params.now c.args.locals.now c.if-params-locals.true)
