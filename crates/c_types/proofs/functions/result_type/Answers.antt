use Rattle.std.proofs.Common.{ap}
use Rattle.c_types.specs.Functions.{result_type}
use Rattle.c_types.specs.Laws.StandingLaws.{passed}
use Rattle.c_types.proofs.functions.result_type.Goals as goal

pub returns : goal.returns
returns c =
    let after = c.whole_type.new.walk in
    passed (result_type c.args.f.now) c.args.walk.now after (record after { locals = c.new.result }) c.in_ok-t.t c.in_ok-t.ensures
    (ap (λ l. record after { locals = l }) c.new.ensures)
