use Rattle.std.proofs.lemmas.Result.{on_ok_weaker}
use Rattle.block_meaning.specs.Linkage.{AFunction, function_of}
use Rattle.mean_start.proofs.Naming.{function_meant, function_named}
use Rattle.mean_start.proofs.names.add_function.Goals as goal

pub returns : goal.returns
returns c = on_ok_weaker c.add.result (λ added units found first knows.
    function_named c.add.new.names units found c.args.unit c.args.number c.as_slice.result.now c.args.f.now c.as_slice.ensures c.if-f.false
    (added units found (AFunction (function_of c.args.unit c.args.number))
    (function_meant units c.args.unit c.args.first c.in_ok-block.block c.args.number c.in_ok-number.number first c.in_ok-block.ensures
    c.in_ok-number.ensures) knows)) c.add.ensures
