use Rattle.std.proofs.Common.{arith}
use Rattle.mean_link.proofs.Turns.{names_turn, all_names}
use Rattle.mean_link.proofs.files.names_of_all.Goals as goal

pub loop-number-preserved : goal.loop-number-preserved
loop-number-preserved c =
    names_turn c.args.programs.now c.args.units.now c.loop-number.number c.index-programs-number.result c.index-units-number.result
    c.loop-number.files c.push.new.self c.in_ok-names.names (omega (arith, c.loop-number-test.true, c.requires)) c.loop-number-test.true
    c.index-programs-number.is c.index-units-number.is c.in_ok-names.ensures c.loop-number.invariant c.in_ok-push.ensures.ok

pub returns : goal.returns
returns c =
    all_names c.args.programs.now c.args.units.now c.loop-number.number c.loop-number.files c.requires c.loop-number-test.false
    c.loop-number.invariant
