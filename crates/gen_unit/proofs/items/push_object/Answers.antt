use Rattle.std.proofs.Common.{[], ◌∷◌, true}
use Rattle.a64_code.specs.declared.instr.Instr.TheVariants.{Ldr}
use Rattle.gen_unit.specs.Words.{got_low_kind, waiting}
use Rattle.gen_unit.proofs.Gains.{then_ok}
use Rattle.gen_unit.proofs.items.push_object.Goals as goal

pub returns : goal.returns
returns c =
    then_ok c.push_waiting-2.result c.args.out.now c.push_waiting.new.out c.push_waiting-2.new.out _
    (waiting (Ldr true 0 c.args.reg c.args.reg) got_low_kind c.args.target ∷ []) c.in_ok-push_waiting.ensures c.push_waiting-2.ensures
