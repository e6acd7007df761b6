use Rattle.std.proofs.Common.{[], ◌∷◌, ◌+◌, ap}
use Rattle.a64_laws.specs.Branches.{Always, jump_instr}
use Rattle.gen_unit.specs.Words.{way, whole}
use Rattle.gen_unit.proofs.Gains.{gains_as, then_ok}
use Rattle.gen_unit.proofs.jumps.push_far.Goals as goal

pub returns : goal.returns
returns c =
    then_ok c.push_jump.result c.args.out.now c.push.new.out c.push_jump.new.out _
    (whole (jump_instr Always (way (c.args.at + 1) c.args.to)) ∷ [])
    (gains_as (ap (λ i. whole i ∷ []) c.branch-zero.ensures) c.in_ok-push.ensures) c.push_jump.ensures
