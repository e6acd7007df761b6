use Rattle.std.proofs.Common.{subst, sym}
use Rattle.block_meaning.specs.Operators.{target_size}
use Rattle.mean_effects.specs.Laws.Comparing.{not_subtracted}
use Rattle.mean_effects.specs.Shown.{Gives}
use Rattle.mean_effects.proofs.operators.on_pointers.Goals as goal

pub returns-in_default : goal.returns-in_default
returns-in_default c = λ here now of_here of_now.
    let both = c.args.both in
    subst (Gives c.compared_values.new.n now c.compared_values.result)
    (sym (not_subtracted both.operator c.in_default.not-Subtract here c.args.span (target_size here c.args.t.now) both.first both.second
    now))
    (c.compared_values.ensures here now of_here of_now)
