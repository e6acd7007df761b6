use Rattle.std.proofs.Common.{subst, sym}
use Rattle.block_meaning.specs.Expressions.{assign_effect}
use Rattle.mean_effects.specs.Effects.{site_of}
use Rattle.mean_effects.specs.Shown.{Gives}
use Rattle.mean_effects.proofs.assigning.assign_effect.Goals as goal

pub returns-in-Some : goal.returns-in-Some
returns-in-Some c = λ here now of_here of_now.
    let a = c.args.a in
    subst (λ o. Gives c.compound.new.n now c.compound.result (assign_effect (site_of here a) o a.left.now a.right.now a.at c.args.v now))
    (sym c.in-Some.is) (c.compound.ensures here now of_here of_now)

pub returns-in-None : goal.returns-in-None
returns-in-None c = λ here now of_here of_now.
    let a = c.args.a in
    subst (λ o. Gives c.assigned.new.n now c.assigned.result (assign_effect (site_of here a) o a.left.now a.right.now a.at c.args.v now))
    (sym c.in-None.is) (c.assigned.ensures here now of_here of_now)
