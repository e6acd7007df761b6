use Rattle.std.proofs.Common.{subst, sym}
use Rattle.block_meaning.specs.Expressions.{assigned}
use Rattle.mean_effects.specs.Effects.{site_of}
use Rattle.mean_effects.specs.Shown.{Gives}
use Rattle.mean_effects.proofs.assigning.assigned.Goals as goal

pub returns-in-Struct : goal.returns-in-Struct
returns-in-Struct c = λ here now of_here of_now.
    let a = c.args.a in
    subst (λ v. Gives c.copy_to_left.new.n now c.copy_to_left.result
    (assigned (site_of here a) a.left.now a.right.now a.at v now)) (sym c.in-Struct.is)
    (c.copy_to_left.ensures here now of_here of_now)

pub returns-in-Number : goal.returns-in-Number
returns-in-Number c = λ here now of_here of_now.
    let a = c.args.a in
    subst (λ v. Gives c.write_left.new.n now c.write_left.result
    (assigned (site_of here a) a.left.now a.right.now a.at v now)) (sym c.in-Number.is)
    (c.write_left.ensures here now of_here of_now)

pub returns-in-Address : goal.returns-in-Address
returns-in-Address c = λ here now of_here of_now.
    let a = c.args.a in
    subst (λ v. Gives c.write_left-in-Address.new.n now c.write_left-in-Address.result
    (assigned (site_of here a) a.left.now a.right.now a.at v now)) (sym c.in-Address.is)
    (c.write_left-in-Address.ensures here now of_here of_now)

pub returns-in-NoValue : goal.returns-in-NoValue
returns-in-NoValue c = λ here now of_here of_now.
    let a = c.args.a in
    subst (λ v. Gives c.write_left-in-NoValue.new.n now c.write_left-in-NoValue.result
    (assigned (site_of here a) a.left.now a.right.now a.at v now)) (sym c.in-NoValue.is)
    (c.write_left-in-NoValue.ensures here now of_here of_now)
