use Rattle.std.proofs.Common.{subst, sym}
use Rattle.block_meaning.specs.Operators.{on_values}
use Rattle.mean_effects.specs.Shown.{Gives}
use Rattle.mean_effects.proofs.operators.on_values.Goals as goal

pub returns-in-Address : goal.returns-in-Address
returns-in-Address c = λ here now of_here of_now.
    let o = c.args.o in
    subst (λ v. Gives c.on_address.new.n now c.on_address.result
    (on_values here o.span o.operator o.first_type.now o.second_type.now v o.second now))
    (sym c.in-Address.is) (c.on_address.ensures here now of_here of_now)
