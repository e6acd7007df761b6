use Rattle.std.proofs.Common.{subst, sym}
use Rattle.block_meaning.specs.declared.value.Value.TheVariants.{Address}
use Rattle.block_meaning.specs.Operators.{on_values}
use Rattle.mean_effects.specs.Shown.{Gives}
use Rattle.mean_effects.proofs.operators.on_address.Goals as goal

pub returns-in-Address : goal.returns-in-Address
returns-in-Address c = λ here now of_here of_now.
    let o = c.args.o in
    subst (λ w. Gives c.on_pointers.new.n now c.on_pointers.result
    (on_values here o.span o.operator o.first_type.now o.second_type.now (Address c.args.p) w now))
    (sym c.in-Address.is) (c.on_pointers.ensures here now of_here of_now)
