use Rattle.std.proofs.Common.{subst, sym}
use Rattle.block_meaning.specs.Operators.{on_values, values_combined}
use Rattle.mean_effects.specs.Shown.{Gives}
use Rattle.mean_effects.proofs.assigning.values_combined.Goals as goal

pub returns-in-Number : goal.returns-in-Number
returns-in-Number c = λ here now of_here of_now. c.number_combined.ensures here now c.in-Number.is of_here of_now

pub returns-in-Address : goal.returns-in-Address
returns-in-Address c = λ here now of_here of_now.
    let o = c.args.o in
    let n = c.on_values.new.n in
    let r = c.on_values.result in
    let s = o.first_type.now in
    let t = o.second_type.now in
    subst (λ v. Gives n now r (values_combined here o.span o.operator s t v o.second now)) (sym c.in-Address.is)
    (subst (λ v. Gives n now r (on_values here o.span o.operator s t v o.second now)) c.in-Address.is
    (c.on_values.ensures here now of_here of_now))
