use Rattle.std.proofs.Common.{subst, sym, ap, ◌∙◌}
use Rattle.block_meaning.specs.declared.value.Value.TheVariants.{Number}
use Rattle.block_meaning.specs.Operators.{computing_type, int_in, numbers_combined, on_values, values_combined}
use Rattle.mean_effects.specs.Laws.Combining.{combined_second}
use Rattle.mean_effects.specs.Shown.{Gives}
use Rattle.mean_effects.proofs.assigning.number_combined.Goals as goal

pub returns-in-Number : goal.returns-in-Number
returns-in-Number c = λ here now first of_here of_now.
    let o = c.args.o in
    let n = c.args.n.now in
    let r = c.numbers_combined.result in
    let s = o.first_type.now in
    let t = o.second_type.now in
    subst (λ v. Gives n now r (values_combined here o.span o.operator s t v o.second now)) (sym first)
    (subst (λ w. Gives n now r (values_combined here o.span o.operator s t (Number c.args.k) w now)) (sym c.in-Number.is)
    (subst (λ i. Gives n now r (numbers_combined o.operator s i c.args.k c.in-Number.l now))
    (c.computing_type-t.ensures ∙ ap (λ i. computing_type o.operator i c.int_in-u.result) c.int_in-s.ensures
    ∙ ap (computing_type o.operator (int_in s)) c.int_in-u.ensures) (c.numbers_combined.ensures n now of_now)))

pub returns-in-Address : goal.returns-in-Address
returns-in-Address c = λ here now first of_here of_now.
    let o = c.args.o in
    let n = c.on_values.new.n in
    let r = c.on_values.result in
    let s = o.first_type.now in
    let t = o.second_type.now in
    subst (λ w. Gives n now r (values_combined here o.span o.operator s t o.first w now)) (sym c.in-Address.is)
    (subst (Gives n now r) (sym (combined_second here o.span o.operator s t o.first c.in-Address.field-0 now))
    (subst (λ w. Gives n now r (on_values here o.span o.operator s t o.first w now)) c.in-Address.is
    (c.on_values.ensures here now of_here of_now)))
