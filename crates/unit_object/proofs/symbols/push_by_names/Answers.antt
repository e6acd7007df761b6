use Rattle.std.proofs.Common.{◌∙◌, ◌+◌, ◌++◌, ap, sym, map, drop, ◌∷◌}
use Rattle.std.specs.Prelude.{filter}
use Rattle.std.proofs.lemmas.List.{drop_more}
use Rattle.c_types.specs.Files.{number_among}
use Rattle.c_types.specs.Ordered.{by_names}
use Rattle.unit_object.specs.Scopes.{is_of_scope, at_number}
use Rattle.unit_object.specs.Symbols.{name_of}
use Rattle.unit_object.proofs.PushedLaws.{one_name}
use Rattle.unit_object.proofs.symbols.push_by_names.Goals as goal

pub loop-name-preserved : goal.loop-name-preserved
loop-name-preserved c =
    one_name (is_of_scope c.args.local) c.args.defined.now c.name-item.result.items
    (map (λ n. n.items) (drop (c.loop-name.name-index + 1) c.args.names.now)) c.loop-name.made.items c.push_number.new.made.items
    (c.in_ok-push_number.ensures ∙ ap (λ o. c.loop-name.made.items ++ filter (is_of_scope c.args.local) (at_number c.args.defined.now o))
    (c.number.ensures ∙ ap (number_among c.args.places.now) c.as_slice.ensures.value
    ∙ ap (λ names. number_among names c.name-item.result.items) c.requires))
    ∙ ap (λ l. c.loop-name.made.items ++ filter (is_of_scope c.args.local) (by_names name_of (map (λ n. n.items) l) c.args.defined.now))
    (sym (drop_more c.args.names.now c.loop-name.name-index c.name-item.result c.loop-name-test.true
    ∙ ap (λ n. n ∷ drop (c.loop-name.name-index + 1) c.args.names.now) (sym c.name-item.is)))
    ∙ c.loop-name.invariant
