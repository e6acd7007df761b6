use Rattle.std.proofs.Common.{◌∙◌, ◌++◌, ap, sym}
use Rattle.std.specs.Prelude.{flat_map, filter}
use Rattle.c_types.specs.Ordered.{globals_by}
use Rattle.unit_object.specs.Numbered as spec
use Rattle.unit_object.specs.Order.{chosen}
use Rattle.unit_object.proofs.OrderLaws.{chosen_by, defined_names_are}
use Rattle.unit_object.proofs.order.by_definition.Goals as goal

pub returns : goal.returns
returns c =
    ap (chosen c.args.globals.now) (c.in_ok-push_parts.ensures
    ∙ ap (λ l. l ++ spec.numbers_by c.args.filled c.args.globals.now c.args.names.now (flat_map spec.defined_by c.as_slice.result.now))
    c.new-numbers.ensures.items
    ∙ ap (λ l. spec.numbers_by c.args.filled c.args.globals.now l (flat_map spec.defined_by c.as_slice.result.now)) c.requires
    ∙ ap (λ l. spec.numbers_by c.args.filled c.args.globals.now (spec.global_names c.args.globals.now) (flat_map spec.defined_by l))
    c.as_slice.ensures)
    ∙ chosen_by c.args.filled c.args.globals.now (flat_map spec.defined_by c.args.program.now.items)
    ∙ ap (λ l. filter (spec.is_wanted c.args.filled) (globals_by l c.args.globals.now)) (sym (defined_names_are c.args.program.now))
