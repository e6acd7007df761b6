use Rattle.std.proofs.Common.{flat_map, []}
use Rattle.mean_link.specs.Names.{object_name, function_name}
use Rattle.mean_link.proofs.Tables.{adds_two}
use Rattle.mean_link.proofs.names.global_names.Goals as goal

pub returns : goal.returns
returns c =
    let u = c.args.typed.now in
    adds_two [] c.add_objects.new.known c.add_functions.new.known (flat_map object_name u.globals) (flat_map function_name u.functions)
    (rw (c.new-known.ensures, c.as_slice.ensures) at c.in_ok-add_objects.ensures)
    (rw c.as_slice-2.ensures at c.in_ok-add_functions.ensures)
