use Rattle.std.proofs.Common.{refl}
use Rattle.gen_unit.specs.declared.output.Output.{Output}
use Rattle.gen_unit.proofs.Functions.{code_by, parts_of_functions}
use Rattle.gen_unit.proofs.units.code_of.Goals as goal

pub returns : goal.returns
returns c =
    let old : Output = record { words = c.new.result; relocs = c.new-2.result } in
    code_by c.args.typed.now old c.push_functions.new.out c.push_functions.new.places.items _ c.new.ensures.items
    c.new-2.ensures.items
    (parts_of_functions c.args.typed.now.structs c.as_slice.result.now c.args.typed.now.functions old c.new-functions.result.items
    c.push_functions.new.out c.push_functions.new.places.items c.as_slice.ensures c.new-functions.ensures.items
    c.in_ok-push_functions.ensures)
    refl refl refl
