use Rattle.std.proofs.Common.{sym, ap, ◌∙◌}
use Rattle.std.specs.List.{position_from}
use Rattle.std.proofs.lemmas.Result.{on_ok_weaker}
use Rattle.block_meaning.specs.Linkage.{object_block, code_block, or_definition, object_at, is_object_named}
use Rattle.mean_start.proofs.Naming.{file_defined}
use Rattle.mean_start.proofs.names.add_file.Goals as goal

pub returns : goal.returns
returns c = on_ok_weaker c.add_functions.result (λ added units found start knows.
    let k = c.in_ok-unit.unit in
    let same = c.in_ok-unit.ensures in
    let os = c.as_slice.result.now in
    file_defined c.add_functions.new.names units found k c.args.unit c.args.typed.now os c.as_slice-2.result.now same
    c.as_slice.ensures c.as_slice-2.ensures
    (added units (λ n. or_definition (found n) (object_at k (position_from (is_object_named n) 0 os)))
    (start.functions ∙ ap (λ j. code_block units j 0) (sym same))
    (c.in_ok-add_objects.ensures units found (start.objects ∙ ap (λ j. object_block units j 0) (sym same)) knows))) c.add_functions.ensures
