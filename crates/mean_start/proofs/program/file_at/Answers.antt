use Rattle.std.proofs.Common.{refl, sym, ap, ◌≡◌, Some, length}
use Rattle.std.specs.Prelude.{slice_get}
use Rattle.std.proofs.lemmas.Option.{slice_get_read}
use Rattle.block_meaning.specs.Linkage.{structs_in}
use Rattle.mean_start.proofs.Filing.{file_by}
use Rattle.mean_start.proofs.program.file_at.Goals as goal

pub returns : goal.returns
returns c =
    let units = c.args.units.now in
    let u = c.index-units-unit.result in
    let at : slice_get units c.args.unit ≡ Some u =
    slice_get_read units (length units) c.args.unit u refl c.requires.within c.index-units-unit.is in
    file_by units c.args.unit _ at c.requires.starts.objects c.requires.starts.texts c.requires.starts.functions
    (c.in_ok-externs.ensures c.args.unit (sym (ap structs_in at)))
