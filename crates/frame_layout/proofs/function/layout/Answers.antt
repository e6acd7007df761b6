use Rattle.std.proofs.Common.{◌∙◌}
use Rattle.frame_layout.specs.Layouts.{IsLaid}
use Rattle.frame_layout.specs.Frames.{frame_by}
use Rattle.frame_layout.specs.WellFormed.{IsWellFormed}
use Rattle.frame_layout.proofs.PartTurns.{if_ok}
use Rattle.frame_layout.proofs.WholeFrames.{laid_well}
use Rattle.frame_layout.proofs.function.layout.Goals as goal

pub returns-in-Ok-clause-well_formed : goal.returns-in-Ok-clause-well_formed
returns-in-Ok-clause-well_formed c have =
    let s = c.args.structs.now in
    let f = c.args.function.now in
    let words = c.need_stmt.result in
    let ps = c.as_slice.result.now in
    if_ok c.frame_of.result (λ given. IsLaid given (frame_by words ps)) IsWellFormed
    (λ given found. laid_well s f c.requires.laid_out c.requires.objects have words ps given c.need_stmt.ensures
    (c.as_slice.ensures.value ∙ c.in-Ok.ensures.value) found)
    c.frame_of.ensures.laid
