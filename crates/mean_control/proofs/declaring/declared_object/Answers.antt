use Rattle.std.proofs.Common.{◌≡◌, ap, sym, ◌∙◌, Some, slice_get, option_copied}
use Rattle.mean_control.proofs.Declared.{object-declared}
use Rattle.mean_control.proofs.declaring.declared_object.Goals as goal

pub returns-in-Some-local_block : goal.returns-in-Some-local_block
returns-in-Some-local_block c = λ n here now of_here window shown.
    let is_local : slice_get c.args.h.locals.now c.args.d.now.local ≡ Some c.in-Some.info.now =
    sym c.at.ensures ∙ ap option_copied c.in-Some.is in
    object-declared c.args.d.now of_here is_local (c.in-Some-local_block.ensures here window) shown
