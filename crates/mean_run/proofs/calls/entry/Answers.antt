use Rattle.std.proofs.Common.{refl, sym}
use Rattle.mean_run.specs.Calling.{function_by}
use Rattle.mean_run.specs.Laws.Calls.{entry-at, entry-deep}
use Rattle.mean_run.proofs.calls.entry.Goals as goal

pub returns-in-Some-place_of : goal.returns-in-Some-place_of
returns-in-Some-place_of c = λ here of_here.
    let fits = c.in-Some-place_of.ensures in
    entry-at c.args.h here c.in-Some.file.now _ (function_by c.args.f) c.in-Some-at.bytes.now _ _ of_here (sym c.in-Some.ensures)
    (sym c.in-Some-get.ensures.value) (sym c.in-Some-at.ensures) fits.0 fits.1 refl c.as_slice.ensures c.as_slice-in-Some-place_of.ensures

pub returns-in-None : goal.returns-in-None
returns-in-None c = λ here of_here k vs now.
    entry-deep c.args.h here c.in-Some.file.now (function_by c.args.f) c.in-Some-get.function.now c.in-Some-at.bytes.now k vs now of_here
    (sym c.in-Some.ensures) (sym c.in-Some-get.ensures.value) (sym c.in-Some-at.ensures) c.in-None.ensures
