use Rattle.std.proofs.Common.{sym, subst, []}
use Rattle.std.proofs.lemmas.Result.{on_ok_weaker}
use Rattle.mean_run.specs.Entering.{Made}
use Rattle.mean_expressions.specs.Stacked.{numbers_of}
use Rattle.mean_run.proofs.locals.open.Goals as goal

pub returns-in-Block : goal.returns-in-Block
returns-in-Block c = on_ok_weaker c.open_items.result (λ each o made.
    subst (λ d. Made c.args.h o (numbers_of d) c.open_items.new.n c.open_items.new.locals) (sym c.in-Block.is) (each o [] made))
    c.open_items.ensures

pub returns-in-For : goal.returns-in-For
returns-in-For c = on_ok_weaker c.open_declared.result (λ each o made.
    subst (λ d. Made c.args.h o (numbers_of d) c.open_declared.new.n c.open_declared.new.locals) (sym c.in-For.is) (each o [] made))
    c.open_declared.ensures
