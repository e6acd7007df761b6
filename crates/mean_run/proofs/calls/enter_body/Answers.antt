use Rattle.std.proofs.Common.{sym, ap, ◌∙◌}
use Rattle.c_type_base.specs.declared.statement.TItem.TheOpen.{TStmt-F}
use Rattle.mean_run.specs.Calling.{Request}
use Rattle.mean_run.specs.Laws.Calls.{moves-started}
use Rattle.mean_run.specs.Laws.Scopes.{block-opened}
use Rattle.mean_run.proofs.calls.enter_body.Goals as goal

pub returns-in-Ok : goal.returns-in-Ok
returns-in-Ok c = λ here k now f process i.
    let p = c.args.p.now in
    let q : Request = record { here = here; function = f; values = c.args.values.now; items = c.as_slice-items.result.now; now = now } in
    let s = c.in-Ok.ensures here f now process.shown i (block-opened c.in-Block.is ∙ ap TStmt-F.Block (sym c.as_slice-items.ensures)) in
    moves-started k s (c.run_body.ensures q p.locals.items k s process.at process.stack)
