use Rattle.std.proofs.Common.{sym, ◌∙◌, subst, ap, []}
use Rattle.std.proofs.lemmas.List.{with_items_is}
use Rattle.block_meaning.specs.Meaning.{with_arguments}
use Rattle.block_meaning.specs.Running.{Goes}
use Rattle.mean_run.specs.Calling.{Started, next_call, origin_of}
use Rattle.mean_run.specs.Entering.{Origin, Made, Passed}
use Rattle.mean_run.specs.Laws.Arguments.{passed-none}
use Rattle.mean_run.specs.Laws.Calls.{started-from}
use Rattle.mean_run.specs.Laws.Scopes.{made-none}
use Rattle.mean_run.proofs.calls.start.Goals as goal

pub returns : goal.returns
returns c = λ here f now shown i body.
    let e = c.args.e in
    let o = origin_of here (next_call here f c.args.n.now.calls i.bytes) c.args.locals.now.items now in
    let n = c.count_call.new.n in
    let counted = c.in_ok-count_call.ensures.now in
    let none : Passed e.here o (Goes o.here o.start) n c.count_call.new.locals.items =
    subst (Passed e.here o (Goes o.here o.start) n) (sym c.in_ok-count_call.ensures.locals)
    (passed-none n _ i shown (ap (λ x. x.memory) counted) (ap (λ x. x.work) counted) (ap (λ x. x.calls) counted)) in
    let passed = subst
    (λ ls. Passed e.here o (with_arguments o.here 0 ls c.args.values.now o.start) c.pass.new.n c.pass.new.locals.items)
    c.parameters-parameters.ensures (c.in_ok-pass.ensures o none) in
    let r = passed.reached in
    let inner : Origin = record { here = r.inner; locals = c.pass.new.locals.items; start = r.after } in
    let made = c.in_ok-open_items.ensures inner [] (subst (Made e.here inner [] c.pass.new.n) (sym c.deref_mut.ensures.value)
    (made-none r.call r.at r.runs r.shown)) in
    subst (Started e (record { here = here; function = f; values = c.args.values.now; items = c.args.items.now; now = now })
    c.args.locals.now.items c.open_items.new.n)
    (sym (with_items_is c.pass.new.locals c.open_items.new.locals (c.open_items.auto.locals ∙ c.deref_mut.ensures.len)))
    (started-from c.args.n.now.calls i shown.calls body passed made)
