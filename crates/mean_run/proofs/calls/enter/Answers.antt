use Rattle.std.proofs.Common.{◌∙◌, subst, Ok}
use Rattle.mean_run.specs.Calling.{EntryAnswer, function_by}
use Rattle.mean_run.proofs.calls.enter.Goals as goal

pub returns-in-Ok : goal.returns-in-Ok
returns-in-Ok c = λ here k now process.
    let f = function_by c.args.f in
    let p = c.args.p.now in
    c.enter_body.ensures here k now f process
    (subst (λ b. EntryAnswer (Ok c.in-Ok.e) here f p.now.calls b) (c.len.ensures ∙ p.locals.ok.0)
    (subst (λ r. EntryAnswer r here f p.now.calls c.len.result) c.in-Ok.is (c.entry.ensures here process.at.code)))

pub returns-in-Err : goal.returns-in-Err
returns-in-Err c = λ here k now process.
    let p = c.args.p.now in
    record {
      told = subst (λ r. EntryAnswer r here (function_by c.args.f) p.now.calls c.len.result) c.in-Err.is
          (c.entry.ensures here process.at.code) k c.args.values.now now;
    }
