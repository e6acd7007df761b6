use Rattle.c_types.proofs.program.check.Goals as goal

pub returns-in-Ok-walked : goal.returns-in-Ok-walked
returns-in-Ok-walked c =
    let a = c.answer.ensures c.args.program.now c.in-Ok.ensures (rw c.in-Ok.ensures at c.in-Ok-walked.ensures) in
    record { typed = a.typed; refused = a.refused; all = a.all; first_broken = a.first_broken }
