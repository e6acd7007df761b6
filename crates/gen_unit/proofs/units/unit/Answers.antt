use Rattle.gen_unit.proofs.Refused.{refused_so, not_refused}
use Rattle.gen_unit.proofs.units.unit.Goals as goal

pub returns-in-Err-clause-refuses : goal.returns-in-Err-clause-refuses
returns-in-Err-clause-refuses c = refused_so c.args.typed.now c.in-Err.refusal c.in-Err.ensures.refused

pub returns-in-Ok-code_of-clause-refuses : goal.returns-in-Ok-code_of-clause-refuses
returns-in-Ok-code_of-clause-refuses c = λ fault h. absurd (not_refused c.args.typed.now _ c.in-Ok.ensures.found fault h)
