use Rattle.std.proofs.Common.{subst, sym}
use Rattle.mt_compile.specs.Typed.{IsTypeCause}
use Rattle.mt_compile.proofs.Causes.{types_unread, types_cause}
use Rattle.mt_compile.proofs.typed.typed_of.Goals as goal

-- the text spells no program that is read
pub returns-in-Err-clause-refused : goal.returns-in-Err-clause-refused
returns-in-Err-clause-refused c = types_unread c.args.text.now c.in-Err.refused c.in-Err.ensures.refused

-- its program keeps the rules
pub returns-in-Ok-check-clause-typed : goal.returns-in-Ok-check-clause-typed
returns-in-Ok-check-clause-typed c =
    record { program = c.in-Ok.program; spelled = c.in-Ok.ensures.spelled; well = c.in-Ok-check.ensures.typed }

-- or breaks one
pub returns-clause-refused : goal.returns-clause-refused
returns-clause-refused c =
    subst (λ r. IsTypeCause c.args.text.now r) (sym c.of_types.ensures)
    (types_cause c.args.text.now c.in-Ok.program c.in-Err-check.refusal c.in-Ok.ensures.spelled c.in-Err-check.ensures.refused)
