use Rattle.std.proofs.Common.{Err, inr, subst, sym}
use Rattle.c_parse.specs.Parsed.{Parsed, limit}
use Rattle.c_parse.specs.declared.refusal.ParseRefusal.TheVariants.{Unexpected, TooDeep}
use Rattle.mt_compile.specs.declared.refusal.CompileRefusal.TheVariants.{Parse}
use Rattle.mt_compile.specs.Refused.{ReadRefuses, unexpected, too_deep}
use Rattle.mt_compile.proofs.refusal.CompileRefusal.of_tokens.Goals as goal

pub returns-in-Unexpected : goal.returns-in-Unexpected
returns-in-Unexpected c =
    let first = subst (λ r. Parsed limit c.args.tokens.now (Err r)) c.in-Unexpected.is c.requires.cause in
    inr (subst (λ b. ReadRefuses c.args.text.now (Parse (Unexpected c.in-Unexpected.place)) b) (sym c.byte_at.ensures)
    (unexpected c.requires.held first))

pub returns-in-TooDeep : goal.returns-in-TooDeep
returns-in-TooDeep c =
    let first = subst (λ r. Parsed limit c.args.tokens.now (Err r)) c.in-TooDeep.is c.requires.cause in
    inr (subst (λ b. ReadRefuses c.args.text.now (Parse (TooDeep c.in-TooDeep.place)) b) (sym c.byte_at-in-TooDeep.ensures)
    (too_deep c.requires.held first))
