use Rattle.c_lex.specs.Laws.EscapeLaws.{digits-fits}
use Rattle.c_lex.proofs.escape.escape.Goals as goal

pub returns-in-None-clause-within : goal.returns-in-None-clause-within
returns-in-None-clause-within c = rw c.digits_escape.ensures (digits-fits c.args.rest.now)
