use Rattle.c_lex.proofs.LexLaws.{every_tokens, every_fault}
use Rattle.c_lex.proofs.tokens.lex.Goals as goal

pub returns-clause-all_tokens : goal.returns-clause-all_tokens
returns-clause-all_tokens c = every_tokens c.args.text.now c.lex_within.result c.lex_within.ensures.tokens c.lex_within.ensures.refused

pub returns-clause-first_fault : goal.returns-clause-first_fault
returns-clause-first_fault c = every_fault c.args.text.now c.lex_within.result c.lex_within.ensures.tokens c.lex_within.ensures.refused
