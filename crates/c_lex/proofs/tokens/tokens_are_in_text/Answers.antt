use Rattle.c_lex.proofs.InText.{tokens-in_text}
use Rattle.c_lex.proofs.tokens.tokens_are_in_text.Goals as goal

pub returns : goal.returns
returns c = λ text tokens whole. tokens-in_text text tokens whole
