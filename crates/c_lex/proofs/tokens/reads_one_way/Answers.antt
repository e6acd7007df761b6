use Rattle.c_lex.specs.Laws.TokenLaws.{read_one_way}
use Rattle.c_lex.proofs.tokens.reads_one_way.Goals as goal

pub returns : goal.returns
returns c = λ text. read_one_way text
