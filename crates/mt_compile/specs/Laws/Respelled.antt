-- The tokens of a text spell the same programs wherever their bytes stand in memory.
use Rattle.std.proofs.Common.{◌≡◌, ℕ, List}
use Rattle.c_ast.specs.Seen.{all_seen}
use Rattle.c_ast.specs.declared.program.Program.{Program}
use Rattle.c_ast.specs.declared.token.Token.{Token}
use Rattle.c_grammar.specs.Spells.{Spells}
use Rattle.c_lex.specs.Laws.TokenLaws.{read_one_way}
use Rattle.c_parse.specs.Laws.SeenPlaces.{spells_seen}
use Rattle.mt_compile.specs.Source.{HasTokens}

-- the tokens of one text are seen alike
pub same_seen : {text : List ℕ} {us ts : List Token} → HasTokens text us → HasTokens text ts → all_seen us ≡ all_seen ts
same_seen {text} {us} {ts} held other = (read_one_way text).one_list (all_seen us) (all_seen ts) held.are other.are

pub respelled : {text : List ℕ} {us ts : List Token} → HasTokens text us → HasTokens text ts → (program : Program) (depth : ℕ) →
    Spells us program depth → Spells ts program depth
respelled {text} {us} {ts} held other program depth spells = spells_seen us ts (same_seen held other) program depth spells
