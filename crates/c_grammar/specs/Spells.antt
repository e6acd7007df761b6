-- Which tokens spell which program, and how deep it is (ISO C11 6.5 to 6.9, in part; the count of levels is this project's own).
use Rattle.std.specs.Prelude.{ℕ, List, ◌++◌}
use Rattle.c_ast.specs.Seen.{all_seen}
use Rattle.c_ast.specs.declared.token.Token.{Token}
use Rattle.c_ast.specs.declared.program.Program.{Program}
use Rattle.c_grammar.specs.Externals.{TranslationUnit}

-- the tokens spell the program, and its greatest level is the depth
abbrev pub Spells : List Token → Program → ℕ → Type 0
Spells tokens program depth = TranslationUnit depth program.items (all_seen tokens)

-- some list that starts with these tokens spells a program
pub record Begins (tokens : List Token) : Type 0 where
  pub more : List Token
  pub program : Program
  pub depth : ℕ
  pub spells : Spells (tokens ++ more) program depth
