-- The program of a text, and the texts of the programs that are compiled today.
use Rattle.std.specs.Prelude.{◌≡◌, ◌≤◌, ℕ, List, length}
use Rattle.c_ast.specs.Seen.{all_seen}
use Rattle.c_ast.specs.declared.program.Program.{Program}
use Rattle.c_ast.specs.declared.token.Token.{Token}
use Rattle.c_lex.specs.Refusal.{text_limit}
use Rattle.c_lex.specs.Tokens.{Tokens}
use Rattle.c_parse.specs.Parsed.{SpellsWithin, limit}
use Rattle.mt_compile.specs.Constant.{IsConstantProgram}

-- the text is within the limit, and these are its tokens, wherever their bytes stand in memory
pub record HasTokens (text : List ℕ) (tokens : List Token) : Type 0 where
  pub within : length text ≤ text_limit
  pub are : Tokens text (all_seen tokens)

-- the tokens of the text spell this program within the limit of levels
pub record SpelledBy (text : List ℕ) (program : Program) : Type 0 where
  pub tokens : List Token
  pub held : HasTokens text tokens
  pub spells : SpellsWithin limit tokens program

-- the text spells a program that returns this constant
pub record ReturnsConstant (text : List ℕ) (n : ℕ) : Type 0 where
  pub program : Program
  pub spelled : SpelledBy text program
  pub constant : IsConstantProgram program n

-- the text returns this constant, and no other
pub record ReturnsOnly (text : List ℕ) (n : ℕ) : Type 0 where
  pub returns : ReturnsConstant text n
  pub only : (m : ℕ) → ReturnsConstant text m → m ≡ n
