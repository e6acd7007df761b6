-- The parser of statements (ISO C11 6.8), by the number of levels that may stand below the statement.
use Rattle.std.specs.Prelude.{◌≡◌, ℕ, zero, suc, ◌-◌, ◌≤◌, ◌||◌, Bool, true, false, nat_lt, if◌then◌else◌, List, [], ◌∷◌, Option, Some}
use Rattle.std.specs.Prelude.{None}
use Rattle.c_ast.specs.Seen.{Seen as Token}
use Rattle.c_ast.specs.declared.keyword.Keyword.TheVariants as key
use Rattle.c_ast.specs.declared.punctuator.Punctuator.{Punctuator}
use Rattle.c_ast.specs.declared.punctuator.Punctuator.TheVariants as mark
use Rattle.c_grammar.specs.Words.{span_of, keyword, punctuator}
use Rattle.c_grammar.specs.Statements as grammar
use Rattle.c_grammar.specs.Statements.{Place, Outside, InLoop, Ending, Open, Closed}
use Rattle.c_parse_base.specs.declared.fault.Fault.TheVariants.{Unexpected}
use Rattle.c_parse_base.specs.Reading.Answer.{Parser, Stuck, thens, makes, either, chain, optional}
use Rattle.c_parse_base.specs.Reading.Good.{Language}
use Rattle.c_parse_base.specs.Reading.Words as read
use Rattle.c_parse_base.specs.Reading.Words.{is, punct, among}
use Rattle.c_parse_expr.specs.declared.measured.Measured.{Measured}
use Rattle.c_parse_expr.specs.Reading.Expressions.{at}
use Rattle.c_parse_expr.specs.Reading.Levels.{begins, begin_words}
use Rattle.c_parse_base.specs.Reading.TypeNames.{begins_type}
use Rattle.c_parse_decl.specs.Reading.Objects.{local}
use Rattle.c_parse_stmt.specs.declared.block_read.BlockRead.{BlockRead}
use Rattle.c_parse_stmt.specs.declared.statement_read.StatementRead.{StatementRead}
use Rattle.c_parse_stmt.specs.declared.statement_read.ItemRead.{ItemRead}
use Rattle.c_parse_stmt.specs.declared.statement_read.ItemsRead.{ItemsRead}
use Rattle.c_parse_stmt.specs.declared.clause_read.MaybeRead.{MaybeRead}
use Rattle.c_parse_stmt.specs.declared.clause_read.FirstRead.{FirstRead}
use Rattle.c_parse_stmt.specs.declared.clause_read.ForHead.{ForHead}
use Rattle.c_parse_stmt.specs.Reading.Nodes.{written_of, left_out_of, first_local, first_expression, head_of, simple_of, return_of}
use Rattle.c_parse_stmt.specs.Reading.Nodes.{break_of, continue_of, while_of, do_of, for_of, Branches, if_of, local_item, statement_item}
use Rattle.c_parse_stmt.specs.Reading.Nodes.{no_items, with_item, block_of, compound_of}

abbrev pub Reader : Type 0
Reader = Parser Token StatementRead

abbrev pub BlockReader : Type 0
BlockReader = Parser Token BlockRead

abbrev pub Low : ℕ → StatementRead → Type 0
Low d v = v.height ≤ d

abbrev pub LowBlock : ℕ → BlockRead → Type 0
LowBlock d v = v.height ≤ d

-- ---- what is read

-- where a statement stands, by whether it is in a loop's body
abbrev pub placed : Bool → Place
placed true = InLoop
placed false = Outside

-- how a statement ends, by whether it is closed
abbrev pub ending : Bool → Ending
ending true = Closed
ending false = Open

abbrev pub StatementWord : Place → Language Token StatementRead
StatementWord q v w = grammar.Statement q (ending v.closed) v.height v.tree w

-- a block, and where it ends
pub record BlockIn (q : Place) (v : BlockRead) (w : List Token) : Type 0 where
  pub block : grammar.Block q v.height v.tree w
  pub end : v.end ≡ (span_of w).end

-- a block outside of loops
abbrev pub BlockWord : Language Token BlockRead
BlockWord v w = BlockIn Outside v w

-- ---- words

-- the words with which an expression or an empty statement begins
abbrev pub simple_words : List ℕ
simple_words = punctuator mark.Semicolon ∷ begin_words

-- likewise with `break` and `continue`, where they are spelled
abbrev pub last_words : Place → List ℕ
last_words Outside = simple_words
last_words InLoop = keyword key.Break ∷ keyword key.Continue ∷ simple_words

-- the words with which a statement begins
abbrev pub statement_words : Place → List ℕ
statement_words q = punctuator mark.LeftBrace ∷ keyword key.If ∷ keyword key.While ∷ keyword key.Do ∷ keyword key.For ∷ keyword
    key.Return ∷ last_words q

-- the tokens with which a statement begins that is no expression, `;`, `break` or `continue`
abbrev pub begins_first_statement : Token → Bool
begins_first_statement = among (punctuator mark.LeftBrace ∷ keyword key.If ∷ keyword key.While ∷ keyword key.Do ∷ keyword
    key.For ∷ keyword key.Return ∷ [])

abbrev pub begins_jump : Token → Bool
begins_jump = among (keyword key.Break ∷ keyword key.Continue ∷ [])

abbrev pub begins_last : Place → Token → Bool
begins_last q = among (last_words q)

abbrev pub begins_statement : Place → Token → Bool
begins_statement q = among (statement_words q)

-- the tokens with which a part of a block begins
abbrev pub begins_item : Place → Token → Bool
begins_item q t = begins_type t || begins_statement q t

-- ---- parts of statements

-- there are levels left
abbrev pub room : ℕ → Bool
room d = nat_lt 0 d

-- an expression of the level below
abbrev pub inner : ℕ → Parser Token Measured
inner d = (at (d - 1)).expression

-- "(" expr ")"
unfoldable pub condition : ℕ → Parser Token Measured
condition d = makes (λ c. c.1.0) (thens (punct mark.LeftParen) (λ _. thens (inner d) (λ _. punct mark.RightParen)))

-- [ expr ], and the token that closes it
unfoldable pub maybe : ℕ → Punctuator → Parser Token MaybeRead
maybe d p = either begins (room d) (makes written_of (thens (inner d) (λ _. punct p))) (makes left_out_of (punct p))

-- local | [ expr ] ";"
unfoldable pub first : ℕ → Parser Token FirstRead
first d = either begins_type (room d) (makes first_local (local (d - 1))) (makes first_expression (maybe d mark.Semicolon))

-- "(" ( local | [ expr ] ";" ) [ expr ] ";" [ expr ] ")"
unfoldable pub for_head : ℕ → Parser Token ForHead
for_head d = makes head_of (thens (punct mark.LeftParen) (λ _. thens (first d)
    (λ _. thens (maybe d mark.Semicolon) (λ _. maybe d mark.RightParen))))

-- "while" "(" expr ")" ";", behind a `do` and its statement
unfoldable pub do_tail : ℕ → Parser Token Measured
do_tail d = makes (λ c. c.1.0) (thens (read.key key.While) (λ _. thens (condition d) (λ _. punct mark.Semicolon)))

-- [ expr ] ";"
unfoldable pub simple : ℕ → Reader
simple d = makes simple_of (maybe d mark.Semicolon)

-- "return" [ expr ] ";"
unfoldable pub returned : ℕ → Reader
returned d = makes return_of (thens (read.key key.Return) (λ _. maybe d mark.Semicolon))

-- "break" ";"
unfoldable pub broken : Reader
broken = makes break_of (thens (read.key key.Break) (λ _. punct mark.Semicolon))

-- "continue" ";"
unfoldable pub continued : Reader
continued = makes continue_of (thens (read.key key.Continue) (λ _. punct mark.Semicolon))

-- "continue" ";" | [ expr ] ";"
unfoldable pub continued_or : ℕ → Reader
continued_or d = either (is (keyword key.Continue)) true continued (simple d)

-- [ expr ] ";", and in a loop's body `break` and `continue`
unfoldable pub last : ℕ → Place → Reader
last d Outside = simple d
last d InLoop = either (is (keyword key.Break)) true broken (continued_or d)

-- ---- statements

-- there is no `else` yet, and the statement of the `if` is closed
abbrev takes_at : Measured × StatementRead → Option StatementRead → Bool
takes_at c None = c.1.closed
takes_at c (Some o) = false

abbrev pub takes_else : Branches → Bool
takes_else b = takes_at b.0 b.1

-- there is always room for an `else`
abbrev pub free : Branches → Bool
free b = true

module _ (d : ℕ) (below : Place → Reader) where
  -- "if" "(" expr ")" stmt
  unfoldable pub if_head : Place → Parser Token Branches
  if_head q = makes (λ c. (c.1, None)) (thens (read.key key.If) (λ _. thens (condition d) (λ _. below q)))

  -- "else" stmt
  unfoldable pub if_tail : Place → Branches → Parser Token Branches
  if_tail q b = makes (λ c. (b.0, Some c.1)) (thens (read.key key.Else) (λ _. below q))

  -- "if" "(" expr ")" stmt [ "else" stmt ]
  unfoldable pub if_statement : Place → Reader
  if_statement q = makes if_of (optional (is (keyword key.Else)) takes_else free (if_head q) (if_tail q))

  -- "while" "(" expr ")" stmt
  unfoldable pub while_loop : Reader
  while_loop = makes while_of (thens (read.key key.While) (λ _. thens (condition d) (λ _. below InLoop)))

  -- "do" stmt "while" "(" expr ")" ";"
  unfoldable pub do_loop : Reader
  do_loop = makes do_of (thens (read.key key.Do) (λ _. thens (below InLoop) (λ _. do_tail d)))

  -- "for" and what stands in its parentheses, and the body
  unfoldable pub for_loop : Reader
  for_loop = makes for_of (thens (read.key key.For) (λ _. thens (for_head d) (λ _. below InLoop)))

  -- local | stmt
  unfoldable pub item : Place → Parser Token ItemRead
  item q = either begins_type true (makes local_item (local (d - 1))) (makes statement_item (below q))

  -- one more part
  unfoldable pub further : Place → ItemsRead → Parser Token ItemsRead
  further q a = makes (with_item a) (item q)

  -- "{" { item }
  unfoldable pub items : Place → Parser Token ItemsRead
  items q = chain (begins_item q) (λ _. room d) (makes no_items (punct mark.LeftBrace)) (further q)

  -- "{" { item } "}"
  unfoldable pub block_in : Place → BlockReader
  block_in q = makes block_of (thens (items q) (λ _. punct mark.RightBrace))

  -- a block as a statement
  unfoldable pub compound : Place → Reader
  compound q = makes compound_of (block_in q)

  -- the choices behind the first one, in turn
  unfoldable pub return_or : Place → Reader
  return_or q = either (is (keyword key.Return)) true (returned d) (last d q)

  unfoldable pub for_or : Place → Reader
  for_or q = either (is (keyword key.For)) (room d) for_loop (return_or q)

  unfoldable pub do_or : Place → Reader
  do_or q = either (is (keyword key.Do)) (room d) do_loop (for_or q)

  unfoldable pub while_or : Place → Reader
  while_or q = either (is (keyword key.While)) (room d) while_loop (do_or q)

  unfoldable pub if_or : Place → Reader
  if_or q = either (is (keyword key.If)) (room d) (if_statement q) (while_or q)

  -- block | [ expr ] ";" | `if`, a loop, `return`, `break` or `continue`
  unfoldable pub statement : Place → Reader
  statement q = either (is (punctuator mark.LeftBrace)) true (compound q) (if_or q)

-- the parsers of one level less than this many
unfoldable pub under : ℕ → Place → Reader
under zero = λ q ts. Stuck Unexpected ts
under (suc d) = statement d (under d)

-- a block outside of loops
unfoldable pub block : ℕ → BlockReader
block d = block_in d (under d) Outside
