-- What the code of the parser needs of the parser.
use Rattle.std.specs.Prelude.{◌≡◌, ℕ, zero, suc, ◌-◌, ◌<◌, ◌≤◌, Bool, true, false, List, length, Some, None, refl}
use Rattle.std.proofs.Common.{◌∙◌, ap, arith}
use Rattle.c_ast.specs.declared.token.Span.{Span}
use Rattle.c_ast.specs.Seen.{Seen as Token}
use Rattle.c_ast.specs.declared.keyword.Keyword.{Keyword}
use Rattle.c_ast.specs.declared.keyword.Keyword.TheVariants as key
use Rattle.c_ast.specs.declared.punctuator.Punctuator.TheVariants as mark
use Rattle.c_grammar.specs.Words.{keyword, punctuator}
use Rattle.c_grammar.specs.Statements.{Place, Outside, InLoop}
use Rattle.c_parse_base.specs.declared.fault.Fault.TheVariants.{Unexpected, TooDeep}
use Rattle.c_parse_base.specs.Reading.Answer.{Parser, Read, Stuck, and_then, thens, makes, repeats, turns, follows, sees}
use Rattle.c_parse_base.specs.Reading.Good.{Good}
use Rattle.c_parse_base.specs.Laws.ChainLaws.{MayTurn}
use Rattle.c_parse_base.specs.Laws.LoopLaws.{Loop, left}
use Rattle.c_parse_base.specs.Laws.OptionalLaws.{follows_stop, follows_wrong, follows_part}
use Rattle.c_parse_base.specs.Reading.Answers.{rest_of}
use Rattle.c_parse_base.specs.Laws.AnswerLaws.{either_one, either_deep, either_other}
use Rattle.c_parse_base.specs.Reading.Words as read
use Rattle.c_parse_base.specs.Reading.Words.{is, punct}
use Rattle.c_parse_expr.specs.declared.measured.Measured.{Measured}
use Rattle.c_parse_base.specs.Reading.TypeNames.{begins_type}
use Rattle.c_parse_decl.specs.Reading.Objects.{local}
use Rattle.c_parse_stmt.specs.declared.statement_read.StatementRead.{StatementRead}
use Rattle.c_parse_stmt.specs.declared.statement_read.ItemRead.{ItemRead}
use Rattle.c_parse_stmt.specs.declared.statement_read.ItemsRead.{ItemsRead}
use Rattle.c_parse_stmt.specs.Reading.Nodes.{while_made, while_of, do_made, do_of, for_made, for_of, Branches, if_of, local_item}
use Rattle.c_parse_stmt.specs.Reading.Nodes.{statement_item, empty_items, no_items, with_item, block_of, compound_of}
use Rattle.c_parse_stmt.specs.Reading.Statements.{Reader, begins_item, room, condition, for_head, do_tail, returned, last, takes_else}
use Rattle.c_parse_stmt.specs.Reading.Statements.{free, if_head, if_tail, if_statement, while_loop, do_loop, for_loop, item, further}
use Rattle.c_parse_stmt.specs.Reading.Statements.{items, block_in, compound, return_or, for_or, do_or, while_or, if_or, statement, under}
use Rattle.c_parse_stmt.specs.Reading.Statements.{block}
use Rattle.c_parse_stmt.specs.Laws.BlockLaws.{Further, LowItems}
use Rattle.c_parse_stmt.specs.Laws.StatementLaws.{else_on, further_good, under_good}
use Rattle.c_parse_stmt.specs.Laws.WordCode.{keyed_makes}
use Rattle.c_parse_stmt.specs.Laws.Room.{has_room, no_room}

-- the parsers of the level below
under_is : (d : ℕ) → 0 < d → under d ≡ statement (d - 1) (under (d - 1))
unfolding under
under_is zero h = absurd (omega arith)
under_is (suc d) h = let same : d ≡ suc d - 1 = omega arith in ap (λ d. statement d (under d)) same

-- a statement of the level below
abbrev pub lower : ℕ → Place → Reader
lower d = statement (d - 1) (under (d - 1))

-- ---- `if`

-- "(" expr ")" stmt, at this depth
unfoldable pub headed : ℕ → Place → Parser Token (Measured × StatementRead)
headed d q = thens (condition d) (λ _. lower d q)

pub headed_is : (d : ℕ) (q : Place) (ts : List Token) → headed d q ts ≡ thens (condition d) (λ _. lower d q) ts
unfolding headed
headed_is d q ts = refl

-- what may follow the statement of an `if`
unfoldable pub else_follows : ℕ → Place → Branches → Parser Token Branches
else_follows d q = follows (is (keyword key.Else)) takes_else free (if_tail d (under d) q)

abbrev pub alone : Measured × StatementRead → Branches
alone c = (c, None)

head_is : (d : ℕ) (q : Place) (ts : List Token) → 0 < d → sees (is (keyword key.If)) ts ≡ true →
    if_head d (under d) q ts ≡ makes alone (headed d q) (rest_of ts)
unfolding if_head headed
head_is d q ts h e = ap (λ (x : Place → Reader). makes (λ (c : Span × (Measured × StatementRead)). alone c.1)
    (thens (read.key key.If) (λ _. thens (condition d) (λ _. x q))) ts) (under_is d h)
    ∙ keyed_makes key.If (thens (condition d) (λ _. lower d q)) (λ c. alone c.1) ts e

pub if_is : (d : ℕ) (q : Place) (ts : List Token) → 0 < d → sees (is (keyword key.If)) ts ≡ true →
    if_statement d (under d) q ts ≡ and_then (and_then (makes alone (headed d q) (rest_of ts)) (else_follows d q))
    (λ b us. Read (if_of b) us)
unfolding if_statement else_follows
if_is d q ts h e = ap (λ o. and_then (and_then o (follows (is (keyword key.Else)) takes_else free (if_tail d (under d) q)))
    (λ b us. Read (if_of b) us)) (head_is d q ts h e)

pub else_none : (d : ℕ) (q : Place) (b : Branches) (ts : List Token) → sees (is (keyword key.Else)) ts ≡ false →
    else_follows d q b ts ≡ Read b ts
unfolding else_follows
else_none d q b ts e = follows_stop (is (keyword key.Else)) takes_else free (if_tail d (under d) q) b ts e

pub else_wrong : (d : ℕ) (q : Place) (c : Measured × StatementRead) (ts : List Token) → sees (is (keyword key.Else)) ts ≡ true →
    c.1.closed ≡ false → else_follows d q (alone c) ts ≡ Stuck Unexpected ts
unfolding else_follows
else_wrong d q c ts e n = follows_wrong (is (keyword key.Else)) takes_else free (if_tail d (under d) q) (alone c) ts e n

abbrev pub both : Measured × StatementRead → StatementRead → Branches
both c o = (c, Some o)

pub else_read : (d : ℕ) (q : Place) (c : Measured × StatementRead) (ts : List Token) → 0 < d → sees (is (keyword key.Else)) ts ≡ true →
    c.1.closed ≡ true →
    else_follows d q (alone c) ts ≡ makes (both c) (lower d q) (rest_of ts)
unfolding else_follows if_tail
else_read d q c ts h e y = follows_part (is (keyword key.Else)) takes_else free (if_tail d (under d) q) (alone c) ts e y refl
    ∙ ap (λ (x : Place → Reader). makes (λ (k : Span × StatementRead). both c k.1) (thens (read.key key.Else) (λ _. x q)) ts) (under_is d h)
    ∙ keyed_makes key.Else (lower d q) (λ k. both c k.1) ts e

-- ---- loops

pub while_is : (d : ℕ) (ts : List Token) → 0 < d → sees (is (keyword key.While)) ts ≡ true →
    while_loop d (under d) ts ≡ makes while_made (headed d InLoop) (rest_of ts)
unfolding while_loop headed
while_is d ts h e = ap (λ (x : Place → Reader). makes while_of
    (thens (read.key key.While) (λ _. thens (condition d) (λ _. x InLoop))) ts) (under_is d h)
    ∙ keyed_makes key.While (thens (condition d) (λ _. lower d InLoop)) while_of ts e

pub do_is : (d : ℕ) (ts : List Token) → 0 < d → sees (is (keyword key.Do)) ts ≡ true →
    do_loop d (under d) ts ≡ makes do_made (thens (lower d InLoop) (λ _. do_tail d)) (rest_of ts)
unfolding do_loop
do_is d ts h e = ap (λ (x : Place → Reader). makes do_of (thens (read.key key.Do) (λ _. thens (x InLoop) (λ _. do_tail d))) ts)
    (under_is d h)
    ∙ keyed_makes key.Do (thens (lower d InLoop) (λ _. do_tail d)) do_of ts e

pub for_is : (d : ℕ) (ts : List Token) → 0 < d → sees (is (keyword key.For)) ts ≡ true →
    for_loop d (under d) ts ≡ makes for_made (thens (for_head d) (λ _. lower d InLoop)) (rest_of ts)
unfolding for_loop
for_is d ts h e = ap (λ (x : Place → Reader). makes for_of (thens (read.key key.For) (λ _. thens (for_head d) (λ _. x InLoop))) ts)
    (under_is d h)
    ∙ keyed_makes key.For (thens (for_head d) (λ _. lower d InLoop)) for_of ts e

-- ---- blocks

abbrev item_declared : ℕ → Parser Token ItemRead
item_declared d = makes local_item (local (d - 1))

abbrev item_stated : ℕ → Place → Parser Token ItemRead
item_stated d q = makes statement_item (under d q)

pub item_local : (d : ℕ) (q : Place) (ts : List Token) → sees begins_type ts ≡ true →
    item d (under d) q ts ≡ makes local_item (local (d - 1)) ts
unfolding item
item_local d q ts e = either_one begins_type true (item_declared d) (item_stated d q) ts e refl

pub item_statement : (d : ℕ) (q : Place) (ts : List Token) → 0 < d → sees begins_type ts ≡ false →
    item d (under d) q ts ≡ makes statement_item (lower d q) ts
unfolding item
item_statement d q ts h e = either_other begins_type true (item_declared d) (item_stated d q) ts e
    ∙ ap (λ (x : Place → Reader). makes statement_item (x q) ts) (under_is d h)

-- a further part
abbrev pub further_item : ℕ → Place → Loop Token ItemsRead
further_item d q = record { test = λ _. begins_item q; room = λ _. room d; step = further d (under d) q }

pub items_chain : (d : ℕ) (q : Place) (ts : List Token) → items d (under d) q ts ≡ and_then (makes no_items (punct mark.LeftBrace) ts)
    (left (further_item d q))
unfolding items left
items_chain d q ts = refl

pub item_good : (d : ℕ) (q : Place) (a : ItemsRead) → MayTurn (LowItems d) (λ _. room d) a →
    Good (further d (under d) q a) (Further q a) (LowItems d) (begins_item q) else_on
item_good d q = further_good d (under d) (under_good d) q

pub may_item : (d : ℕ) (a : ItemsRead) → 0 < d → a.height ≤ d → MayTurn (LowItems d) (λ _. room d) a
may_item d a h low = record { fits = low; has_room = has_room d h }

pub further_is : (d : ℕ) (q : Place) (a : ItemsRead) (ts : List Token) →
    further d (under d) q a ts ≡ makes (with_item a) (item d (under d) q) ts
unfolding further
further_is d q a ts = refl

pub further_read : (d : ℕ) (q : Place) (a : ItemsRead) (i : ItemRead) (ts us : List Token) → item d (under d) q ts ≡ Read i us →
    further d (under d) q a ts ≡ Read (with_item a i) us
further_read d q a i ts us e = further_is d q a ts ∙ ap (λ o. and_then o (λ i us. Read (with_item a i) us)) e

pub block_in_is : (d : ℕ) (q : Place) (ts : List Token) → block_in d (under d) q ts ≡ makes block_of
    (thens (items d (under d) q) (λ _. punct mark.RightBrace)) ts
unfolding block_in
block_in_is d q ts = refl

pub compound_is : (d : ℕ) (q : Place) (ts : List Token) → compound d (under d) q ts ≡ makes compound_of (block_in d (under d) q) ts
unfolding compound
compound_is d q ts = refl

pub block_is : (d : ℕ) (ts : List Token) → block d ts ≡ block_in d (under d) Outside ts
unfolding block
block_is d ts = refl

-- ---- the choice of a statement

abbrev at_key : Keyword → List Token → Bool
at_key k ts = sees (is (keyword k)) ts

pub statement_brace : (d : ℕ) (q : Place) (ts : List Token) → sees (is (punctuator mark.LeftBrace)) ts ≡ true →
    statement d (under d) q ts ≡ compound d (under d) q ts
unfolding statement
statement_brace d q ts e = either_one (is (punctuator mark.LeftBrace)) true (compound d (under d) q) (if_or d (under d) q) ts e refl

no_brace : (d : ℕ) (q : Place) (ts : List Token) → sees (is (punctuator mark.LeftBrace)) ts ≡ false →
    statement d (under d) q ts ≡ if_or d (under d) q ts
unfolding statement
no_brace d q ts e = either_other (is (punctuator mark.LeftBrace)) true (compound d (under d) q) (if_or d (under d) q) ts e

pub statement_if : (d : ℕ) (q : Place) (ts : List Token) → sees (is (punctuator mark.LeftBrace)) ts ≡ false → at_key key.If ts ≡ true →
    0 < d →
    statement d (under d) q ts ≡ if_statement d (under d) q ts
unfolding if_or
statement_if d q ts n e h = no_brace d q ts n ∙ either_one (is (keyword key.If)) (room d) (if_statement d (under d) q)
    (while_or d (under d) q) ts e (has_room d h)

pub statement_if_deep : (d : ℕ) (q : Place) (ts : List Token) → sees (is (punctuator mark.LeftBrace)) ts ≡ false →
    at_key key.If ts ≡ true → d ≡ 0 → statement d (under d) q ts ≡ Stuck TooDeep ts
unfolding if_or
statement_if_deep d q ts n e z = no_brace d q ts n ∙ either_deep (is (keyword key.If)) (room d) (if_statement d (under d) q)
    (while_or d (under d) q) ts e (no_room d z)

pub statement_other : (d : ℕ) (q : Place) (ts : List Token) → sees (is (punctuator mark.LeftBrace)) ts ≡ false →
    at_key key.If ts ≡ false → statement d (under d) q ts ≡ while_or d (under d) q ts
unfolding if_or
statement_other d q ts n e = no_brace d q ts n ∙ either_other (is (keyword key.If)) (room d) (if_statement d (under d) q)
    (while_or d (under d) q) ts e

pub or_while : (d : ℕ) (q : Place) (ts : List Token) → at_key key.While ts ≡ true → 0 < d →
    while_or d (under d) q ts ≡ while_loop d (under d) ts
unfolding while_or
or_while d q ts e h = either_one (is (keyword key.While)) (room d) (while_loop d (under d)) (do_or d (under d) q) ts e (has_room d h)

pub or_while_deep : (d : ℕ) (q : Place) (ts : List Token) → at_key key.While ts ≡ true → d ≡ 0 →
    while_or d (under d) q ts ≡ Stuck TooDeep ts
unfolding while_or
or_while_deep d q ts e z = either_deep (is (keyword key.While)) (room d) (while_loop d (under d)) (do_or d (under d) q) ts e (no_room d z)

no_while : (d : ℕ) (q : Place) (ts : List Token) → at_key key.While ts ≡ false → while_or d (under d) q ts ≡ do_or d (under d) q ts
unfolding while_or
no_while d q ts e = either_other (is (keyword key.While)) (room d) (while_loop d (under d)) (do_or d (under d) q) ts e

pub or_do : (d : ℕ) (q : Place) (ts : List Token) → at_key key.While ts ≡ false → at_key key.Do ts ≡ true → 0 < d →
    while_or d (under d) q ts ≡ do_loop d (under d) ts
unfolding do_or
or_do d q ts n e h = no_while d q ts n ∙ either_one (is (keyword key.Do)) (room d) (do_loop d (under d)) (for_or d (under d) q) ts e
    (has_room d h)

pub or_do_deep : (d : ℕ) (q : Place) (ts : List Token) → at_key key.While ts ≡ false → at_key key.Do ts ≡ true → d ≡ 0 →
    while_or d (under d) q ts ≡ Stuck TooDeep ts
unfolding do_or
or_do_deep d q ts n e z = no_while d q ts n ∙ either_deep (is (keyword key.Do)) (room d) (do_loop d (under d))
    (for_or d (under d) q) ts e (no_room d z)

no_do : (d : ℕ) (q : Place) (ts : List Token) → at_key key.While ts ≡ false → at_key key.Do ts ≡ false →
    while_or d (under d) q ts ≡ for_or d (under d) q ts
unfolding do_or
no_do d q ts n e = no_while d q ts n ∙ either_other (is (keyword key.Do)) (room d) (do_loop d (under d)) (for_or d (under d) q) ts e

pub or_for : (d : ℕ) (q : Place) (ts : List Token) → at_key key.While ts ≡ false → at_key key.Do ts ≡ false → at_key key.For ts ≡ true →
    0 < d → while_or d (under d) q ts ≡ for_loop d (under d) ts
unfolding for_or
or_for d q ts n m e h = no_do d q ts n m ∙ either_one (is (keyword key.For)) (room d) (for_loop d (under d))
    (return_or d (under d) q) ts e (has_room d h)

pub or_for_deep : (d : ℕ) (q : Place) (ts : List Token) → at_key key.While ts ≡ false → at_key key.Do ts ≡ false →
    at_key key.For ts ≡ true → d ≡ 0 → while_or d (under d) q ts ≡ Stuck TooDeep ts
unfolding for_or
or_for_deep d q ts n m e z = no_do d q ts n m ∙ either_deep (is (keyword key.For)) (room d) (for_loop d (under d))
    (return_or d (under d) q) ts e (no_room d z)

no_for : (d : ℕ) (q : Place) (ts : List Token) → at_key key.While ts ≡ false → at_key key.Do ts ≡ false → at_key key.For ts ≡ false →
    while_or d (under d) q ts ≡ return_or d (under d) q ts
unfolding for_or
no_for d q ts n m e = no_do d q ts n m ∙ either_other (is (keyword key.For)) (room d) (for_loop d (under d)) (return_or d (under d) q) ts e

pub or_return : (d : ℕ) (q : Place) (ts : List Token) → at_key key.While ts ≡ false → at_key key.Do ts ≡ false →
    at_key key.For ts ≡ false → at_key key.Return ts ≡ true →
    while_or d (under d) q ts ≡ returned d ts
unfolding return_or
or_return d q ts n m o e = no_for d q ts n m o ∙ either_one (is (keyword key.Return)) true (returned d) (last d q) ts e refl

pub or_last : (d : ℕ) (q : Place) (ts : List Token) → at_key key.While ts ≡ false → at_key key.Do ts ≡ false →
    at_key key.For ts ≡ false → at_key key.Return ts ≡ false →
    while_or d (under d) q ts ≡ last d q ts
unfolding return_or
or_last d q ts n m o e = no_for d q ts n m o ∙ either_other (is (keyword key.Return)) true (returned d) (last d q) ts e
