-- A greater limit changes an answer only where it was that something is too deep.
use Rattle.std.specs.Prelude.{◌≡◌, ℕ, zero, suc, ◌-◌, ◌<◌, true}
use Rattle.std.proofs.Common.{arith, subst}
use Rattle.c_ast.specs.Seen.{Seen as Token}
use Rattle.c_ast.specs.declared.keyword.Keyword.TheVariants as key
use Rattle.c_ast.specs.declared.punctuator.Punctuator.{Punctuator}
use Rattle.c_ast.specs.declared.punctuator.Punctuator.TheVariants as mark
use Rattle.c_grammar.specs.Words.{keyword, punctuator}
use Rattle.c_grammar.specs.Statements.{Place, Outside, InLoop}
use Rattle.c_parse_base.specs.Reading.Answer.{Parser, makes}
use Rattle.c_parse_base.specs.Reading.Words as read
use Rattle.c_parse_base.specs.Reading.Words.{is, punct}
use Rattle.c_parse_base.specs.Laws.Deeper.{Grows, grows_same, grows_then, grows_made, grows_either, grows_chain, grows_optional}
use Rattle.c_parse_expr.specs.Reading.Expressions.{at}
use Rattle.c_parse_expr.specs.Reading.Levels.{begins}
use Rattle.c_parse_expr.specs.Laws.Growth.{grows_at}
use Rattle.c_parse_base.specs.Reading.TypeNames.{begins_type}
use Rattle.c_parse_decl.specs.Reading.Objects.{local}
use Rattle.c_parse_decl.specs.Laws.Objects.Growth.{local_grows}
use Rattle.c_parse_stmt.specs.declared.statement_read.ItemsRead.{ItemsRead}
use Rattle.c_parse_stmt.specs.Reading.Nodes.{written_of, left_out_of, first_local, first_expression, head_of, simple_of, return_of}
use Rattle.c_parse_stmt.specs.Reading.Nodes.{while_of, do_of, for_of, Branches, if_of, local_item, statement_item, no_items, with_item}
use Rattle.c_parse_stmt.specs.Reading.Nodes.{block_of, compound_of}
use Rattle.c_parse_stmt.specs.Reading.Statements.{Reader, begins_item, room, inner, condition, maybe, first, for_head, do_tail, simple}
use Rattle.c_parse_stmt.specs.Reading.Statements.{returned, broken, continued, continued_or, last, takes_else, free, if_head, if_tail}
use Rattle.c_parse_stmt.specs.Reading.Statements.{if_statement, while_loop, do_loop, for_loop, item, further, items, block_in, compound}
use Rattle.c_parse_stmt.specs.Reading.Statements.{return_or, for_or, do_or, while_or, if_or, statement, under, block}
use Rattle.c_parse_stmt.specs.Laws.Room.{more_room, some_room}

-- the parsers of the level below
below_grows : {A : Type 0} (p : ℕ → Parser Token A) → ((d : ℕ) → Grows (p d) (p (suc d))) → (d : ℕ) → 0 < d →
    Grows (p (d - 1)) (p (suc d - 1))
below_grows p grows d h = let same : suc (d - 1) ≡ suc d - 1 = omega arith in subst (λ n. Grows (p (d - 1)) (p n)) same (grows (d - 1))

inner_grows : (d : ℕ) → 0 < d → Grows (inner d) (inner (suc d))
inner_grows = below_grows (λ d. (at d).expression) (λ d. (grows_at d).expression)

inner_local : (d : ℕ) → 0 < d → Grows (local (d - 1)) (local (suc d - 1))
inner_local = below_grows local local_grows

condition_grows : (d : ℕ) → 0 < d → Grows (condition d) (condition (suc d))
unfolding condition
condition_grows d h = grows_made (λ c. c.1.0) (grows_then (grows_same (punct mark.LeftParen))
    (λ _. grows_then (inner_grows d h) (λ _. grows_same (punct mark.RightParen))))

maybe_grows : (d : ℕ) (p : Punctuator) → Grows (maybe d p) (maybe (suc d) p)
unfolding maybe
maybe_grows d p = grows_either begins (room d) (room (suc d)) (more_room d)
    (λ h. grows_made written_of (grows_then (inner_grows d (some_room d h)) (λ _. grows_same (punct p))))
    (grows_same (makes left_out_of (punct p)))

first_grows : (d : ℕ) → Grows (first d) (first (suc d))
unfolding first
first_grows d = grows_either begins_type (room d) (room (suc d)) (more_room d)
    (λ h. grows_made first_local (inner_local d (some_room d h))) (grows_made first_expression (maybe_grows d mark.Semicolon))

for_head_grows : (d : ℕ) → Grows (for_head d) (for_head (suc d))
unfolding for_head
for_head_grows d = grows_made head_of (grows_then (grows_same (punct mark.LeftParen))
    (λ _. grows_then (first_grows d) (λ _. grows_then (maybe_grows d mark.Semicolon) (λ _. maybe_grows d mark.RightParen))))

do_tail_grows : (d : ℕ) → 0 < d → Grows (do_tail d) (do_tail (suc d))
unfolding do_tail
do_tail_grows d h = grows_made (λ c. c.1.0) (grows_then (grows_same (read.key key.While))
    (λ _. grows_then (condition_grows d h) (λ _. grows_same (punct mark.Semicolon))))

simple_grows : (d : ℕ) → Grows (simple d) (simple (suc d))
unfolding simple
simple_grows d = grows_made simple_of (maybe_grows d mark.Semicolon)

returned_grows : (d : ℕ) → Grows (returned d) (returned (suc d))
unfolding returned
returned_grows d = grows_made return_of (grows_then (grows_same (read.key key.Return)) (λ _. maybe_grows d mark.Semicolon))

continued_or_grows : (d : ℕ) → Grows (continued_or d) (continued_or (suc d))
unfolding continued_or
continued_or_grows d = grows_either (is (keyword key.Continue)) true true (λ e. e) (λ _. grows_same continued) (simple_grows d)

last_grows : (d : ℕ) (q : Place) → Grows (last d q) (last (suc d) q)
unfolding last
last_grows d Outside = simple_grows d
last_grows d InLoop = grows_either (is (keyword key.Break)) true true (λ e. e) (λ _. grows_same broken) (continued_or_grows d)

module _ (d : ℕ) (below above : Place → Reader) (grows : 0 < d → (q : Place) → Grows (below q) (above q)) where
  if_head_grows : 0 < d → (q : Place) → Grows (if_head d below q) (if_head (suc d) above q)
  unfolding if_head
  if_head_grows h q = grows_made _ (grows_then (grows_same (read.key key.If)) (λ _. grows_then (condition_grows d h) (λ _. grows h q)))

  if_tail_grows : 0 < d → (q : Place) (b : Branches) → Grows (if_tail d below q b) (if_tail (suc d) above q b)
  unfolding if_tail
  if_tail_grows h q b = grows_made _ (grows_then (grows_same (read.key key.Else)) (λ _. grows h q))

  if_grows : 0 < d → (q : Place) → Grows (if_statement d below q) (if_statement (suc d) above q)
  unfolding if_statement
  if_grows h q = grows_made if_of (grows_optional (is (keyword key.Else)) takes_else free free (λ a e. e) (λ a e. if_tail_grows h q a)
      (if_head_grows h q))

  while_grows : 0 < d → Grows (while_loop d below) (while_loop (suc d) above)
  unfolding while_loop
  while_grows h = grows_made while_of (grows_then (grows_same (read.key key.While))
      (λ _. grows_then (condition_grows d h) (λ _. grows h InLoop)))

  do_grows : 0 < d → Grows (do_loop d below) (do_loop (suc d) above)
  unfolding do_loop
  do_grows h = grows_made do_of (grows_then (grows_same (read.key key.Do)) (λ _. grows_then (grows h InLoop) (λ _. do_tail_grows d h)))

  for_grows : 0 < d → Grows (for_loop d below) (for_loop (suc d) above)
  unfolding for_loop
  for_grows h = grows_made for_of (grows_then (grows_same (read.key key.For)) (λ _. grows_then (for_head_grows d) (λ _. grows h InLoop)))

  item_grows : 0 < d → (q : Place) → Grows (item d below q) (item (suc d) above q)
  unfolding item
  item_grows h q = grows_either begins_type true true (λ e. e) (λ _. grows_made local_item (inner_local d h))
      (grows_made statement_item (grows h q))

  further_grows : 0 < d → (q : Place) (a : ItemsRead) → Grows (further d below q a) (further (suc d) above q a)
  unfolding further
  further_grows h q a = grows_made (with_item a) (item_grows h q)

  items_grow : (q : Place) → Grows (items d below q) (items (suc d) above q)
  unfolding items
  items_grow q = grows_chain (begins_item q) (λ _. room d) (λ _. room (suc d)) (λ a. more_room d) (λ a h. further_grows (some_room d h) q a)
      (grows_same (makes no_items (punct mark.LeftBrace)))

  block_in_grows : (q : Place) → Grows (block_in d below q) (block_in (suc d) above q)
  unfolding block_in
  block_in_grows q = grows_made block_of (grows_then (items_grow q) (λ _. grows_same (punct mark.RightBrace)))

  compound_grows : (q : Place) → Grows (compound d below q) (compound (suc d) above q)
  unfolding compound
  compound_grows q = grows_made compound_of (block_in_grows q)

  statement_grows : (q : Place) → Grows (statement d below q) (statement (suc d) above q)
  unfolding statement if_or while_or do_or for_or return_or
  statement_grows q = grows_either (is (punctuator mark.LeftBrace)) true true (λ e. e) (λ _. compound_grows q)
      (grows_either (is (keyword key.If)) (room d) (room (suc d)) (more_room d) (λ h. if_grows (some_room d h) q)
      (grows_either (is (keyword key.While)) (room d) (room (suc d)) (more_room d) (λ h. while_grows (some_room d h))
      (grows_either (is (keyword key.Do)) (room d) (room (suc d)) (more_room d) (λ h. do_grows (some_room d h))
      (grows_either (is (keyword key.For)) (room d) (room (suc d)) (more_room d) (λ h. for_grows (some_room d h))
      (grows_either (is (keyword key.Return)) true true (λ e. e) (λ _. returned_grows d) (last_grows d q))))))

-- statements of one level less than the number, by one level
under_grows : (d : ℕ) → 0 < d → (q : Place) → Grows (under d q) (under (suc d) q)
unfolding under
under_grows zero h q = absurd (omega arith)
under_grows (suc d) h q = statement_grows d (under d) (under (suc d)) (under_grows d) q

-- by one level
pub block_grows : (d : ℕ) → Grows (block d) (block (suc d))
unfolding block
block_grows d = block_in_grows d (under d) (under (suc d)) (under_grows d) Outside
