-- The parser of statements reads their language.
use Rattle.std.specs.Prelude.{◌≡◌, ℕ, zero, suc, max, ◌-◌, ◌<◌, ◌≤◌, ◌==◌, ◌||◌, Bool, true, false, List, [], ◌∷◌, refl}
use Rattle.std.proofs.Common.{sym, ap, subst, arith, inl, inr}
use Rattle.c_ast.specs.Seen.{Seen as Token}
use Rattle.c_ast.specs.declared.statement.Stmt.{Stmt}
use Rattle.c_ast.specs.declared.statement.Stmt.TheVariants as stmt
use Rattle.c_ast.specs.declared.keyword.Keyword.TheVariants as key
use Rattle.c_ast.specs.declared.punctuator.Punctuator.TheVariants as mark
use Rattle.c_grammar.specs.Words.{keyword, punctuator, end_of}
use Rattle.c_grammar.specs.Statements as grammar
use Rattle.c_grammar.specs.Statements.{Place, Outside, InLoop, Ending}
use Rattle.c_parse_base.specs.Reading.Good.{Language, Begins, Good}
use Rattle.c_parse_base.specs.Reading.Languages.{join, Either, Always, nothing, Made}
use Rattle.c_parse_base.specs.Laws.Parts.{thens_good, makes_good, either_good}
use Rattle.c_parse_base.specs.Laws.ChainLaws.{MayTurn, chain_good}
use Rattle.c_parse_base.specs.Laws.SpanLaws.{last_end_append}
use Rattle.c_parse_base.specs.Reading.Words.{is, punct, place_of, Spot, spot, apart_from}
use Rattle.c_parse_base.specs.Laws.WordGood.{good_as, punct_good, punct_begins}
use Rattle.c_parse_base.specs.Laws.WordListLaws.{is_at, or_left, or_right, or_false, both_false}
use Rattle.c_parse_base.specs.Reading.TypeNames.{begins_type}
use Rattle.c_parse_decl.specs.Reading.Objects.{local}
use Rattle.c_parse_decl.specs.Laws.Objects.LocalLaws.{local_good, local_begins_at}
use Rattle.c_parse_stmt.specs.declared.statement_read.StatementRead.{StatementRead}
use Rattle.c_parse_stmt.specs.declared.statement_read.ItemsRead.{ItemsRead}
use Rattle.c_parse_stmt.specs.Reading.Nodes.{statement_of, local_item, statement_item, no_items, with_item, block_of, compound_of}
use Rattle.c_parse_stmt.specs.Reading.Statements.{Reader, Low, LowBlock, ending, StatementWord, BlockIn, BlockWord, last_words}
use Rattle.c_parse_stmt.specs.Reading.Statements.{begins_statement, begins_item, room, item, further, items, block_in, compound}
use Rattle.c_parse_stmt.specs.Reading.Statements.{return_or, for_or, do_or, while_or, if_or, statement, under, block}
use Rattle.c_parse_stmt.specs.Laws.ItemWords.{not_both, statement_apart, no_item, brace_no_statement, else_no_statement}
use Rattle.c_parse_stmt.specs.Laws.ClauseLaws.{maybe_word}
use Rattle.c_parse_stmt.specs.Laws.Room.{some_room, has_room}
use Rattle.c_parse_stmt.specs.Laws.LastLaws.{statement_on, keyed_good, keyed_begins, ReturnWord, return_into, return_good, return_begins}
use Rattle.c_parse_stmt.specs.Laws.LastLaws.{return_starts, LastWord, simple_last, last_into, last_good, last_begins_at}
use Rattle.c_parse_stmt.specs.Laws.BranchLaws.{is_closed, stops_open, IfWord, if_into, if_then_out, if_else_out, if_begins, if_starts}
use Rattle.c_parse_stmt.specs.Laws.BranchLaws.{if_high, if_good}
use Rattle.c_parse_stmt.specs.Laws.LoopLaws.{WhileWord, while_into, while_out, while_begins, while_starts, while_high, while_good, DoWord}
use Rattle.c_parse_stmt.specs.Laws.LoopLaws.{do_into, do_out, do_begins, do_starts, do_high, do_good, ForWord, for_into, for_out}
use Rattle.c_parse_stmt.specs.Laws.LoopLaws.{for_begins, for_starts, for_high, for_good}
use Rattle.c_parse_stmt.specs.Laws.BlockLaws.{ItemWord, LowItem, LocalItem, StatementItem, item_into, item_out, Further, NoItems}
use Rattle.c_parse_stmt.specs.Laws.BlockLaws.{ItemsWord, LowItems, BlockParts, block_into, block_out, block_starts, CompoundWord}
use Rattle.c_parse_stmt.specs.Laws.BlockLaws.{compound_into, compound_out, compound_begins}

-- an `else` goes on
abbrev pub else_on : {A : Type 0} → A → Token → Bool
else_on a t = is (keyword key.Else) t

-- ---- all statements

abbrev ReturnOr : Place → Language Token StatementRead
ReturnOr q = Either ReturnWord (LastWord q)

abbrev ForOr : Place → Language Token StatementRead
ForOr q = Either ForWord (ReturnOr q)

abbrev DoOr : Place → Language Token StatementRead
DoOr q = Either DoWord (ForOr q)

abbrev WhileOr : Place → Language Token StatementRead
WhileOr q = Either WhileWord (DoOr q)

abbrev IfOr : Place → Language Token StatementRead
IfOr q = Either (IfWord q) (WhileOr q)

abbrev StatementParts : Place → Language Token StatementRead
StatementParts q = Either (CompoundWord q) (IfOr q)

statement_into : (q : Place) (v : StatementRead) (w : List Token) → StatementParts q v w → StatementWord q v w
statement_into q v w (inl m) = compound_into q v w m
statement_into q v w (inr (inl m)) = if_into q v w m
statement_into q v w (inr (inr (inl m))) = while_into q v w m
statement_into q v w (inr (inr (inr (inl m)))) = do_into q v w m
statement_into q v w (inr (inr (inr (inr (inl m))))) = for_into q v w m
statement_into q v w (inr (inr (inr (inr (inr (inl m)))))) = return_into q v w m
statement_into q v w (inr (inr (inr (inr (inr (inr m)))))) = last_into q v w m

last_parts : (q : Place) (v : StatementRead) (w : List Token) → LastWord q v w → StatementParts q v w
last_parts q v w m = inr (inr (inr (inr (inr (inr m)))))

statement_back : (q : Place) (a : Ending) (h : ℕ) (s : Stmt) (w : List Token) → grammar.Statement q a h s w →
    StatementParts q (statement_of s h (is_closed a)) w
statement_back q a h s w (grammar.compound {n = n} b) = inl (compound_out q n s w b)
statement_back q a h s w (grammar.expression {e = e} z m isz) = last_parts q _ _
    (simple_last q _ _ (record { source = _; is = refl; word = maybe_word z (grammar.written m) isz }))
statement_back q a h s w (grammar.empty z isz) = last_parts q _ _
    (simple_last q _ _ (record { source = _; is = refl; word = maybe_word z grammar.left_out isz }))
statement_back q a h s w (grammar.if_then {h = i} {k = k} {e = e} {a = b} {s = t} {u = u} {v = v} x l r isx isl m isr n) = inr
    (inl (if_then_out q i k e b t u v x l r isx isl m isr n))
statement_back q a h s w (grammar.if_else {h = i} {k = k} {j = j} {e = e} {a = b} {s = t} {o = o} {u = u} {v = v} {w = y} x l r z isx isl
    m isr n isz p) =
    inr (inl (if_else_out q i k j e b t o u v y x l r z isx isl m isr n isz p))
statement_back q a h s w (grammar.while_loop {h = i} {k = k} {e = e} {a = b} {s = t} {u = u} {v = v} x l r isx isl m isr n) = inr
    (inr (inl (while_out i k e b t u v x l r isx isl m isr n)))
statement_back q a h s w (grammar.do_loop {h = i} {k = k} {e = e} {a = b} {s = t} {u = u} {v = v} x y l r z isx n isy isl m isr isz) =
    inr (inr (inr (inl (do_out i k e b t u v x y l r z isx n isy isl m isr isz))))
statement_back q a h s w (grammar.for_loop {n = n} {m = m} {i = i} {h = j} {ds = ds} {e = e} {c = c} {d = d} {a = b} {s = t} {u = u} {v =
    v} {w = y} {x = x} p l z r isp isl f k isz o isr g) =
    inr (inr (inr (inr (inl (for_out n m i j ds e c d b t u v y x p l z r isp isl f k isz o isr g)))))
statement_back q a h s w (grammar.return_word {n = n} {e = e} {v = v} t z ist m isz) = inr (inr (inr (inr (inr (inl (record {
  source = (place_of t, record { tree = e; height = n; end = end_of z });
  is = ap (λ end. statement_of (stmt.Return e (record { start = t.start; end = end })) n true) (sym (last_end_append t v z []));
  word = join (spot t ist) (maybe_word z m isz);
}))))))
statement_back q a h s w (grammar.break_word t z ist isz) = last_parts InLoop _ _
    (inl (record { source = (place_of t, place_of z); is = refl; word = join (spot t ist) (spot z isz) }))
statement_back q a h s w (grammar.continue_word t z ist isz) =
    last_parts InLoop _ _ (inr (inl (record { source = (place_of t, place_of z); is = refl; word = join (spot t ist) (spot z isz) })))

closed_is : (b : Bool) → is_closed (ending b) ≡ b
closed_is true = refl
closed_is false = refl

statement_out : (q : Place) (v : StatementRead) (w : List Token) → StatementWord q v w → StatementParts q v w
statement_out q v w m = subst (λ c. StatementParts q (statement_of v.tree v.height c) w) (closed_is v.closed)
    (statement_back q (ending v.closed) v.height v.tree w m)

-- the words behind each choice
abbrev for_words : Place → List ℕ
for_words q = keyword key.Return ∷ last_words q

abbrev do_words : Place → List ℕ
do_words q = keyword key.For ∷ for_words q

abbrev while_words : Place → List ℕ
while_words q = keyword key.Do ∷ do_words q

abbrev if_words : Place → List ℕ
if_words q = keyword key.While ∷ while_words q

abbrev brace_words : Place → List ℕ
brace_words q = keyword key.If ∷ if_words q

return_apart : (q : Place) → apart_from (last_words q) (keyword key.Return ∷ []) ≡ true
return_apart Outside = refl
return_apart InLoop = refl

for_apart : (q : Place) → apart_from (for_words q) (keyword key.For ∷ []) ≡ true
for_apart Outside = refl
for_apart InLoop = refl

do_apart : (q : Place) → apart_from (do_words q) (keyword key.Do ∷ []) ≡ true
do_apart Outside = refl
do_apart InLoop = refl

while_apart : (q : Place) → apart_from (while_words q) (keyword key.While ∷ []) ≡ true
while_apart Outside = refl
while_apart InLoop = refl

if_apart : (q : Place) → apart_from (if_words q) (keyword key.If ∷ []) ≡ true
if_apart Outside = refl
if_apart InLoop = refl

brace_apart : (q : Place) → apart_from (brace_words q) (punctuator mark.LeftBrace ∷ []) ≡ true
brace_apart Outside = refl
brace_apart InLoop = refl

statement_begins_at : (q : Place) (t : Token) → begins_statement q t ≡ true → Begins (StatementWord q) (t ∷ [])
statement_begins_at q t e =
    let b : Begins (StatementParts q) (t ∷ []) =
    keyed_begins (punctuator mark.LeftBrace) (brace_words q) (compound_begins q)
    (keyed_begins (keyword key.If) (if_words q) (if_begins q)
    (keyed_begins (keyword key.While) (while_words q) while_begins
    (keyed_begins (keyword key.Do) (do_words q) do_begins
    (keyed_begins (keyword key.For) (for_words q) for_begins
    (keyed_begins (keyword key.Return) (last_words q) return_begins (last_begins_at q)))))) t e in
    record { value = b.value; more = b.more; whole = statement_into q b.value (t ∷ b.more) b.whole }

item_begins_at : (q : Place) (t : Token) → begins_item q t ≡ true → Begins (ItemWord q) (t ∷ [])
item_begins_at q t e = go (begins_type t) refl e
  where
    go : (b : Bool) → begins_type t ≡ b → (b || begins_statement q t) ≡ true → Begins (ItemWord q) (t ∷ [])
    go true h e = let b = local_begins_at t h in record { value = local_item b.value; more = b.more; whole = grammar.local b.whole }
    go false h e = let b = statement_begins_at q t e in record {
      value = statement_item b.value;
      more = b.more;
      whole = grammar.statement b.whole;
    }

-- ---- the laws

module _ (d : ℕ) (below : Place → Reader) (good : 0 < d → (q : Place) →
    Good (below q) (StatementWord q) (Low (d - 1)) (begins_statement q) statement_on) where
  item_good : 0 < d → (q : Place) → Good (item d below q) (ItemWord q) (LowItem d) (begins_item q) else_on
  unfolding item
  item_good h q = good_as (ItemWord q) (LowItem d) (begins_item q)
      (either_good begins_type true (begins_item q)
      (λ _. makes_good local_item LocalItem (LowItem d) else_on (local_good (d - 1))
      (λ a w m. record { source = a; is = refl; word = m }) (λ b w m. m) (λ a w m fits. fits) (λ a w m fits. fits) (λ a x e. refl))
      (makes_good statement_item (StatementItem q) (LowItem d) else_on (good h q)
      (λ a w m. record { source = a; is = refl; word = m }) (λ b w m. m) (λ a w m fits. fits) (λ a w m fits. fits)
      (λ a x e. stops_open a.closed x e))
      (λ x e. let b = local_begins_at x e in record {
        value = local_item b.value;
        more = b.more;
        whole = record { source = b.value; is = refl; word = b.whole };
      })
      (λ v w m f. refl) (λ v w m. (local_good 0).starts m.source w m.word) (statement_apart q)
      (λ x h. or_left (begins_type x) (begins_statement q x) h) (λ x h. or_right (begins_type x) (begins_statement q x) h))
      (item_into q) (λ v w m. item_out q v.height v.item w m) (λ v w m low. low) (λ v w m low. low) (λ x h. h)

  pub further_good : (q : Place) (a : ItemsRead) → MayTurn (LowItems d) (λ _. room d) a →
      Good (further d below q a) (Further q a) (LowItems d) (begins_item q) else_on
  unfolding further
  further_good q a may =
      let some : 0 < d = some_room d may.has_room in
      let low : a.height ≤ d = may.fits in
      makes_good (with_item a) (Further q a) (LowItems d) else_on (item_good some q)
      (λ i w m. record { source = i; is = refl; word = m }) (λ b w m. m)
      (λ i w m fits. omega (arith, fits)) (λ i w m fits. omega (arith, fits)) (λ i x e. e)

  abbrev items_on : Place → ItemsRead → Token → Bool
  items_on q a t = is (keyword key.Else) t || begins_item q t

  may_turn : (q : Place) (a b : ItemsRead) (u : List Token) → Further q a b u → LowItems d b → MayTurn (LowItems d) (λ _. room d) a
  may_turn q a b u m low =
      let high : max a.height (suc m.source.height) ≡ b.height = ap (λ (b : ItemsRead). b.height) m.is in
      record { fits = omega arith; has_room = has_room d (omega arith) }

  items_good : (q : Place) → Good (items d below q) (ItemsWord q) (LowItems d) (is (punctuator mark.LeftBrace)) (items_on q)
  unfolding items
  items_good q = chain_good (begins_item q) (λ _. room d) (further d below q) (Further q) (further_good q) (items_on q)
      (makes_good no_items NoItems (LowItems d) else_on (punct_good mark.LeftBrace)
      (λ a w m. record { source = a; is = refl; word = m }) (λ b w m. m) (λ a w m fits. omega arith) (λ a w m fits. tt) (λ a x e. refl))
      (λ a x e. let b = item_begins_at q x e in record {
        value = with_item a b.value;
        more = b.more;
        whole = record { source = b.value; is = refl; word = b.whole };
      })
      (may_turn q)
      (λ a x e. not_both (is (keyword key.Else) x) (begins_item q x) (no_item q (keyword key.Else) x refl (else_no_statement q)) e)
      (λ a x e. both_false (is (keyword key.Else) x) (begins_item q x) e)

  -- nothing but "}" closes the parts
  brace_closes : (q : Place) (a : ItemsRead) (t : Token) → is (punctuator mark.RightBrace) t ≡ true → items_on q a t ≡ false
  brace_closes q a t e = or_false (is (keyword key.Else) t) (begins_item q t)
      (is_at (λ w. w == keyword key.Else) (punctuator mark.RightBrace) t e)
      (no_item q (punctuator mark.RightBrace) t refl (brace_no_statement q) e)

  block_in_good : (q : Place) → Good (block_in d below q) (BlockIn q) (LowBlock d) (is (punctuator mark.LeftBrace)) nothing
  unfolding block_in
  block_in_good q = good_as (BlockIn q) (LowBlock d) (is (punctuator mark.LeftBrace))
      (makes_good block_of (Made block_of (BlockParts q)) (LowBlock d) nothing
      (thens_good (λ _. punct mark.RightBrace) (λ _. Spot (punctuator mark.RightBrace)) (λ _. Always) (is (punctuator mark.RightBrace))
      (λ _. nothing) (items_good q)
      (λ _ _. punct_good mark.RightBrace) (λ _. punct_begins mark.RightBrace) (brace_closes q))
      (λ a w m. record { source = a; is = refl; word = m }) (λ b w m. m) (λ a w m fits. fits.0) (λ a w m fits. (fits, tt)) (λ a x e. refl))
      (block_into q) (block_out q) (λ v w m low. low) (λ v w m low. low) (λ x h. h)

  compound_good : (q : Place) → Good (compound d below q) (CompoundWord q) (Low d) (is (punctuator mark.LeftBrace)) statement_on
  unfolding compound
  compound_good q = makes_good compound_of (CompoundWord q) (Low d) statement_on (block_in_good q)
      (λ a w m. record { source = a; is = refl; word = m }) (λ b w m. m) (λ a w m fits. fits) (λ a w m fits. fits) (λ a x e. refl)

  -- a level is left where there is one in the word
  needs : (v : StatementRead) → 0 < v.height → Low d v → room d ≡ true
  needs v high low = has_room d (omega (arith, high, low))

  statement_good : (q : Place) → Good (statement d below q) (StatementWord q) (Low d) (begins_statement q) statement_on
  unfolding statement if_or while_or do_or for_or return_or
  statement_good q = good_as (StatementWord q) (Low d) (begins_statement q)
      (keyed_good (punctuator mark.LeftBrace) (brace_words q) true (brace_apart q) (λ _. compound_good q)
      (keyed_good (keyword key.If) (if_words q) (room d) (if_apart q) (λ r. if_good d below good q (some_room d r))
      (keyed_good (keyword key.While) (while_words q) (room d) (while_apart q) (λ r. while_good d below good (some_room d r))
      (keyed_good (keyword key.Do) (do_words q) (room d) (do_apart q) (λ r. do_good d below good (some_room d r))
      (keyed_good (keyword key.For) (for_words q) (room d) (for_apart q) (λ r. for_good d below good (some_room d r))
      (keyed_good (keyword key.Return) (last_words q) true (return_apart q) (λ _. return_good d) (last_good d q)
      return_begins (λ v w m f. refl) return_starts)
      for_begins (λ v w m low. needs v (for_high v w m) low) for_starts)
      do_begins (λ v w m low. needs v (do_high v w m) low) do_starts)
      while_begins (λ v w m low. needs v (while_high v w m) low) while_starts)
      (if_begins q) (λ v w m low. needs v (if_high q v w m) low) (if_starts q))
      (compound_begins q) (λ v w m f. refl) (λ v w m. block_starts q m.source w m.word))
      (statement_into q) (statement_out q) (λ v w m low. low) (λ v w m low. low) (λ x h. h)

-- the parsers of the level below, where there is one
pub under_good : (d : ℕ) → 0 < d → (q : Place) → Good (under d q) (StatementWord q) (Low (d - 1)) (begins_statement q) statement_on
unfolding under
under_good zero h q = absurd (omega arith)
under_good (suc d) h q =
    let same : d ≡ suc d - 1 = omega arith in
    subst (λ k. Good (statement d (under d) q) (StatementWord q) (Low k) (begins_statement q) statement_on) same
    (statement_good d (under d) (under_good d) q)

-- a block outside of loops is read
pub block_good : (d : ℕ) → Good (block d) BlockWord (LowBlock d) (is (punctuator mark.LeftBrace)) nothing
unfolding block
block_good d = block_in_good d (under d) (under_good d) Outside
