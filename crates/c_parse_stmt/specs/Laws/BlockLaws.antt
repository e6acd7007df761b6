-- Blocks and their parts: the languages that are read, and that they are those of the grammar (ISO C11 6.8.2).
use Rattle.std.specs.Prelude.{◌≡◌, ℕ, ◌-◌, ◌≤◌, true, List, [], ◌∷◌, ◌++◌, refl}
use Rattle.std.proofs.Common.{sym, ap, subst, inl, inr}
use Rattle.c_ast.specs.declared.token.Span.{Span}
use Rattle.c_ast.specs.Seen.{Seen as Token}
use Rattle.c_ast.specs.declared.statement.Stmt.{Stmt}
use Rattle.c_ast.specs.declared.statement.Stmt.TheVariants as stmt
use Rattle.c_ast.specs.declared.statement.Item.{Item}
use Rattle.c_ast.specs.declared.punctuator.Punctuator.TheVariants as mark
use Rattle.c_grammar.specs.Words.{word_of, IsPunct, punctuator, span_of}
use Rattle.c_grammar.specs.Statements as grammar
use Rattle.c_grammar.specs.Statements.{Place, Outside}
use Rattle.c_parse_base.specs.Reading.Good.{Language, Begins, StartsIn}
use Rattle.c_parse_base.specs.Reading.Languages.{Then, join, Either, Chain, once, again, Made}
use Rattle.c_parse_base.specs.Laws.Lists.{starts_append}
use Rattle.c_parse_base.specs.Laws.SpanLaws.{last_end_append, end_last}
use Rattle.c_parse_base.specs.Reading.Words.{is, place_of, Spot, spot}
use Rattle.c_parse_base.specs.Laws.WordGood.{punct_begins, equal_is, starts_spot}
use Rattle.c_parse_decl.specs.Reading.Objects.{LocalWord, local}
use Rattle.c_parse_stmt.specs.declared.block_read.BlockRead.{BlockRead}
use Rattle.c_parse_stmt.specs.declared.statement_read.StatementRead.{StatementRead}
use Rattle.c_parse_stmt.specs.declared.statement_read.ItemRead.{ItemRead}
use Rattle.c_parse_stmt.specs.declared.statement_read.ItemsRead.{ItemsRead}
use Rattle.c_parse_stmt.specs.Reading.Nodes.{statement_of, local_item, statement_item, no_items, with_item, block_of, compound_of}
use Rattle.c_parse_stmt.specs.Reading.Statements.{StatementWord, BlockIn, BlockWord, item, items, compound, statement, block}
use Rattle.c_parse_stmt.specs.Laws.ItemWords.{no_item}
use Rattle.c_parse_stmt.specs.Laws.BranchLaws.{is_closed, word_of_statement}

-- ---- parts of a block

abbrev pub ItemWord : Place → Language Token ItemRead
ItemWord q v w = grammar.BlockItem q v.height v.item w

abbrev pub LowItem : ℕ → ItemRead → Type 0
LowItem d v = v.height ≤ d - 1

abbrev pub LocalItem : Language Token ItemRead
LocalItem = Made local_item LocalWord

abbrev pub StatementItem : Place → Language Token ItemRead
StatementItem q = Made statement_item (StatementWord q)

pub item_into : (q : Place) (v : ItemRead) (w : List Token) → Either LocalItem (StatementItem q) v w → ItemWord q v w
item_into q v w (inl m) = subst (λ v. ItemWord q v w) m.is (grammar.local m.word)
item_into q v w (inr m) = subst (λ v. ItemWord q v w) m.is (grammar.statement m.word)

pub item_out : (q : Place) (h : ℕ) (i : Item) (w : List Token) → grammar.BlockItem q h i w →
    Either LocalItem (StatementItem q) (record { item = i; height = h }) w
item_out q h i w (grammar.local {ds = ds} m) = inl (record { source = record { decls = ds; height = h }; is = refl; word = m })
item_out q h i w (grammar.statement {a = a} {s = s} m) = inr
    (record { source = statement_of s h (is_closed a); is = refl; word = word_of_statement q a h s w m })

abbrev pub Further : Place → ItemsRead → Language Token ItemsRead
Further q a = Made (with_item a) (ItemWord q)

abbrev pub NoItems : Language Token ItemsRead
NoItems = Made no_items (Spot (punctuator mark.LeftBrace))

-- "{" { item }
abbrev pub ItemsWord : Place → Language Token ItemsRead
ItemsWord q = Chain NoItems (Further q)

abbrev pub LowItems : ℕ → ItemsRead → Type 0
LowItems d a = a.height ≤ d

-- the tokens of "{" { item } in their parts
record Opened (q : Place) (a : ItemsRead) (w : List Token) : Type 0 where
  left : Token
  behind : List Token
  parts : w ≡ left ∷ behind
  is_left : IsPunct mark.LeftBrace left
  items : grammar.BlockItems q a.height a.items behind

opened_none : (q : Place) (place : Span) (w : List Token) → Spot (punctuator mark.LeftBrace) place w → Opened q (no_items place) w
opened_none q place w (spot l is) = record { left = l; behind = []; parts = refl; is_left = is; items = grammar.no_item }

opened_more : (q : Place) (a : ItemsRead) (w : List Token) → Opened q a w → (i : ItemRead) (u : List Token) → ItemWord q i u →
    Opened q (with_item a i) (w ++ u)
opened_more q a w o i u m = record {
  left = o.left;
  behind = o.behind ++ u;
  parts = ap (λ w. w ++ u) o.parts;
  is_left = o.is_left;
  items = grammar.more_item o.items m;
}

items_into : (q : Place) (a : ItemsRead) (w : List Token) → ItemsWord q a w → Opened q a w
items_into q a w (once m) = subst (λ a. Opened q a w) m.is (opened_none q m.source w m.word)
items_into q a w (again {a = b} {w = v} {u = u} c m) = subst (λ a. Opened q a (v ++ u)) m.is
    (opened_more q b v (items_into q b v c) m.source u m.word)

abbrev items_of : List Item → ℕ → ItemsRead
items_of is n = record { items = is; height = n }

items_out : (q : Place) (l : Token) → IsPunct mark.LeftBrace l → (n : ℕ) (is : List Item) (v : List Token) →
    grammar.BlockItems q n is v → ItemsWord q (items_of is n) (l ∷ v)
items_out q l isl n is v grammar.no_item = once (record { source = place_of l; is = refl; word = spot l isl })
items_out q l isl n is v (grammar.more_item {n = k} {h = h} {is = js} {i = i} {u = u} b m) = again (items_out q l isl k js u b)
    (record { source = record { item = i; height = h }; is = refl; word = m })

-- ---- blocks

abbrev pub BlockParts : Place → Language Token (ItemsRead × Span)
BlockParts q = Then (ItemsWord q) (λ _. Spot (punctuator mark.RightBrace))

block_made : (q : Place) (c : ItemsRead × Span) (w : List Token) → BlockParts q c w → BlockIn q (block_of c) w
block_made q c w (join {a = a} {u = u} m (spot r isr)) =
    let o = items_into q a u m in
    record {
      block = subst (λ u. grammar.Block q a.height (stmt.Block a.items) (u ++ r ∷ [])) (sym o.parts)
          (grammar.block o.left r o.is_left o.items isr);
      end = sym (end_last u r);
    }

pub block_into : (q : Place) (v : BlockRead) (w : List Token) → Made block_of (BlockParts q) v w → BlockIn q v w
block_into q v w m = subst (λ v. BlockIn q v w) m.is (block_made q m.source w m.word)

abbrev block_read : Stmt → ℕ → ℕ → BlockRead
block_read s h end = record { tree = s; height = h; end = end }

block_back : (q : Place) (h : ℕ) (s : Stmt) (w : List Token) → grammar.Block q h s w →
    Made block_of (BlockParts q) (block_read s h (span_of w).end) w
block_back q h s w (grammar.block {is = is} {v = v} l r isl m isr) = record {
  source = (items_of is h, place_of r);
  is = ap (block_read (stmt.Block is) h) (sym (last_end_append l v r []));
  word = join (items_out q l isl h is v m) (spot r isr);
}

pub block_out : (q : Place) (v : BlockRead) (w : List Token) → BlockIn q v w → Made block_of (BlockParts q) v w
block_out q v w m = subst (λ end. Made block_of (BlockParts q) (block_read v.tree v.height end) w) (sym m.end)
    (block_back q v.height v.tree w m.block)

brace_begins : (t : Token) → is (punctuator mark.LeftBrace) t ≡ true → Begins NoItems (t ∷ [])
brace_begins t e = record {
  value = no_items (place_of t);
  more = [];
  whole = record { source = place_of t; is = refl; word = spot t (equal_is (word_of t) (punctuator mark.LeftBrace) e) };
}

block_in_begins : (q : Place) (t : Token) → is (punctuator mark.LeftBrace) t ≡ true → Begins (BlockIn q) (t ∷ [])
block_in_begins q t e =
    let b = brace_begins t e in
    let c = punct_begins mark.RightBrace in
    record {
      value = block_of (b.value, c.value);
      more = b.more ++ c.more;
      whole = block_made q (b.value, c.value) (t ∷ (b.more ++ c.more)) (join (once b.whole) c.whole);
    }

-- some block begins with a brace
pub block_begins_at : (t : Token) → is (punctuator mark.LeftBrace) t ≡ true → Begins BlockWord (t ∷ [])
block_begins_at = block_in_begins Outside

items_start : (q : Place) (a : ItemsRead) (w : List Token) → ItemsWord q a w → StartsIn (is (punctuator mark.LeftBrace)) w
items_start q a w (once m) = starts_spot (punctuator mark.LeftBrace) m.source w m.word
items_start q a w (again {a = b} {w = v} {u = u} c m) = starts_append (is (punctuator mark.LeftBrace)) v u (items_start q b v c)

parts_start : (q : Place) (c : ItemsRead × Span) (w : List Token) → BlockParts q c w → StartsIn (is (punctuator mark.LeftBrace)) w
parts_start q c w (join {a = a} {u = u} {v = v} m s) = starts_append (is (punctuator mark.LeftBrace)) u v (items_start q a u m)

pub block_starts : (q : Place) (v : BlockRead) (w : List Token) → BlockIn q v w → StartsIn (is (punctuator mark.LeftBrace)) w
block_starts q v w m = let b = block_out q v w m in parts_start q b.source w b.word

-- ---- a block as a statement

abbrev pub CompoundWord : Place → Language Token StatementRead
CompoundWord q = Made compound_of (BlockIn q)

pub compound_into : (q : Place) (v : StatementRead) (w : List Token) → CompoundWord q v w → StatementWord q v w
compound_into q v w m = subst (λ v. StatementWord q v w) m.is (grammar.compound m.word.block)

pub compound_out : (q : Place) (n : ℕ) (s : Stmt) (w : List Token) → grammar.Block q n s w → CompoundWord q (statement_of s n true) w
compound_out q n s w m = record { source = block_read s n (span_of w).end; is = refl; word = record { block = m; end = refl } }

pub compound_begins : (q : Place) (t : Token) → is (punctuator mark.LeftBrace) t ≡ true → Begins (CompoundWord q) (t ∷ [])
compound_begins q t e = let b = block_in_begins q t e in record {
  value = compound_of b.value;
  more = b.more;
  whole = record { source = b.value; is = refl; word = b.whole };
}
