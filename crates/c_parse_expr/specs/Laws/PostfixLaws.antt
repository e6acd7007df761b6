-- An operand with what follows it, where it begins with "(" and where it does not.
use Rattle.std.specs.Prelude.{◌≡◌, ℕ, suc, ◌-◌, ◌<◌, max, true, List, [], ◌∷◌, ◌++◌, refl}
use Rattle.std.proofs.Common.{sym, ◌∙◌, ap, subst, arith, inl, inr}
use Rattle.c_ast.specs.declared.token.Span.{Span}
use Rattle.c_ast.specs.Seen.{Seen as Token}
use Rattle.c_ast.specs.declared.expr.Expr.{Expr}
use Rattle.c_ast.specs.declared.expr.Node.{Node}
use Rattle.c_ast.specs.declared.expr.Node.TheVariants as node
use Rattle.c_ast.specs.Tree.{expr}
use Rattle.c_ast.specs.declared.punctuator.Punctuator.TheVariants as mark
use Rattle.c_grammar.specs.Words.{word_of, punctuator, end_of, a_text}
use Rattle.c_grammar.specs.Expressions as spells
use Rattle.c_grammar.specs.Expressions.{Postfix}
use Rattle.c_parse_base.specs.Reading.Good.{Language, Begins, StartsIn, Good}
use Rattle.c_parse_base.specs.Reading.Languages.{word_of as one_word_of, join, Chain, once, again}
use Rattle.c_parse_base.specs.Laws.ChainLaws.{MayTurn, chain_good}
use Rattle.c_parse_base.specs.Laws.SpanLaws.{last_end_append}
use Rattle.c_parse_base.specs.Reading.Words.{is, place_of, named_at, spot, among}
use Rattle.c_parse_expr.specs.declared.measured.Measured.{Measured}
use Rattle.c_parse_expr.specs.declared.suffix.Suffix.TheVariants as suffix
use Rattle.c_parse_expr.specs.Reading.Nodes.{height_behind}
use Rattle.c_parse_base.specs.Laws.WordListLaws.{is_not, is_not_first, apart_words, none_within}
use Rattle.c_parse_base.specs.Laws.Depths.{is_below}
use Rattle.c_parse_expr.specs.Reading.Expressions.{Expressions, has_room, plain_words, apply, worded, grouped, suffix_words, begins_suffix}
use Rattle.c_parse_expr.specs.Laws.StartLaws.{chain_starts, chain_as, chain_where, chain_before, chain_behind}
use Rattle.c_parse_expr.specs.Reading.Levels.{Low, PrimaryWord, PostfixWord, opens, begins, operand_words, GoodExpressions, measured}
use Rattle.c_parse_expr.specs.Laws.LevelLaws.{reach, starts_primary}
use Rattle.c_parse_expr.specs.Laws.PrimaryLaws.{PlainWord, Opened, plain_into, primary_plain, opened_into, primary_opened, opened_begins}
use Rattle.c_parse_expr.specs.Laws.PrimaryLaws.{opened_begins_at, opened_starts, opened_high, plain_good, opened_good}
use Rattle.c_parse_expr.specs.Laws.SuffixLaws.{CalledWord, IndexedWord, Applied, suffix_made, call_out, applied_span, same_height}
use Rattle.c_parse_expr.specs.Laws.SuffixLaws.{suffix_begins, apply_good}
use Rattle.c_parse_expr.specs.Laws.MarkedLaws.{marked_into}
use Rattle.c_parse_expr.specs.Laws.ArgumentLaws.{listed}
use Rattle.c_parse_expr.specs.Laws.StepLaws.{step_picked}

postfix_into : (v : Measured) (w : List Token) → Chain PrimaryWord Applied v w → PostfixWord v w
postfix_into v w (once m) = spells.primary m
postfix_into v w (again {a = a} {w = u} {u = x} c m) = subst (λ v. PostfixWord v (u ++ x)) m.is
    (suffix_made a m.source u x (postfix_into a u c) m.word)

abbrev spanned : Node → ℕ → Span → Measured
spanned n h s = measured (expr s n) h

postfix_out : (h : ℕ) (e : Expr) (w : List Token) → Postfix h e w → Chain PrimaryWord Applied (measured e h) w
postfix_out h e w (spells.primary p) = once p
postfix_out h e w (spells.index {h = i} {k = k} {e = a} {i = b} {u = u} {v = v} l r p isl m isr) = again (postfix_out i a u p) (record {
  source = suffix.Index (measured b k) (place_of r);
  is = ap (spanned (node.Index a b) (suc (max i k))) (sym (applied_span (measured a i) u l (v ++ r ∷ []) (end_of r) p
      (last_end_append l v r [])));
  word = inl (marked_into mark.LeftBracket IndexedWord l (suffix.Index (measured b k) (place_of r)) (v ++ r ∷ []) isl
      (record { source = (measured b k, place_of r); is = refl; word = join m (spot r isr) }));
})
postfix_out h e w (spells.call {h = i} {k = k} {e = a} {es = es} {u = u} {v = v} l r p isl m isr) = again (postfix_out i a u p) (record {
  source = suffix.Call (listed es k) (place_of r);
  is = ap (spanned (node.Call a es) (suc (max i k))) (sym (applied_span (measured a i) u l (v ++ r ∷ []) (end_of r) p
      (last_end_append l v r [])));
  word = inr (inl (marked_into mark.LeftParen CalledWord l (suffix.Call (listed es k) (place_of r)) (v ++ r ∷ []) isl
      (call_out k es v r m isr)));
})
postfix_out h e w (spells.member {h = i} {e = a} {n = n} {u = u} d t p isd ist) = again (postfix_out i a u p) (record {
  source = suffix.Member (record { name = n; place = place_of t });
  is = ap (λ h. measured (expr (reach a.span.start (end_of t)) (node.Member a n)) h) (sym (same_height i))
      ∙ ap (spanned (node.Member a n) (suc i)) (sym (applied_span (measured a i) u d (t ∷ []) (end_of t) p refl));
  word = inr (inr (inl (record {
    source = (place_of d, record { name = n; place = place_of t });
    is = refl;
    word = join (spot d isd) (one_word_of (ap (named_at (place_of t)) ist));
  })));
})
postfix_out h e w (spells.arrow {h = i} {e = a} {n = n} {u = u} d t p isd ist) = again (postfix_out i a u p) (record {
  source = suffix.Arrow (record { name = n; place = place_of t });
  is = ap (λ h. measured (expr (reach a.span.start (end_of t)) (node.Arrow a n)) h) (sym (same_height i))
      ∙ ap (spanned (node.Arrow a n) (suc i)) (sym (applied_span (measured a i) u d (t ∷ []) (end_of t) p refl));
  word = inr (inr (inr (inl (record {
    source = (place_of d, record { name = n; place = place_of t });
    is = refl;
    word = join (spot d isd) (one_word_of (ap (named_at (place_of t)) ist));
  }))));
})
postfix_out h e w (spells.step_behind {h = i} {e = a} {s = s} {u = u} t p ist) = again (postfix_out i a u p) (record {
  source = suffix.Step s (place_of t);
  is = ap (λ h. measured (expr (reach a.span.start (end_of t)) (node.Step s a)) h) (sym (same_height i))
      ∙ ap (spanned (node.Step s a) (suc i)) (sym (applied_span (measured a i) u t [] (end_of t) p refl));
  word = inr (inr (inr (inr (one_word_of (step_picked t s ist)))));
})

may_apply : (d : ℕ) (a b : Measured) (u : List Token) → Applied a b u → Low d b → MayTurn (Low d) (has_room d) a
may_apply d a b u m low =
    let high : suc (max a.height (height_behind m.source)) ≡ b.height = ap (λ v. v.height) m.is in
    record { fits = omega arith; has_room = is_below a.height d (omega arith) }

-- texts or a word, and what follows
abbrev pub Worded : Language Token Measured
Worded = Chain PlainWord Applied

-- expr ")" and what follows, behind a "(" at this place
abbrev pub Grouped : Span → Language Token Measured
Grouped l = Chain (Opened l) Applied

primary_starts : (v : Measured) (w : List Token) → PrimaryWord v w → StartsIn opens w
primary_starts v w p = starts_primary v.height v.tree w p

pub worded_into : (v : Measured) (w : List Token) → Worded v w → PostfixWord v w
worded_into v w c = postfix_into v w (chain_as plain_into v w c)

pub worded_out : (v : Measured) (w : List Token) → PostfixWord v w → StartsIn (among plain_words) w → Worded v w
worded_out v w p s = chain_where opens (among plain_words) primary_starts primary_plain v w (postfix_out v.height v.tree w p) s

pub grouped_into : (l : Token) → word_of l ≡ punctuator mark.LeftParen → (v : Measured) (u : List Token) → Grouped (place_of l) v u →
    PostfixWord v (l ∷ u)
grouped_into l is v u c = postfix_into v (l ∷ u) (chain_before l (opened_into l is) v u c)

pub grouped_out : (l : Token) → word_of l ≡ punctuator mark.LeftParen → (v : Measured) (w u : List Token) → PostfixWord v w → w ≡ l ∷ u →
    Grouped (place_of l) v u
grouped_out l is v w u p e = chain_behind opens primary_starts l (primary_opened l is) v w u (postfix_out v.height v.tree w p) e

pub grouped_begins : (l : Span) → Begins (Grouped l) []
grouped_begins l = let b = opened_begins l in record { value = b.value; more = b.more; whole = once b.whole }

pub grouped_begins_at : (l : Span) (t : Token) → begins t ≡ true → Begins (Grouped l) (t ∷ [])
grouped_begins_at l t h = let b = opened_begins_at l t h in record { value = b.value; more = b.more; whole = once b.whole }

pub grouped_starts : (l : Span) (v : Measured) (u : List Token) → Grouped l v u → StartsIn begins u
grouped_starts l = chain_starts begins (opened_starts l)

-- a level for the parentheses
pub grouped_high : (l : Span) (v : Measured) (u : List Token) → Grouped l v u → 0 < v.height
grouped_high l v u (once m) = opened_high l v u m
grouped_high l v u (again c m) = omega (arith, ap (λ (v : Measured). v.height) m.is)

-- ---- the parsers

module _ (d : ℕ) (below : Expressions) (good : 0 < d → GoodExpressions (d - 1) below) where
  pub worded_good : Good (worded d below) Worded (Low d) (among plain_words) (λ _ t. among operand_words t)
  unfolding worded
  worded_good =
      chain_good begins_suffix (has_room d) (apply d below) Applied (apply_good d below good) (λ _ t. among operand_words t) (plain_good d)
      (suffix_begins d below good) (may_apply d)
      (λ a x e. is_not_first a_text (word_of x) (apart_words suffix_words (a_text ∷ []) refl (word_of x) e))
      (λ a x e. (is_not operand_words 4 x refl e, none_within suffix_words operand_words refl (word_of x) e))

  pub grouped_good : 0 < d → (l : Span) → Good (grouped d below l) (Grouped l) (Low d) begins (λ _ t. among operand_words t)
  unfolding grouped
  grouped_good h l =
      chain_good begins_suffix (has_room d) (apply d below) Applied (apply_good d below good) (λ _ t. among operand_words t)
      (opened_good d below good h l)
      (suffix_begins d below good) (may_apply d)
      (λ a x e. is_not_first a_text (word_of x) (apart_words suffix_words (a_text ∷ []) refl (word_of x) e))
      (λ a x e. (is_not operand_words 4 x refl e, none_within suffix_words operand_words refl (word_of x) e))
