-- Operands are read: what is no cast, and casts (ISO C11 6.5.3, 6.5.4).
use Rattle.std.specs.Prelude.{◌≡◌, ℕ, suc, ◌-◌, ◌<◌, max, Bool, true, false, ◌||◌, List, [], ◌∷◌, ◌++◌, refl}
use Rattle.std.proofs.Common.{sym, ◌∙◌, ap, subst, arith, inl, inr}
use Rattle.c_ast.specs.declared.token.Span.{Span}
use Rattle.c_ast.specs.Seen.{Seen as Token}
use Rattle.c_ast.specs.declared.expr.Expr.{Expr}
use Rattle.c_ast.specs.declared.expr.CType.{CType}
use Rattle.c_ast.specs.declared.expr.Node.TheVariants as node
use Rattle.c_ast.specs.Tree.{expr}
use Rattle.c_ast.specs.declared.keyword.Keyword.TheVariants as key
use Rattle.c_ast.specs.declared.punctuator.Punctuator.TheVariants as mark
use Rattle.c_grammar.specs.Words.{word_of, keyword, punctuator, span_of}
use Rattle.c_grammar.specs.Expressions as spells
use Rattle.c_grammar.specs.Expressions.{Unary, Cast, Binary}
use Rattle.c_parse_base.specs.Reading.Answer.{thens}
use Rattle.c_parse_base.specs.Reading.Good.{Language, Begins, StartsIn, Good}
use Rattle.c_parse_base.specs.Reading.Languages.{Then, join, Either, Made}
use Rattle.c_parse_base.specs.Laws.Parts.{thens_good, makes_good, either_good}
use Rattle.c_parse_base.specs.Laws.Lists.{starts_append}
use Rattle.c_parse_base.specs.Laws.SpanLaws.{last_end_append, span_between}
use Rattle.c_parse_base.specs.Reading.Words.{is, punct, place_of, Spot, spot, one_word, among}
use Rattle.c_parse_base.specs.Laws.WordGood.{good_as, punct_good, punct_begins}
use Rattle.c_parse_base.specs.declared.type_read.TypeRead.{TypeRead}
use Rattle.c_parse_base.specs.Reading.TypeNames.{begins_type}
use Rattle.c_parse_base.specs.Laws.TypeNameLaws.{TypeWord, type_good}
use Rattle.c_parse_expr.specs.declared.measured.Measured.{Measured}
use Rattle.c_parse_expr.specs.Reading.Nodes.{step_of, unary_of, cast_of}
use Rattle.c_parse_base.specs.Laws.WordListLaws.{is_at, is_not_first, or_left, or_right, apart_words, within_words}
use Rattle.c_parse_base.specs.Laws.Depths.{below_is, is_below}
use Rattle.c_parse_expr.specs.Reading.Expressions as parser
use Rattle.c_parse_expr.specs.Reading.Expressions.{Expressions, room, has_word, step_word, unary_word, step_words, unary_words}
use Rattle.c_parse_expr.specs.Reading.Expressions.{plain_words, bare_words, begins_bare, bare, unary, grouped, casted, cast_or_group}
use Rattle.c_parse_expr.specs.Reading.Expressions.{operand}
use Rattle.c_parse_expr.specs.Laws.StartLaws.{one_head}
use Rattle.c_parse_expr.specs.Laws.AfterLaws.{After, AfterParts, after_into, after_parts, after_starts, after_begins, after_good}
use Rattle.c_parse_expr.specs.Reading.Levels.{Low, UnaryWords, BinaryWords, begin_words, operand_words, opens, begins, GoodExpressions}
use Rattle.c_parse_expr.specs.Reading.Levels.{measured}
use Rattle.c_parse_expr.specs.Laws.LevelLaws.{starts_postfix, starts_cast, cast_span, span_before, reach, binary_begins}
use Rattle.c_parse_expr.specs.Laws.PostfixLaws.{Worded, Grouped, worded_into, worded_out, worded_good, grouped_into, grouped_begins}
use Rattle.c_parse_expr.specs.Laws.PostfixLaws.{grouped_high, grouped_good}
use Rattle.c_parse_expr.specs.Laws.TypeBegins.{no_type, close_type, type_begins_at}
use Rattle.c_parse_expr.specs.Laws.UnaryLaws.{Stepped, Operated, stepped_made, operated_made, stepped_out, operated_out, before_span}
use Rattle.c_parse_expr.specs.Laws.UnaryLaws.{cast_of_operand, step_listed, unary_listed, apart_if, unary_begin, begins_with, starts_with}
use Rattle.c_parse_expr.specs.Laws.UnaryLaws.{stepped_good, operated_good, low_stepped, low_operated}
use Rattle.c_parse_expr.specs.Laws.SizeofLaws.{BareWords, GoodOperands, Split, split_unary, split_into, plain_word, Sized, sized_into}
use Rattle.c_parse_expr.specs.Laws.SizeofLaws.{sized_out, size_name_out, sized_begins, sized_good}

-- ---- operands that are no cast and do not begin with "("

abbrev BareParts : Language Token Measured
BareParts = Either Stepped (Either Operated (Either Sized Worded))

bare_into : (v : Measured) (w : List Token) → BareParts v w → UnaryWords v w
bare_into v w (inl m) = subst (λ v. UnaryWords v w) m.is (stepped_made m.source w m.word)
bare_into v w (inr (inl m)) = subst (λ v. UnaryWords v w) m.is (operated_made m.source w m.word)
bare_into v w (inr (inr (inl m))) = sized_into v w m
bare_into v w (inr (inr (inr m))) = spells.postfix (worded_into v w m)

bare_no_open : (t : Token) → begins_bare t ≡ true → is (punctuator mark.LeftParen) t ≡ false
bare_no_open t h = is_not_first (punctuator mark.LeftParen) (word_of t)
    (apart_words bare_words (punctuator mark.LeftParen ∷ []) refl (word_of t) h)

plain_starts : (w : List Token) → StartsIn opens w → StartsIn begins_bare w → StartsIn (among plain_words) w
plain_starts w s r =
    let same : r.head ≡ s.head = one_head begins_bare opens w r s in
    record {
      head = s.head;
      tail = s.tail;
      parts = s.parts;
      is_first = plain_word (word_of s.head) s.is_first
          (bare_no_open s.head (ap begins_bare (sym same) ∙ r.is_first));
    }

bare_out : (h : ℕ) (e : Expr) (w : List Token) → Unary h e w → StartsIn begins_bare w → BareParts (measured e h) w
bare_out h e w (spells.postfix p) s = inr (inr (inr (worded_out (measured e h) w p (plain_starts w (starts_postfix h e w p) s))))
bare_out h e w (spells.step_before {h = k} {e = a} {s = o} {u = u} t is m) s =
    inl (subst (λ p. Stepped (measured (expr p (node.Step o a)) (suc k)) (t ∷ u)) (sym (before_span t (measured a k) u m))
    (stepped_out k a o t u is m))
bare_out h e w (spells.operated {h = k} {e = a} {o = o} {u = u} t is m) s =
    inr (inl (subst (λ p. Operated (measured (expr p (node.Unary o a)) (suc k)) (t ∷ u))
    (sym (span_before begins t u (starts_cast k a u m) ∙ ap (λ (s : Span). reach t.start s.end) (sym (cast_span k a u m))))
    (operated_out k a o t u is m)))
bare_out h e w (spells.sizeof_expr {h = k} {e = a} {u = u} t is m) s =
    inr (inr (inl (subst (λ p. Sized (measured (expr p (node.SizeofExpr a)) (suc k)) (t ∷ u)) (sym (before_span t (measured a k) u m))
    (sized_out k a t u is m))))
bare_out h e w (spells.sizeof_name {k = k} {ty = ty} {v = v} t l r is isl m isr) s =
    inr (inr (inl (subst (λ p. Sized (measured (expr p (node.SizeofName ty)) k) (t ∷ l ∷ v ++ r ∷ [])) (sym (span_between t (l ∷ v) r))
    (size_name_out k ty v t l r is isl m isr))))

-- ---- casts

-- ")" cast
abbrev CastRest : Language Token (Span × Measured)
CastRest = Then (Spot (punctuator mark.RightParen)) (λ _. BinaryWords 0)

-- tname ")" cast, behind a "(" at this place
abbrev pub Casted : Span → Language Token Measured
Casted l = Made (cast_of l) (Then TypeWord (λ _. CastRest))

abbrev CastOrGroup : Span → Language Token Measured
CastOrGroup l = Either (Casted l) (Grouped l)

abbrev OperandParts : Language Token Measured
OperandParts = Either (After (punctuator mark.LeftParen) CastOrGroup) BareWords

cast_place : (l r : Token) (v x : List Token) (a : Measured) → Cast a.height a.tree x →
    span_of (l ∷ v ++ r ∷ x) ≡ reach l.start a.tree.span.end
cast_place l r v x a c = ap (reach l.start)
    (last_end_append l v r x ∙ ap (λ (s : Span). s.end) (span_before begins r x (starts_cast a.height a.tree x c))
    ∙ ap (λ (s : Span). s.end) (sym (cast_span a.height a.tree x c)))

cast_made : (l : Token) (c : TypeRead × (Span × Measured)) (u : List Token) → word_of l ≡ punctuator mark.LeftParen →
    Then TypeWord (λ _. CastRest) c u →
    BinaryWords 0 (cast_of (place_of l) c) (l ∷ u)
cast_made l c u is (join {a = ty} {u = v} m (join {b = a} {v = x} (spot r isr) b)) =
    let q : Cast a.height a.tree x = cast_of_operand a.height a.tree x b in
    subst (λ k. Binary 0 (max ty.height (suc a.height)) (expr k (node.Cast ty.ty a.tree)) (l ∷ v ++ r ∷ x)) (cast_place l r v x a q)
    (spells.operand (spells.cast l r is m.name isr q))

open_made : (l : Token) (v : Measured) (u : List Token) → word_of l ≡ punctuator mark.LeftParen → CastOrGroup (place_of l) v u →
    BinaryWords 0 v (l ∷ u)
open_made l v u is (inl m) = subst (λ v. BinaryWords 0 v (l ∷ u)) m.is (cast_made l m.source u is m.word)
open_made l v u is (inr m) = spells.operand (spells.unary (spells.postfix (grouped_into l is v u m)))

operand_into : (v : Measured) (w : List Token) → OperandParts v w → BinaryWords 0 v w
operand_into v w (inl m) =
    let q : AfterParts (punctuator mark.LeftParen) CastOrGroup v w = after_parts (punctuator mark.LeftParen) CastOrGroup v w m in
    subst (λ w. BinaryWords 0 v w) (sym q.parts) (open_made q.token v q.rest q.is_word q.word)
operand_into v w (inr b) = spells.operand (spells.unary b.word)

split_operand : (v : Measured) (w : List Token) → Split v w → OperandParts v w
split_operand v w (inl m) =
    let q : AfterParts (punctuator mark.LeftParen) Grouped v w = after_parts (punctuator mark.LeftParen) Grouped v w m in
    inl (subst (λ w. After (punctuator mark.LeftParen) CastOrGroup v w) (sym q.parts)
    (after_into (punctuator mark.LeftParen) CastOrGroup q.token v q.rest q.is_word (inr q.word)))
split_operand v w (inr b) = inr b

abbrev type_read : CType → ℕ → ℕ → TypeRead
type_read ty height end = record { ty = ty; height = height; end = end }

cast_out : (h : ℕ) (e : Expr) (w : List Token) → Cast h e w → OperandParts (measured e h) w
cast_out h e w (spells.unary m) = split_operand (measured e h) w (split_unary h e w m)
cast_out h e w (spells.cast {k = k} {h = j} {ty = ty} {e = a} {v = v} {u = x} l r isl m isr c) =
    let parts : TypeRead × (Span × Measured) = (type_read ty k (span_of v).end, (place_of r, measured a j)) in
    inl (subst (λ p. After (punctuator mark.LeftParen) CastOrGroup (measured (expr p (node.Cast ty a)) (max k (suc j))) (l ∷ v ++ r ∷ x))
    (sym (cast_place l r v x (measured a j) c))
    (after_into (punctuator mark.LeftParen) CastOrGroup l (cast_of (place_of l) parts) (v ++ r ∷ x) isl
    (inl (record { source = parts; is = refl; word = join (record { name = m; end = refl }) (join (spot r isr) (spells.operand c)) }))))

operand_out : (h : ℕ) (e : Expr) (w : List Token) → Binary 0 h e w → OperandParts (measured e h) w
operand_out h e w b = cast_out h e w (cast_of_operand h e w b)

-- ---- with which tokens they begin

cast_rest_begins : Begins CastRest []
cast_rest_begins =
    let r = punct_begins mark.RightParen in
    let b = binary_begins 0 in
    record { value = (r.value, b.value); more = r.more ++ b.more; whole = join r.whole b.whole }

casted_begins : (l : Span) (t : Token) → begins_type t ≡ true → Begins (Casted l) (t ∷ [])
casted_begins l t h =
    let b = type_begins_at t h in
    let r = cast_rest_begins in
    record {
      value = cast_of l (b.value, r.value);
      more = b.more ++ r.more;
      whole = record { source = (b.value, r.value); is = refl; word = join b.whole r.whole };
    }

joined_starts : (c : TypeRead × (Span × Measured)) (u : List Token) → Then TypeWord (λ _. CastRest) c u → StartsIn begins_type u
joined_starts c u (join {a = ty} {u = v} {v = x} m r) = starts_append begins_type v x ((type_good ty.height).starts ty v m)

casted_starts : (l : Span) (v : Measured) (u : List Token) → Casted l v u → StartsIn begins_type u
casted_starts l v u m = joined_starts m.source u m.word

open_begins : (l : Span) → Begins (CastOrGroup l) []
open_begins l = let b = grouped_begins l in record { value = b.value; more = b.more; whole = inr b.whole }

group_high : (v : Measured) (w : List Token) → After (punctuator mark.LeftParen) Grouped v w → 0 < v.height
group_high v w m =
    let q : AfterParts (punctuator mark.LeftParen) Grouped v w = after_parts (punctuator mark.LeftParen) Grouped v w m in
    grouped_high (place_of q.token) v q.rest q.word

open_high : (l : Span) (v : Measured) (u : List Token) → CastOrGroup l v u → 0 < v.height
open_high l v u (inl m) = omega (arith, ap (λ (v : Measured). v.height) m.is)
open_high l v u (inr m) = grouped_high l v u m

operand_high : (v : Measured) (w : List Token) → After (punctuator mark.LeftParen) CastOrGroup v w → 0 < v.height
operand_high v w m =
    let q : AfterParts (punctuator mark.LeftParen) CastOrGroup v w = after_parts (punctuator mark.LeftParen) CastOrGroup v w m in
    open_high (place_of q.token) v q.rest q.word

abbrev begins_open : Token → Bool
begins_open t = begins_type t || begins t

-- the words with which an operand begins, without `++` and `--`, and without the operators
abbrev no_operator : List ℕ
no_operator = keyword key.Sizeof ∷ plain_words

abbrev no_step : List ℕ
no_step = unary_words ++ no_operator

-- ---- the parsers

module _ (d : ℕ) (below : Expressions) (good : 0 < d → GoodExpressions (d - 1) below) (operands : 0 < d → GoodOperands (d - 1) below) where
  parts_good : Good (bare d below) BareParts (Low d) begins_bare (λ _ t. among operand_words t)
  unfolding bare
  parts_good =
      either_good (has_word step_word) (room d) begins_bare (stepped_good d below good)
      (either_good (has_word unary_word) (room d) (among no_step) (operated_good d below good)
      (either_good (is (keyword key.Sizeof)) true (among no_operator) (λ _. sized_good d below operands) (worded_good d below good)
      sized_begins (λ v w m low. refl) (λ v w m. after_starts (keyword key.Sizeof) _ v w m)
      (λ x h. is_not_first (keyword key.Sizeof) (word_of x) (apart_words plain_words (keyword key.Sizeof ∷ []) refl (word_of x) h))
      (λ x e. is_at (one_word no_operator) (keyword key.Sizeof) x e) (λ x h. within_words plain_words no_operator refl (word_of x) h))
      (λ x h. begins_with unary_word unary_of (BinaryWords 0) x (unary_word (word_of x)) refl h (binary_begins 0))
      (low_operated d below good) (λ v w m. starts_with unary_word (BinaryWords 0) m.source w m.word)
      (apart_if unary_word unary_words no_operator unary_listed refl)
      (λ x h. within_words unary_words no_step refl (word_of x) (unary_listed (word_of x) h))
      (λ x h. within_words no_operator no_step refl (word_of x) h))
      (λ x h. begins_with step_word step_of UnaryWords x (step_word (word_of x)) refl h unary_begin) (low_stepped d below good)
      (λ v w m. starts_with step_word UnaryWords m.source w m.word)
      (apart_if step_word step_words no_step step_listed refl)
      (λ x h. within_words step_words bare_words refl (word_of x) (step_listed (word_of x) h))
      (λ x h. within_words no_step bare_words refl (word_of x) h)

  pub bare_good : Good (bare d below) BareWords (Low d) begins_bare (λ _ t. among operand_words t)
  bare_good = good_as BareWords (Low d) begins_bare parts_good
      (λ v w m. record { word = bare_into v w m; starts = parts_good.starts v w m })
      (λ v w m. bare_out v.height v.tree w m.word m.starts) (λ v w m low. low) (λ v w m low. low) (λ x h. h)

  open_bare : (x : Token) → begins_bare x ≡ true → begins x ≡ true
  open_bare x h = within_words bare_words begin_words refl (word_of x) h

  pub unary_good : Good (unary d below) UnaryWords (Low d) begins (λ _ t. among operand_words t)
  unfolding unary
  unary_good = good_as UnaryWords (Low d) begins
      (either_good (is (punctuator mark.LeftParen)) (room d) begins
      (λ r. after_good (punctuator mark.LeftParen) Grouped (grouped d below) (punct_good mark.LeftParen)
      (grouped_good d below good (below_is 0 d r)) grouped_begins) bare_good
      (λ x e. after_begins (punctuator mark.LeftParen) Grouped x e (grouped_begins (place_of x)))
      (λ v w m low. is_below 0 d (omega (arith, group_high v w m)))
      (after_starts (punctuator mark.LeftParen) Grouped) bare_no_open
      (λ x e. is_at (one_word begin_words) (punctuator mark.LeftParen) x e) open_bare)
      split_into (λ v w m. split_unary v.height v.tree w m) (λ v w m low. low) (λ v w m low. low) (λ x h. h)

  cast_rest_good : 0 < d → Good (thens (punct mark.RightParen) (λ _. below.binary 0)) CastRest (λ p. Unit {0} × Low (d - 1) p.1)
      (is (punctuator mark.RightParen)) (λ _ t. among operand_words t)
  cast_rest_good h = thens_good (λ _. below.binary 0) (λ _. BinaryWords 0) (λ _. Low (d - 1)) begins (λ _ _ t. among operand_words t)
      (punct_good mark.RightParen) (λ _ _. (good h).operand) (λ _. binary_begins 0) (λ a x e. refl)

  pub casted_good : 0 < d → (l : Span) → Good (casted d below l) (Casted l) (Low d) begins_type (λ _ t. among operand_words t)
  unfolding casted
  casted_good h l = makes_good (cast_of l) (Casted l) (Low d) (λ _ t. among operand_words t)
      (thens_good (λ _. thens (punct mark.RightParen) (λ _. below.binary 0)) (λ _. CastRest) (λ _ p. Unit {0} × Low (d - 1) p.1)
      (is (punctuator mark.RightParen)) (λ _ _ t. among operand_words t)
      (type_good d) (λ _ _. cast_rest_good h) (λ _. cast_rest_begins) close_type)
      (λ c w m. record { source = c; is = refl; word = m }) (λ b w m. m)
      (λ c w m fits. omega (arith, fits.0, fits.1.1)) (λ c w m fits. (omega (arith, fits), (tt, omega (arith, fits)))) (λ a x e. e)

  open_good : 0 < d → (l : Span) → Good (cast_or_group d below l) (CastOrGroup l) (Low d) begins_open (λ _ t. among operand_words t)
  unfolding cast_or_group
  open_good h l = either_good begins_type true begins_open (λ _. casted_good h l) (grouped_good d below good h l)
      (casted_begins l) (λ v w m low. refl) (casted_starts l) no_type
      (λ x e. or_left (begins_type x) (begins x) e) (λ x e. or_right (begins_type x) (begins x) e)

  pub operand_good : Good (operand d below) (BinaryWords 0) (Low d) begins (λ _ t. among operand_words t)
  unfolding operand
  operand_good = good_as (BinaryWords 0) (Low d) begins
      (either_good (is (punctuator mark.LeftParen)) (room d) begins
      (λ r. after_good (punctuator mark.LeftParen) CastOrGroup (cast_or_group d below) (punct_good mark.LeftParen)
      (open_good (below_is 0 d r)) open_begins) bare_good
      (λ x e. after_begins (punctuator mark.LeftParen) CastOrGroup x e (open_begins (place_of x)))
      (λ v w m low. is_below 0 d (omega (arith, operand_high v w m)))
      (after_starts (punctuator mark.LeftParen) CastOrGroup) bare_no_open
      (λ x e. is_at (one_word begin_words) (punctuator mark.LeftParen) x e) open_bare)
      operand_into (λ v w m. operand_out v.height v.tree w m) (λ v w m low. low) (λ v w m low. low) (λ x h. h)

  pub layer_operands : GoodOperands d (parser.layer d below)
  layer_operands = record { bare = bare_good; grouped = grouped_good d below good }
