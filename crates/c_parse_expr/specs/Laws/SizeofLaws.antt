-- `sizeof` is read, with an operand or a type name (ISO C11 6.5.3.4).
use Rattle.std.specs.Prelude.{◌≡◌, ℕ, suc, ◌-◌, ◌<◌, ◌==◌, Bool, true, false, ◌||◌, nat_lt, List, [], ◌∷◌, ◌++◌, refl}
use Rattle.std.proofs.Common.{sym, ap, subst, arith, inl, inr}
use Rattle.c_ast.specs.declared.token.Span.{Span}
use Rattle.c_ast.specs.Seen.{Seen as Token}
use Rattle.c_ast.specs.declared.expr.Expr.{Expr}
use Rattle.c_ast.specs.declared.expr.CType.{CType}
use Rattle.c_ast.specs.declared.expr.Node.TheVariants as node
use Rattle.c_ast.specs.Tree.{expr}
use Rattle.c_ast.specs.declared.keyword.Keyword.TheVariants as key
use Rattle.c_ast.specs.declared.punctuator.Punctuator.TheVariants as mark
use Rattle.c_grammar.specs.Words.{word_of, keyword, punctuator, span_of, a_name, a_number, a_character, a_text}
use Rattle.c_grammar.specs.Types.{TypeName}
use Rattle.c_grammar.specs.Expressions as spells
use Rattle.c_grammar.specs.Expressions.{Postfix, Unary}
use Rattle.c_parse_base.specs.Reading.Answer.{makes}
use Rattle.c_parse_base.specs.Reading.Good.{Language, Begins, StartsIn, Good}
use Rattle.c_parse_base.specs.Reading.Languages.{Then, join, Either, Always, nothing, Made}
use Rattle.c_parse_base.specs.Laws.Parts.{thens_good, makes_good, either_good}
use Rattle.c_parse_base.specs.Laws.SpanLaws.{span_between}
use Rattle.c_parse_base.specs.Reading.Words.{is, punct, place_of, Spot, spot, one_word, among}
use Rattle.c_parse_base.specs.Laws.WordGood.{key_good, punct_good, punct_begins, equal_is}
use Rattle.c_parse_base.specs.declared.type_read.TypeRead.{TypeRead}
use Rattle.c_parse_base.specs.Reading.TypeNames.{begins_type}
use Rattle.c_parse_base.specs.Laws.TypeNameLaws.{TypeWord, type_good}
use Rattle.c_parse_expr.specs.declared.measured.Measured.{Measured}
use Rattle.c_parse_expr.specs.Reading.Nodes.{size_of, size_name_of}
use Rattle.c_parse_base.specs.Laws.WordListLaws.{is_at, or_left, or_right, within_words}
use Rattle.c_parse_base.specs.Laws.Depths.{below_is, is_below}
use Rattle.c_parse_expr.specs.Reading.Expressions.{Expressions, room, bare_words, begins_bare, plain_words, size_name, size_opened}
use Rattle.c_parse_expr.specs.Reading.Expressions.{size_rest, sized}
use Rattle.c_parse_expr.specs.Laws.AfterLaws.{After, AfterParts, after_into, after_parts, after_begins, after_good}
use Rattle.c_parse_expr.specs.Laws.BeginLaws.{bare_begins_at}
use Rattle.c_parse_expr.specs.Reading.Levels.{Low, UnaryWords, primary_words, begin_words, operand_words, opens, begins, measured}
use Rattle.c_parse_expr.specs.Reading.Levels.{example, example_token}
use Rattle.c_parse_expr.specs.Laws.LevelLaws.{step_bare, operator_bare, starts_postfix, example_unary}
use Rattle.c_parse_expr.specs.Laws.PostfixLaws.{Grouped, grouped_into, grouped_out, grouped_begins, grouped_begins_at, grouped_starts}
use Rattle.c_parse_expr.specs.Laws.PostfixLaws.{grouped_high}
use Rattle.c_parse_expr.specs.Laws.TypeBegins.{no_expression, close_type}
use Rattle.c_parse_expr.specs.Laws.UnaryLaws.{before_span}

-- an operand that is no cast and does not begin with "("
pub record BareWords (v : Measured) (w : List Token) : Type 0 where
  pub word : UnaryWords v w
  pub starts : StartsIn begins_bare w

-- the parsers of a level read what stands below a `sizeof`
pub record GoodOperands (d : ℕ) (e : Expressions) : Type 0 where
  pub bare : Good e.bare BareWords (Low d) begins_bare (λ _ t. among operand_words t)
  pub grouped : 0 < d → (l : Span) → Good (e.grouped l) (Grouped l) (Low d) begins (λ _ t. among operand_words t)

pub bare_begin : Begins BareWords []
unfolding example
bare_begin = record {
  value = example;
  more = example_token ∷ [];
  whole = record { word = example_unary; starts = record { head = example_token; tail = []; parts = refl; is_first = refl } };
}

-- ---- operands that begin with "(", and the others

pub plain_word : (w : ℕ) → one_word primary_words w ≡ true → (w == punctuator mark.LeftParen) ≡ false → one_word plain_words w ≡ true
plain_word w h e = subst (λ x. ((w == a_name) || ((w == a_number) || ((w == a_character) || ((w == a_text) || (x || false))))) ≡ true) e h

-- the first word of an operand that is neither a cast nor begins with "("
pub plain_bare : (t : Token) → among plain_words t ≡ true → begins_bare t ≡ true
plain_bare t h = within_words plain_words bare_words refl (word_of t) h

-- what stands behind the "(", or the operand itself
abbrev pub Split : Language Token Measured
Split = Either (After (punctuator mark.LeftParen) Grouped) BareWords

split_postfix : (h : ℕ) (e : Expr) (w : List Token) → Postfix h e w → Split (measured e h) w
split_postfix h e w p = go (is (punctuator mark.LeftParen) s.head) refl
  where
    s : StartsIn opens w
    s = starts_postfix h e w p

    go : (b : Bool) → is (punctuator mark.LeftParen) s.head ≡ b → Split (measured e h) w
    go true k =
        let open_ : word_of s.head ≡ punctuator mark.LeftParen = equal_is (word_of s.head) (punctuator mark.LeftParen) k in
        let m : Grouped (place_of s.head) (measured e h) s.tail = grouped_out s.head open_ (measured e h) w s.tail p s.parts in
        inl (subst (λ w. After (punctuator mark.LeftParen) Grouped (measured e h) w) (sym s.parts)
        (after_into (punctuator mark.LeftParen) Grouped s.head (measured e h) s.tail open_ m))
    go false k = inr (record {
      word = spells.postfix p;
      starts = record {
        head = s.head;
        tail = s.tail;
        parts = s.parts;
        is_first = plain_bare s.head (plain_word (word_of s.head) s.is_first k);
      };
    })

pub split_unary : (h : ℕ) (e : Expr) (w : List Token) → Unary h e w → Split (measured e h) w
split_unary h e w (spells.postfix p) = split_postfix h e w p
split_unary h e w (spells.step_before {s = s} {u = u} t is m) =
    inr (record { word = spells.step_before t is m; starts = record { head = t; tail = u; parts = refl; is_first = step_bare t s is } })
split_unary h e w (spells.operated {o = o} {u = u} t is m) =
    inr (record { word = spells.operated t is m; starts = record { head = t; tail = u; parts = refl; is_first = operator_bare t o is } })
split_unary h e w (spells.sizeof_expr {u = u} t is m) =
    inr (record {
      word = spells.sizeof_expr t is m;
      starts =
          record { head = t; tail = u; parts = refl; is_first = ap (one_word bare_words) is };
    })
split_unary h e w (spells.sizeof_name {v = v} t l r is isl m isr) =
    inr (record {
      word = spells.sizeof_name t l r is isl m isr;
      starts = record { head = t; tail = l ∷ v ++ r ∷ []; parts = refl; is_first = ap (one_word bare_words) is };
    })

pub split_into : (v : Measured) (w : List Token) → Split v w → UnaryWords v w
split_into v w (inl m) =
    let q : AfterParts (punctuator mark.LeftParen) Grouped v w = after_parts (punctuator mark.LeftParen) Grouped v w m in
    subst (λ w. UnaryWords v w) (sym q.parts) (spells.postfix (grouped_into q.token q.is_word v q.rest q.word))
split_into v w (inr b) = b.word

-- ---- the languages

abbrev SizeOperand : Span → Language Token Measured
SizeOperand place = Made (size_of place) BareWords

abbrev SizeGroup : Span → Span → Language Token Measured
SizeGroup place l = Made (size_of place) (Grouped l)

-- tname ")"
abbrev SizeName : Span → Language Token Measured
SizeName place = Made (size_name_of place) (Then TypeWord (λ _. Spot (punctuator mark.RightParen)))

abbrev SizeOpened : Span → Span → Language Token Measured
SizeOpened place l = Either (SizeGroup place l) (SizeName place)

abbrev SizeRest : Span → Language Token Measured
SizeRest place = Either (SizeOperand place) (After (punctuator mark.LeftParen) (SizeOpened place))

-- `sizeof` and what stands behind it
abbrev pub Sized : Language Token Measured
Sized = After (keyword key.Sizeof) SizeRest

size_made : (t : Token) (a : Measured) (u : List Token) → word_of t ≡ keyword key.Sizeof → UnaryWords a u →
    UnaryWords (size_of (place_of t) a) (t ∷ u)
size_made t a u is m = subst (λ k. Unary (suc a.height) (expr k (node.SizeofExpr a.tree)) (t ∷ u)) (before_span t a u m)
    (spells.sizeof_expr t is m)

name_made : (t l : Token) (c : TypeRead × Span) (u : List Token) → word_of t ≡ keyword key.Sizeof → word_of l ≡ punctuator mark.LeftParen →
    Then TypeWord (λ _. Spot (punctuator mark.RightParen)) c u → UnaryWords (size_name_of (place_of t) c) (t ∷ l ∷ u)
name_made t l c u is isl (join {a = a} {u = v} m (spot r isr)) =
    subst (λ k. Unary a.height (expr k (node.SizeofName a.ty)) (t ∷ l ∷ v ++ r ∷ [])) (span_between t (l ∷ v) r)
    (spells.sizeof_name t l r is isl m.name isr)

opened_made : (t l : Token) (v : Measured) (u : List Token) → word_of t ≡ keyword key.Sizeof → word_of l ≡ punctuator mark.LeftParen →
    SizeOpened (place_of t) (place_of l) v u →
    UnaryWords v (t ∷ l ∷ u)
opened_made t l v u is isl (inl m) =
    subst (λ v. UnaryWords v (t ∷ l ∷ u)) m.is (size_made t m.source (l ∷ u) is (spells.postfix (grouped_into l isl m.source u m.word)))
opened_made t l v u is isl (inr m) = subst (λ v. UnaryWords v (t ∷ l ∷ u)) m.is (name_made t l m.source u is isl m.word)

rest_made : (t : Token) (v : Measured) (u : List Token) → word_of t ≡ keyword key.Sizeof → SizeRest (place_of t) v u → UnaryWords v (t ∷ u)
rest_made t v u is (inl m) = subst (λ v. UnaryWords v (t ∷ u)) m.is (size_made t m.source u is m.word.word)
rest_made t v u is (inr m) =
    let q : AfterParts (punctuator mark.LeftParen) (SizeOpened (place_of t)) v u =
    after_parts (punctuator mark.LeftParen) (SizeOpened (place_of t)) v u m in
    subst (λ u. UnaryWords v (t ∷ u)) (sym q.parts) (opened_made t q.token v q.rest is q.is_word q.word)

pub sized_into : (v : Measured) (w : List Token) → Sized v w → UnaryWords v w
sized_into v w m =
    let q : AfterParts (keyword key.Sizeof) SizeRest v w = after_parts (keyword key.Sizeof) SizeRest v w m in
    subst (λ w. UnaryWords v w) (sym q.parts) (rest_made q.token v q.rest q.is_word q.word)

size_split : (place : Span) (a : Measured) (u : List Token) → Split a u → SizeRest place (size_of place a) u
size_split place a u (inl m) =
    let q : AfterParts (punctuator mark.LeftParen) Grouped a u = after_parts (punctuator mark.LeftParen) Grouped a u m in
    inr (subst (λ u. After (punctuator mark.LeftParen) (SizeOpened place) (size_of place a) u) (sym q.parts)
    (after_into (punctuator mark.LeftParen) (SizeOpened place) q.token (size_of place a) q.rest q.is_word
    (inl (record { source = a; is = refl; word = q.word }))))
size_split place a u (inr b) = inl (record { source = a; is = refl; word = b })

-- `sizeof` with an operand
pub sized_out : (h : ℕ) (e : Expr) (t : Token) (u : List Token) → word_of t ≡ keyword key.Sizeof → Unary h e u →
    Sized (size_of (place_of t) (measured e h)) (t ∷ u)
sized_out h e t u is m = after_into (keyword key.Sizeof) SizeRest t (size_of (place_of t) (measured e h)) u is
    (size_split (place_of t) (measured e h) u (split_unary h e u m))

abbrev type_read : CType → ℕ → ℕ → TypeRead
type_read ty height end = record { ty = ty; height = height; end = end }

-- `sizeof` with a type name
pub size_name_out : (k : ℕ) (ty : CType) (v : List Token) (t l r : Token) → word_of t ≡ keyword key.Sizeof →
    word_of l ≡ punctuator mark.LeftParen → TypeName k ty v →
    word_of r ≡ punctuator mark.RightParen → Sized (size_name_of (place_of t) (type_read ty k (span_of v).end, place_of r))
    (t ∷ l ∷ v ++ r ∷ [])
size_name_out k ty v t l r is isl m isr =
    let c : TypeRead × Span = (type_read ty k (span_of v).end, place_of r) in
    after_into (keyword key.Sizeof) SizeRest t (size_name_of (place_of t) c) (l ∷ v ++ r ∷ []) is
    (inr (after_into (punctuator mark.LeftParen) (SizeOpened (place_of t)) l (size_name_of (place_of t) c) (v ++ r ∷ []) isl
    (inr (record { source = c; is = refl; word = join (record { name = m; end = refl }) (spot r isr) }))))

-- ---- with which tokens they begin

group_begins : (place l : Span) (t : Token) → begins t ≡ true → Begins (SizeGroup place l) (t ∷ [])
group_begins place l t h =
    let b = grouped_begins_at l t h in
    record { value = size_of place b.value; more = b.more; whole = record { source = b.value; is = refl; word = b.whole } }

opened_begins : (place l : Span) → Begins (SizeOpened place l) []
opened_begins place l =
    let b = grouped_begins l in
    record { value = size_of place b.value; more = b.more; whole = inl (record { source = b.value; is = refl; word = b.whole }) }

operand_begins : (place : Span) (t : Token) → begins_bare t ≡ true → Begins (SizeOperand place) (t ∷ [])
operand_begins place t h =
    let b = bare_begins_at t h in
    record {
      value = size_of place b.value;
      more = b.more;
      whole = record {
        source = b.value;
        is = refl;
        word = record {
          word = b.whole;
          starts = record { head = t; tail = b.more; parts = refl; is_first = h };
        };
      };
    }

rest_begins : (place : Span) → Begins (SizeRest place) []
rest_begins place = let b = bare_begin in record {
  value = size_of place b.value;
  more = b.more;
  whole = inl (record { source = b.value; is = refl; word = b.whole });
}

pub sized_begins : (t : Token) → is (keyword key.Sizeof) t ≡ true → Begins Sized (t ∷ [])
sized_begins t e = after_begins (keyword key.Sizeof) SizeRest t e (rest_begins (place_of t))

abbrev begins_opened : Token → Bool
begins_opened t = begins t || begins_type t

-- ---- the parsers

module _ (d : ℕ) (below : Expressions) (operands : 0 < d → GoodOperands (d - 1) below) where
  pub size_name_good : (place : Span) → Good (size_name d below place) (SizeName place) (Low d) begins_type (λ _ t. among operand_words t)
  unfolding size_name
  size_name_good place = makes_good (size_name_of place) (SizeName place) (Low d) (λ _ t. among operand_words t)
      (thens_good (λ _. punct mark.RightParen) (λ _. Spot (punctuator mark.RightParen)) (λ _. Always) (is (punctuator mark.RightParen))
      (λ _. nothing)
      (type_good d) (λ _ _. punct_good mark.RightParen) (λ _. punct_begins mark.RightParen) close_type)
      (λ c w m. record { source = c; is = refl; word = m }) (λ b w m. m)
      (λ c w m fits. fits.0) (λ c w m fits. (fits, tt)) (λ a x e. refl)

  size_group_good : nat_lt 1 d ≡ true → (place l : Span) → Good (makes (size_of place) (below.grouped l)) (SizeGroup place l)
      (Low d) begins (λ _ t. among operand_words t)
  size_group_good r place l =
      let deep : 1 < d = below_is 1 d r in
      makes_good (size_of place) (SizeGroup place l) (Low d) (λ _ t. among operand_words t)
      ((operands (omega arith)).grouped (omega arith) l)
      (λ c w m. record { source = c; is = refl; word = m }) (λ b w m. m)
      (λ c w m fits. omega (arith, fits)) (λ c w m fits. omega (arith, fits)) (λ a x e. e)

  group_needs : (place l : Span) (v : Measured) (w : List Token) → SizeGroup place l v w → Low d v → nat_lt 1 d ≡ true
  group_needs place l v w m low = is_below 1 d (omega (arith, ap (λ v. v.height) m.is, grouped_high l m.source w m.word))

  pub size_opened_good : (place l : Span) → Good (size_opened d below place l) (SizeOpened place l) (Low d) begins_opened
      (λ _ t. among operand_words t)
  unfolding size_opened
  size_opened_good place l = either_good begins (nat_lt 1 d) begins_opened (λ r. size_group_good r place l) (size_name_good place)
      (group_begins place l) (group_needs place l) (λ v w m. grouped_starts l m.source w m.word) no_expression
      (λ x h. or_left (begins x) (begins_type x) h) (λ x h. or_right (begins x) (begins_type x) h)

  size_operand_good : room d ≡ true → (place : Span) → Good (makes (size_of place) below.bare) (SizeOperand place) (Low d) begins_bare
      (λ _ t. among operand_words t)
  size_operand_good r place =
      let deep : 0 < d = below_is 0 d r in
      makes_good (size_of place) (SizeOperand place) (Low d) (λ _ t. among operand_words t) (operands deep).bare
      (λ c w m. record { source = c; is = refl; word = m }) (λ b w m. m)
      (λ c w m fits. omega (arith, fits)) (λ c w m fits. omega (arith, fits)) (λ a x e. e)

  operand_needs : (place : Span) (v : Measured) (w : List Token) → SizeOperand place v w → Low d v → room d ≡ true
  operand_needs place v w m low = is_below 0 d (omega (arith, ap (λ v. v.height) m.is))

  size_rest_good : (place : Span) → Good (size_rest d below place) (SizeRest place) (Low d) begins (λ _ t. among operand_words t)
  unfolding size_rest
  size_rest_good place = either_good begins_bare (room d) begins (λ r. size_operand_good r place)
      (after_good (punctuator mark.LeftParen) (SizeOpened place) (size_opened d below place) (punct_good mark.LeftParen)
      (size_opened_good place) (opened_begins place))
      (operand_begins place) (operand_needs place) (λ v w m. m.word.starts)
      (λ x e. is_at (one_word bare_words) (punctuator mark.LeftParen) x e)
      (λ x h. within_words bare_words begin_words refl (word_of x) h) (λ x e. is_at (one_word begin_words) (punctuator mark.LeftParen) x e)

  pub sized_good : Good (sized d below) Sized (Low d) (is (keyword key.Sizeof)) (λ _ t. among operand_words t)
  unfolding sized
  sized_good = after_good (keyword key.Sizeof) SizeRest (size_rest d below) (key_good key.Sizeof) size_rest_good rest_begins
