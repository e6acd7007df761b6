-- Names, constants, texts and parentheses are read.
use Rattle.std.specs.Prelude.{◌≡◌, ℕ, suc, ◌-◌, ◌<◌, ◌==◌, Bool, true, false, List, [], ◌∷◌, ◌++◌, Option, Some, None, is_some, refl}
use Rattle.std.proofs.Common.{sym, ◌∙◌, ap, subst, arith, inl, inr}
use Rattle.c_ast.specs.declared.token.Span.{Span}
use Rattle.c_ast.specs.Seen.{Seen as Token}
use Rattle.c_ast.specs.declared.token.Lexeme.{Lexeme}
use Rattle.c_ast.specs.declared.token.Lexeme.TheVariants as lexeme
use Rattle.c_ast.specs.declared.int_type.IntType.TheVariants as integer
use Rattle.c_ast.specs.declared.expr.Expr.{Expr}
use Rattle.c_ast.specs.declared.expr.Node.{Node}
use Rattle.c_ast.specs.declared.expr.Node.TheVariants as node
use Rattle.c_ast.specs.Tree.{expr}
use Rattle.c_ast.specs.declared.punctuator.Punctuator.TheVariants as mark
use Rattle.c_grammar.specs.Words.{word_of, lexeme_word, punctuator, span_of, a_name, a_number, a_character, a_text}
use Rattle.c_grammar.specs.Expressions as spells
use Rattle.c_grammar.specs.Expressions.{Primary, spelled, Texts, one_text, more_text}
use Rattle.c_parse_base.specs.Reading.Answer.{word}
use Rattle.c_parse_base.specs.Reading.Good.{Language, Begins, StartsIn, Good}
use Rattle.c_parse_base.specs.Reading.Languages.{Word, word_of as one_word_of, Then, join, Either, Chain, once, again, Always, nothing}
use Rattle.c_parse_base.specs.Reading.Languages.{Made}
use Rattle.c_parse_base.specs.Laws.Parts.{word_good, thens_good, makes_good, either_good}
use Rattle.c_parse_base.specs.Laws.ChainLaws.{chain_good}
use Rattle.c_parse_base.specs.Reading.Words.{is, punct, place_of, token_of, Spot, spot, one_word, among}
use Rattle.c_parse_base.specs.Laws.Lists.{starts_append}
use Rattle.c_parse_base.specs.Laws.WordGood.{good_as, good_on, punct_good, punct_begins, is_equal}
use Rattle.c_parse_base.specs.Reading.Spans.{join_spans}
use Rattle.c_parse_base.specs.Laws.SpanLaws.{span_between}
use Rattle.c_parse_expr.specs.declared.measured.Measured.{Measured}
use Rattle.c_parse_expr.specs.Reading.Nodes.{Quoted, text_of, joined, paren_of}
use Rattle.c_parse_expr.specs.Reading.Operators.{operator_word}
use Rattle.c_parse_base.specs.Laws.WordListLaws.{is_not_first, apart_words, within_words}
use Rattle.c_parse_expr.specs.Reading.Expressions.{Expressions, constant_node, measured_at, pick_constant, constant, quoted_at, pick_text}
use Rattle.c_parse_expr.specs.Reading.Expressions.{is_text, more_texts, texts, plain_words, plain, opened}
use Rattle.c_parse_expr.specs.Laws.StartLaws.{apart_starts}
use Rattle.c_parse_expr.specs.Laws.AfterLaws.{After, AfterParts, after_into, after_parts, after_starts}
use Rattle.c_parse_expr.specs.Laws.BeginLaws.{expression_begins_at}
use Rattle.c_parse_expr.specs.Reading.Levels.{Low, PrimaryWord, ExpressionWord, opens, begins, GoodExpressions, measured, example}
use Rattle.c_parse_expr.specs.Reading.Levels.{example_token}
use Rattle.c_parse_expr.specs.Laws.LevelLaws.{closes_all, starts_expression, starts_texts, span_behind, example_expression}

-- a text goes on behind a primary expression
abbrev pub text_behind : Measured → Token → Bool
text_behind a t = is a_text t

-- ---- a word

constant_words : (t : Token) (kind : Lexeme) (v : Measured) → t.kind ≡ kind → measured_at (place_of t) (constant_node kind) ≡ Some v →
    PrimaryWord v (t ∷ [])
constant_words t (lexeme.Name n) v e h = let same : record { tree = spelled (t ∷ []) (node.Variable n); height = 0 } ≡ v = cc in
    subst (λ v. PrimaryWord v (t ∷ [])) same (spells.variable t e)
constant_words t (lexeme.Number value ty) v e h = let same : record { tree = spelled (t ∷ []) (node.Constant value ty); height = 0 } ≡
    v = cc in subst (λ v. PrimaryWord v (t ∷ [])) same (spells.number t e)
constant_words t (lexeme.Character value) v e h = let same : record {
  tree = spelled (t ∷ []) (node.Constant value integer.Int);
  height = 0;
} ≡ v = cc in subst (λ v. PrimaryWord v (t ∷ [])) same (spells.character t e)
constant_words t lexeme.Include v e h = cc
constant_words t (lexeme.Text b) v e h = cc
constant_words t (lexeme.Keyword k) v e h = cc
constant_words t (lexeme.Punct p) v e h = cc

constant_into : (v : Measured) (w : List Token) → Word pick_constant v w → PrimaryWord v w
constant_into v w (one_word_of {x = t} e) = constant_words t t.kind v refl e

-- the words that are constants or names
abbrev constant_list : List ℕ
constant_list = a_name ∷ a_number ∷ a_character ∷ []

constant_kind : (place : Span) (kind : Lexeme) → is_some (measured_at place (constant_node kind)) ≡ true →
    one_word constant_list (lexeme_word kind) ≡ true
constant_kind place (lexeme.Name n) h = refl
constant_kind place (lexeme.Number value ty) h = refl
constant_kind place (lexeme.Character value) h = refl
constant_kind place lexeme.Include h = cc
constant_kind place (lexeme.Text b) h = cc
constant_kind place (lexeme.Keyword k) h = cc
constant_kind place (lexeme.Punct p) h = cc

constant_good : Good constant (Word pick_constant) Always (among constant_list) nothing
unfolding constant example
constant_good = good_as (Word pick_constant) Always (among constant_list)
    (word_good pick_constant (record { token = example_token; value = example; is = refl }))
    (λ a w l. l) (λ a w l. l) (λ a w l h. h) (λ a w l h. h) (λ x h. constant_kind (place_of x) x.kind h)

word_height : (place : Span) (o : Option Node) (v : Measured) → measured_at place o ≡ Some v → v.height ≡ 0
word_height place None v e = cc
word_height place (Some n) v e = let same : measured (expr place n) 0 ≡ v = cc in ap (λ v. v.height) (sym same)

constant_height : (v : Measured) (w : List Token) → Word pick_constant v w → v.height ≡ 0
constant_height v w (one_word_of {x = t} e) = word_height (place_of t) (constant_node t.kind) v e

-- ---- adjacent texts

text_kind : (place : Span) (kind : Lexeme) → is_some (quoted_at place kind) ≡ true → lexeme_word kind ≡ 4
text_kind place (lexeme.Text b) h = refl
text_kind place (lexeme.Name n) h = cc
text_kind place (lexeme.Number value ty) h = cc
text_kind place (lexeme.Character value) h = cc
text_kind place lexeme.Include h = cc
text_kind place (lexeme.Keyword k) h = cc
text_kind place (lexeme.Punct p) h = cc

pub text_word : (t : Token) → is_text t ≡ true → word_of t ≡ a_text
text_word t h = text_kind (place_of t) t.kind h

no_text_word : (t : Token) (b : Bool) → is_text t ≡ b → is a_text t ≡ false → b ≡ false
no_text_word t true e h = let same = ap (λ w. w == a_text) (text_word t e) in cc
no_text_word t false e h = refl

-- a token of another word is no text
pub not_text : (t : Token) → is a_text t ≡ false → is_text t ≡ false
not_text t h = no_text_word t (is_text t) refl h

-- the token is this text
record IsQuote (t : Token) (q : Quoted) : Type 0 where
  kind : t.kind ≡ lexeme.Text q.0
  place : q.1 ≡ place_of t

quoted_is : (t : Token) (kind : Lexeme) (q : Quoted) → t.kind ≡ kind → quoted_at (place_of t) kind ≡ Some q → IsQuote t q
quoted_is t (lexeme.Text b) q e h =
    let same : (b, place_of t) ≡ q = cc in
    record { kind = e ∙ ap (λ (q : Quoted). lexeme.Text q.0) same; place = ap (λ (q : Quoted). q.1) (sym same) }
quoted_is t (lexeme.Name n) q e h = cc
quoted_is t (lexeme.Number value ty) q e h = cc
quoted_is t (lexeme.Character value) q e h = cc
quoted_is t lexeme.Include q e h = cc
quoted_is t (lexeme.Keyword k) q e h = cc
quoted_is t (lexeme.Punct p) q e h = cc

-- adjacent texts, with the place of all
pub record Quoting (q : Quoted) (w : List Token) : Type 0 where
  pub texts : Texts q.0 w
  pub place : q.1 ≡ span_of w

abbrev pub MoreTexts : Quoted → Language Token Quoted
MoreTexts a = Made (joined a) (Word pick_text)

abbrev pub TextChain : Language Token Quoted
TextChain = Chain (Word pick_text) MoreTexts

one_quoting : (q : Quoted) (w : List Token) → Word pick_text q w → Quoting q w
one_quoting q w (one_word_of {x = t} e) =
    let m : IsQuote t q = quoted_is t t.kind q refl e in
    record { texts = one_text t m.kind; place = m.place }

more_quoting : (a q : Quoted) (w u : List Token) → Quoting a w → Word pick_text q u → Quoting (joined a q) (w ++ u)
more_quoting a q w u g (one_word_of {x = t} e) =
    let m : IsQuote t q = quoted_is t t.kind q refl e in
    record {
      texts = more_text t g.texts m.kind;
      place = ap (λ s. join_spans s q.1) g.place ∙ ap (join_spans (span_of w)) m.place
          ∙ sym (span_behind opens w t [] (place_of t).end (starts_texts a.0 w g.texts) refl);
    }

chain_quoting : (q : Quoted) (w : List Token) → TextChain q w → Quoting q w
chain_quoting q w (once l) = one_quoting q w l
chain_quoting q w (again {a = a} {w = v} {u = u} c s) = subst (λ q. Quoting q (v ++ u)) s.is
    (more_quoting a s.source v u (chain_quoting a v c) s.word)

texts_into : (q : Quoted) (w : List Token) → TextChain q w → PrimaryWord (text_of q) w
texts_into q w c = let g = chain_quoting q w c in subst (λ s. Primary 0 (expr s (node.Text q.0)) w) (sym g.place) (spells.text g.texts)

chain_of : (bytes : List ℕ) (w : List Token) → Texts bytes w → TextChain (bytes, span_of w) w
chain_of bytes w (one_text t e) = once (one_word_of (ap (quoted_at (place_of t)) e))
chain_of bytes w (more_text {before = before} {bytes = b} {w = u} t m e) = again (chain_of before u m) (record {
  source = (b, place_of t);
  is = ap (λ s. (before ++ b, s)) (sym (span_behind opens u t [] (place_of t).end (starts_texts before u m) refl));
  word = one_word_of (ap (quoted_at (place_of t)) e);
})

-- adjacent texts as an expression
abbrev pub TextWord : Language Token Measured
TextWord = Made text_of TextChain

text_word_good : Good (word pick_text) (Word pick_text) Always is_text nothing
text_word_good = word_good pick_text (record {
  token = token_of (lexeme.Text []);
  value = ([], place_of (token_of (lexeme.Text [])));
  is = refl;
})

turn_example : (a : Quoted) (t : Token) (o : Option Quoted) → pick_text t ≡ o → is_some o ≡ true → Begins (MoreTexts a) (t ∷ [])
turn_example a t None e h = cc
turn_example a t (Some q) e h = record { value = joined a q; more = []; whole = record { source = q; is = refl; word = one_word_of e } }

pub more_texts_good : (a : Quoted) → Good (more_texts a) (MoreTexts a) Always is_text nothing
unfolding more_texts
more_texts_good a = makes_good (joined a) (MoreTexts a) Always nothing text_word_good
    (λ q w m. record { source = q; is = refl; word = m }) (λ b w m. m) (λ q w m h. h) (λ q w m h. h) (λ a x e. refl)

texts_good : (d : ℕ) → Good texts TextWord (Low d) is_text text_behind
unfolding texts
texts_good d = makes_good text_of TextWord (Low d) text_behind
    (chain_good is_text (λ _. true) more_texts MoreTexts (λ a may. more_texts_good a) (λ _ t. is a_text t) text_word_good
    (λ a x h. turn_example a x (pick_text x) refl h) (λ a b u m h. record { fits = tt; has_room = refl })
    (λ a x h. refl) (λ a x h. (refl, not_text x h)))
    (λ a w m. record { source = a; is = refl; word = m }) (λ b w m. m)
    (λ a w m h. omega arith) (λ a w m h. tt) (λ a x e. e)

texts_starts : (v : Measured) (w : List Token) → TextWord v w → StartsIn is_text w
texts_starts v w m = (texts_good 0).starts v w m

texts_begins : (t : Token) (o : Option Quoted) → pick_text t ≡ o → is_some o ≡ true → Begins TextWord (t ∷ [])
texts_begins t None e h = cc
texts_begins t (Some q) e h = record { value = text_of q; more = []; whole = record { source = q; is = refl; word = once (one_word_of e) } }

-- texts or a word
abbrev pub PlainWord : Language Token Measured
PlainWord = Either TextWord (Word pick_constant)

constant_at : (d : ℕ) → Good constant (Word pick_constant) (Low d) (among constant_list) text_behind
constant_at d = good_on text_behind
    (good_as (Word pick_constant) (Low d) (among constant_list) constant_good (λ a w l. l) (λ a w l. l)
    (λ a w l _. omega (arith, constant_height a w l)) (λ a w l low. tt) (λ x h. h))
    (λ a x h. refl)

pub plain_good : (d : ℕ) → Good plain PlainWord (Low d) (among plain_words) text_behind
unfolding plain
plain_good d = either_good is_text true (among plain_words) (λ r. texts_good d) (constant_at d)
    (λ x h. texts_begins x (pick_text x) refl h) (λ a w l f. refl) texts_starts
    (λ x h. not_text x (apart_four x h))
    (λ x h. ap (one_word plain_words) (text_word x h)) (λ x h. within_words constant_list plain_words refl (word_of x) h)
  where
    apart_four : (x : Token) → among constant_list x ≡ true → is a_text x ≡ false
    apart_four x h = is_not_first a_text (word_of x) (apart_words constant_list (a_text ∷ []) refl (word_of x) h)

-- ---- parentheses

-- expr ")"
abbrev pub Opened : Span → Language Token Measured
Opened l = Made (paren_of l) (Then ExpressionWord (λ _. Spot (punctuator mark.RightParen)))

pub opened_begins : (l : Span) → Begins (Opened l) []
opened_begins l = record {
  value = paren_of l (example, (punct_begins mark.RightParen).value);
  more = (example_token ∷ []) ++ (punct_begins mark.RightParen).more;
  whole = record {
    source = (example, (punct_begins mark.RightParen).value);
    is = refl;
    word = join (example_expression) (punct_begins mark.RightParen).whole;
  };
}

-- for each token with which an expression begins
pub opened_begins_at : (l : Span) (t : Token) → begins t ≡ true → Begins (Opened l) (t ∷ [])
opened_begins_at l t h =
    let b = expression_begins_at t h in
    let r = punct_begins mark.RightParen in
    record {
      value = paren_of l (b.value, r.value);
      more = b.more ++ r.more;
      whole = record { source = (b.value, r.value); is = refl; word = join b.whole r.whole };
    }

opened_joined : (c : Measured × Span) (u : List Token) → Then ExpressionWord (λ _. Spot (punctuator mark.RightParen)) c u →
    StartsIn begins u
opened_joined c u (join {a = a} {u = x} {v = v} m r) = starts_append begins x v (starts_expression a.height a.tree x m)

pub opened_starts : (l : Span) (v : Measured) (u : List Token) → Opened l v u → StartsIn begins u
opened_starts l v u m = opened_joined m.source u m.word

paren_made : (l : Token) (c : Measured × Span) (u : List Token) → word_of l ≡ punctuator mark.LeftParen →
    Then ExpressionWord (λ _. Spot (punctuator mark.RightParen)) c u → PrimaryWord (paren_of (place_of l) c) (l ∷ u)
paren_made l c u is (join {a = e} {u = v} m (spot r isr)) =
    subst (λ s. Primary (suc e.height) (expr s (node.Paren e.tree)) (l ∷ v ++ r ∷ [])) (span_between l v r) (spells.paren l r is m isr)

-- "(" with what is behind it
pub opened_into : (l : Token) → word_of l ≡ punctuator mark.LeftParen → (v : Measured) (u : List Token) → Opened (place_of l) v u →
    PrimaryWord v (l ∷ u)
opened_into l is v u m = subst (λ v. PrimaryWord v (l ∷ u)) m.is (paren_made l m.source u is m.word)

pub plain_into : (v : Measured) (w : List Token) → PlainWord v w → PrimaryWord v w
plain_into v w (inl m) = subst (λ v. PrimaryWord v w) m.is (texts_into m.source w m.word)
plain_into v w (inr c) = constant_into v w c

abbrev Paren : Language Token Measured
Paren = After (punctuator mark.LeftParen) Opened

primary_out : (h : ℕ) (e : Expr) (w : List Token) → Primary h e w → Either Paren PlainWord (measured e h) w
primary_out h e w (spells.variable t is) = inr (inr (one_word_of (ap (λ k. measured_at (place_of t) (constant_node k)) is)))
primary_out h e w (spells.number t is) = inr (inr (one_word_of (ap (λ k. measured_at (place_of t) (constant_node k)) is)))
primary_out h e w (spells.character t is) = inr (inr (one_word_of (ap (λ k. measured_at (place_of t) (constant_node k)) is)))
primary_out h e w (spells.text {bytes = bytes} m) = inr (inl (record { source = (bytes, span_of w); is = refl; word = chain_of bytes w m }))
primary_out h e w (spells.paren {h = k} {e = i} {u = u} l r isl m isr) =
    inl (after_into (punctuator mark.LeftParen) Opened l (measured (spelled (l ∷ u ++ r ∷ []) (node.Paren i)) (suc k)) (u ++ r ∷ []) isl
    (record {
      source = (measured i k, place_of r);
      word = join m (spot r isr);
      is = ap (λ s. measured (expr s (node.Paren i)) (suc k)) (sym (span_between l u r));
    }))

plain_no_open : (x : Token) → among plain_words x ≡ true → is (punctuator mark.LeftParen) x ≡ false
plain_no_open x h = is_not_first (punctuator mark.LeftParen) (word_of x)
    (apart_words plain_words (punctuator mark.LeftParen ∷ []) refl (word_of x) h)

-- a primary expression that begins with no "("
pub primary_plain : (v : Measured) (w : List Token) → PrimaryWord v w → StartsIn (among plain_words) w → PlainWord v w
primary_plain v w p s = go (primary_out v.height v.tree w p)
  where
    go : Either Paren PlainWord v w → PlainWord v w
    go (inl m) = absurd (apart_starts (among plain_words) (is (punctuator mark.LeftParen)) w s
        (after_starts (punctuator mark.LeftParen) Opened v w m) plain_no_open)
    go (inr m) = m

-- one that begins with "("
pub primary_opened : (t : Token) → word_of t ≡ punctuator mark.LeftParen → (v : Measured) (w u : List Token) → PrimaryWord v w →
    w ≡ t ∷ u → Opened (place_of t) v u
primary_opened t open_ v w u p e = go (primary_out v.height v.tree w p)
  where
    begins_open : StartsIn (is (punctuator mark.LeftParen)) w
    begins_open = record { head = t; tail = u; parts = e; is_first = is_equal (word_of t) (punctuator mark.LeftParen) open_ }

    go : Either Paren PlainWord v w → Opened (place_of t) v u
    go (inl m) =
        let q : AfterParts (punctuator mark.LeftParen) Opened v w = after_parts (punctuator mark.LeftParen) Opened v w m in
        let both = sym q.parts ∙ e in
        let same : q.token ≡ t = cc in
        let left : q.rest ≡ u = cc in
        subst (λ u. Opened (place_of t) v u) left (subst (λ t. Opened (place_of t) v q.rest) same q.word)
    go (inr m) = absurd (apart_starts (among plain_words) (is (punctuator mark.LeftParen)) w
        ((plain_good v.height).starts v w m) begins_open plain_no_open)

pub opened_high : (l : Span) (v : Measured) (u : List Token) → Opened l v u → 0 < v.height
opened_high l v u m = omega (arith, ap (λ v. v.height) m.is)

close_none : operator_word (punctuator mark.RightParen) ≡ None
unfolding operator_word
close_none = refl

module _ (d : ℕ) (below : Expressions) (good : 0 < d → GoodExpressions (d - 1) below) where
  pub opened_good : 0 < d → (l : Span) → Good (opened d below l) (Opened l) (Low d) begins text_behind
  unfolding opened
  opened_good h l = makes_good (paren_of l) (Opened l) (Low d) text_behind
      (thens_good (λ _. punct mark.RightParen) (λ _. Spot (punctuator mark.RightParen)) (λ _. Always) (is (punctuator mark.RightParen))
      (λ _. nothing)
      (good h).expression (λ _ _. punct_good mark.RightParen) (λ _. punct_begins mark.RightParen)
      (λ a x e. closes_all a (punctuator mark.RightParen) x refl close_none refl refl e))
      (λ a w m. record { source = a; is = refl; word = m }) (λ b w m. m)
      (λ a w m fits. omega (arith, fits.0)) (λ a w m fits. (omega (arith, fits), tt)) (λ a x e. refl)
