-- The parts of statements are read: expressions that may be left out, and conditions.
use Rattle.std.specs.Prelude.{◌≡◌, ℕ, suc, ◌-◌, ◌<◌, ◌≤◌, ◌||◌, Bool, true, false, List, [], ◌∷◌, ◌++◌, Option, None, refl}
use Rattle.std.proofs.Common.{◌∙◌, ap, subst, arith, inl, inr}
use Rattle.c_ast.specs.declared.token.Span.{Span}
use Rattle.c_ast.specs.Seen.{Seen as Token}
use Rattle.c_ast.specs.declared.expr.Expr.{Expr}
use Rattle.c_ast.specs.declared.keyword.Keyword.TheVariants as key
use Rattle.c_ast.specs.declared.punctuator.Punctuator.{Punctuator}
use Rattle.c_ast.specs.declared.punctuator.Punctuator.TheVariants as mark
use Rattle.c_grammar.specs.Words.{word_of, IsKeyword, IsPunct, keyword, punctuator, end_of}
use Rattle.c_grammar.specs.Statements as grammar
use Rattle.c_grammar.specs.Statements.{MaybeExpression}
use Rattle.c_parse_base.specs.Reading.Answer.{thens, makes}
use Rattle.c_parse_base.specs.Reading.Good.{Language, Begins, StartsIn, Good}
use Rattle.c_parse_base.specs.Reading.Languages.{Then, join, Either, Always, nothing, Made}
use Rattle.c_parse_base.specs.Laws.Parts.{thens_good, makes_good, either_good}
use Rattle.c_parse_base.specs.Laws.Lists.{starts_append}
use Rattle.c_parse_base.specs.Reading.Words.{is, punct, place_of, Spot, spot, one_word, among}
use Rattle.c_parse_base.specs.Laws.WordGood.{good_as, punct_good, key_good, punct_begins, key_begins, equal_is}
use Rattle.c_parse_expr.specs.declared.measured.Measured.{Measured}
use Rattle.c_parse_expr.specs.Reading.Operators.{operator_word}
use Rattle.c_parse_base.specs.Laws.WordListLaws.{is_at, or_left, or_right}
use Rattle.c_parse_expr.specs.Reading.Levels.{ExpressionWord, begins, begin_words, expression_on}
use Rattle.c_parse_expr.specs.Laws.LevelLaws.{closes_all, starts_expression, expression_begins}
use Rattle.c_parse_expr.specs.Laws.ExpressionLaws.{good_at}
use Rattle.c_parse_expr.specs.Laws.BeginLaws.{expression_begins_at}
use Rattle.c_parse_stmt.specs.declared.clause_read.MaybeRead.{MaybeRead}
use Rattle.c_parse_stmt.specs.Reading.Nodes.{written_of, left_out_of}
use Rattle.c_parse_stmt.specs.Reading.Statements.{room, inner, condition, maybe, do_tail}
use Rattle.c_parse_stmt.specs.Laws.Room.{some_room, has_room}

abbrev pub LowInner : ℕ → Measured → Type 0
LowInner d v = v.height ≤ d - 1

inner_good : (d : ℕ) → 0 < d → Good (inner d) ExpressionWord (LowInner d) begins expression_on
inner_good d h = (good_at (d - 1)).expression

-- ---- expressions that may be left out

-- a token that closes an expression
pub record Closing (p : Punctuator) : Type 0 where
  pub closes : (a : Measured) (t : Token) → is (punctuator p) t ≡ true → expression_on a t ≡ false
  pub begins_none : one_word begin_words (punctuator p) ≡ false

semicolon_none : operator_word (punctuator mark.Semicolon) ≡ None
unfolding operator_word
semicolon_none = refl

paren_none : operator_word (punctuator mark.RightParen) ≡ None
unfolding operator_word
paren_none = refl

pub semicolon_closing : Closing mark.Semicolon
semicolon_closing = record {
  closes = λ a t e. closes_all a (punctuator mark.Semicolon) t refl semicolon_none refl refl e;
  begins_none = refl;
}

pub paren_closing : Closing mark.RightParen
paren_closing = record { closes = λ a t e. closes_all a (punctuator mark.RightParen) t refl paren_none refl refl e; begins_none = refl }

-- [ expr ], and the token that closes it
pub data MaybeWord (p : Punctuator) : MaybeRead → List Token → Type 0 where
  maybe_word : {n : ℕ} {e : Option Expr} {u : List Token} (z : Token) → MaybeExpression n e u → IsPunct p z →
      MaybeWord p (record { tree = e; height = n; end = end_of z }) (u ++ z ∷ [])

abbrev pub LowMaybe : ℕ → MaybeRead → Type 0
LowMaybe d v = v.height ≤ d

-- the tokens with which it begins
abbrev pub begins_maybe : Punctuator → Token → Bool
begins_maybe p = among (punctuator p ∷ begin_words)

module _ (p : Punctuator) where
  abbrev Written : Language Token MaybeRead
  Written = Made written_of (Then ExpressionWord (λ _. Spot (punctuator p)))

  abbrev LeftOut : Language Token MaybeRead
  LeftOut = Made left_out_of (Spot (punctuator p))

  written_word : (c : Measured × Span) (w : List Token) → Then ExpressionWord (λ _. Spot (punctuator p)) c w → MaybeWord p (written_of c) w
  written_word c w (join l (spot z is)) = maybe_word z (grammar.written l) is

  left_word : (place : Span) (w : List Token) → Spot (punctuator p) place w → MaybeWord p (left_out_of place) w
  left_word place w (spot z is) = maybe_word z grammar.left_out is

  maybe_into : (v : MaybeRead) (w : List Token) → Either Written LeftOut v w → MaybeWord p v w
  maybe_into v w (inl m) = subst (λ v. MaybeWord p v w) m.is (written_word m.source w m.word)
  maybe_into v w (inr m) = subst (λ v. MaybeWord p v w) m.is (left_word m.source w m.word)

  maybe_out : (v : MaybeRead) (w : List Token) → MaybeWord p v w → Either Written LeftOut v w
  maybe_out v w (maybe_word z (grammar.written {h = h} {e = e} l) is) = inl
      (record { source = (record { tree = e; height = h }, place_of z); is = refl; word = join l (spot z is) })
  maybe_out v w (maybe_word z grammar.left_out is) = inr (record { source = place_of z; is = refl; word = spot z is })

  written_begins : (t : Token) → begins t ≡ true → Begins Written (t ∷ [])
  written_begins t e =
      let b = expression_begins_at t e in
      let c = punct_begins p in
      record {
        value = written_of (b.value, c.value);
        more = b.more ++ c.more;
        whole = record { source = (b.value, c.value); is = refl; word = join b.whole c.whole };
      }

  written_starts : (c : Measured × Span) (w : List Token) → Then ExpressionWord (λ _. Spot (punctuator p)) c w → StartsIn begins w
  written_starts c w (join {a = a} {u = u} {v = v} l s) = starts_append begins u v (starts_expression a.height a.tree u l)

  module _ (c : Closing p) (d : ℕ) where
    written_good : 0 < d → Good (makes written_of (thens (inner d) (λ _. punct p))) Written (LowMaybe d) begins nothing
    written_good h = makes_good written_of Written (LowMaybe d) nothing
        (thens_good (λ _. punct p) (λ _. Spot (punctuator p)) (λ _. Always) (is (punctuator p)) (λ _. nothing) (inner_good d h)
        (λ _ _. punct_good p) (λ _. punct_begins p) c.closes)
        (λ a w m. record { source = a; is = refl; word = m }) (λ b w m. m)
        (λ a w m fits. omega (arith, fits.0)) (λ a w m fits. (omega (arith, fits), tt)) (λ a x e. refl)

    left_good : Good (makes left_out_of (punct p)) LeftOut (LowMaybe d) (is (punctuator p)) nothing
    left_good = makes_good left_out_of LeftOut (LowMaybe d) nothing (punct_good p)
        (λ a w m. record { source = a; is = refl; word = m }) (λ b w m. m)
        (λ a w m fits. omega arith) (λ a w m fits. tt) (λ a x e. refl)

    written_room : (v : MaybeRead) (w : List Token) → Written v w → LowMaybe d v → room d ≡ true
    written_room v w m low = let high : suc m.source.0.height ≡ v.height = ap (λ v. v.height) m.is in has_room d (omega arith)

    pub maybe_good : Good (maybe d p) (MaybeWord p) (LowMaybe d) (begins_maybe p) nothing
    unfolding maybe
    maybe_good = good_as (MaybeWord p) (LowMaybe d) (begins_maybe p)
        (either_good begins (room d) (begins_maybe p) (λ r. written_good (some_room d r)) left_good
        written_begins written_room (λ v w m. written_starts m.source w m.word)
        (λ x h. is_at (one_word begin_words) (punctuator p) x h ∙ c.begins_none)
        (λ x h. or_right (is (punctuator p) x) (begins x) h) (λ x h. or_left (is (punctuator p) x) (begins x) h))
        maybe_into maybe_out (λ v w m low. low) (λ v w m low. low) (λ x h. h)

  -- a left out one
  pub maybe_begins : Begins (MaybeWord p) []
  maybe_begins = let c = punct_begins p in record { value = left_out_of c.value; more = c.more; whole = left_word c.value c.more c.whole }

  -- with each token that begins one
  pub maybe_begins_at : (t : Token) → begins_maybe p t ≡ true → Begins (MaybeWord p) (t ∷ [])
  maybe_begins_at t e = go (is (punctuator p) t) refl e
    where
      go : (b : Bool) → is (punctuator p) t ≡ b → (b || begins t) ≡ true → Begins (MaybeWord p) (t ∷ [])
      go true h e = record {
        value = left_out_of (place_of t);
        more = [];
        whole = left_word (place_of t) (t ∷ []) (spot t (equal_is (word_of t) (punctuator p) h));
      }
      go false h e = let b = written_begins t e in record {
        value = b.value;
        more = b.more;
        whole = maybe_into b.value (t ∷ b.more) (inl b.whole);
      }

-- ---- conditions

-- "(" expr ")"
pub data ConditionWord : Measured → List Token → Type 0 where
  condition_word : {e : Measured} {u : List Token} (l r : Token) → IsPunct mark.LeftParen l → ExpressionWord e u →
      IsPunct mark.RightParen r → ConditionWord e (l ∷ u ++ r ∷ [])

abbrev ClosedExpression : Language Token (Measured × Span)
ClosedExpression = Then ExpressionWord (λ _. Spot (punctuator mark.RightParen))

abbrev ConditionParts : Language Token (Span × (Measured × Span))
ConditionParts = Then (Spot (punctuator mark.LeftParen)) (λ _. ClosedExpression)

condition_into : (c : Span × (Measured × Span)) (w : List Token) → ConditionParts c w → ConditionWord c.1.0 w
condition_into c w (join (spot l isl) (join m (spot r isr))) = condition_word l r isl m isr

condition_out : (e : Measured) (w : List Token) → ConditionWord e w → Made (λ (c : Span × (Measured × Span)). c.1.0) ConditionParts e w
condition_out e w (condition_word l r isl m isr) = record {
  source = (place_of l, (e, place_of r));
  is = refl;
  word = join (spot l isl) (join m (spot r isr));
}

closed_begins : Begins ClosedExpression []
closed_begins =
    let b = expression_begins in
    let c = punct_begins mark.RightParen in
    record { value = (b.value, c.value); more = b.more ++ c.more; whole = join b.whole c.whole }

pub condition_begins : Begins ConditionWord []
condition_begins =
    let b = punct_begins mark.LeftParen in
    let c = closed_begins in
    record {
      value = c.value.0;
      more = b.more ++ c.more;
      whole = condition_into (b.value, c.value) (b.more ++ c.more)
          (join b.whole c.whole);
    }

pub condition_good : (d : ℕ) → 0 < d → Good (condition d) ConditionWord (LowInner d) (is (punctuator mark.LeftParen)) nothing
unfolding condition
condition_good d h = makes_good (λ c. c.1.0) ConditionWord (LowInner d) nothing
    (thens_good (λ _. thens (inner d) (λ _. punct mark.RightParen)) (λ _. ClosedExpression) (λ _ c. LowInner d c.0 × Unit {0}) begins
    (λ _. nothing) (punct_good mark.LeftParen)
    (λ _ _. thens_good (λ _. punct mark.RightParen) (λ _. Spot (punctuator mark.RightParen)) (λ _. Always)
    (is (punctuator mark.RightParen)) (λ _. nothing) (inner_good d h)
    (λ _ _. punct_good mark.RightParen) (λ _. punct_begins mark.RightParen) paren_closing.closes)
    (λ _. closed_begins) (λ a x e. refl))
    condition_into condition_out (λ a w m fits. fits.1.0) (λ a w m fits. (tt, (fits, tt))) (λ a x e. refl)

-- ---- what is behind the statement of a `do`

-- "while" "(" expr ")" ";"
pub data TailWord : Measured → List Token → Type 0 where
  tail_word : {e : Measured} {u : List Token} (x z : Token) → IsKeyword key.While x → ConditionWord e u → IsPunct mark.Semicolon z →
      TailWord e (x ∷ u ++ z ∷ [])

abbrev EndedCondition : Language Token (Measured × Span)
EndedCondition = Then ConditionWord (λ _. Spot (punctuator mark.Semicolon))

abbrev TailParts : Language Token (Span × (Measured × Span))
TailParts = Then (Spot (keyword key.While)) (λ _. EndedCondition)

tail_into : (c : Span × (Measured × Span)) (w : List Token) → TailParts c w → TailWord c.1.0 w
tail_into c w (join (spot x isx) (join m (spot z isz))) = tail_word x z isx m isz

tail_out : (e : Measured) (w : List Token) → TailWord e w → Made (λ (c : Span × (Measured × Span)). c.1.0) TailParts e w
tail_out e w (tail_word x z isx m isz) = record {
  source = (place_of x, (e, place_of z));
  is = refl;
  word = join (spot x isx) (join m (spot z isz));
}

ended_begins : Begins EndedCondition []
ended_begins =
    let b = condition_begins in
    let c = punct_begins mark.Semicolon in
    record { value = (b.value, c.value); more = b.more ++ c.more; whole = join b.whole c.whole }

pub tail_begins : Begins TailWord []
tail_begins =
    let b = key_begins key.While in
    let c = ended_begins in
    record { value = c.value.0; more = b.more ++ c.more; whole = tail_into (b.value, c.value) (b.more ++ c.more) (join b.whole c.whole) }

pub tail_good : (d : ℕ) → 0 < d → Good (do_tail d) TailWord (LowInner d) (is (keyword key.While)) nothing
unfolding do_tail
tail_good d h = makes_good (λ c. c.1.0) TailWord (LowInner d) nothing
    (thens_good (λ _. thens (condition d) (λ _. punct mark.Semicolon)) (λ _. EndedCondition) (λ _ c. LowInner d c.0 × Unit {0})
    (is (punctuator mark.LeftParen)) (λ _. nothing) (key_good key.While)
    (λ _ _. thens_good (λ _. punct mark.Semicolon) (λ _. Spot (punctuator mark.Semicolon)) (λ _. Always) (is (punctuator mark.Semicolon))
    (λ _. nothing) (condition_good d h)
    (λ _ _. punct_good mark.Semicolon) (λ _. punct_begins mark.Semicolon) (λ a x e. refl))
    (λ _. ended_begins) (λ a x e. refl))
    tail_into tail_out (λ a w m fits. fits.1.0) (λ a w m fits. (tt, (fits, tt))) (λ a x e. refl)
