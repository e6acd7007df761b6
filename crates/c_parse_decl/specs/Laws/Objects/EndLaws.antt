-- Further objects and the semicolon are read.
use Rattle.std.specs.Prelude.{◌≡◌, ℕ, ◌≤◌, ◌==◌, ◌||◌, Bool, true, false, List, [], ◌∷◌, ◌++◌, None, refl}
use Rattle.std.proofs.Common.{◌∙◌, ap, arith, inl, inr}
use Rattle.c_ast.specs.declared.token.Span.{Span}
use Rattle.c_ast.specs.Seen.{Seen as Token}
use Rattle.c_ast.specs.declared.expr.CType.{CType}
use Rattle.c_ast.specs.declared.punctuator.Punctuator.TheVariants as mark
use Rattle.c_grammar.specs.Words.{punctuator}
use Rattle.c_parse_base.specs.Reading.Answer.{thens, makes}
use Rattle.c_parse_base.specs.Reading.Good.{Begins, Good}
use Rattle.c_parse_base.specs.Reading.Languages.{Then, join, once, again, Always, nothing}
use Rattle.c_parse_base.specs.Laws.Parts.{thens_good, makes_good, either_good}
use Rattle.c_parse_base.specs.Laws.ChainLaws.{MayTurn, chain_good}
use Rattle.c_parse_base.specs.Reading.Words.{is, punct, Spot, among, one_word}
use Rattle.c_parse_base.specs.Laws.WordGood.{punct_good, punct_begins, spot_begins}
use Rattle.c_parse_expr.specs.Reading.Operators.{operator_word}
use Rattle.c_parse_base.specs.Laws.WordListLaws.{is_at, both_false, or_false}
use Rattle.c_parse_expr.specs.Reading.Levels.{expression_on, example}
use Rattle.c_parse_expr.specs.Laws.LevelLaws.{closes_all}
use Rattle.c_parse_decl.specs.Reading.Declarators.{begins_declarator}
use Rattle.c_parse_decl.specs.declared.objects.objects_read.ObjectsRead.{ObjectsRead}
use Rattle.c_parse_decl.specs.Reading.Objects.{Low, ObjectWord, FurtherWord, ListWord, ListedWord, LastWord, EndedWord, more_objects}
use Rattle.c_parse_decl.specs.Reading.Objects.{equal, comma, free, object, further, list, ended}
use Rattle.c_parse_decl.specs.Laws.Objects.ObjectLaws.{LowObject, goes_on, object_on, object_good, object_begins}

-- ---- levels

further_height : (base : CType) (a b : ObjectsRead) (u : List Token) → FurtherWord base a b u → a.height ≤ b.height
further_height base a b u m = omega (arith, ap (λ (v : ObjectsRead). v.height) m.is)

list_height : (base : CType) (a b : ObjectsRead) (u : List Token) → ListWord base a b u → a.height ≤ b.height
list_height base a b u (once m) = further_height base a b u m
list_height base a b u (again {a = c} {w = v} {u = x} l m) = omega (arith, list_height base a c v l, further_height base c b x m)

listed_height : (base : CType) (a : ObjectsRead) (c : ObjectsRead × Span) (u : List Token) →
    Then (ListWord base a) (λ _. Spot (punctuator mark.Semicolon)) c u → a.height ≤ c.0.height
listed_height base a c u (join {a = b} {u = v} l s) = list_height base a b v l

-- the levels of the objects before are among those of all
pub ended_height : (base : CType) (a v : ObjectsRead) (w : List Token) → EndedWord base a v w → a.height ≤ v.height
ended_height base a v w (inl m) = omega (arith, listed_height base a m.source w m.word, ap (λ (v : ObjectsRead). v.height) m.is)
ended_height base a v w (inr m) = omega (arith, ap (λ (v : ObjectsRead). v.height) m.is)

-- ---- words

abbrev pub end_words : List ℕ
end_words = punctuator mark.Comma ∷ punctuator mark.Semicolon ∷ []

-- the tokens with which further objects or the semicolon begin
abbrev pub begins_end : Token → Bool
begins_end = among end_words

comma_none : operator_word (punctuator mark.Comma) ≡ None
unfolding operator_word
comma_none = refl

semicolon_none : operator_word (punctuator mark.Semicolon) ≡ None
unfolding operator_word
semicolon_none = refl

-- a word that goes on behind no expression and begins no brackets or initializer does not go on behind an object
not_on : (w : ℕ) (t : Token) → is w t ≡ true → (w == punctuator mark.LeftBracket) ≡ false → (w == punctuator mark.Equal) ≡ false →
    expression_on example t ≡ false → goes_on t ≡ false
not_on w t e n m h =
    or_false (is (punctuator mark.LeftBracket) t) (equal t || expression_on example t)
    (is_at (λ w. w == punctuator mark.LeftBracket) w t e ∙ n)
    (or_false (equal t) (expression_on example t) (is_at (λ w. w == punctuator mark.Equal) w t e ∙ m) h)

comma_apart : (t : Token) → comma t ≡ true → expression_on example t ≡ false
comma_apart t e = closes_all example (punctuator mark.Comma) t refl comma_none refl refl e

semicolon_apart : (t : Token) → is (punctuator mark.Semicolon) t ≡ true → expression_on example t ≡ false
semicolon_apart t e = closes_all example (punctuator mark.Semicolon) t refl semicolon_none refl refl e

-- neither goes on behind an expression
pub end_apart : (t : Token) → begins_end t ≡ true → expression_on example t ≡ false
end_apart t h = by_comma (comma t) refl (is (punctuator mark.Semicolon) t) refl h
  where
    by_comma : (x : Bool) → comma t ≡ x → (y : Bool) → is (punctuator mark.Semicolon) t ≡ y → (x || (y || false)) ≡ true →
        expression_on example t ≡ false
    by_comma true e y k h = comma_apart t e
    by_comma false e true k h = semicolon_apart t k
    by_comma false e false k h = cc

abbrev list_on : ObjectsRead → Token → Bool
list_on a t = goes_on t || comma t

pub further_begins : (base : CType) (a : ObjectsRead) (t : Token) → comma t ≡ true → Begins (FurtherWord base a) (t ∷ [])
further_begins base a t e =
    let b = spot_begins (punctuator mark.Comma) (λ _. ObjectWord base) t e (object_begins base) in
    record { value = more_objects a b.value.1; more = b.more; whole = record { source = b.value; is = refl; word = b.whole } }

listed_begins : (base : CType) (a : ObjectsRead) (t : Token) → comma t ≡ true → Begins (ListedWord base a) (t ∷ [])
listed_begins base a t e =
    let b = further_begins base a t e in
    let s = punct_begins mark.Semicolon in
    record {
      value = b.value;
      more = b.more ++ s.more;
      whole =
          record { source = (b.value, s.value); is = refl; word = join (once b.whole) s.whole };
    }

-- a semicolon can always be written
pub ended_begins : (base : CType) (a : ObjectsRead) → Begins (EndedWord base a) []
ended_begins base a = let s = punct_begins mark.Semicolon in
    record { value = a; more = s.more; whole = inr (record { source = s.value; is = refl; word = s.whole }) }

may_go_on : (d : ℕ) (base : CType) (a b : ObjectsRead) (u : List Token) → FurtherWord base a b u → Low d b → MayTurn (Low d) free a
may_go_on d base a b u m low = record { fits = omega (arith, further_height base a b u m); has_room = refl }

-- ---- the parsers

module _ (d : ℕ) (base : CType) where
  pub further_good : (a : ObjectsRead) → Low d a → Good (further d base a) (FurtherWord base a) (Low d) comma (λ _ t. goes_on t)
  unfolding further
  further_good a low = makes_good (λ c. more_objects a c.1) (FurtherWord base a) (Low d) (λ _ t. goes_on t)
      (thens_good (λ _. object d base) (λ _. ObjectWord base) (λ _. LowObject d) begins_declarator (λ _. object_on)
      (punct_good mark.Comma) (λ _ _. object_good d base) (λ _. object_begins base) (λ a x e. refl))
      (λ c w m. record { source = c; is = refl; word = m }) (λ b w m. m)
      (λ c w m fits. omega (arith, fits.1)) (λ c w m fits. (tt, omega (arith, fits))) (λ c x e. e)

  list_good : (a : ObjectsRead) → Low d a → Good (list d base a) (ListWord base a) (Low d) comma list_on
  unfolding list
  list_good a low = chain_good comma free (further d base) (FurtherWord base) (λ b may. further_good b may.fits) list_on
      (further_good a low)
      (further_begins base) (may_go_on d base) (λ b x e. not_on (punctuator mark.Comma) x e refl refl (comma_apart x e))
      (λ b x e. both_false (goes_on x) (comma x) e)

  listed_good : (a : ObjectsRead) → Low d a → Good (makes (λ c. c.0) (thens (list d base a) (λ _. punct mark.Semicolon)))
      (ListedWord base a) (Low d) comma nothing
  listed_good a low = makes_good (λ c. c.0) (ListedWord base a) (Low d) nothing
      (thens_good (λ _. punct mark.Semicolon) (λ _. Spot (punctuator mark.Semicolon)) (λ _. Always) (is (punctuator mark.Semicolon))
      (λ _. nothing)
      (list_good a low) (λ _ _. punct_good mark.Semicolon) (λ _. punct_begins mark.Semicolon)
      (λ b x e. or_false (goes_on x) (comma x) (not_on (punctuator mark.Semicolon) x e refl refl (semicolon_apart x e))
      (is_at (λ w. w == punctuator mark.Comma) (punctuator mark.Semicolon) x e)))
      (λ c w m. record { source = c; is = refl; word = m }) (λ b w m. m) (λ c w m fits. fits.0) (λ c w m fits. (fits, tt)) (λ c x e. refl)

  last_good : (a : ObjectsRead) → Low d a → Good (makes (λ (p : Span). a) (punct mark.Semicolon)) (LastWord a) (Low d)
      (is (punctuator mark.Semicolon)) nothing
  last_good a low = makes_good (λ (p : Span). a) (LastWord a) (Low d) nothing (punct_good mark.Semicolon)
      (λ c w m. record { source = c; is = refl; word = m }) (λ b w m. m) (λ c w m fits. low) (λ c w m fits. tt) (λ c x e. refl)

  pub ended_good : (a : ObjectsRead) → Low d a → Good (ended d base a) (EndedWord base a) (Low d) begins_end nothing
  unfolding ended
  ended_good a low = either_good comma true begins_end (λ _. listed_good a low) (last_good a low)
      (listed_begins base a) (λ b w m fits. refl) (listed_good a low).starts
      (λ x e. is_at (λ w. w == punctuator mark.Comma) (punctuator mark.Semicolon) x e)
      (λ x e. is_at (one_word end_words) (punctuator mark.Comma) x e) (λ x e. is_at (one_word end_words) (punctuator mark.Semicolon) x e)
