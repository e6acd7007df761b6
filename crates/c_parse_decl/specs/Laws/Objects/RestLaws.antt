-- What is left of a declaration behind the base and the first name is read.
use Rattle.std.specs.Prelude.{◌≡◌, ◌≢◌, ℕ, suc, ◌<◌, ◌≤◌, Bool, true, nat_lt, List, [], ◌∷◌, ◌++◌, Option, refl}
use Rattle.std.proofs.Common.{ap, arith, inl, inr}
use Rattle.c_ast.specs.Seen.{Seen as Token}
use Rattle.c_ast.specs.declared.expr.CType.{CType}
use Rattle.c_ast.specs.declared.expr.Expr.{Expr}
use Rattle.c_ast.specs.declared.punctuator.Punctuator.TheVariants as mark
use Rattle.c_grammar.specs.Words.{punctuator, word_of}
use Rattle.c_grammar.specs.Declarators.{Brackets, no_bracket, bracket}
use Rattle.c_parse_base.specs.Reading.Answer.{thens, makes}
use Rattle.c_parse_base.specs.Reading.Good.{Begins, StartsIn, Good}
use Rattle.c_parse_base.specs.Reading.Languages.{Then, join, nothing}
use Rattle.c_parse_base.specs.Laws.Parts.{thens_good, makes_good, either_good}
use Rattle.c_parse_base.specs.Laws.Lists.{starts_append}
use Rattle.c_parse_base.specs.Reading.Words.{is, among, one_word}
use Rattle.c_parse_base.specs.Laws.WordGood.{spot_starts}
use Rattle.c_parse_base.specs.Laws.WordListLaws.{apart_words, within_words, is_at, is_not_first}
use Rattle.c_parse_base.specs.Laws.Depths.{below_is, is_below}
use Rattle.c_parse_decl.specs.declared.declarators.declared.Declared.{Declared}
use Rattle.c_parse_decl.specs.Reading.Declarators.{BracketedWord, brackets_behind, bracketed}
use Rattle.c_parse_decl.specs.Reading.Initializers.{InitialWord}
use Rattle.c_parse_decl.specs.Laws.Declarators.BracketLaws.{bracketed_good, bracketed_begins_at}
use Rattle.c_parse_decl.specs.declared.objects.objects_read.ObjectRead.{ObjectRead}
use Rattle.c_parse_decl.specs.declared.objects.objects_read.ObjectsRead.{ObjectsRead}
use Rattle.c_parse_decl.specs.Reading.Objects.{Low, ValueWord, EndedWord, ValuedWord, ValuedRestWord, BracketRestWord, RestWord, plain_of}
use Rattle.c_parse_decl.specs.Reading.Objects.{one_object, equal, room, value, ended, valued_rest, rest, begins_rest}
use Rattle.c_parse_decl.specs.Laws.Objects.ObjectLaws.{value_begins, value_high, value_good}
use Rattle.c_parse_decl.specs.Laws.Objects.EndLaws.{end_words, begins_end, end_apart, ended_height, ended_begins, ended_good}

-- ---- levels

valued_high : (base : CType) (a : Declared) (c : ObjectRead × ObjectsRead) (w : List Token) →
    Then (ValueWord (plain_of a)) (λ b. EndedWord base (one_object b)) c w →
    (c.0.height ≤ c.1.height) × (a.height ≤ c.1.height) × (1 < c.1.height)
valued_high base a c w (join {a = b} {b = v} {u = u} {v = x} m n) =
    let high = value_high (plain_of a) b u m in
    let more = ended_height base (one_object b) v x n in
    (omega (arith, more), omega (arith, high.0, more), omega (arith, high.1, more))

pub valued_rest_height : (base : CType) (a : Declared) (v : ObjectsRead) (w : List Token) → ValuedRestWord base a v w → a.height ≤ v.height
valued_rest_height base a v w (inl m) = omega (arith, (valued_high base a m.source w m.word).1, ap (λ (v : ObjectsRead). v.height) m.is)
valued_rest_height base a v w (inr m) = ended_height base (one_object (plain_of a)) v w m

brackets_high : (above h : ℕ) (lengths : List (Option Expr)) (w : List Token) → Brackets above h lengths w → lengths ≢ [] → above < h
brackets_high above h lengths w no_bracket some = absurd (some refl)
brackets_high above h lengths w (bracket l r b isl s isr) some = omega arith

-- brackets are a level at least
bracketed_high : (a b : Declared) (w : List Token) → BracketedWord a b w → a.height < b.height
bracketed_high a b w (brackets_behind {h = h} {lengths = lengths} m some) = brackets_high a.height h lengths w m some

bracket_rest_high : (base : CType) (a : Declared) (c : Declared × ObjectsRead) (w : List Token) →
    Then (BracketedWord a) (ValuedRestWord base) c w → (a.height < c.0.height) × (c.0.height ≤ c.1.height)
bracket_rest_high base a c w (join {a = b} {b = v} {u = u} {v = x} m n) = (bracketed_high a b u m, valued_rest_height base b v x n)

-- the levels of the first type are among those of the declaration
pub rest_height : (base : CType) (a : Declared) (v : ObjectsRead) (w : List Token) → RestWord base a v w → a.height ≤ v.height
unfolding RestWord
rest_height base a v w (inl m) = let high = bracket_rest_high base a m.source w m.word in
    omega (arith, high.0, high.1, ap (λ (v : ObjectsRead). v.height) m.is)
rest_height base a v w (inr m) = valued_rest_height base a v w m

-- ---- words

abbrev valued_words : List ℕ
valued_words = punctuator mark.Equal ∷ end_words

abbrev begins_valued : Token → Bool
begins_valued = among valued_words

abbrev rest_words : List ℕ
rest_words = punctuator mark.LeftBracket ∷ valued_words

valued_begins : (base : CType) (a : Declared) (t : Token) → equal t ≡ true → Begins (ValuedWord base a) (t ∷ [])
valued_begins base a t e =
    let b = value_begins (plain_of a) t e in
    let c = ended_begins base (one_object b.value) in
    record {
      value = c.value;
      more = b.more ++ c.more;
      whole =
          record { source = (b.value, c.value); is = refl; word = join b.whole c.whole };
    }

valued_rest_begins : (base : CType) (a : Declared) → Begins (ValuedRestWord base a) []
valued_rest_begins base a = let c = ended_begins base (one_object (plain_of a)) in
    record { value = c.value; more = c.more; whole = inr c.whole }

valued_starts : (base : CType) (a : Declared) (c : ObjectRead × ObjectsRead) (w : List Token) →
    Then (ValueWord (plain_of a)) (λ b. EndedWord base (one_object b)) c w → StartsIn equal w
valued_starts base a c w (join {u = u} {v = x} m n) = starts_append equal u x
    (spot_starts (punctuator mark.Equal) (λ _. InitialWord) m.source u m.word)

valued_needs : (d : ℕ) (base : CType) (a : Declared) (v : ObjectsRead) (w : List Token) → ValuedWord base a v w → Low d v → room d ≡ true
valued_needs d base a v w m low = is_below 1 d (omega (
  arith,
  (valued_high base a m.source w m.word).2,
  ap
      (λ (v : ObjectsRead). v.height) m.is,
))

bracket_rest_begins : (base : CType) (a : Declared) (t : Token) → is (punctuator mark.LeftBracket) t ≡ true →
    Begins (BracketRestWord base a) (t ∷ [])
bracket_rest_begins base a t e =
    let b = bracketed_begins_at a t e in
    let c = valued_rest_begins base b.value in
    record {
      value = c.value;
      more = b.more ++ c.more;
      whole =
          record { source = (b.value, c.value); is = refl; word = join b.whole c.whole };
    }

bracket_rest_starts : (base : CType) (a : Declared) (c : Declared × ObjectsRead) (w : List Token) →
    Then (BracketedWord a) (ValuedRestWord base) c w → StartsIn (is (punctuator mark.LeftBracket)) w
bracket_rest_starts base a c w (join {a = b} {u = u} {v = x} m n) = starts_append (is (punctuator mark.LeftBracket)) u x
    ((bracketed_good (suc a.height) a (omega arith)).starts b u m)

bracket_rest_needs : (d : ℕ) (base : CType) (a : Declared) (v : ObjectsRead) (w : List Token) → BracketRestWord base a v w → Low d v →
    nat_lt a.height d ≡ true
bracket_rest_needs d base a v w m low =
    let high = bracket_rest_high base a m.source w m.word in
    is_below a.height d (omega (arith, high.0, high.1, ap (λ (v : ObjectsRead). v.height) m.is))

-- a semicolon can always be written
pub rest_begins : (base : CType) (a : Declared) → Begins (RestWord base a) []
unfolding RestWord
rest_begins base a = let c = valued_rest_begins base a in record { value = c.value; more = c.more; whole = inr c.whole }

-- ---- the parsers

module _ (d : ℕ) (base : CType) where
  valued_good : (a : Declared) → a.height ≤ d → 1 < d → Good
      (makes (λ c. c.1) (thens (value d (plain_of a)) (λ b. ended d base (one_object b)))) (ValuedWord base a) (Low d) equal nothing
  valued_good a low high = makes_good (λ c. c.1) (ValuedWord base a) (Low d) nothing
      (thens_good (λ b. ended d base (one_object b)) (λ b. EndedWord base (one_object b)) (λ _. Low d) begins_end (λ _. nothing)
      (value_good d (plain_of a) low high) (λ b fits. ended_good d base (one_object b) fits) (λ b. ended_begins base (one_object b))
      (λ b x e. end_apart x e))
      (λ c w m. record { source = c; is = refl; word = m }) (λ b w m. m)
      (λ c w m fits. fits.1) (λ c w m fits. (omega (arith, (valued_high base a c w m).0), fits)) (λ c x e. refl)

  valued_rest_good : (a : Declared) → a.height ≤ d → Good (valued_rest d base a) (ValuedRestWord base a) (Low d) begins_valued nothing
  unfolding valued_rest
  valued_rest_good a low = either_good equal (room d) begins_valued (λ r. valued_good a low (below_is 1 d r))
      (ended_good d base (one_object (plain_of a)) low)
      (valued_begins base a) (valued_needs d base a) (λ v w m. valued_starts base a m.source w m.word)
      (λ x e. is_not_first (punctuator mark.Equal) (word_of x) (apart_words end_words (punctuator mark.Equal ∷ []) refl (word_of x) e))
      (λ x e. is_at (one_word valued_words) (punctuator mark.Equal) x e) (λ x e. within_words end_words valued_words refl (word_of x) e)

  bracket_rest_good : (a : Declared) → a.height < d → Good (makes (λ c. c.1) (thens (bracketed d a) (valued_rest d base)))
      (BracketRestWord base a) (Low d) (is (punctuator mark.LeftBracket)) nothing
  bracket_rest_good a high = makes_good (λ c. c.1) (BracketRestWord base a) (Low d) nothing
      (thens_good (valued_rest d base) (ValuedRestWord base) (λ _. Low d) begins_valued (λ _. nothing)
      (bracketed_good d a high) (λ b fits. valued_rest_good b fits) (valued_rest_begins base)
      (λ b x e. is_not_first (punctuator mark.LeftBracket) (word_of x)
      (apart_words valued_words (punctuator mark.LeftBracket ∷ []) refl (word_of x) e)))
      (λ c w m. record { source = c; is = refl; word = m }) (λ b w m. m)
      (λ c w m fits. fits.1) (λ c w m fits. (omega (arith, (bracket_rest_high base a c w m).1), fits)) (λ c x e. refl)

-- what is left is read
pub rest_good : (d : ℕ) (base : CType) (a : Declared) → a.height ≤ d → Good (rest d base a) (RestWord base a) (Low d) begins_rest nothing
unfolding rest RestWord
rest_good d base a low = either_good (is (punctuator mark.LeftBracket)) (nat_lt a.height d) begins_rest
    (λ r. bracket_rest_good d base a (below_is a.height d r)) (valued_rest_good d base a low)
    (bracket_rest_begins base a) (bracket_rest_needs d base a) (λ v w m. bracket_rest_starts base a m.source w m.word)
    (λ x e. is_not_first (punctuator mark.LeftBracket) (word_of x)
    (apart_words valued_words (punctuator mark.LeftBracket ∷ []) refl (word_of x) e))
    (λ x e. is_at (one_word rest_words) (punctuator mark.LeftBracket) x e) (λ x e. within_words valued_words rest_words refl (word_of x) e)
