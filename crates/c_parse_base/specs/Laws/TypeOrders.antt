-- The orders of type words that the parser reads are those of the grammar.
use Rattle.std.specs.Prelude.{◌≡◌, ℕ, Bool, true, false, List, [], ◌∷◌, ◌++◌, refl}
use Rattle.std.proofs.Common.{sym, ◌∙◌, ap, subst}
use Rattle.c_ast.specs.declared.token.Span.{Span}
use Rattle.c_ast.specs.Seen.{Seen as Token}
use Rattle.c_ast.specs.declared.int_type.IntType.{IntType}
use Rattle.c_ast.specs.declared.expr.CType.TheVariants as type
use Rattle.c_ast.specs.declared.keyword.Keyword.{Keyword}
use Rattle.c_ast.specs.declared.keyword.Keyword.TheVariants as key
use Rattle.c_grammar.specs.Words.{word_of, keyword, end_of, span_of, IsKeyword}
use Rattle.c_grammar.specs.Types as grammar
use Rattle.c_grammar.specs.Types.{Keywords, Base}
use Rattle.c_parse_base.specs.Reading.Languages.{Word, word_of as one_word, alone, followed, Made}
use Rattle.c_parse_base.specs.Reading.Words.{place_of, Spot, spot}
use Rattle.c_parse_base.specs.declared.type_words.FirstWord.{FirstWord}
use Rattle.c_parse_base.specs.declared.type_words.FirstWord.TheVariants as first
use Rattle.c_parse_base.specs.declared.type_words.SizeWord.{SizeWord}
use Rattle.c_parse_base.specs.declared.type_words.SizeWord.TheVariants as size
use Rattle.c_parse_base.specs.declared.type_words.TypeWords.{TypeWords}
use Rattle.c_parse_base.specs.declared.type_read.TypeRead.{TypeRead}
use Rattle.c_parse_base.specs.Reading.TypeWords.{first_keyword, size_keyword, first_at, size_at, pick_first, pick_size, first_of}
use Rattle.c_parse_base.specs.Reading.TypeWords.{first_words, sized_of, sized_words, int_of}
use Rattle.c_parse_base.specs.Reading.TypeNames.{takes_size, takes_int, integer_of}
use Rattle.c_parse_base.specs.Laws.TypeWordLaws.{first_is, size_is, ended_some, First, Size, Int, Sized, Words, picked_first, picked_size}

-- ---- the types of the orders

first_end : (f : FirstWord) (end : ℕ) → (first_words f end).end ≡ end
first_end first.Signed end = refl
first_end first.Unsigned end = refl
first_end first.Int end = refl
first_end first.Char end = refl
first_end first.Short end = refl
first_end first.Long end = refl

sized_end : (unsigned : Bool) (s : SizeWord) (end : ℕ) → (sized_words unsigned s end).end ≡ end
sized_end false size.Char end = refl
sized_end true size.Char end = refl
sized_end false size.Short end = refl
sized_end true size.Short end = refl
sized_end false size.Long end = refl
sized_end true size.Long end = refl

first_type : (f : FirstWord) (end : ℕ) → grammar.TypeWords (first_words f end).ty (first_keyword f ∷ [])
first_type first.Signed end = grammar.signed
first_type first.Unsigned end = grammar.unsigned
first_type first.Int end = grammar.int
first_type first.Char end = grammar.char
first_type first.Short end = grammar.short
first_type first.Long end = grammar.long

first_int_type : (f : FirstWord) (end : ℕ) → takes_int (first_words f end) ≡ true →
    grammar.TypeWords (first_words f end).ty (first_keyword f ∷ key.Int ∷ [])
first_int_type first.Signed end h = grammar.signed_int
first_int_type first.Unsigned end h = grammar.unsigned_int
first_int_type first.Int end h = cc
first_int_type first.Char end h = cc
first_int_type first.Short end h = grammar.short_int
first_int_type first.Long end h = grammar.long_int

-- behind `signed` or `unsigned`
abbrev behind : FirstWord → ℕ → SizeWord → ℕ → TypeWords
behind f end s last = sized_words (first_words f end).unsigned s last

sized_type : (f : FirstWord) (end : ℕ) (s : SizeWord) (last : ℕ) → takes_size (first_words f end) ≡ true →
    grammar.TypeWords (behind f end s last).ty (first_keyword f ∷ size_keyword s ∷ [])
sized_type first.Signed end size.Char last h = grammar.signed_char
sized_type first.Signed end size.Short last h = grammar.signed_short
sized_type first.Signed end size.Long last h = grammar.signed_long
sized_type first.Unsigned end size.Char last h = grammar.unsigned_char
sized_type first.Unsigned end size.Short last h = grammar.unsigned_short
sized_type first.Unsigned end size.Long last h = grammar.unsigned_long
sized_type first.Int end s last h = cc
sized_type first.Char end s last h = cc
sized_type first.Short end s last h = cc
sized_type first.Long end s last h = cc

sized_int_type : (f : FirstWord) (end : ℕ) (s : SizeWord) (last : ℕ) → takes_size (first_words f end) ≡ true →
    takes_int (behind f end s last) ≡ true →
    grammar.TypeWords (behind f end s last).ty (first_keyword f ∷ size_keyword s ∷ key.Int ∷ [])
sized_int_type first.Signed end size.Char last h k = cc
sized_int_type first.Signed end size.Short last h k = grammar.signed_short_int
sized_int_type first.Signed end size.Long last h k = grammar.signed_long_int
sized_int_type first.Unsigned end size.Char last h k = cc
sized_int_type first.Unsigned end size.Short last h k = grammar.unsigned_short_int
sized_int_type first.Unsigned end size.Long last h k = grammar.unsigned_long_int
sized_int_type first.Int end s last h k = cc
sized_int_type first.Char end s last h k = cc
sized_int_type first.Short end s last h k = cc
sized_int_type first.Long end s last h k = cc

-- ---- from the parser's words to the grammar's

-- tokens that spell a base, and where they end
pub record BaseWord (v : TypeRead) (w : List Token) : Type 0 where
  pub base : Base v.ty w
  pub height : v.height ≡ 0
  pub end : v.end ≡ (span_of w).end

-- which first word a token is
record FirstIs (a : TypeWords) (w : List Token) : Type 0 where
  word : FirstWord
  token : Token
  spelled : IsKeyword (first_keyword word) token
  value : first_words word (end_of token) ≡ a
  parts : token ∷ [] ≡ w

first_found : (c : FirstWord × ℕ) (w : List Token) → Word pick_first c w → FirstIs (first_of c) w
first_found c w (one_word {x = t} e) =
    let found = ended_some (end_of t) (first_at (word_of t)) c e in
    record { word = c.0; token = t; spelled = first_is (word_of t) c.0 found.0; value = ap (first_words c.0) found.1; parts = refl }

first_in : (a : TypeWords) (w : List Token) → First a w → FirstIs a w
first_in a w m = subst (λ a. FirstIs a w) m.is (first_found m.source w m.word)

-- which size a token is
record SizeIs (a b : TypeWords) (w : List Token) : Type 0 where
  word : SizeWord
  token : Token
  spelled : IsKeyword (size_keyword word) token
  value : sized_words a.unsigned word (end_of token) ≡ b
  parts : token ∷ [] ≡ w

size_found : (a : TypeWords) (c : SizeWord × ℕ) (w : List Token) → Word pick_size c w → SizeIs a (sized_of a c) w
size_found a c w (one_word {x = t} e) =
    let found = ended_some (end_of t) (size_at (word_of t)) c e in
    record {
      word = c.0;
      token = t;
      spelled = size_is (word_of t) c.0 found.0;
      value = ap (sized_words a.unsigned c.0) found.1;
      parts = refl;
    }

size_in : (a b : TypeWords) (w : List Token) → Size a b w → SizeIs a b w
size_in a b w m = subst (λ b. SizeIs a b w) m.made.is (size_found a m.made.source w m.made.word)

-- type words with `int` behind them
abbrev with_int : TypeWords → ℕ → TypeRead
with_int a end = record { ty = type.Int a.ty; height = 0; end = end }

first_words_in : (f : FirstWord) (t : Token) → IsKeyword (first_keyword f) t → BaseWord (integer_of (first_words f (end_of t))) (t ∷ [])
first_words_in f t e = record {
  base = grammar.words (first_type f (end_of t)) (grammar.word t e grammar.none);
  height = refl;
  end = first_end f (end_of t);
}

first_int_in : (f : FirstWord) (t u : Token) → IsKeyword (first_keyword f) t → IsKeyword key.Int u →
    takes_int (first_words f (end_of t)) ≡ true →
    BaseWord (with_int (first_words f (end_of t)) (end_of u)) (t ∷ u ∷ [])
first_int_in f t u e i h = record {
  base = grammar.words (first_int_type f (end_of t) h) (grammar.word t e (grammar.word u i grammar.none));
  height = refl;
  end = refl;
}

sized_in : (f : FirstWord) (t : Token) (s : SizeWord) (u : Token) → IsKeyword (first_keyword f) t → IsKeyword (size_keyword s) u →
    takes_size (first_words f (end_of t)) ≡ true →
    BaseWord (integer_of (behind f (end_of t) s (end_of u))) (t ∷ u ∷ [])
sized_in f t s u e k h = record {
  base = grammar.words (sized_type f (end_of t) s (end_of u) h) (grammar.word t e (grammar.word u k grammar.none));
  height = refl;
  end = sized_end (first_words f (end_of t)).unsigned s (end_of u);
}

sized_int_in : (f : FirstWord) (t : Token) (s : SizeWord) (u v : Token) → IsKeyword (first_keyword f) t → IsKeyword (size_keyword s) u →
    IsKeyword key.Int v →
    takes_size (first_words f (end_of t)) ≡ true → takes_int (behind f (end_of t) s (end_of u)) ≡ true →
    BaseWord (with_int (behind f (end_of t) s (end_of u)) (end_of v)) (t ∷ u ∷ v ∷ [])
sized_int_in f t s u v e k i h j = record {
  base = grammar.words (sized_int_type f (end_of t) s (end_of u) h j) (grammar.word t e (grammar.word u k (grammar.word v i grammar.none)));
  height = refl;
  end = refl;
}

alone_into : (a : TypeWords) (w : List Token) → FirstIs a w → BaseWord (integer_of a) w
alone_into a w f =
    subst (λ a. BaseWord (integer_of a) w) f.value
    (subst (λ w. BaseWord (integer_of (first_words f.word (end_of f.token))) w) f.parts (first_words_in f.word f.token f.spelled))

-- `int` behind a first word
alone_int_into : (a : TypeWords) (place : Span) (w u : List Token) → FirstIs a w → takes_int a ≡ true → Spot (keyword key.Int) place u →
    BaseWord (integer_of (int_of a place)) (w ++ u)
alone_int_into a place w u f h (spot v i) =
    subst (λ w. BaseWord (with_int a (end_of v)) (w ++ v ∷ [])) f.parts
    (subst (λ a. BaseWord (with_int a (end_of v)) (f.token ∷ v ∷ [])) f.value
    (first_int_in f.word f.token v f.spelled i (subst (λ a. takes_int a ≡ true) (sym f.value) h)))

-- a size behind a first word
record PairIs (a : TypeWords) (w : List Token) : Type 0 where
  first : FirstWord
  before : Token
  last : SizeWord
  token : Token
  first_spelled : IsKeyword (first_keyword first) before
  last_spelled : IsKeyword (size_keyword last) token
  allowed : takes_size (first_words first (end_of before)) ≡ true
  value : behind first (end_of before) last (end_of token) ≡ a
  parts : before ∷ token ∷ [] ≡ w

pair_in : (a b : TypeWords) (w u : List Token) → FirstIs a w → Size a b u → PairIs b (w ++ u)
pair_in a b w u f m =
    let s = size_in a b u m in
    record {
      first = f.word;
      before = f.token;
      last = s.word;
      token = s.token;
      first_spelled = f.spelled;
      last_spelled = s.spelled;
      allowed = subst (λ a. takes_size a ≡ true) (sym f.value) m.allowed;
      value = ap (λ a. sized_words a.unsigned s.word (end_of s.token)) f.value ∙ s.value;
      parts = ap (λ w. w ++ s.token ∷ []) f.parts ∙ ap (λ u. w ++ u) s.parts;
    }

pair_into : (a : TypeWords) (w : List Token) → PairIs a w → BaseWord (integer_of a) w
pair_into a w p =
    subst (λ a. BaseWord (integer_of a) w) p.value
    (subst (λ w. BaseWord (integer_of (behind p.first (end_of p.before) p.last (end_of p.token))) w) p.parts
    (sized_in p.first p.before p.last p.token p.first_spelled p.last_spelled p.allowed))

pair_int_into : (a : TypeWords) (place : Span) (w u : List Token) → PairIs a w → takes_int a ≡ true → Spot (keyword key.Int) place u →
    BaseWord (integer_of (int_of a place)) (w ++ u)
pair_int_into a place w u p h (spot v i) =
    subst (λ w. BaseWord (with_int a (end_of v)) (w ++ v ∷ [])) p.parts
    (subst (λ a. BaseWord (with_int a (end_of v)) (p.before ∷ p.token ∷ v ∷ [])) p.value
    (sized_int_in p.first p.before p.last p.token v p.first_spelled p.last_spelled i p.allowed
    (subst (λ a. takes_int a ≡ true) (sym p.value) h)))

sized_int_into : (a b : TypeWords) (w u : List Token) → Sized a w → Int a b u → BaseWord (integer_of b) (w ++ u)
sized_int_into a b w u (alone f) m =
    subst (λ b. BaseWord (integer_of b) (w ++ u)) m.made.is (alone_int_into a m.made.source w u (first_in a w f) m.allowed m.made.word)
sized_int_into a b w u (followed {a = c} {w = x} {u = y} f s) m =
    subst (λ b. BaseWord (integer_of b) (w ++ u)) m.made.is (pair_int_into a m.made.source w u
    (pair_in c a x y (first_in c x f) s) m.allowed m.made.word)

sized_into : (a : TypeWords) (w : List Token) → Sized a w → BaseWord (integer_of a) w
sized_into a w (alone f) = alone_into a w (first_in a w f)
sized_into a w (followed {a = c} {w = x} {u = y} f s) = pair_into a w (pair_in c a x y (first_in c x f) s)

words_into : (a : TypeWords) (w : List Token) → Words a w → BaseWord (integer_of a) w
words_into a w (alone s) = sized_into a w s
words_into a w (followed {a = c} {w = x} {u = y} s m) = sized_int_into c a x y s m

pub integer_into : (v : TypeRead) (w : List Token) → Made integer_of Words v w → BaseWord v w
integer_into v w m = subst (λ v. BaseWord v w) m.is (words_into m.source w m.word)

-- ---- and back

-- the words of an integer type
pub record Spelled (ty : IntType) (w : List Token) : Type 0 where
  pub value : TypeWords
  pub type : value.ty ≡ ty
  pub end : value.end ≡ (span_of w).end
  pub word : Words value w

first_word_of : (f : FirstWord) (t : Token) → IsKeyword (first_keyword f) t → First (first_words f (end_of t)) (t ∷ [])
first_word_of f t e = record { source = (f, end_of t); is = refl; word = one_word (picked_first t f e) }

size_word_of : (a : TypeWords) (s : SizeWord) (u : Token) → IsKeyword (size_keyword s) u → takes_size a ≡ true →
    Size a (sized_words a.unsigned s (end_of u)) (u ∷ [])
size_word_of a s u e h = record { allowed = h; made = record { source = (s, end_of u); is = refl; word = one_word (picked_size u s e) } }

int_word_of : (a : TypeWords) (v : Token) → IsKeyword key.Int v → takes_int a ≡ true → Int a (int_of a (place_of v)) (v ∷ [])
int_word_of a v i h = record { allowed = h; made = record { source = place_of v; is = refl; word = spot v i } }

one : (f : FirstWord) (t : Token) → IsKeyword (first_keyword f) t → Spelled (first_words f (end_of t)).ty (t ∷ [])
one f t e = record {
  value = first_words f (end_of t);
  type = refl;
  end = first_end f (end_of t);
  word = alone (alone (first_word_of f t e));
}

one_int : (f : FirstWord) (t u : Token) → IsKeyword (first_keyword f) t → IsKeyword key.Int u →
    takes_int (first_words f (end_of t)) ≡ true → Spelled (first_words f (end_of t)).ty (t ∷ u ∷ [])
one_int f t u e i h = record {
  value = int_of (first_words f (end_of t)) (place_of u);
  type = refl;
  end = refl;
  word = followed (alone (first_word_of f t e)) (int_word_of (first_words f (end_of t)) u i h);
}

two : (f : FirstWord) (t : Token) (s : SizeWord) (u : Token) → IsKeyword (first_keyword f) t → IsKeyword (size_keyword s) u →
    takes_size (first_words f (end_of t)) ≡ true →
    Spelled (behind f (end_of t) s (end_of u)).ty (t ∷ u ∷ [])
two f t s u e k h = record {
  value = behind f (end_of t) s (end_of u);
  type = refl;
  end = sized_end (first_words f (end_of t)).unsigned s (end_of u);
  word = alone (followed (first_word_of f t e) (size_word_of (first_words f (end_of t)) s u k h));
}

two_int : (f : FirstWord) (t : Token) (s : SizeWord) (u v : Token) → IsKeyword (first_keyword f) t → IsKeyword (size_keyword s) u →
    IsKeyword key.Int v →
    takes_size (first_words f (end_of t)) ≡ true → takes_int (behind f (end_of t) s (end_of u)) ≡ true →
    Spelled (behind f (end_of t) s (end_of u)).ty (t ∷ u ∷ v ∷ [])
two_int f t s u v e k i h j = record {
  value = int_of (behind f (end_of t) s (end_of u)) (place_of v);
  type = refl;
  end = refl;
  word = followed (followed (first_word_of f t e) (size_word_of (first_words f (end_of t)) s u k h))
      (int_word_of (behind f (end_of t) s (end_of u)) v i j);
}

pub words_out : (ty : IntType) (ks : List Keyword) (w : List Token) → grammar.TypeWords ty ks → Keywords ks w → Spelled ty w
words_out ty ks w grammar.char (grammar.word t e grammar.none) = one first.Char t e
words_out ty ks w grammar.signed_char (grammar.word t e (grammar.word u k grammar.none)) = two first.Signed t size.Char u e k refl
words_out ty ks w grammar.unsigned_char (grammar.word t e (grammar.word u k grammar.none)) = two first.Unsigned t size.Char u e k refl
words_out ty ks w grammar.short (grammar.word t e grammar.none) = one first.Short t e
words_out ty ks w grammar.short_int (grammar.word t e (grammar.word u i grammar.none)) = one_int first.Short t u e i refl
words_out ty ks w grammar.signed_short (grammar.word t e (grammar.word u k grammar.none)) = two first.Signed t size.Short u e k refl
words_out ty ks w grammar.signed_short_int (grammar.word t e (grammar.word u k (grammar.word v i grammar.none))) =
    two_int first.Signed t size.Short u v e k i refl refl
words_out ty ks w grammar.unsigned_short (grammar.word t e (grammar.word u k grammar.none)) = two first.Unsigned t size.Short u e k refl
words_out ty ks w grammar.unsigned_short_int (grammar.word t e (grammar.word u k (grammar.word v i grammar.none))) =
    two_int first.Unsigned t size.Short u v e k i refl refl
words_out ty ks w grammar.long (grammar.word t e grammar.none) = one first.Long t e
words_out ty ks w grammar.long_int (grammar.word t e (grammar.word u i grammar.none)) = one_int first.Long t u e i refl
words_out ty ks w grammar.signed_long (grammar.word t e (grammar.word u k grammar.none)) = two first.Signed t size.Long u e k refl
words_out ty ks w grammar.signed_long_int (grammar.word t e (grammar.word u k (grammar.word v i grammar.none))) =
    two_int first.Signed t size.Long u v e k i refl refl
words_out ty ks w grammar.unsigned_long (grammar.word t e (grammar.word u k grammar.none)) = two first.Unsigned t size.Long u e k refl
words_out ty ks w grammar.unsigned_long_int (grammar.word t e (grammar.word u k (grammar.word v i grammar.none))) =
    two_int first.Unsigned t size.Long u v e k i refl refl
words_out ty ks w grammar.int (grammar.word t e grammar.none) = one first.Int t e
words_out ty ks w grammar.signed_int (grammar.word t e (grammar.word u i grammar.none)) = one_int first.Signed t u e i refl
words_out ty ks w grammar.unsigned_int (grammar.word t e (grammar.word u i grammar.none)) = one_int first.Unsigned t u e i refl
words_out ty ks w grammar.signed (grammar.word t e grammar.none) = one first.Signed t e
words_out ty ks w grammar.unsigned (grammar.word t e grammar.none) = one first.Unsigned t e
