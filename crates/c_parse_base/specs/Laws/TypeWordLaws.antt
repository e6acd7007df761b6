-- The parser of integer types reads the orders of type words that the grammar has.
use Rattle.std.specs.Prelude.{◌≡◌, ℕ, Bool, true, false, ◌==◌, ◌||◌, if◌then◌else◌, List, [], ◌∷◌, Option, Some, None, is_some, refl}
use Rattle.std.proofs.Common.{◌∙◌, ap}
use Rattle.c_ast.specs.Seen.{Seen as Token}
use Rattle.c_ast.specs.declared.token.Lexeme.TheVariants as lexeme
use Rattle.c_ast.specs.declared.keyword.Keyword.{Keyword}
use Rattle.c_ast.specs.declared.keyword.Keyword.TheVariants as key
use Rattle.c_ast.specs.Words.{keyword_number}
use Rattle.c_grammar.specs.Words.{word_of, keyword, end_of, IsKeyword}
use Rattle.c_parse_base.specs.Reading.Good.{Language, Begins, Good}
use Rattle.c_parse_base.specs.Reading.Languages.{Word, word_of as one_word, Perhaps, Always, nothing, Made}
use Rattle.c_parse_base.specs.Laws.Parts.{word_good, makes_good}
use Rattle.c_parse_base.specs.Laws.OptionalLaws.{MayFollow, optional_good}
use Rattle.c_parse_base.specs.Reading.Words.{is, place_of, token_of, Spot, spot}
use Rattle.c_parse_base.specs.Laws.WordGood.{good_as, key_good, equal_is}
use Rattle.c_parse_base.specs.Laws.WordListLaws.{both_false}
use Rattle.c_parse_base.specs.declared.type_words.FirstWord.{FirstWord}
use Rattle.c_parse_base.specs.declared.type_words.FirstWord.TheVariants as first
use Rattle.c_parse_base.specs.declared.type_words.SizeWord.{SizeWord}
use Rattle.c_parse_base.specs.declared.type_words.SizeWord.TheVariants as size
use Rattle.c_parse_base.specs.declared.type_words.TypeWords.{TypeWords}
use Rattle.c_parse_base.specs.Reading.TypeWords.{first_keyword, size_keyword, among, first_at, size_at, ending, pick_first, pick_size}
use Rattle.c_parse_base.specs.Reading.TypeWords.{is_size, first_of, sized_of, int_of}
use Rattle.c_parse_base.specs.Reading.TypeNames.{free, takes_size, takes_int, first_word, size_word, int_word, sized, type_words}
use Rattle.c_parse_base.specs.Reading.TypeNames.{integer_of, integer, begins_integer}

-- ---- which keyword a word is

among_or : {V : Type 0} (spelled : V → Keyword) (a v : V) (w : ℕ) (rest : Option V) → (rest ≡ Some v → w ≡ keyword (spelled v)) →
    (b : Bool) → (w == keyword (spelled a)) ≡ b → (if b then Some a else rest) ≡ Some v → w ≡ keyword (spelled v)
among_or spelled a v w rest later true is h = let same : a ≡ v = cc in
    equal_is w (keyword (spelled a)) is ∙ ap (λ v. keyword (spelled v)) same
among_or spelled a v w rest later false is h = later h

among_is : {V : Type 0} (spelled : V → Keyword) (vs : List V) (w : ℕ) (v : V) → among spelled vs w ≡ Some v → w ≡ keyword (spelled v)
among_is spelled [] w v e = cc
among_is spelled (a ∷ vs) w v e = among_or spelled a v w (among spelled vs w) (among_is spelled vs w v) (w == keyword (spelled a)) refl e

pub first_is : (w : ℕ) (f : FirstWord) → first_at w ≡ Some f → w ≡ keyword (first_keyword f)
unfolding first_at
first_is = among_is first_keyword (first.Signed ∷ first.Unsigned ∷ first.Int ∷ first.Char ∷ first.Short ∷ first.Long ∷ [])

pub size_is : (w : ℕ) (s : SizeWord) → size_at w ≡ Some s → w ≡ keyword (size_keyword s)
unfolding size_at
size_is = among_is size_keyword (size.Char ∷ size.Short ∷ size.Long ∷ [])

is_first : (f : FirstWord) → first_at (keyword (first_keyword f)) ≡ Some f
unfolding first_at
is_first first.Signed = refl
is_first first.Unsigned = refl
is_first first.Int = refl
is_first first.Char = refl
is_first first.Short = refl
is_first first.Long = refl

is_size_word : (s : SizeWord) → size_at (keyword (size_keyword s)) ≡ Some s
unfolding size_at
is_size_word size.Char = refl
is_size_word size.Short = refl
is_size_word size.Long = refl

-- ---- two tests that no word passes both

-- a word that passes a test is not one that does not
pub other_word : (test : ℕ → Bool) (v w : ℕ) → test v ≡ false → test w ≡ true → (w == v) ≡ false
other_word test v w fails passes = go (w == v) refl
  where
    go : (b : Bool) → (w == v) ≡ b → (w == v) ≡ false
    go false e = e
    go true e = let same = ap test (equal_is w v e) in cc

-- likewise, the other way round
pub no_word : (test : ℕ → Bool) (v w : ℕ) → test v ≡ false → (w == v) ≡ true → test w ≡ false
no_word test v w fails same = ap test (equal_is w v same) ∙ fails

-- ---- one word

pub ended_some : {V : Type 0} (end : ℕ) (o : Option V) (c : V × ℕ) → ending end o ≡ Some c → (o ≡ Some c.0) × (end ≡ c.1)
ended_some end None c e = cc
ended_some end (Some v) c e = let same : (v, end) ≡ c = cc in (ap (λ c. Some c.0) same, ap (λ c. c.1) same)

abbrev pub First : Language Token TypeWords
First = Made first_of (Word pick_first)

-- a size behind `signed` or `unsigned`
pub record Size (a b : TypeWords) (w : List Token) : Type 0 where
  pub allowed : takes_size a ≡ true
  pub made : Made (sized_of a) (Word pick_size) b w

-- "int" behind other words
pub record Int (a b : TypeWords) (w : List Token) : Type 0 where
  pub allowed : takes_int a ≡ true
  pub made : Made (int_of a) (Spot (keyword key.Int)) b w

abbrev pub Sized : Language Token TypeWords
Sized = Perhaps First Size

abbrev pub Words : Language Token TypeWords
Words = Perhaps Sized Int

abbrev pub goes_on_size : TypeWords → Token → Bool
goes_on_size a t = is_size t

-- the words that go on behind type words, whether or not they may stand there
abbrev pub more_words : Token → Bool
more_words t = is_size t || is (keyword key.Int) t

abbrev pub goes_on_words : TypeWords → Token → Bool
goes_on_words a t = more_words t

abbrev pub is_first_word : Token → Bool
is_first_word t = begins_integer (word_of t)

abbrev keyword_token : Keyword → Token
keyword_token k = token_of (lexeme.Keyword (keyword_number k))

pub picked_first : (t : Token) (f : FirstWord) → IsKeyword (first_keyword f) t → pick_first t ≡ Some (f, end_of t)
picked_first t f e = ap (λ w. ending (end_of t) (first_at w)) e ∙ ap (ending (end_of t)) (is_first f)

pub picked_size : (t : Token) (s : SizeWord) → IsKeyword (size_keyword s) t → pick_size t ≡ Some (s, end_of t)
picked_size t s e = ap (λ w. ending (end_of t) (size_at w)) e ∙ ap (ending (end_of t)) (is_size_word s)

first_of_word : (t : Token) (o : Option FirstWord) → is_some (ending (end_of t) o) ≡ true → is_some o ≡ true
first_of_word t None e = cc
first_of_word t (Some f) e = refl

size_of_word : (t : Token) (o : Option SizeWord) → is_some (ending (end_of t) o) ≡ true → is_some o ≡ true
size_of_word t None e = cc
size_of_word t (Some f) e = refl

first_good : Good first_word First Always is_first_word nothing
unfolding first_word
first_good = makes_good first_of First Always nothing
    (good_as (Word pick_first) Always is_first_word
    (word_good pick_first (record {
      token = keyword_token key.Int;
      value = (first.Int, end_of (keyword_token key.Int));
      is = picked_first (keyword_token key.Int) first.Int refl;
    }))
    (λ a w l. l) (λ a w l. l) (λ a w l h. h) (λ a w l h. h) (λ x h. first_of_word x (first_at (word_of x)) h))
    (λ a w m. record { source = a; is = refl; word = m }) (λ b w m. m) (λ a w m h. tt) (λ a w m h. tt) (λ a x h. refl)

size_good : (a : TypeWords) → MayFollow Always takes_size free a → Good (size_word a) (Size a) Always is_size nothing
unfolding size_word
size_good a may = makes_good (sized_of a) (Size a) Always nothing
    (good_as (Word pick_size) Always is_size
    (word_good pick_size (record {
      token = keyword_token key.Char;
      value = (size.Char, end_of (keyword_token key.Char));
      is = picked_size (keyword_token key.Char) size.Char refl;
    }))
    (λ a w l. l) (λ a w l. l) (λ a w l h. h) (λ a w l h. h) (λ x h. size_of_word x (size_at (word_of x)) h))
    (λ c w m. record { allowed = may.is_allowed; made = record { source = c; is = refl; word = m } }) (λ b w m. m.made) (λ a w m h. tt)
    (λ a w m h. tt) (λ a x h. refl)

int_good : (a : TypeWords) → MayFollow Always takes_int free a → Good (int_word a) (Int a) Always (is (keyword key.Int)) nothing
unfolding int_word
int_good a may = makes_good (int_of a) (Int a) Always nothing (key_good key.Int)
    (λ c w m. record { allowed = may.is_allowed; made = record { source = c; is = refl; word = m } }) (λ b w m. m.made) (λ a w m h. tt)
    (λ a w m h. tt) (λ a x h. refl)

size_begins : (a : TypeWords) (t : Token) → takes_size a ≡ true → (o : Option SizeWord) → size_at (word_of t) ≡ o → is_some o ≡ true →
    Begins (Size a) (t ∷ [])
size_begins a t may None e h = cc
size_begins a t may (Some s) e h = record {
  value = sized_of a (s, end_of t);
  more = [];
  whole = record { allowed = may; made = record { source = (s, end_of t); is = refl; word = one_word (ap (ending (end_of t)) e) } };
}

int_begins : (a : TypeWords) (t : Token) → takes_int a ≡ true → is (keyword key.Int) t ≡ true → Begins (Int a) (t ∷ [])
int_begins a t may e = record {
  value = int_of a (place_of t);
  more = [];
  whole = record {
    allowed = may;
    made = record {
      source = place_of t;
      is = refl;
      word = spot t (equal_is (word_of t) (keyword key.Int) e);
    };
  };
}

sized_good : Good sized Sized Always is_first_word goes_on_size
unfolding sized
sized_good = optional_good is_size takes_size free size_word Size goes_on_size first_good size_good
    (λ a x may h. size_begins a x may (size_at (word_of x)) refl h)
    (λ a b u m h. record { fits = tt; is_allowed = m.allowed; has_room = refl })
    (λ a x h. refl) (λ a x h. (refl, h, refl))

int_no_size : is_some (size_at (keyword key.Int)) ≡ false
unfolding size_at
int_no_size = refl

pub words_good : Good type_words Words Always is_first_word goes_on_words
unfolding type_words
words_good = optional_good (is (keyword key.Int)) takes_int free int_word Int goes_on_words sized_good int_good
    (λ a x may h. int_begins a x may h)
    (λ a b u m h. record { fits = tt; is_allowed = m.allowed; has_room = refl })
    (λ a x h. no_word (λ w. is_some (size_at w)) (keyword key.Int) (word_of x) int_no_size h)
    (λ a x h. let n = both_false (is_size x) (is (keyword key.Int) x) h in (n.0, n.1, refl))

-- the words of an integer type are read
pub integer_good : Good integer (Made integer_of Words) Always is_first_word (λ a. more_words)
unfolding integer
integer_good = makes_good integer_of (Made integer_of Words) Always (λ a. more_words) words_good
    (λ a w m. record { source = a; is = refl; word = m }) (λ b w m. m) (λ a w m h. tt) (λ a w m h. tt) (λ a x h. h)
