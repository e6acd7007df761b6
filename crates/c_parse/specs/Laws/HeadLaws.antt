-- Types at file scope are read.
use Rattle.std.specs.Prelude.{◌≡◌, ◌≢◌, ℕ, suc, ◌+◌, ◌≤◌, ◌==◌, max, Bool, true, false, ◌||◌, if◌then◌else◌, List, [], ◌∷◌, ◌++◌, Option}
use Rattle.std.specs.Prelude.{Some, None, is_some, refl}
use Rattle.std.proofs.Common.{sym, ◌∙◌, ap, arith, inl, inr}
use Rattle.c_ast.specs.Seen.{Seen as Token}
use Rattle.c_ast.specs.declared.token.Lexeme.TheVariants as lexeme
use Rattle.c_ast.specs.declared.declaration.Storage.{Storage}
use Rattle.c_ast.specs.declared.declaration.Storage.TheVariants as storage
use Rattle.c_ast.specs.declared.keyword.Keyword.TheVariants as key
use Rattle.c_ast.specs.declared.punctuator.Punctuator.TheVariants as mark
use Rattle.c_ast.specs.Words.{keyword_number}
use Rattle.c_grammar.specs.Words.{word_of, keyword, punctuator, span_of}
use Rattle.c_parse_base.specs.Reading.Answer.{word, makes}
use Rattle.c_parse_base.specs.Reading.Good.{Language, Begins, StartsIn, Good}
use Rattle.c_parse_base.specs.Reading.Languages.{Word, word_of as one_word_of, Then, join, Either, Perhaps, alone, Always, nothing, Made}
use Rattle.c_parse_base.specs.Laws.Parts.{word_good, thens_good, makes_good, either_good}
use Rattle.c_parse_base.specs.Laws.OptionalLaws.{MayFollow, optional_good}
use Rattle.c_parse_base.specs.Reading.Spans.{Starting}
use Rattle.c_parse_base.specs.Reading.Words.{is, token_of}
use Rattle.c_parse_base.specs.Laws.WordGood.{good_as, equal_is}
use Rattle.c_parse_base.specs.Reading.TypeWords.{first_at, size_at}
use Rattle.c_parse_base.specs.Reading.TypeNames.{begins_type, begins_integer}
use Rattle.c_parse_base.specs.Laws.TypeWordLaws.{more_words, no_word}
use Rattle.c_parse_base.specs.Laws.TypeOrders.{BaseWord}
use Rattle.c_parse_base.specs.Laws.TypeNameLaws.{base_good}
use Rattle.c_parse_base.specs.Laws.WordListLaws.{or_left, or_right, both_false}
use Rattle.c_parse_decl.specs.Reading.Members.{BodyWord}
use Rattle.c_parse_base.specs.Laws.StartingLaws.{starting_good}
use Rattle.c_parse_base.specs.Laws.Bases.{base_begins_at}
use Rattle.c_parse_decl.specs.Laws.Members.MemberLaws.{body_good, body_begins_at}
use Rattle.c_parse.specs.declared.head.Head.{Head}
use Rattle.c_parse.specs.declared.head.Specifiers.{Specifiers}
use Rattle.c_parse.specs.Reading.Values.{plain_head, with_body, is_struct, stored, unstored}
use Rattle.c_parse.specs.Reading.Externals.{storage_at, from_start, pick_storage, is_storage, plain, body_behind, head, stored_head}
use Rattle.c_parse.specs.Reading.Externals.{specifiers, begins_declaration}
use Rattle.c_parse.specs.Laws.WordTests.{not_so}

-- ---- the languages

-- a type without a body
abbrev pub PlainHead : Language Token Head
PlainHead = Made plain_head (Starting BaseWord)

-- the body of a struct behind its tag
pub record BodyBehind (a b : Head) (w : List Token) : Type 0 where
  pub allowed : is_struct a ≡ true
  pub made : Made (with_body a) BodyWord b w

abbrev pub HeadWord : Language Token Head
HeadWord = Perhaps PlainHead BodyBehind

abbrev pub StoredHead : Language Token Specifiers
StoredHead = Made stored (Then (Word pick_storage) (λ _. HeadWord))

abbrev pub SpecifiersWord : Language Token Specifiers
SpecifiersWord = Either StoredHead (Made unstored HeadWord)

-- ---- levels and tests

abbrev pub HeadLow : ℕ → Head → Type 0
HeadLow d a = a.height ≤ d + 2

abbrev pub SpecifiersLow : ℕ → Specifiers → Type 0
SpecifiersLow d s = s.head.height ≤ d + 2

-- the words that go on behind a type, whether or not they may stand there
abbrev pub goes_on_head : Token → Bool
goes_on_head t = more_words t || is (punctuator mark.LeftBrace) t

brace_no_word : (is_some (size_at (punctuator mark.LeftBrace)) || (punctuator mark.LeftBrace == keyword key.Int)) ≡ false
unfolding size_at
brace_no_word = refl

-- ---- types

plain_good : (d : ℕ) → Good plain PlainHead (HeadLow d) begins_type (λ a. more_words)
unfolding plain
plain_good d = makes_good plain_head PlainHead (HeadLow d) (λ a. more_words) (starting_good (base_good 0))
    (λ c w m. record { source = c; is = refl; word = m }) (λ a w m. m) (λ c w m low. omega arith)
    (λ c w m low. omega (arith, m.word.height)) (λ c x e. e)

body_behind_good : (d : ℕ) (a : Head) → MayFollow (HeadLow d) is_struct (λ _. true) a →
    Good (body_behind d a) (BodyBehind a) (HeadLow d) (is (punctuator mark.LeftBrace)) nothing
unfolding body_behind
body_behind_good d a may =
    makes_good (with_body a) (BodyBehind a) (HeadLow d) nothing (body_good d)
    (λ b w m. record { allowed = may.is_allowed; made = record { source = b; is = refl; word = m } }) (λ v w m. m.made)
    (λ b w m low. omega (arith, may.fits)) (λ b w m low. omega arith) (λ b x e. refl)

body_behind_begins : (a : Head) (t : Token) → is_struct a ≡ true → is (punctuator mark.LeftBrace) t ≡ true → Begins (BodyBehind a) (t ∷ [])
body_behind_begins a t may e =
    let b = body_begins_at t e in
    record {
      value = with_body a b.value;
      more = b.more;
      whole =
          record { allowed = may; made = record { source = b.value; is = refl; word = b.whole } };
    }

may_have_body : (d : ℕ) (a b : Head) (u : List Token) → BodyBehind a b u → HeadLow d b → MayFollow (HeadLow d) is_struct (λ _. true) a
may_have_body d a b u m low =
    let high : max a.height (suc (suc m.made.source.height)) ≡ b.height = ap (λ (v : Head). v.height) m.made.is in
    record { fits = omega arith; is_allowed = m.allowed; has_room = refl }

pub head_good : (d : ℕ) → Good (head d) HeadWord (HeadLow d) begins_type (λ a. goes_on_head)
unfolding head
head_good d = optional_good (is (punctuator mark.LeftBrace)) is_struct (λ _. true) (body_behind d) BodyBehind (λ a. goes_on_head)
    (plain_good d) (body_behind_good d)
    body_behind_begins (may_have_body d)
    (λ a x e. no_word (λ w. is_some (size_at w) || (w == keyword key.Int)) (punctuator mark.LeftBrace) (word_of x) brace_no_word e)
    (λ a x e. let n = both_false (more_words x) (is (punctuator mark.LeftBrace) x) e in (n.0, n.1, refl))

-- ---- some word begins with each of the tokens

plain_begins_at : (t : Token) → begins_type t ≡ true → Begins PlainHead (t ∷ [])
plain_begins_at t e =
    let b = base_begins_at t e in
    let start : ℕ = (span_of ((t ∷ []) ++ b.more)).start in
    record {
      value = plain_head (start, b.value);
      more = b.more;
      whole = record { source = (start, b.value); is = refl; word = record { word = b.whole; start = refl } };
    }

pub head_begins_at : (t : Token) → begins_type t ≡ true → Begins HeadWord (t ∷ [])
head_begins_at t e = let b = plain_begins_at t e in record { value = b.value; more = b.more; whole = alone b.whole }

abbrev some_int : Token
some_int = token_of (lexeme.Keyword (keyword_number key.Int))

some_type : begins_type some_int ≡ true
unfolding first_at
some_type = refl

pub head_begins : Begins HeadWord []
head_begins = let b = head_begins_at some_int some_type in record { value = b.value; more = some_int ∷ b.more; whole = b.whole }

-- ---- storage classes

abbrev pub storage_keyword : Storage → ℕ
storage_keyword storage.None = 0
storage_keyword storage.Static = keyword key.Static
storage_keyword storage.Extern = keyword key.Extern

-- a keyword is a storage class where it is that one's word
pub storage_is : (w : ℕ) (c : Storage) → storage_at w ≡ Some c → (w ≡ storage_keyword c) × (storage.None ≢ c)
unfolding storage_at
storage_is w c e = go (w == keyword key.Static) refl (w == keyword key.Extern) refl e
  where
    go : (a : Bool) → (w == keyword key.Static) ≡ a → (b : Bool) → (w == keyword key.Extern) ≡ b →
        (if a then Some storage.Static else (if b then Some storage.Extern else None)) ≡ Some c →
        (w ≡ storage_keyword c) × (storage.None ≢ c)
    go true is b there h = let same : storage.Static ≡ c = cc in (equal_is w (keyword key.Static) is ∙ ap storage_keyword same, λ n. cc)
    go false not true is h = let same : storage.Extern ≡ c = cc in (equal_is w (keyword key.Extern) is ∙ ap storage_keyword same, λ n. cc)
    go false not false nor h = cc

static_no_type : ((keyword key.Static == keyword key.Struct) ||
    ((keyword key.Static == keyword key.Void) || begins_integer (keyword key.Static))) ≡ false
unfolding first_at
static_no_type = refl

extern_no_type : ((keyword key.Extern == keyword key.Struct) ||
    ((keyword key.Extern == keyword key.Void) || begins_integer (keyword key.Extern))) ≡ false
unfolding first_at
extern_no_type = refl

begins_word : ℕ → Bool
begins_word w = (w == keyword key.Struct) || ((w == keyword key.Void) || begins_integer w)

storage_no_type : (t : Token) (o : Option Storage) → storage_at (word_of t) ≡ o → is_some o ≡ true → begins_type t ≡ false
unfolding begins_word
storage_no_type t None e h = cc
storage_no_type t (Some storage.None) e h = absurd ((storage_is (word_of t) storage.None e).1 refl)
storage_no_type t (Some storage.Static) e h = ap begins_word (storage_is (word_of t) storage.Static e).0 ∙ static_no_type
storage_no_type t (Some storage.Extern) e h = ap begins_word (storage_is (word_of t) storage.Extern e).0 ∙ extern_no_type

type_no_storage : (t : Token) → begins_type t ≡ true → is_storage t ≡ false
type_no_storage t e = not_so (is_storage t) (begins_type t) (storage_no_type t (storage_at (word_of t)) refl) e

picked_storage : (start : ℕ) (o : Option Storage) → is_some (from_start start o) ≡ is_some o
picked_storage start None = refl
picked_storage start (Some c) = refl

abbrev some_static : Token
some_static = token_of (lexeme.Keyword (keyword_number key.Static))

static_at : storage_at (keyword key.Static) ≡ Some storage.Static
unfolding storage_at
static_at = refl

extern_at : storage_at (keyword key.Extern) ≡ Some storage.Extern
unfolding storage_at
extern_at = refl

-- the token of a storage class is picked
pub static_picked : (t : Token) → word_of t ≡ keyword key.Static → pick_storage t ≡ Some (storage.Static, t.start)
static_picked t e = ap (λ w. from_start t.start (storage_at w)) e ∙ ap (from_start t.start) static_at

pub extern_picked : (t : Token) → word_of t ≡ keyword key.Extern → pick_storage t ≡ Some (storage.Extern, t.start)
extern_picked t e = ap (λ w. from_start t.start (storage_at w)) e ∙ ap (from_start t.start) extern_at

storage_good : Good (word pick_storage) (Word pick_storage) Always is_storage nothing
storage_good = good_as (Word pick_storage) Always is_storage
    (word_good pick_storage (record { token = some_static; value = (storage.Static, 0); is = static_picked some_static refl }))
    (λ c w m. m) (λ c w m. m) (λ c w m h. h) (λ c w m h. h) (λ x h. sym (picked_storage x.start (storage_at (word_of x))) ∙ h)

-- ---- storage classes and types

stored_good : (d : ℕ) → Good (stored_head d) StoredHead (SpecifiersLow d) is_storage (λ s. goes_on_head)
unfolding stored_head
stored_good d = makes_good stored StoredHead (SpecifiersLow d) (λ s. goes_on_head)
    (thens_good (λ _. head d) (λ _. HeadWord) (λ _. HeadLow d) begins_type (λ _ _. goes_on_head) storage_good (λ _ _. head_good d)
    (λ _. head_begins) (λ a x e. refl))
    (λ c w m. record { source = c; is = refl; word = m }) (λ s w m. m) (λ c w m low. low.1) (λ c w m low. (tt, low)) (λ c x e. e)

unstored_good : (d : ℕ) → Good (makes unstored (head d)) (Made unstored HeadWord) (SpecifiersLow d) begins_type (λ s. goes_on_head)
unstored_good d = makes_good unstored (Made unstored HeadWord) (SpecifiersLow d) (λ s. goes_on_head) (head_good d)
    (λ a w m. record { source = a; is = refl; word = m }) (λ s w m. m) (λ a w m low. low) (λ a w m low. low) (λ a x e. e)

stored_begins : (t : Token) (o : Option Storage) → storage_at (word_of t) ≡ o → is_some o ≡ true → Begins StoredHead (t ∷ [])
stored_begins t None e h = cc
stored_begins t (Some c) e h = record {
  value = stored ((c, t.start), head_begins.value);
  more = head_begins.more;
  whole = record {
    source = ((c, t.start), head_begins.value);
    is = refl;
    word = join (one_word_of (ap (from_start t.start) e)) head_begins.whole;
  };
}

stored_starts : (s : Specifiers) (w : List Token) → StoredHead s w → StartsIn is_storage w
stored_starts = (stored_good 0).starts

pub specifiers_good : (d : ℕ) → Good (specifiers d) SpecifiersWord (SpecifiersLow d) begins_declaration (λ s. goes_on_head)
unfolding specifiers
specifiers_good d = either_good is_storage true begins_declaration (λ _. stored_good d) (unstored_good d)
    (λ x e. stored_begins x (storage_at (word_of x)) refl e) (λ s w m low. refl) stored_starts type_no_storage
    (λ x e. or_left (is_storage x) (begins_type x) e) (λ x e. or_right (is_storage x) (begins_type x) e)

-- some type at file scope begins with each of the tokens
pub specifiers_begin_at : (t : Token) → begins_declaration t ≡ true → Begins SpecifiersWord (t ∷ [])
specifiers_begin_at t e = go (is_storage t) refl e
  where
    go : (b : Bool) → is_storage t ≡ b → (b || begins_type t) ≡ true → Begins SpecifiersWord (t ∷ [])
    go true is h = let b = stored_begins t (storage_at (word_of t)) refl is in
        record { value = b.value; more = b.more; whole = inl b.whole }
    go false is h = let b = head_begins_at t h in record {
      value = unstored b.value;
      more = b.more;
      whole = inr (record { source = b.value; is = refl; word = b.whole });
    }
