-- What the code of the parser needs of the parser.
use Rattle.std.specs.Prelude.{◌≡◌, ℕ, ◌<◌, ◌≤◌, Bool, true, false, ◌||◌, if◌then◌else◌, List, [], ◌∷◌, Option, Some, None, is_some, Ok}
use Rattle.std.specs.Prelude.{refl}
use Rattle.std.proofs.Common.{sym, ◌∙◌, ap, arith}
use Rattle.c_ast.specs.declared.token.Span.{Span}
use Rattle.c_ast.specs.Seen.{Seen as Token}
use Rattle.c_ast.specs.declared.keyword.Keyword.{Keyword}
use Rattle.c_ast.specs.declared.keyword.Keyword.TheVariants as key
use Rattle.c_ast.specs.declared.punctuator.Punctuator.TheVariants as mark
use Rattle.c_grammar.specs.Words.{word_of, keyword, punctuator, end_of}
use Rattle.c_parse_base.specs.declared.fault.Stop.{Stop}
use Rattle.c_parse_base.specs.declared.fault.Stop.TheVariants as stop
use Rattle.c_parse_base.specs.declared.fault.Fault.TheVariants.{Unexpected, TooDeep}
use Rattle.c_parse_base.specs.Reading.Answer.{Read, Stuck, and_then, word, makes, thens, sees, follows, repeats}
use Rattle.c_parse_base.specs.Laws.ChainLaws.{MayTurn}
use Rattle.c_parse_base.specs.Laws.OptionalLaws.{follows_stop, follows_wrong, follows_part}
use Rattle.c_parse_base.specs.Laws.LoopLaws.{turns_stop, turns_deep, turns_read}
use Rattle.c_parse_base.specs.Reading.Answers.{Answers, error, next_of, rest_of, next_value}
use Rattle.c_parse_base.specs.Laws.AnswerLaws.{either_one, either_other}
use Rattle.c_parse_base.specs.Reading.Words as read
use Rattle.c_parse_base.specs.Reading.Words.{is, place_of, any, punct}
use Rattle.c_parse_base.specs.Laws.WordLaws.{sees_value, value_passed}
use Rattle.c_parse_base.specs.Laws.Depths.{is_below, not_below}
use Rattle.c_parse_base.specs.declared.type_words.SizeWord.{SizeWord}
use Rattle.c_parse_base.specs.declared.type_words.TypeWords.{TypeWords}
use Rattle.c_parse_base.specs.declared.type_read.TypeRead.{TypeRead}
use Rattle.c_parse_base.specs.Reading.TypeWords.{among, first_at, size_at, ending, pick_first, pick_size, is_size, first_of, sized_of}
use Rattle.c_parse_base.specs.Reading.TypeWords.{int_of}
use Rattle.c_parse_base.specs.Reading.TypeNames.{Reader, WordReader, free, takes_size, takes_int, first_word, size_word, int_word, sized}
use Rattle.c_parse_base.specs.Reading.TypeNames.{type_words, integer_of, integer, struct_of, void_of, struct_type, void_type}
use Rattle.c_parse_base.specs.Reading.TypeNames.{void_or_integer, base, begins_type, has_room, pick_star, star_of, star, stars, type_name}
use Rattle.c_parse_base.specs.Laws.TypeNameLaws.{Low, StarBehind, star_good}

-- ---- which word comes next

module _ {V : Type 0} (spelled : V → Keyword) (v : V) (vs : List V) where
  pub among_seen : (ts : List Token) → sees (is (keyword (spelled v))) ts ≡ true →
      next_value (λ t. among spelled (v ∷ vs) (word_of t)) ts ≡ Some v
  among_seen [] e = cc
  among_seen (x ∷ ts) e = ap (λ b. if b then Some v else among spelled vs (word_of x)) e

  pub among_unseen : (ts : List Token) → sees (is (keyword (spelled v))) ts ≡ false →
      next_value (λ t. among spelled (v ∷ vs) (word_of t)) ts ≡ next_value (λ t. among spelled vs (word_of t)) ts
  among_unseen [] e = refl
  among_unseen (x ∷ ts) e = ap (λ b. if b then Some v else among spelled vs (word_of x)) e

pub among_none : {V : Type 0} (spelled : V → Keyword) (ts : List Token) → next_value (λ t. among spelled [] (word_of t)) ts ≡ None
among_none spelled [] = refl
among_none spelled (x ∷ ts) = refl

-- ---- a word that comes next is taken

module _ {V : Type 0} (value : ℕ → Option V) where
  abbrev next : List Token → Option V
  next = next_value (λ t. value (word_of t))

  abbrev pick : Token → Option (V × ℕ)
  pick t = ending (end_of t) (value (word_of t))

  pub ending_none : (ts : List Token) → next ts ≡ None → word pick ts ≡ Stuck Unexpected ts
  ending_none [] e = refl
  ending_none (x ∷ ts) e = cc

  pub ending_read : (ts us : List Token) (v : V) (place : Span) → next ts ≡ Some v → Answers (any ts) (Ok place) us →
      Answers (word pick ts) (Ok (v, place.end)) us
  unfolding any
  ending_read [] us v place e h = cc
  ending_read (x ∷ ts) us v place e h = let told = h.is in record { is = cc }

  pub ending_stop : (ts us : List Token) (v : V) (s : Stop) → next ts ≡ Some v → Answers (any ts) (error {A = Span} s) us →
      Answers (word pick ts) (error {A = V × ℕ} s) us
  unfolding any
  ending_stop ts us v stop.NoMemory e h = record { is = tt }
  ending_stop [] us v (stop.Fault f) e h = cc
  ending_stop (x ∷ ts) us v (stop.Fault f) e h = let told = h.is in absurd (cc)

-- ---- the words of an integer type

pub first_none : (ts : List Token) → next_value (λ t. first_at (word_of t)) ts ≡ None → first_word ts ≡ Stuck Unexpected ts
unfolding first_word
first_none ts e = ap (λ o. and_then o (λ c us. Read (first_of c) us)) (ending_none first_at ts e)

pub first_is : (ts : List Token) → first_word ts ≡ makes first_of (word pick_first) ts
unfolding first_word
first_is ts = refl

-- what may stand behind a first word, and behind that
abbrev pub size_behind : TypeWords → WordReader
size_behind = follows is_size takes_size free size_word

abbrev pub int_behind : TypeWords → WordReader
int_behind = follows (is (keyword key.Int)) takes_int free int_word

pub sized_is : (ts : List Token) → sized ts ≡ and_then (first_word ts) size_behind
unfolding sized
sized_is ts = refl

sees_size : (ts : List Token) (o : Option SizeWord) → next_value (λ t. size_at (word_of t)) ts ≡ o → sees is_size ts ≡ is_some o
sees_size ts o e = sees_value (λ t. size_at (word_of t)) ts ∙ ap is_some e

pub size_none : (a : TypeWords) (ts : List Token) → next_value (λ t. size_at (word_of t)) ts ≡ None → size_behind a ts ≡ Read a ts
size_none a ts e = follows_stop is_size takes_size free size_word a ts (sees_size ts None e)

pub size_wrong : (a : TypeWords) (ts : List Token) (s : SizeWord) → next_value (λ t. size_at (word_of t)) ts ≡ Some s →
    a.takes_size ≡ false → size_behind a ts ≡ Stuck Unexpected ts
size_wrong a ts s e h = follows_wrong is_size takes_size free size_word a ts (sees_size ts (Some s) e) h

pub size_taken : (a : TypeWords) (ts : List Token) (s : SizeWord) → next_value (λ t. size_at (word_of t)) ts ≡ Some s →
    a.takes_size ≡ true →
    size_behind a ts ≡ makes (sized_of a) (word pick_size) ts
unfolding size_word
size_taken a ts s e h = follows_part is_size takes_size free size_word a ts (sees_size ts (Some s) e) h refl

pub words_is : (ts : List Token) → type_words ts ≡ and_then (sized ts) int_behind
unfolding type_words
words_is ts = refl

pub int_none : (a : TypeWords) (ts : List Token) → sees (is (keyword key.Int)) ts ≡ false → int_behind a ts ≡ Read a ts
int_none = follows_stop (is (keyword key.Int)) takes_int free int_word

pub int_wrong : (a : TypeWords) (ts : List Token) → sees (is (keyword key.Int)) ts ≡ true → a.takes_int ≡ false →
    int_behind a ts ≡ Stuck Unexpected ts
int_wrong = follows_wrong (is (keyword key.Int)) takes_int free int_word

pub int_taken : (a : TypeWords) (ts : List Token) → sees (is (keyword key.Int)) ts ≡ true → a.takes_int ≡ true →
    int_behind a ts ≡ makes (int_of a) (read.key key.Int) ts
unfolding int_word
int_taken a ts e h = follows_part (is (keyword key.Int)) takes_int free int_word a ts e h refl

-- ---- bases

pub integer_is : (ts : List Token) → integer ts ≡ makes integer_of type_words ts
unfolding integer
integer_is ts = refl

pub void_is : (ts : List Token) → void_type ts ≡ makes void_of (read.key key.Void) ts
unfolding void_type
void_is ts = refl

pub struct_is : (ts : List Token) → struct_type ts ≡ makes struct_of (thens (read.key key.Struct) (λ _. read.name)) ts
unfolding struct_type
struct_is ts = refl

pub base_struct : (ts : List Token) → sees (is (keyword key.Struct)) ts ≡ true → base ts ≡ struct_type ts
unfolding base
base_struct ts e = either_one (is (keyword key.Struct)) true struct_type void_or_integer ts e refl

pub base_void : (ts : List Token) → sees (is (keyword key.Struct)) ts ≡ false → sees (is (keyword key.Void)) ts ≡ true →
    base ts ≡ void_type ts
unfolding base void_or_integer
base_void ts e h = either_other (is (keyword key.Struct)) true struct_type void_or_integer ts e
    ∙ either_one (is (keyword key.Void)) true void_type integer ts h refl

pub base_integer : (ts : List Token) → sees (is (keyword key.Struct)) ts ≡ false → sees (is (keyword key.Void)) ts ≡ false →
    base ts ≡ integer ts
unfolding base void_or_integer
base_integer ts e h = either_other (is (keyword key.Struct)) true struct_type void_or_integer ts e
    ∙ either_other (is (keyword key.Void)) true void_type integer ts h

-- ---- whether a star comes next

pub star_seen : (ts : List Token) (x : Token) → next_of ts ≡ Some x → sees (is (punctuator mark.Star)) ts ≡ true →
    next_value pick_star ts ≡ Some (place_of x)
star_seen [] x e h = cc
star_seen (y ∷ ts) x e h = let same : y ≡ x = cc in ap (λ b. if b then Some (place_of y) else None) h ∙ ap (λ t. Some (place_of t)) same

pub star_unseen : (ts : List Token) → sees (is (punctuator mark.Star)) ts ≡ false → next_value pick_star ts ≡ None
star_unseen [] e = refl
star_unseen (x ∷ ts) e = ap (λ b. if b then Some (place_of x) else None) e

pub star_at_end : (ts : List Token) → next_of ts ≡ None → next_value pick_star ts ≡ None
star_at_end [] e = refl
star_at_end (x ∷ ts) e = cc

seen_at : (x : Token) (b : Bool) → is_some (if b then Some (place_of x) else None) ≡ b
seen_at x true = refl
seen_at x false = refl

-- a star is seen where one has a place
pub sees_star : (ts : List Token) (o : Option Span) → next_value pick_star ts ≡ o → sees (is (punctuator mark.Star)) ts ≡ is_some o
sees_star [] o e = ap is_some e
sees_star (x ∷ ts) o e = sym (seen_at x (is (punctuator mark.Star) x)) ∙ ap is_some e

-- ---- the loop over stars

-- the stars that are left, behind what was read so far
unfoldable pub more_stars : ℕ → TypeRead → Reader
more_stars d = repeats (is (punctuator mark.Star)) (has_room d) star

pub type_is : (d : ℕ) (ts : List Token) → type_name d ts ≡ and_then (base ts) (more_stars d)
unfolding type_name more_stars
type_is d ts = refl

pub stars_is : (d : ℕ) (a : TypeRead) (ts : List Token) → stars d a ts ≡ and_then (makes (star_of a) (punct mark.Star) ts) (more_stars d)
unfolding stars more_stars star
stars_is d a ts = refl

pub stars_end : (d : ℕ) (a : TypeRead) (ts : List Token) → next_value pick_star ts ≡ None → more_stars d a ts ≡ Read a ts
unfolding more_stars
stars_end d a ts e = turns_stop (is (punctuator mark.Star)) (has_room d) star a ts (sees_star ts None e)

pub stars_deep : (d : ℕ) (a : TypeRead) (ts : List Token) (place : Span) → next_value pick_star ts ≡ Some place → d ≤ a.height →
    more_stars d a ts ≡ Stuck TooDeep ts
unfolding more_stars
stars_deep d a ts place e high = turns_deep (is (punctuator mark.Star)) (has_room d) star a ts (sees_star ts (Some place) e)
    (not_below a.height d high)

-- a star that comes next is passed
pub star_passed : (a : TypeRead) (ts : List Token) (place : Span) → next_value pick_star ts ≡ Some place →
    star a ts ≡ Read (star_of a place) (rest_of ts)
unfolding star punct
star_passed a ts place e = ap (λ o. and_then o (λ p us. Read (star_of a p) us)) (value_passed pick_star ts place e)

may_turn : (d : ℕ) (a : TypeRead) → a.height < d → MayTurn (Low d) (has_room d) a
may_turn d a low = record { fits = omega arith; has_room = is_below a.height d low }

-- a star that comes next is read
stars_read : (d : ℕ) (a : TypeRead) (ts : List Token) (place : Span) → next_value pick_star ts ≡ Some place → a.height < d →
    more_stars d a ts ≡ more_stars d (star_of a place) (rest_of ts)
unfolding more_stars
stars_read d a ts place e low =
    turns_read (is (punctuator mark.Star)) (has_room d) star StarBehind (star_good d) a (star_of a place) ts (rest_of ts)
    (may_turn d a low) (sees_star ts (Some place) e) (star_passed a ts place e)

-- likewise, by other names of the type and of the tokens behind it
pub stars_on : (d : ℕ) (a b : TypeRead) (ts us : List Token) (place : Span) → next_value pick_star ts ≡ Some place → a.height < d →
    b ≡ star_of a place → us ≡ rest_of ts →
    more_stars d a ts ≡ more_stars d b us
stars_on d a b ts us place e low made left = stars_read d a ts place e low ∙ ap (λ a. more_stars d a (rest_of ts)) (sym made)
    ∙ ap (more_stars d b) (sym left)
