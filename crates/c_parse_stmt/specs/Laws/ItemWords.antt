-- The words with which statements and declarations begin are apart.
use Rattle.std.specs.Prelude.{◌≡◌, ℕ, Bool, true, false, ◌==◌, ◌||◌, if◌then◌else◌, List, [], ◌∷◌, Option, Some, is_some, refl}
use Rattle.std.proofs.Common.{◌∙◌}
use Rattle.c_ast.specs.Seen.{Seen as Token}
use Rattle.c_ast.specs.declared.keyword.Keyword.TheVariants as key
use Rattle.c_ast.specs.declared.punctuator.Punctuator.TheVariants as mark
use Rattle.c_grammar.specs.Words.{word_of, keyword, punctuator}
use Rattle.c_grammar.specs.Statements.{Place, Outside, InLoop}
use Rattle.c_parse_base.specs.Reading.Words.{is, one_word, among, apart_from}
use Rattle.c_parse_base.specs.Laws.WordListLaws.{is_at, apart_words, or_left, or_false}
use Rattle.c_parse_base.specs.Reading.TypeWords.{first_at}
use Rattle.c_parse_base.specs.declared.type_words.FirstWord.TheVariants as word
use Rattle.c_parse_base.specs.Reading.TypeNames.{begins_type, begins_integer}
use Rattle.c_parse_stmt.specs.Reading.Statements.{simple_words, statement_words, begins_item}

-- the words with which a type begins
abbrev pub type_words : List ℕ
type_words = keyword key.Struct ∷ keyword key.Void ∷ keyword key.Signed ∷ keyword key.Unsigned ∷ keyword key.Int ∷ keyword
    key.Char ∷ keyword key.Short ∷ keyword key.Long ∷ []

or_step : (b : Bool) {c r : Bool} → (c ≡ true → r ≡ true) → (b || c) ≡ true → (b || r) ≡ true
or_step true later h = refl
or_step false later h = later h

chosen_some : {A : Type 0} (b : Bool) (o : Option A) (r : Bool) (a : A) → (is_some o ≡ true → r ≡ true) →
    is_some (if b then Some a else o) ≡ true → (b || r) ≡ true
chosen_some true o r a later h = refl
chosen_some false o r a later h = later h

type_listed : (w : ℕ) → ((w == keyword key.Struct) || ((w == keyword key.Void) || begins_integer w)) ≡ true → one_word type_words w ≡ true
unfolding first_at
type_listed w = or_step (w == keyword key.Struct) (or_step (w == keyword key.Void)
    (chosen_some (w == keyword key.Signed) _ _ word.Signed (chosen_some (w == keyword key.Unsigned) _ _ word.Unsigned
    (chosen_some (w == keyword key.Int) _ _ word.Int
    (chosen_some (w == keyword key.Char) _ _ word.Char (chosen_some (w == keyword key.Short) _ _ word.Short
    (chosen_some (w == keyword key.Long) _ _ word.Long (λ h. h))))))))

pub not_both : (b c : Bool) → (b ≡ true → c ≡ false) → c ≡ true → b ≡ false
not_both true c h e = let k = h refl in cc
not_both false c h e = refl

-- a word of a list without words of types begins no type
pub type_apart : (ws : List ℕ) → apart_from type_words ws ≡ true → (t : Token) → among ws t ≡ true → begins_type t ≡ false
type_apart ws h t e = not_both (begins_type t) (among ws t) (λ k. apart_words type_words ws h (word_of t) (type_listed (word_of t) k)) e

simple_no_type : apart_from type_words simple_words ≡ true
simple_no_type = refl

-- an expression begins no type
pub simple_apart : (t : Token) → among simple_words t ≡ true → begins_type t ≡ false
simple_apart = type_apart simple_words simple_no_type

statement_no_type : (q : Place) → apart_from type_words (statement_words q) ≡ true
statement_no_type Outside = refl
statement_no_type InLoop = refl

-- a statement begins no type
pub statement_apart : (q : Place) (t : Token) → among (statement_words q) t ≡ true → begins_type t ≡ false
statement_apart q = type_apart (statement_words q) (statement_no_type q)

-- a word that begins neither a type nor a statement begins no part of a block
pub no_item : (q : Place) (w : ℕ) (t : Token) → apart_from type_words (w ∷ []) ≡ true → one_word (statement_words q) w ≡ false →
    is w t ≡ true → begins_item q t ≡ false
no_item q w t h n e = or_false (begins_type t) (among (statement_words q) t) (type_apart (w ∷ []) h t (or_left (is w t) false e))
    (is_at (one_word (statement_words q)) w t e ∙ n)

pub brace_no_statement : (q : Place) → one_word (statement_words q) (punctuator mark.RightBrace) ≡ false
brace_no_statement Outside = refl
brace_no_statement InLoop = refl

pub else_no_statement : (q : Place) → one_word (statement_words q) (keyword key.Else) ≡ false
else_no_statement Outside = refl
else_no_statement InLoop = refl
