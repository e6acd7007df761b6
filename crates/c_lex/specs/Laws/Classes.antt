-- A token's first byte tells its class.
use Rattle.std.proofs.Common.{◌≡◌, ℕ, ◌<◌, ◌≤◌, List, [], ◌∷◌, length, get_or, take, Bool, true, false, not, ◌&&◌, eqb, leb, ◌||◌, Option}
use Rattle.std.proofs.Common.{Some, None, refl, ap, subst, sym, ◌∙◌, arith, cond, ⊎_elim}
use Rattle.std.specs.Prelude.{if◌then◌else◌}
use Rattle.std.specs.List.{list_all}
use Rattle.std.specs.Char.{is_ascii_digit}
use Rattle.std.proofs.lemmas.Bool.{and_parts, eqb-true, leb-true, lt-leb, ne_eqb, or_cases, both_ways}
use Rattle.std.proofs.lemmas.List.{get_or-take}
use Rattle.c_ast.specs.declared.token.Lexeme.{Lexeme}
use Rattle.c_ast.specs.declared.token.Lexeme.TheVariants.{Include, Name, Number, Character, Text, Keyword, Punct}
use Rattle.c_ast.specs.Words.{keywords, punctuators, keyword_of, punctuator_of}
use Rattle.c_lex.specs.Bytes.{is_white, is_letter, is_word, is_numeral_byte}
use Rattle.c_lex.specs.Scan.Quoted.{character_of, text_of}
use Rattle.c_lex.specs.Directive.{is_include}
use Rattle.c_lex.specs.Number.{is_preprocessing_number}
use Rattle.c_lex.specs.Spelling.{is_identifier}
use Rattle.c_lex.specs.Laws.Scanned.{Scans}
use Rattle.c_lex.specs.Scan.Words.{is_second_of_punctuator}
use Rattle.c_lex.specs.Laws.Slices.{in_table}

-- the class that a first byte begins
abbrev pub class_of : ℕ → ℕ
class_of b = if is_letter b then 0 else (if is_ascii_digit b then 1
    else (if eqb b 39 then 2 else (if eqb b 34 then 3 else (if eqb b 35 then 4 else 5))))

-- the class of a lexeme
abbrev pub lexeme_class : Lexeme → ℕ
lexeme_class (Name name) = 0
lexeme_class (Keyword number) = 0
lexeme_class (Number value ty) = 1
lexeme_class (Character value) = 2
lexeme_class (Text values) = 3
lexeme_class Include = 4
lexeme_class (Punct number) = 5

abbrev keyword_test : List ℕ → Bool
keyword_test w = eqb (class_of (get_or w 0 0)) 0 && list_all is_word w

abbrev punctuator_test : List ℕ → Bool
punctuator_test w = (eqb (class_of (get_or w 0 0)) 5 && not (is_white (get_or w 0 0))) && leb (length w) 3

-- a keyword begins as a word does, and all its bytes are those of words
keyword-passes : (bytes : List ℕ) (number : ℕ) → keyword_of bytes ≡ Some number → keyword_test bytes ≡ true
unfolding keyword_of
keyword-passes bytes number found = in_table keyword_test bytes keywords number found refl

-- a punctuator begins with a byte of no other class, and has at most three bytes
punctuator-passes : (bytes : List ℕ) (number : ℕ) → punctuator_of bytes ≡ Some number → punctuator_test bytes ≡ true
unfolding punctuator_of
punctuator-passes bytes number found = in_table punctuator_test bytes punctuators number found refl

abbrev second_test : List ℕ → Bool
second_test w = leb (length w) 1 || is_second_of_punctuator (get_or w 1 0)

-- a punctuator of several bytes goes on with one of a few
pub punctuator-continues : (bytes : List ℕ) (number : ℕ) → punctuator_of bytes ≡ Some number → second_test bytes ≡ true
unfolding punctuator_of
punctuator-continues bytes number found = in_table second_test bytes punctuators number found refl

pub punctuator-short : (bytes : List ℕ) (number : ℕ) → punctuator_of bytes ≡ Some number → length bytes ≤ 3
punctuator-short bytes number found = leb-true _ _ (and_parts _ _ (punctuator-passes bytes number found)).1

identifier-class : (bytes : List ℕ) → is_identifier bytes ≡ true → class_of (get_or bytes 0 0) ≡ 0
identifier-class [] h = cc
identifier-class (b ∷ rest) h = rw (and_parts (is_letter b) (list_all is_word rest) h).0 refl

identifier-all : (bytes : List ℕ) → is_identifier bytes ≡ true → list_all is_word bytes ≡ true
identifier-all [] h = cc
identifier-all (b ∷ rest) h =
    let parts = and_parts (is_letter b) (list_all is_word rest) h in
    rw parts.0 parts.1

pub digit-is_no_letter : (b : ℕ) → is_ascii_digit b ≡ true → is_letter b ≡ false
digit-is_no_letter b digit =
    let high : b ≤ 57 = leb-true b 57 (and_parts (leb 48 b) (leb b 57) digit).1 in
    rw (lt-leb 65 b (omega arith), lt-leb 97 b (omega arith), ne_eqb b 95 (λ e. omega arith)) refl

pub digit-is_numeral_byte : (b : ℕ) → is_ascii_digit b ≡ true → is_numeral_byte b ≡ true
digit-is_numeral_byte b digit = rw (digit-is_no_letter b digit, digit) refl

-- a digit begins a number
pub digit-class : (b : ℕ) → is_ascii_digit b ≡ true → class_of b ≡ 1
digit-class b digit = rw (digit-is_no_letter b digit, digit) refl

number-class : (bytes : List ℕ) → is_preprocessing_number bytes ≡ true → class_of (get_or bytes 0 0) ≡ 1
number-class [] h = cc
number-class (b ∷ rest) h =
    let digit = (and_parts (is_ascii_digit b) (list_all is_numeral_byte rest) h).0 in
    rw (digit-is_no_letter b digit, digit) refl

pub number-all : (bytes : List ℕ) → is_preprocessing_number bytes ≡ true → list_all is_numeral_byte bytes ≡ true
number-all [] h = cc
number-all (b ∷ rest) h =
    let parts = and_parts (is_ascii_digit b) (list_all is_numeral_byte rest) h in
    rw (digit-is_numeral_byte b parts.0) parts.1

some_if : (b : Bool) (found : Option ℕ) (value : ℕ) → cond b found None ≡ Some value → b ≡ true
some_if true found value h = refl
some_if false found value h = cc

some_list_if : (b : Bool) (found : Option (List ℕ)) (values : List ℕ) → cond b found None ≡ Some values → b ≡ true
some_list_if true found values h = refl
some_list_if false found values h = cc

-- what bytes spell has the class of their first byte
pub Scans-class : (kind : Lexeme) (bytes : List ℕ) → Scans kind bytes → class_of (get_or bytes 0 0) ≡ lexeme_class kind
unfolding Scans
Scans-class Include bytes spells = ap class_of (eqb-true (get_or bytes 0 0) 35 (and_parts _ _ (and_parts _ _ spells).0).0)
Scans-class (Name name) bytes spells = identifier-class bytes spells.0
Scans-class (Number value ty) bytes spells = number-class bytes spells.0
Scans-class (Character value) bytes spells = ap class_of (eqb-true (get_or bytes 0 0) 39 (some_if _ _ value spells))
Scans-class (Text values) bytes spells = ap class_of (eqb-true (get_or bytes 0 0) 34 (some_list_if _ _ values spells))
Scans-class (Keyword number) bytes spells = eqb-true _ 0 (and_parts _ _ (keyword-passes bytes number spells)).0
Scans-class (Punct number) bytes spells = eqb-true _ 5 (and_parts _ _ (and_parts _ _ (punctuator-passes bytes number spells)).0).0

-- so it has the class of the first byte of the text that the bytes are a front of
pub front-class : (rest : List ℕ) (bytes class : ℕ) (kind : Lexeme) → class_of (get_or rest 0 0) ≡ class → 0 < bytes
    → Scans kind (take bytes rest) → lexeme_class kind ≡ class
front-class rest bytes class kind begins some spells =
    sym (Scans-class kind (take bytes rest) spells) ∙ ap class_of (get_or-take bytes rest 0 0 some) ∙ begins

-- what a token of each class says of its bytes
pub word-bytes : (kind : Lexeme) (bytes : List ℕ) → lexeme_class kind ≡ 0 → Scans kind bytes → list_all is_word bytes ≡ true
unfolding Scans
word-bytes Include bytes class spells = absurd (omega arith)
word-bytes (Name name) bytes class spells = identifier-all bytes spells.0
word-bytes (Number value ty) bytes class spells = absurd (omega arith)
word-bytes (Character value) bytes class spells = absurd (omega arith)
word-bytes (Text values) bytes class spells = absurd (omega arith)
word-bytes (Keyword number) bytes class spells = (and_parts _ _ (keyword-passes bytes number spells)).1
word-bytes (Punct number) bytes class spells = absurd (omega arith)

pub number-bytes : (kind : Lexeme) (bytes : List ℕ) → lexeme_class kind ≡ 1 → Scans kind bytes → list_all is_numeral_byte bytes ≡ true
unfolding Scans
number-bytes Include bytes class spells = absurd (omega arith)
number-bytes (Name name) bytes class spells = absurd (omega arith)
number-bytes (Number value ty) bytes class spells = number-all bytes spells.0
number-bytes (Character value) bytes class spells = absurd (omega arith)
number-bytes (Text values) bytes class spells = absurd (omega arith)
number-bytes (Keyword number) bytes class spells = absurd (omega arith)
number-bytes (Punct number) bytes class spells = absurd (omega arith)

pub character-bytes : (kind : Lexeme) (bytes : List ℕ) → lexeme_class kind ≡ 2 → Scans kind bytes → character_of bytes ≡ None → ⊥
unfolding Scans
character-bytes Include bytes class spells none = omega arith
character-bytes (Name name) bytes class spells none = omega arith
character-bytes (Number value ty) bytes class spells none = omega arith
character-bytes (Character value) bytes class spells none = cc
character-bytes (Text values) bytes class spells none = omega arith
character-bytes (Keyword number) bytes class spells none = omega arith
character-bytes (Punct number) bytes class spells none = omega arith

pub text-bytes : (kind : Lexeme) (bytes : List ℕ) → lexeme_class kind ≡ 3 → Scans kind bytes → text_of bytes ≡ None → ⊥
unfolding Scans
text-bytes Include bytes class spells none = omega arith
text-bytes (Name name) bytes class spells none = omega arith
text-bytes (Number value ty) bytes class spells none = omega arith
text-bytes (Character value) bytes class spells none = omega arith
text-bytes (Text values) bytes class spells none = cc
text-bytes (Keyword number) bytes class spells none = omega arith
text-bytes (Punct number) bytes class spells none = omega arith

pub include-bytes : (kind : Lexeme) (bytes : List ℕ) → lexeme_class kind ≡ 4 → Scans kind bytes → is_include bytes ≡ true
unfolding Scans
include-bytes Include bytes class spells = spells
include-bytes (Name name) bytes class spells = absurd (omega arith)
include-bytes (Number value ty) bytes class spells = absurd (omega arith)
include-bytes (Character value) bytes class spells = absurd (omega arith)
include-bytes (Text values) bytes class spells = absurd (omega arith)
include-bytes (Keyword number) bytes class spells = absurd (omega arith)
include-bytes (Punct number) bytes class spells = absurd (omega arith)

pub punctuator-bytes : (kind : Lexeme) (bytes : List ℕ) → lexeme_class kind ≡ 5 → Scans kind bytes
    → (punctuator_of bytes ≡ None → ⊥) × (length bytes ≤ 3)
unfolding Scans
punctuator-bytes Include bytes class spells = absurd (omega arith)
punctuator-bytes (Name name) bytes class spells = absurd (omega arith)
punctuator-bytes (Number value ty) bytes class spells = absurd (omega arith)
punctuator-bytes (Character value) bytes class spells = absurd (omega arith)
punctuator-bytes (Text values) bytes class spells = absurd (omega arith)
punctuator-bytes (Keyword number) bytes class spells = absurd (omega arith)
punctuator-bytes (Punct number) bytes class spells = ((λ none. cc), punctuator-short bytes number spells)

-- a byte of white space begins no other class
pub white-class : (b : ℕ) → is_white b ≡ true → class_of b ≡ 5
white-class b white =
    ⊎_elim (λ space. subst (λ c. class_of c ≡ 5) (sym (eqb-true b 32 space)) refl)
    (λ control.
    let parts = and_parts (leb 9 b) (leb b 13) control in
    let low : b ≤ 13 = leb-true b 13 parts.1 in
    rw (
      lt-leb 65 b (omega arith),
      lt-leb 97 b (omega arith),
      lt-leb 48 b (omega arith),
      ne_eqb b 95 (λ e. omega arith),
      ne_eqb b 39 (λ e. omega arith),
      ne_eqb b 34 (λ e. omega arith),
      ne_eqb b 35 (λ e. omega arith),
    ) refl)
    (or_cases (eqb b 32) (leb 9 b && leb b 13) white)

punctuator-not_white : (kind : Lexeme) (bytes : List ℕ) → lexeme_class kind ≡ 5 → Scans kind bytes → is_white (get_or bytes 0 0) ≡ true → ⊥
unfolding Scans
punctuator-not_white Include bytes class spells white = omega arith
punctuator-not_white (Name name) bytes class spells white = omega arith
punctuator-not_white (Number value ty) bytes class spells white = omega arith
punctuator-not_white (Character value) bytes class spells white = omega arith
punctuator-not_white (Text values) bytes class spells white = omega arith
punctuator-not_white (Keyword number) bytes class spells white = omega arith
punctuator-not_white (Punct number) bytes class spells white =
    both_ways (is_white (get_or bytes 0 0)) (not_true_false (is_white (get_or bytes 0 0))
    (and_parts _ _ (and_parts _ _ (punctuator-passes bytes number spells)).0).1) white
  where
    not_true_false : (b : Bool) → not b ≡ true → b ≡ false
    not_true_false true h = cc
    not_true_false false h = refl

-- no token begins with white space
pub front-not_white : (rest : List ℕ) (bytes : ℕ) (kind : Lexeme) → 0 < bytes → Scans kind (take bytes rest)
    → is_white (get_or rest 0 0) ≡ true → ⊥
front-not_white rest bytes kind some spells white =
    punctuator-not_white kind (take bytes rest) (front-class rest bytes 5 kind (white-class (get_or rest 0 0) white) some spells) spells
    (ap is_white (get_or-take bytes rest 0 0 some) ∙ white)
