-- Words, numbers and punctuators are read as they are spelled.
use Rattle.std.proofs.Common.{◌≡◌, ℕ, ◌+◌, ◌<◌, ◌≤◌, List, ◌∷◌, length, take, get_or, Bool, true, false, cond, leb}
use Rattle.std.proofs.Common.{Option, Some, None, refl, ap, ◌∙◌, arith, length-take-le, ⊎_elim}
use Rattle.std.proofs.Math.Numerals.{one-add}
use Rattle.std.specs.List.{prefix_len}
use Rattle.std.specs.Char.{is_ascii_digit}
use Rattle.std.proofs.lemmas.Bool.{and_from, cond_both, le-leb, leb-true, cases_eq, lt-leb, or_from, both_ways}
use Rattle.std.proofs.lemmas.List.{get_or-take}
use Rattle.std.proofs.lemmas.List.Sums.{prefix_len-le-length}
use Rattle.c_ast.specs.declared.int_type.IntType.{IntType}
use Rattle.c_ast.specs.declared.token.Lexeme.TheVariants as lexeme
use Rattle.c_ast.specs.Words.{keyword_of, punctuator_of}
use Rattle.c_lex.specs.declared.fault.Fault.TheVariants.{BadByte}
use Rattle.c_lex.specs.declared.reading.Reading.TheVariants.{Fault}
use Rattle.c_lex.specs.Bytes.{is_letter, is_word, is_numeral_byte}
use Rattle.c_lex.specs.Scan.Numeral.{numeral_at, fitting_bytes, is_numeral, numeral_value, numeral_type}
use Rattle.c_lex.specs.Number.{is_preprocessing_number}
use Rattle.c_lex.specs.Spelling.{is_identifier}
use Rattle.c_lex.specs.Laws.Scanned.{Scans}
use Rattle.c_lex.specs.Scan.Reading.{keyword_or_name, word_at, read_word, typed_number, read_number, punctuator_or, punctuator_at}
use Rattle.c_lex.specs.Scan.Reading.{read_single, read_punctuator}
use Rattle.c_lex.specs.Scan.Words.{is_second_of_punctuator}
use Rattle.c_lex.specs.Laws.Slices.{list_all-front, front-bound}
use Rattle.c_lex.specs.Laws.Classes.{class_of, front-class, word-bytes, number-bytes, punctuator-bytes, punctuator-continues}
use Rattle.c_lex.specs.Laws.Classes.{digit-is_numeral_byte, digit-class}
use Rattle.c_lex.specs.Laws.Fitting.{fitting-bound}
use Rattle.c_lex.specs.Laws.Tells.{IsToken, Tells}

-- ---- words

letter-is_word : (b : ℕ) → is_letter b ≡ true → is_word b ≡ true
letter-is_word b letter = rw letter refl

word_spells : (word : List ℕ) (found : Option ℕ) → keyword_of word ≡ found → is_identifier word ≡ true
    → Scans (keyword_or_name found word) word
unfolding Scans
word_spells word None is identifier = (identifier, is, refl)
word_spells word (Some number) is identifier = is

-- the longest word at the front, by its first byte
front_word : (b : ℕ) (rest : List ℕ) → is_letter b ≡ true → word_at (b ∷ rest) ≡ b ∷ word_at rest
front_word b rest letter = rw (letter-is_word b letter, one-add) refl

pub word-tells : (b : ℕ) (rest : List ℕ) → is_letter b ≡ true → Tells (b ∷ rest) (read_word (b ∷ rest))
unfolding read_word
word-tells b rest letter =
    let word = word_at (b ∷ rest) in
    let count : prefix_len is_word (b ∷ rest) ≡ 1 + prefix_len is_word rest = rw (letter-is_word b letter) refl in
    let identifier : is_identifier word ≡ true = rw (front_word b rest letter)
    (and_from (is_letter b) _ letter (list_all-front is_word rest)) in
    let class : class_of b ≡ 0 = rw letter refl in
    record {
      some = omega (arith, count);
      within = prefix_len-le-length is_word (b ∷ rest);
      spells = word_spells word (keyword_of word) refl identifier;
      longest = λ more other longer within spells.
          let all = word-bytes other (take more (b ∷ rest)) (front-class (b ∷ rest) more 0 other class (omega arith) spells) spells in
          omega (arith, front-bound is_word more (b ∷ rest) all within);
    }

-- ---- numbers

numeral-length : (rest : List ℕ) → length (numeral_at rest) ≡ prefix_len is_numeral_byte rest
numeral-length rest = length-take-le (prefix_len is_numeral_byte rest) rest (prefix_len-le-length is_numeral_byte rest)

front_numeral : (b : ℕ) (rest : List ℕ) → is_ascii_digit b ≡ true → numeral_at (b ∷ rest) ≡ b ∷ numeral_at rest
front_numeral b rest digit = rw (digit-is_numeral_byte b digit, one-add) refl

number_token : (b : ℕ) (rest : List ℕ) → is_ascii_digit b ≡ true → (ty : IntType) → is_numeral (numeral_at (b ∷ rest)) ≡ true
    → numeral_type (numeral_at (b ∷ rest)) ≡ Some ty →
    IsToken (b ∷ rest) (lexeme.Number (numeral_value (numeral_at (b ∷ rest))) ty) (prefix_len is_numeral_byte (b ∷ rest))
unfolding Scans
number_token b rest digit ty numeral typed =
    let count : prefix_len is_numeral_byte (b ∷ rest) ≡ 1 + prefix_len is_numeral_byte rest = rw (digit-is_numeral_byte b digit) refl in
    let all : is_preprocessing_number (numeral_at (b ∷ rest))
    ≡ true = rw (front_numeral b rest digit) (and_from (is_ascii_digit b) _ digit (list_all-front is_numeral_byte rest)) in
    record {
      some = omega (arith, count);
      within = prefix_len-le-length is_numeral_byte (b ∷ rest);
      spells = (all, numeral, refl, typed);
      longest = λ more other longer within spells.
          let bytes = number-bytes other (take more (b ∷ rest))
          (front-class (b ∷ rest) more 1 other (digit-class b digit) (omega arith) spells) spells in
          omega (arith, front-bound is_numeral_byte more (b ∷ rest) bytes within);
    }

typed_tells : (b : ℕ) (rest : List ℕ) → is_ascii_digit b ≡ true → (found : Option IntType) → is_numeral (numeral_at (b ∷ rest)) ≡ true
    → numeral_type (numeral_at (b ∷ rest)) ≡ found →
    Tells (b ∷ rest) (typed_number (numeral_value (numeral_at (b ∷ rest))) found (length (numeral_at (b ∷ rest))))
typed_tells b rest digit None numeral typed = omega arith
typed_tells b rest digit (Some ty) numeral typed = rw (numeral-length (b ∷ rest)) (number_token b rest digit ty numeral typed)

pub number-tells : (b : ℕ) (rest : List ℕ) → is_ascii_digit b ≡ true → Tells (b ∷ rest) (read_number (b ∷ rest))
unfolding read_number
number-tells b rest digit =
    let bytes = numeral_at (b ∷ rest) in
    cond_both (is_numeral bytes) (typed_number (numeral_value bytes) (numeral_type bytes) (length bytes))
    (Fault BadByte (fitting_bytes bytes)) (Tells (b ∷ rest))
    (λ numeral. typed_tells b rest digit (numeral_type bytes) numeral refl)
    (λ _. omega (arith, fitting-bound bytes, numeral-length (b ∷ rest), prefix_len-le-length is_numeral_byte (b ∷ rest)))

-- ---- punctuators

-- the bytes are there and spell the punctuator
at_spells : (bytes number : ℕ) (rest : List ℕ) → punctuator_at bytes rest ≡ Some number
    → (bytes ≤ length rest) × (punctuator_of (take bytes rest) ≡ Some number)
at_spells bytes number rest found = at_some (leb bytes (length rest)) _ number refl found
  where
    at_some : (b : Bool) (x : Option ℕ) (n : ℕ) → leb bytes (length rest) ≡ b → cond b x None ≡ Some n
        → (bytes ≤ length rest) × (x ≡ Some n)
    at_some true x n is h = (leb-true bytes (length rest) is, h)
    at_some false x n is h = cc

-- there is no punctuator of so many bytes
pub at_none : (bytes : ℕ) (rest : List ℕ) → punctuator_at bytes rest ≡ None → bytes ≤ length rest → punctuator_of (take bytes rest) ≡ None
at_none bytes rest none within = rw (le-leb bytes (length rest) within) at none

-- a byte that stands second in no punctuator leaves one of one byte at most
none_longer : (bytes : ℕ) (rest : List ℕ) → 1 < bytes → is_second_of_punctuator (get_or rest 1 0) ≡ false → (found : Option ℕ)
    → punctuator_at bytes rest ≡ found → found ≡ None
none_longer bytes rest several other None is = refl
none_longer bytes rest several other (Some number) is =
    let at = at_spells bytes number rest is in
    let count : length (take bytes rest) ≡ bytes = length-take-le bytes rest at.0 in
    let long : leb (length (take bytes rest)) 1 ≡ false = lt-leb (length (take bytes rest)) 1 (omega arith) in
    let second : is_second_of_punctuator (get_or (take bytes rest) 1 0)
    ≡ false = ap is_second_of_punctuator (get_or-take bytes rest 1 0 several) ∙ other in
    absurd (both_ways _ (or_from _ _ long second) (punctuator-continues (take bytes rest) number at.1))

pub single-only : (rest : List ℕ) → is_second_of_punctuator (get_or rest 1 0) ≡ false → read_punctuator rest ≡ read_single rest
unfolding read_punctuator
single-only rest other =
    rw (
      none_longer 3 rest (omega arith) other (punctuator_at 3 rest) refl,
      none_longer 2 rest (omega arith) other (punctuator_at 2 rest) refl,
    ) refl

module _ (rest : List ℕ) (class : class_of (get_or rest 0 0) ≡ 5) where
  punctuator_token : (bytes number : ℕ) → 0 < bytes → punctuator_at bytes rest ≡ Some number
      → ((more : ℕ) → bytes < more → more ≤ 3 → punctuator_at more rest ≡ None) → IsToken rest (lexeme.Punct number) bytes
  unfolding Scans
  punctuator_token bytes number some found none =
      let at = at_spells bytes number rest found in
      record {
        some = some;
        within = at.0;
        spells = at.1;
        longest = λ more other longer within spells.
            let short = punctuator-bytes other (take more rest) (front-class rest more 5 other class (omega arith) spells) spells in
            let few : more ≤ 3 = omega (arith, short.1, length-take-le more rest within) in
            short.0 (at_none more rest (none more longer few) within);
      }

  pub punctuator-tells : Tells rest (read_punctuator rest)
  unfolding read_punctuator
  punctuator-tells = three (punctuator_at 3 rest) refl
    where
      one : (found : Option ℕ) → punctuator_at 1 rest ≡ found → punctuator_at 3 rest ≡ None → punctuator_at 2 rest ≡ None
          → Tells rest (punctuator_or found 1 (Fault BadByte 0))
      one None is none3 none2 = omega arith
      one (Some number) is none3 none2 = punctuator_token 1 number (omega arith) is (λ more longer few.
          ⊎_elim (λ (two : more ≡ 2). rw two none2) (λ (other : more ≡ 2 → ⊥). let three : more ≡ 3 = omega (arith, other) in
          rw three none3) (cases_eq more 2))

      two : (found : Option ℕ) → punctuator_at 2 rest ≡ found → punctuator_at 3 rest ≡ None
          → Tells rest (punctuator_or found 2 (punctuator_or (punctuator_at 1 rest) 1 (Fault BadByte 0)))
      two None is none3 = one (punctuator_at 1 rest) refl none3 is
      two (Some number) is none3 = punctuator_token 2 number (omega arith) is
          (λ more longer few. let three : more ≡ 3 = omega arith in rw three none3)

      three : (found : Option ℕ) → punctuator_at 3 rest ≡ found
          → Tells rest (punctuator_or found 3 (punctuator_or (punctuator_at 2 rest) 2
          (punctuator_or (punctuator_at 1 rest) 1 (Fault BadByte 0))))
      three None is = two (punctuator_at 2 rest) refl is
      three (Some number) is = punctuator_token 3 number (omega arith) is (λ more longer few. absurd (omega arith))
