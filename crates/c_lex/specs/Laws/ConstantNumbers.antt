-- An integer constant is a preprocessing number: a digit, then letters and digits.
use Rattle.std.proofs.Common.{◌≡◌, ℕ, ◌-◌, ◌<◌, ◌≤◌, List, [], ◌∷◌, ◌++◌, Bool, true, false, cond, leb, ltb, refl, ap, ◌∙◌, arith, ⊎_elim}
use Rattle.std.specs.List.{list_all}
use Rattle.std.specs.Char.{is_ascii_digit, digit_value}
use Rattle.std.proofs.lemmas.Bool.{and_from, and_parts, ne_eqb, lt-leb, le-leb, ltb-true, ltb-false}
use Rattle.std.proofs.lemmas.List.Folds.{list_all-append}
use Rattle.c_ast.specs.declared.int_type.IntType.{IntType}
use Rattle.c_lex.specs.Bytes.{is_numeral_byte}
use Rattle.c_lex.specs.Digits.{is_digit_of, are_digits}
use Rattle.c_lex.specs.Number.{is_preprocessing_number}
use Rattle.c_lex.specs.Constant.{Based, decimal, octal, hexadecimal, IsInteger, IsConstant}
use Rattle.c_lex.specs.Laws.Suffixes.{suffix-found}

-- a digit of any base is a digit or a letter
digit-numeral : (radix b : ℕ) → radix ≤ 16 → is_digit_of radix b ≡ true → is_numeral_byte b ≡ true
digit-numeral radix b small digit =
    by_place (ltb b 48) (ltb b 58) (ltb b 65) (ltb b 91) (ltb b 97) (ltb b 123) refl refl refl refl refl refl
    (ltb-true (digit_value b) radix digit)
  where
    by_place : (p q r s t u : Bool) → ltb b 48 ≡ p → ltb b 58 ≡ q → ltb b 65 ≡ r → ltb b 91 ≡ s → ltb b 97 ≡ t → ltb b 123 ≡ u →
        cond p 36 (cond q (b - 48) (cond r 36 (cond s (b - 55) (cond t 36 (cond u (b - 87) 36))))) < radix → is_numeral_byte b ≡ true
    by_place true q r s t u hp hq hr hs ht hu below = absurd (omega (arith, below, small))
    by_place false true r s t u hp hq hr hs ht hu below =
        let low : 48 ≤ b = ltb-false b 48 hp in
        let high : b < 58 = ltb-true b 58 hq in
        rw (
          lt-leb 65 b (omega arith),
          lt-leb 97 b (omega arith),
          ne_eqb b 95 (λ e. omega arith),
          le-leb 48 b low,
          le-leb b 57 (omega arith),
        ) refl
    by_place false false true s t u hp hq hr hs ht hu below = absurd (omega (arith, below, small))
    by_place false false false true t u hp hq hr hs ht hu below =
        let low : 65 ≤ b = ltb-false b 65 hr in
        let high : b < 91 = ltb-true b 91 hs in
        rw (le-leb 65 b low, le-leb b 90 (omega arith)) refl
    by_place false false false false true u hp hq hr hs ht hu below = absurd (omega (arith, below, small))
    by_place false false false false false true hp hq hr hs ht hu below =
        let low : 97 ≤ b = ltb-false b 97 ht in
        let high : b < 123 = ltb-true b 123 hu in
        rw (le-leb 65 b (omega arith), lt-leb b 90 (omega arith), le-leb 97 b low, le-leb b 122 (omega arith)) refl
    by_place false false false false false false hp hq hr hs ht hu below = absurd (omega (arith, below, small))

digits-numeral : (radix : ℕ) (digits : List ℕ) → radix ≤ 16 → are_digits radix digits ≡ true → list_all is_numeral_byte digits ≡ true
digits-numeral radix [] small all = refl
digits-numeral radix (b ∷ digits) small all =
    let parts = and_parts (is_digit_of radix b) (are_digits radix digits) all in
    and_from (is_numeral_byte b) (list_all is_numeral_byte digits) (digit-numeral radix b small parts.0)
    (digits-numeral radix digits small parts.1)

-- a decimal digit is one of the ten
digit-decimal : (b : ℕ) → is_digit_of 10 b ≡ true → is_ascii_digit b ≡ true
digit-decimal b digit =
    by_place (ltb b 48) (ltb b 58) (ltb b 65) (ltb b 91) (ltb b 97) (ltb b 123) refl refl refl refl refl
    (ltb-true (digit_value b) 10 digit)
  where
    by_place : (p q r s t u : Bool) → ltb b 48 ≡ p → ltb b 58 ≡ q → ltb b 65 ≡ r → ltb b 91 ≡ s → ltb b 97 ≡ t →
        cond p 36 (cond q (b - 48) (cond r 36 (cond s (b - 55) (cond t 36 (cond u (b - 87) 36))))) < 10 → is_ascii_digit b ≡ true
    by_place true q r s t u hp hq hr hs ht below = absurd (omega (arith, below))
    by_place false true r s t u hp hq hr hs ht below =
        let low : 48 ≤ b = ltb-false b 48 hp in
        let high : b < 58 = ltb-true b 58 hq in
        and_from (leb 48 b) (leb b 57) (le-leb 48 b low) (le-leb b 57 (omega arith))
    by_place false false true s t u hp hq hr hs ht below = absurd (omega (arith, below))
    by_place false false false true t u hp hq hr hs ht below =
        let low : 65 ≤ b = ltb-false b 65 hr in
        absurd (omega (arith, below, low))
    by_place false false false false true u hp hq hr hs ht below = absurd (omega (arith, below))
    by_place false false false false false true hp hq hr hs ht below =
        let low : 97 ≤ b = ltb-false b 97 ht in
        absurd (omega (arith, below, low))
    by_place false false false false false false hp hq hr hs ht below = absurd (omega (arith, below))

-- digits and a suffix go on over letters and digits
goes_on : (radix : ℕ) (digits suffix : List ℕ) → radix ≤ 16 → are_digits radix digits ≡ true → list_all is_numeral_byte suffix ≡ true →
    list_all is_numeral_byte (digits ++ suffix) ≡ true
goes_on radix digits suffix small all marks =
    list_all-append is_numeral_byte digits suffix ∙ and_from _ _ (digits-numeral radix digits small all) marks

based-number : {radix : ℕ} {prefix digits : List ℕ} (suffix : List ℕ) → Based radix prefix digits → list_all is_numeral_byte suffix ≡ true →
    is_preprocessing_number (prefix ++ (digits ++ suffix)) ≡ true
based-number suffix (decimal {first = first} {more = more} other all) marks =
    let parts = and_parts (is_digit_of 10 first) (are_digits 10 more) all in
    and_from _ _ (digit-decimal first parts.0) (goes_on 10 more suffix (omega arith) parts.1 marks)
based-number suffix (octal {more = more} all) marks =
    goes_on 8 more suffix (omega arith) (and_parts true (are_digits 8 more) all).1 marks
based-number suffix (hexadecimal {x = x} {first = first} {more = more} letter all) marks =
    and_from (is_numeral_byte x) _ (⊎_elim (λ e. rw e refl) (λ e. rw e refl) letter)
    (goes_on 16 (first ∷ more) suffix (omega arith) all marks)

pub constant-number : (value : ℕ) (ty : IntType) (bytes : List ℕ) → IsConstant value ty bytes → is_preprocessing_number bytes ≡ true
constant-number value ty bytes c = integer-number bytes c.written
  where
    integer-number : (bytes : List ℕ) → IsInteger bytes → is_preprocessing_number bytes ≡ true
    integer-number bytes i = ap is_preprocessing_number i.parts ∙ based-number i.suffix i.based (suffix-found i.marked).numeral
