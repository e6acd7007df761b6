-- An integer constant in the standard's words is a number that the scanner finds, and the other way.
use Rattle.std.proofs.Common.{◌≡◌, ℕ, zero, suc, ◌+◌, ◌<◌, ◌≤◌, List, [], ◌∷◌, ◌++◌, length, take, drop, get_or, Bool, true, false, cond}
use Rattle.std.proofs.Common.{◌||◌, eqb, ltb, Some, refl, ap, subst, sym, ◌∙◌, arith, length-drop, drop-drop, ◌⊎◌, inl, inr}
use Rattle.std.proofs.Common.{⊎_elim}
use Rattle.std.specs.List.{prefix_len, list_all, list_any}
use Rattle.std.proofs.lemmas.Bool.{and_from, and_parts, or_cases, eqb-true, eqb-false, eq-eqb, ne_eqb, lt-ltb, ltb-true}
use Rattle.std.proofs.lemmas.List.{take-append-drop, length-append}
use Rattle.std.proofs.Math.Seq.{drop-append_seam, take-append_seam}
use Rattle.c_ast.specs.declared.int_type.IntType.{IntType}
use Rattle.c_lex.specs.Digits.{is_digit_of, are_digits, number_of}
use Rattle.c_lex.specs.ConstantTypes.{listed_types, first_type}
use Rattle.c_lex.specs.Constant.{Based, decimal, octal, hexadecimal, is_unsigned_mark, is_long_mark, IsInteger, IsConstant}
use Rattle.c_lex.specs.Scan.Numeral.{radix_of, prefix_bytes, suffix_bytes, digit_count, digits_end, fitting_bytes}
use Rattle.c_lex.specs.Scan.Numeral.{is_numeral, numeral_value, numeral_type}
use Rattle.c_lex.specs.Laws.Slices.{list_all-front}
use Rattle.c_lex.specs.Laws.Suffixes.{IsSuffix, suffix-found, found-suffix}

-- ---- from what the scanner finds

-- digits of this radix at least one of which stands behind its prefix are based on it
abbrev Fits : ℕ → List ℕ → Type 0
Fits radix bytes =
    0 < prefix_len (is_digit_of radix) (drop (prefix_bytes radix) bytes) →
    Based radix (take (prefix_bytes radix) bytes)
    (take (prefix_len (is_digit_of radix) (drop (prefix_bytes radix) bytes)) (drop (prefix_bytes radix) bytes))

decimal_fits : (bytes : List ℕ) → eqb (get_or bytes 0 0) 48 ≡ false → Fits 10 bytes
decimal_fits [] other some = absurd (omega (arith, some))
decimal_fits (b ∷ rest) other some = front (prefix_len (is_digit_of 10) (b ∷ rest)) (list_all-front (is_digit_of 10) (b ∷ rest)) some
  where
    front : (n : ℕ) → list_all (is_digit_of 10) (take n (b ∷ rest)) ≡ true → 0 < n → Based 10 [] (take n (b ∷ rest))
    front zero all some = absurd (omega (arith, some))
    front (suc n) all some = decimal (eqb-false b 48 other) all

octal_fits : (bytes : List ℕ) → eqb (get_or bytes 0 0) 48 ≡ true → Fits 8 bytes
octal_fits [] first some = absurd (omega (arith, some))
octal_fits (b ∷ rest) first some = front (prefix_len (is_digit_of 8) (b ∷ rest)) (list_all-front (is_digit_of 8) (b ∷ rest)) some
  where
    front : (n : ℕ) → list_all (is_digit_of 8) (take n (b ∷ rest)) ≡ true → 0 < n → Based 8 [] (take n (b ∷ rest))
    front zero all some = absurd (omega (arith, some))
    front (suc n) all some =
        let is : b ≡ 48 = eqb-true b 48 first in
        subst (λ c. Based 8 [] (c ∷ take n rest)) (sym is) (octal (subst (λ c. list_all (is_digit_of 8) (c ∷ take n rest) ≡ true) is all))

hexadecimal_fits : (bytes : List ℕ) → eqb (get_or bytes 0 0) 48 ≡ true → (eqb (get_or bytes 1 0) 120 || eqb (get_or bytes 1 0) 88) ≡ true →
    Fits 16 bytes
hexadecimal_fits [] first second some = absurd (omega (arith, some))
hexadecimal_fits (b ∷ []) first second some = absurd (omega (arith, some))
hexadecimal_fits (b ∷ x ∷ []) first second some = absurd (omega (arith, some))
hexadecimal_fits (b ∷ x ∷ c ∷ more) first second some =
    front (prefix_len (is_digit_of 16) (c ∷ more)) (list_all-front (is_digit_of 16) (c ∷ more)) some
  where
    letter : (x ≡ 120) ⊎ (x ≡ 88)
    letter = ⊎_elim (λ e. inl (eqb-true x 120 e)) (λ e. inr (eqb-true x 88 e)) (or_cases (eqb x 120) (eqb x 88) second)

    front : (n : ℕ) → list_all (is_digit_of 16) (take n (c ∷ more)) ≡ true → 0 < n → Based 16 (b ∷ x ∷ []) (take n (c ∷ more))
    front zero all some = absurd (omega (arith, some))
    front (suc n) all some = subst (λ z. Based 16 (z ∷ x ∷ []) (c ∷ take n more)) (sym (eqb-true b 48 first)) (hexadecimal letter all)

numeral_fits : (bytes : List ℕ) → Fits (radix_of bytes) bytes
numeral_fits bytes = by_front (eqb (get_or bytes 0 0) 48) (eqb (get_or bytes 1 0) 120 || eqb (get_or bytes 1 0) 88) refl refl
  where
    by_front : (z x : Bool) → eqb (get_or bytes 0 0) 48 ≡ z → (eqb (get_or bytes 1 0) 120 || eqb (get_or bytes 1 0) 88) ≡ x →
        Fits (cond z (cond x 16 8) 10) bytes
    by_front true true first second = hexadecimal_fits bytes first second
    by_front true false first second = octal_fits bytes first
    by_front false x first second = decimal_fits bytes first

-- the suffix behind the digits of a numeral is all that is left
suffix_whole : (bytes : List ℕ) → 0 < digit_count bytes → eqb (fitting_bytes bytes) (length bytes) ≡ true →
    suffix_bytes (drop (digits_end bytes) bytes) ≡ length (drop (digits_end bytes) bytes)
suffix_whole bytes some fits =
    let fitting : fitting_bytes bytes ≡ length bytes = eqb-true (fitting_bytes bytes) (length bytes) fits in
    let sum : digits_end bytes + suffix_bytes (drop (digits_end bytes) bytes) ≡ length bytes =
    rw (ne_eqb (digit_count bytes) 0 (λ none. omega (arith, some, none))) at fitting in
    omega (arith, sum, length-drop (digits_end bytes) bytes)

-- what the scanner finds to be a number is written as an integer constant
pub numeral-integer : (bytes : List ℕ) → is_numeral bytes ≡ true → IsInteger bytes
numeral-integer bytes numeral =
    let tests = and_parts (ltb 0 (digit_count bytes)) (eqb (fitting_bytes bytes) (length bytes)) numeral in
    let some : 0 < digit_count bytes = ltb-true 0 (digit_count bytes) tests.0 in
    let prefix = prefix_bytes (radix_of bytes) in
    let behind = drop (prefix_bytes (radix_of bytes)) bytes in
    let suffix = drop (digits_end bytes) bytes in
    record {
      radix = radix_of bytes;
      prefix = take (prefix_bytes (radix_of bytes)) bytes;
      digits = take (digit_count bytes) (drop (prefix_bytes (radix_of bytes)) bytes);
      suffix = drop (digits_end bytes) bytes;
      unsigned = list_any is_unsigned_mark (drop (digits_end bytes) bytes);
      long = list_any is_long_mark (drop (digits_end bytes) bytes);
      parts =
          sym (ap (λ l. take prefix bytes ++ (take (digit_count bytes) behind ++ l)) (sym (drop-drop (digit_count bytes) prefix bytes))
          ∙ ap (λ l. take prefix bytes ++ l) (take-append-drop (digit_count bytes) behind) ∙ take-append-drop prefix bytes);
      based = numeral_fits bytes some;
      marked = found-suffix suffix (suffix_whole bytes some tests.1);
    }

-- and one of its value and type
pub numeral-constant : (value : ℕ) (ty : IntType) (bytes : List ℕ) → is_numeral bytes ≡ true → value ≡ numeral_value bytes →
    numeral_type bytes ≡ Some ty → IsConstant value ty bytes
unfolding numeral-integer
numeral-constant value ty bytes numeral value_is typed =
    let suffix = drop (digits_end bytes) bytes in
    record {
      written = numeral-integer bytes numeral;
      valued = value_is;
      typed =
          ap (λ v. first_type v (listed_types (eqb (radix_of bytes) 10) (list_any is_unsigned_mark suffix) (list_any is_long_mark suffix)))
          value_is ∙ typed;
    }

-- ---- to what the scanner finds

-- what passes is counted
counted : (p : ℕ → Bool) (xs ys : List ℕ) → list_all p xs ≡ true → prefix_len p (xs ++ ys) ≡ length xs + prefix_len p ys
counted p [] ys all = omega arith
counted p (x ∷ xs) ys all =
    let parts = and_parts (p x) (list_all p xs) all in
    rw parts.0 (omega (arith, counted p xs ys parts.1))

-- what the front of the bytes says of the prefix and the digits
record IsFront (radix : ℕ) (prefix digits suffix : List ℕ) : Type 0 where
  radix_is : radix_of (prefix ++ (digits ++ suffix)) ≡ radix
  prefix_is : prefix_bytes radix ≡ length prefix
  all : are_digits radix digits ≡ true
  some : 1 ≤ length digits
  stops : prefix_len (is_digit_of radix) suffix ≡ 0

-- a digit of 8 is no `x`, and neither is the first byte of a suffix
no_x : (more suffix : List ℕ) → are_digits 8 more ≡ true → (eqb (get_or suffix 0 0) 120 || eqb (get_or suffix 0 0) 88) ≡ false →
    (eqb (get_or (more ++ suffix) 0 0) 120 || eqb (get_or (more ++ suffix) 0 0) 88) ≡ false
no_x [] suffix all other = other
no_x (b ∷ more) suffix all other = by_test (eqb b 120 || eqb b 88) refl
  where
    digit : is_digit_of 8 b ≡ true
    digit = (and_parts (is_digit_of 8 b) (are_digits 8 more) all).0

    refused : (b : ℕ) → is_digit_of 8 b ≡ true → (b ≡ 120) ⊎ (b ≡ 88) → ⊥
    refused b digit (inl is) = none (subst (λ c. is_digit_of 8 c ≡ true) is digit)
      where
        none : is_digit_of 8 120 ≡ true → ⊥
        none h = cc
    refused b digit (inr is) = none (subst (λ c. is_digit_of 8 c ≡ true) is digit)
      where
        none : is_digit_of 8 88 ≡ true → ⊥
        none h = cc

    by_test : (t : Bool) → (eqb b 120 || eqb b 88) ≡ t → t ≡ false
    by_test true is =
        absurd (refused b digit (⊎_elim (λ e. inl (eqb-true b 120 e)) (λ e. inr (eqb-true b 88 e)) (or_cases (eqb b 120) (eqb b 88) is)))
    by_test false is = refl

front : {radix : ℕ} {prefix digits suffix : List ℕ} {is_unsigned is_long : Bool} → Based radix prefix digits
    → IsSuffix is_unsigned is_long suffix →
    IsFront radix prefix digits suffix
front {suffix = suffix} (decimal {first = first} {more = more} other all) marks = record {
  radix_is = rw (ne_eqb first 48 other) refl;
  prefix_is = refl;
  all = all;
  some = omega arith;
  stops = marks.no_decimal;
}
front {suffix = suffix} (octal {more = more} all) marks = record {
  radix_is = rw (no_x more suffix (and_parts true (are_digits 8 more) all).1 marks.no_x) refl;
  prefix_is = refl;
  all = all;
  some = omega arith;
  stops = marks.no_octal;
}
front {suffix = suffix} (hexadecimal {x = x} {first = first} {more = more} letter all) marks = record {
  radix_is = ⊎_elim (λ e. rw e refl) (λ e. rw e refl) letter;
  prefix_is = refl;
  all = all;
  some = omega arith;
  stops = marks.no_hexadecimal;
}

-- what the scanner finds of a number with these parts
record IsNumeral (radix : ℕ) (prefix digits suffix bytes : List ℕ) : Type 0 where
  radix_found : radix_of bytes ≡ radix
  behind_found : drop (prefix_bytes (radix_of bytes)) bytes ≡ digits ++ suffix
  count_found : digit_count bytes ≡ length digits
  digits_found : take (digit_count bytes) (drop (prefix_bytes (radix_of bytes)) bytes) ≡ digits
  suffix_found : drop (digits_end bytes) bytes ≡ suffix

numeral_of : (radix : ℕ) (prefix digits suffix bytes : List ℕ) → bytes ≡ prefix ++ (digits ++ suffix) → IsFront radix prefix digits suffix →
    IsNumeral radix prefix digits suffix bytes
numeral_of radix prefix digits suffix bytes parts at =
    let base : radix_of bytes ≡ radix = ap radix_of parts ∙ at.radix_is in
    let size : prefix_bytes (radix_of bytes) ≡ length prefix = ap prefix_bytes base ∙ at.prefix_is in
    let behind : drop (prefix_bytes (radix_of bytes)) bytes ≡ digits ++ suffix =
    ap (λ n. drop n bytes) size ∙ ap (drop (length prefix)) parts ∙ drop-append_seam prefix (digits ++ suffix) in
    let count : digit_count bytes ≡ length digits =
    ap (λ r. prefix_len (is_digit_of r) (drop (prefix_bytes (radix_of bytes)) bytes)) base ∙ ap (prefix_len (is_digit_of radix)) behind
    ∙ omega (arith, counted (is_digit_of radix) digits suffix at.all, at.stops) in
    record {
      radix_found = base;
      behind_found = behind;
      count_found = count;
      digits_found = ap (λ n. take n (drop (prefix_bytes (radix_of bytes)) bytes)) count ∙ ap (take (length digits)) behind
          ∙ take-append_seam digits suffix;
      suffix_found = sym (drop-drop (digit_count bytes) (prefix_bytes (radix_of bytes)) bytes)
          ∙ ap (λ n. drop n (drop (prefix_bytes (radix_of bytes)) bytes)) count ∙ ap (drop (length digits)) behind
          ∙ drop-append_seam digits suffix;
    }

-- the number that is written, and the list of its types
record IsFound (bytes : List ℕ) (i : IsInteger bytes) : Type 0 where
  numeral : is_numeral bytes ≡ true
  value_found : number_of i.radix i.digits ≡ numeral_value bytes
  types_found : listed_types (eqb (radix_of bytes) 10) (list_any is_unsigned_mark (drop (digits_end bytes) bytes))
      (list_any is_long_mark (drop (digits_end bytes) bytes)) ≡ listed_types (eqb i.radix 10) i.unsigned i.long

found : (bytes : List ℕ) (i : IsInteger bytes) → IsFound bytes i
found bytes i =
    let marks = suffix-found i.marked in
    let at = front i.based marks in
    let is = numeral_of i.radix i.prefix i.digits i.suffix bytes i.parts at in
    let some : digit_count bytes ≡ 0 → ⊥ = λ none. omega (arith, none, is.count_found, at.some) in
    let size : prefix_bytes (radix_of bytes) ≡ length i.prefix = ap prefix_bytes is.radix_found ∙ at.prefix_is in
    let whole : length bytes ≡ length i.prefix + (length i.digits + length i.suffix) =
    ap length i.parts ∙ length-append i.prefix (i.digits ++ i.suffix) ∙ ap (λ n. length i.prefix + n) (length-append i.digits i.suffix) in
    let marked : suffix_bytes (drop (digits_end bytes) bytes) ≡ length i.suffix = ap suffix_bytes is.suffix_found ∙ marks.whole in
    let fitting : digits_end bytes + suffix_bytes (drop (digits_end bytes) bytes) ≡ length bytes =
    omega (arith, size, is.count_found, marked, whole) in
    let fits : fitting_bytes bytes ≡ length bytes = rw (ne_eqb (digit_count bytes) 0 some) fitting in
    record {
      numeral = and_from _ _ (lt-ltb 0 (digit_count bytes) (omega (arith, some))) (eq-eqb _ _ fits);
      value_found = ap (λ r. number_of r i.digits) (sym is.radix_found) ∙ ap (number_of (radix_of bytes)) (sym is.digits_found);
      types_found =
          ap (λ r. listed_types (eqb r 10) (list_any is_unsigned_mark (drop (digits_end bytes) bytes))
          (list_any is_long_mark (drop (digits_end bytes) bytes))) is.radix_found
          ∙ ap (λ l. listed_types (eqb i.radix 10) (list_any is_unsigned_mark l) (list_any is_long_mark l)) is.suffix_found
          ∙ ap (λ u. listed_types (eqb i.radix 10) u (list_any is_long_mark i.suffix)) marks.unsigned_mark
          ∙ ap (λ l. listed_types (eqb i.radix 10) i.unsigned l) marks.long_mark;
    }

-- what is written as an integer constant is what the scanner finds to be a number
pub integer-numeral : (bytes : List ℕ) → IsInteger bytes → is_numeral bytes ≡ true
integer-numeral bytes i = (found bytes i).numeral

-- and a constant has the value and type that it finds
pub constant-numeral : (value : ℕ) (ty : IntType) (bytes : List ℕ) → IsConstant value ty bytes →
    (is_numeral bytes ≡ true) × (value ≡ numeral_value bytes) × (numeral_type bytes ≡ Some ty)
constant-numeral value ty bytes c =
    let is = found bytes c.written in
    let value_is : value ≡ numeral_value bytes = c.valued ∙ is.value_found in (
      is.numeral,
      value_is,
      ap (first_type (numeral_value bytes)) is.types_found
          ∙ ap (λ v. first_type v (listed_types (eqb c.written.radix 10) c.written.unsigned c.written.long)) (sym value_is) ∙ c.typed,
    )

-- the bytes of a constant have one value and one type
pub one-constant : (value other : ℕ) (ty also : IntType) (bytes : List ℕ) → IsConstant value ty bytes → IsConstant other also bytes →
    (value ≡ other) × (ty ≡ also)
one-constant value other ty also bytes c d =
    let found = constant-numeral value ty bytes c in
    let again = constant-numeral other also bytes d in
    let types : Some ty ≡ Some also = sym found.2 ∙ again.2 in
    (found.1 ∙ sym again.1, cc)
