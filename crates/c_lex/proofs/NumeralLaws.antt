-- Laws of integer constants.
use Rattle.std.proofs.Common.{◌≡◌, ℕ, ◌+◌, ◌<◌, ◌≤◌, ◌^◌, length, take, drop, List, [], ◌∷◌, None, true, eqb, refl, ap, sym, ◌∙◌, arith}
use Rattle.std.proofs.Common.{drop-drop}
use Rattle.std.proofs.Math.Dec.{lit<}
use Rattle.std.specs.List.{prefix_len, list_any}
use Rattle.std.proofs.lemmas.Bool.{lt-leb, lt-ltb, eq-eqb, ne_eqb, and_from}
use Rattle.c_ast.specs.declared.int_type.IntType.{IntType}
use Rattle.c_ast.specs.declared.int_type.IntType.TheVariants.{Char, SignedChar, UnsignedChar, Short, UShort, Int, UInt, Long, ULong}
use Rattle.c_lex.specs.declared.reading.Reading.{Reading}
use Rattle.c_lex.specs.Digits.{is_digit_of}
use Rattle.c_lex.specs.Scan.Digits.{value_of}
use Rattle.c_lex.specs.ConstantTypes.{listed_types, greatest, first_type}
use Rattle.c_lex.specs.Constant.{is_unsigned_mark, is_long_mark}
use Rattle.c_lex.specs.Scan.Numeral.{numeral_at, radix_of, prefix_bytes, suffix_bytes, digit_count, digits_end}
use Rattle.c_lex.specs.Scan.Numeral.{fitting_bytes, is_numeral, numeral_value}
use Rattle.c_lex.specs.Scan.Reading.{typed_number, read_number}
use Rattle.c_lex.specs.Laws.DigitValues.{value_of-number_of}

-- each type's greatest value has at most 64 bits
greatest-below : (ty : IntType) → greatest ty < 2 ^ 64
greatest-below Char = lit< tt
greatest-below SignedChar = lit< tt
greatest-below UnsignedChar = lit< tt
greatest-below Short = lit< tt
greatest-below UShort = lit< tt
greatest-below Int = lit< tt
greatest-below UInt = lit< tt
greatest-below Long = lit< tt
greatest-below ULong = lit< tt

-- no type holds a number of more than 64 bits
pub first_type-none : (value : ℕ) (types : List IntType) → 2 ^ 64 ≤ value → first_type value types ≡ None
first_type-none value [] large = refl
first_type-none value (ty ∷ types) large =
    let too_large : greatest ty < value = omega (arith, greatest-below ty) in
    rw (lt-leb value (greatest ty) too_large) (first_type-none value types large)

-- digits and marks that are all bytes make a numeral
numeral-from_parts : (bytes : List ℕ) → (digit_count bytes ≡ 0 → ⊥)
    → digits_end bytes + suffix_bytes (drop (digits_end bytes) bytes) ≡ length bytes → is_numeral bytes ≡ true
numeral-from_parts bytes some fits =
    let marks = suffix_bytes (drop (digits_end bytes) bytes) in
    let fitting : fitting_bytes bytes ≡ length bytes = rw (ne_eqb (digit_count bytes) 0 some) fits in
    and_from _ _ (lt-ltb 0 (digit_count bytes) (omega (arith, some))) (eq-eqb _ _ fitting)

-- the number at the front by its parts, where they are all its bytes
pub number-from_parts : (text bytes behind suffix : List ℕ) (radix prefix digits marks : ℕ) (types : List IntType) (result : Reading) →
    numeral_at text ≡ bytes → radix ≡ radix_of bytes → prefix ≡ prefix_bytes radix → behind ≡ drop prefix bytes →
    digits ≡ prefix_len (is_digit_of radix) behind → (digits ≡ 0 → ⊥) → suffix ≡ drop digits behind → marks ≡ suffix_bytes suffix →
    prefix + digits + marks ≡ length bytes →
    types ≡ listed_types (eqb radix 10) (list_any is_unsigned_mark suffix) (list_any is_long_mark suffix) →
    result ≡ typed_number (value_of radix (take digits behind)) (first_type (value_of radix (take digits behind)) types) (length bytes) →
    result ≡ read_number text
unfolding read_number
number-from_parts text bytes behind suffix radix prefix digits marks types result bytes_is radix_is prefix_is behind_is digits_is some
    suffix_is marks_is fits types_is result_is =
    let counted : digits ≡ digit_count bytes = rw (digits_is, behind_is, prefix_is, radix_is) refl in
    let ended : prefix + digits ≡ digits_end bytes = rw (counted, prefix_is, radix_is) refl in
    let left : suffix ≡ drop (digits_end bytes) bytes = suffix_is ∙ ap (drop digits) behind_is ∙ drop-drop digits prefix bytes
    ∙ ap (λ n. drop n bytes) ended in
    let written : value_of radix (take digits behind) ≡ numeral_value bytes =
    value_of-number_of radix (take digits behind) ∙ rw (counted, behind_is, prefix_is, radix_is) refl in
    let listed : types ≡ listed_types (eqb (radix_of bytes) 10) (list_any is_unsigned_mark (drop (digits_end bytes) bytes))
    (list_any is_long_mark (drop (digits_end bytes) bytes)) =
    rw (types_is, left, radix_is) refl in
    let numeral : is_numeral bytes ≡ true =
    numeral-from_parts bytes (λ none. some (counted ∙ none))
    (ap (λ n. n + suffix_bytes (drop (digits_end bytes) bytes)) (sym ended)
    ∙ ap (λ n. prefix + digits + n) (sym (marks_is ∙ ap suffix_bytes left)) ∙ fits) in
    result_is ∙ rw (written, listed, bytes_is, numeral) refl
