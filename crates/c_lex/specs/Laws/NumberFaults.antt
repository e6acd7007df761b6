-- The number at the front of a text as the scanner finds it, and the faults that it finds there, are those of the definitions.
use Rattle.std.proofs.Common.{◌≡◌, ℕ, zero, suc, List, [], ◌∷◌, take, get_or, true, false, Option, Some, None}
use Rattle.std.proofs.Common.{refl, ap, subst, sym, ◌∙◌, arith, ⊎_elim}
use Rattle.std.proofs.Math.Numerals.{one-add}
use Rattle.std.specs.List.{prefix_len, list_all}
use Rattle.std.specs.Char.{is_ascii_digit}
use Rattle.std.proofs.lemmas.Bool.{and_from, and_parts, cases_lt, both_ways, false_from_ne_true}
use Rattle.std.proofs.lemmas.List.Sums.{prefix_len-le-length}
use Rattle.c_ast.specs.declared.int_type.IntType.{IntType}
use Rattle.c_lex.specs.Bytes.{is_numeral_byte}
use Rattle.c_lex.specs.Constant.{IsInteger, IsConstant}
use Rattle.c_lex.specs.Number.{is_preprocessing_number, NumberAt, FitsTo}
use Rattle.c_lex.specs.Scan.Numeral.{numeral_at, fitting_bytes, is_numeral, numeral_value, numeral_type}
use Rattle.c_lex.specs.Laws.Slices.{list_all-front, front-bound}
use Rattle.c_lex.specs.Laws.Classes.{digit-is_numeral_byte, number-all}
use Rattle.c_lex.specs.Laws.Constants.{numeral-integer, integer-numeral, numeral-constant, constant-numeral}
use Rattle.c_lex.specs.Laws.Fitting.{fits-to, one-fit}

-- ---- the number at the front

-- a number begins with a digit
number-digit : (rest : List ℕ) (bytes : ℕ) → is_preprocessing_number (take bytes rest) ≡ true → is_ascii_digit (get_or rest 0 0) ≡ true
number-digit rest zero is = cc
number-digit [] (suc n) is = cc
number-digit (b ∷ rest) (suc n) is = (and_parts (is_ascii_digit b) (list_all is_numeral_byte (take n rest)) is).0

pub at-digit : {rest : List ℕ} {bytes : ℕ} → NumberAt rest bytes → is_ascii_digit (get_or rest 0 0) ≡ true
at-digit {rest = rest} {bytes = bytes} at = number-digit rest bytes at.number

-- where a digit stands, the number goes on over all that may stand in one
pub digit-at : (rest : List ℕ) → is_ascii_digit (get_or rest 0 0) ≡ true → NumberAt rest (prefix_len is_numeral_byte rest)
digit-at [] digit = cc
digit-at (b ∷ rest) digit = record {
  within = prefix_len-le-length is_numeral_byte (b ∷ rest);
  number = rw (digit-is_numeral_byte b digit, one-add) (and_from (is_ascii_digit b) _ digit (list_all-front is_numeral_byte rest));
  longest = λ more longer within is.
      omega (arith, longer, front-bound is_numeral_byte more (b ∷ rest) (number-all (take more (b ∷ rest)) is) within);
}

one-number : (rest : List ℕ) (bytes other : ℕ) → NumberAt rest bytes → NumberAt rest other → bytes ≡ other
one-number rest bytes other f g =
    ⊎_elim (λ less. absurd (f.longest other less g.within g.number))
    (λ most. ⊎_elim (λ more. absurd (g.longest bytes more f.within f.number)) (λ least. omega (arith, most, least)) (cases_lt other bytes))
    (cases_lt bytes other)

-- the number is what the scanner takes
at-numeral : {rest : List ℕ} {bytes : ℕ} → NumberAt rest bytes → take bytes rest ≡ numeral_at rest
at-numeral {rest = rest} {bytes = bytes} at =
    ap (λ n. take n rest) (one-number rest bytes (prefix_len is_numeral_byte rest) at (digit-at rest (at-digit at)))

-- ---- one that is no integer constant

pub no-numeral : {rest : List ℕ} {bytes : ℕ} → NumberAt rest bytes → (IsInteger (take bytes rest) → ⊥) →
    is_numeral (numeral_at rest) ≡ false
no-numeral {rest = rest} at never =
    false_from_ne_true (is_numeral (numeral_at rest))
    (λ numeral. never (subst IsInteger (sym (at-numeral at)) (numeral-integer (numeral_at rest) numeral)))

pub no-integer : (rest : List ℕ) → is_numeral (numeral_at rest) ≡ false → IsInteger (numeral_at rest) → ⊥
no-integer rest unfit i = both_ways _ unfit (integer-numeral (numeral_at rest) i)

pub numeral-fits : (rest : List ℕ) → is_ascii_digit (get_or rest 0 0) ≡ true → FitsTo (numeral_at rest) (fitting_bytes (numeral_at rest))
numeral-fits [] digit = cc
numeral-fits (b ∷ rest) digit =
    let front : numeral_at (b ∷ rest) ≡ b ∷ numeral_at rest = rw (digit-is_numeral_byte b digit, one-add) refl in
    subst (λ l. FitsTo l (fitting_bytes l)) (sym front) (fits-to b (numeral_at rest) digit)

pub fits-numeral : {rest : List ℕ} {bytes place : ℕ} → NumberAt rest bytes → FitsTo (take bytes rest) place →
    fitting_bytes (numeral_at rest) ≡ place
fits-numeral {rest = rest} {place = place} at fits =
    one-fit (numeral_at rest) (fitting_bytes (numeral_at rest)) place (numeral-fits rest (at-digit at))
    (subst (λ l. FitsTo l place) (at-numeral at) fits)

-- ---- one that is too large

pub integer-found : {rest : List ℕ} {bytes : ℕ} → NumberAt rest bytes → IsInteger (take bytes rest) → is_numeral (numeral_at rest) ≡ true
integer-found {rest = rest} at i = integer-numeral (numeral_at rest) (subst IsInteger (at-numeral at) i)

pub no-type : {rest : List ℕ} {bytes : ℕ} → NumberAt rest bytes → IsInteger (take bytes rest) →
    ((value : ℕ) (ty : IntType) → IsConstant value ty (take bytes rest) → ⊥) → numeral_type (numeral_at rest) ≡ None
no-type {rest = rest} {bytes = bytes} at i never = by_type (numeral_type (numeral_at rest)) refl
  where
    by_type : (found : Option IntType) → numeral_type (numeral_at rest) ≡ found → found ≡ None
    by_type None is = refl
    by_type (Some ty) is =
        absurd (never (numeral_value (numeral_at rest)) ty (subst (IsConstant (numeral_value (numeral_at rest)) ty) (sym (at-numeral at))
        (numeral-constant (numeral_value (numeral_at rest)) ty (numeral_at rest) (integer-found at i) refl is)))

pub no-constant : (rest : List ℕ) → numeral_type (numeral_at rest) ≡ None →
    (value : ℕ) (ty : IntType) → IsConstant value ty (numeral_at rest) → ⊥
no-constant rest is value ty c =
    let found = (constant-numeral value ty (numeral_at rest) c).2 in
    let clash : None ≡ Some ty = sym is ∙ found in cc
