-- How many bytes of a number fit: as many as some integer constant begins with.
use Rattle.std.proofs.Common.{◌≡◌, ℕ, zero, suc, ◌+◌, ◌-◌, ◌<◌, ◌≤◌, ◌⊎◌, inl, inr, List, [], ◌∷◌, ◌++◌, length, take, drop, get_or, Bool}
use Rattle.std.proofs.Common.{true, false, cond, ◌||◌, eqb, leb, ltb, refl, ap, subst, sym, ◌∙◌, arith, length-take-le, length-drop}
use Rattle.std.proofs.Common.{drop-drop, append-nil, ⊎_elim}
use Rattle.std.proofs.Math.Numerals.{one-add}
use Rattle.std.proofs.Math.Seq.{take-append_seam}
use Rattle.std.specs.List.{prefix_len}
use Rattle.std.specs.Char.{is_ascii_digit}
use Rattle.std.proofs.lemmas.Bool.{and_from, and_parts, cond_both, eqb-true, eq-eqb, ne_eqb, cases_lt, or_cases, le-ltb, lt-ltb, leb-true}
use Rattle.std.proofs.lemmas.List.{length-append}
use Rattle.std.proofs.lemmas.List.Sums.{prefix_len-le-length}
use Rattle.c_lex.specs.Digits.{is_digit_of}
use Rattle.c_lex.specs.Constant.{hexadecimal, none, is_unsigned_mark, is_long_mark, IsInteger}
use Rattle.c_lex.specs.Number.{BeginsInteger, FitsTo}
use Rattle.c_lex.specs.Scan.Numeral.{radix_of, prefix_bytes, suffix_bytes, digit_count, digits_end, fitting_bytes, is_numeral}
use Rattle.c_lex.specs.Laws.Constants.{numeral-integer, integer-numeral}

-- ---- what fits is there

-- the marks of a suffix stand in the bytes
suffix-bound : (bytes : List ℕ) → suffix_bytes bytes ≤ length bytes
suffix-bound [] = omega arith
suffix-bound (a ∷ []) =
    cond_both (is_unsigned_mark a) 1 (cond (is_long_mark a) 1 0) (λ n. n ≤ 1) (λ _. omega arith)
    (λ _. cond_both (is_long_mark a) 1 0 (λ n. n ≤ 1) (λ _. omega arith) (λ _. omega arith))
suffix-bound (a ∷ b ∷ rest) =
    let limit = length (a ∷ b ∷ rest) in
    let small = λ (n : ℕ). n ≤ limit in
    let both = λ (c : Bool). cond_both c 2 1 small (λ _. omega arith) (λ _. omega arith) in
    cond_both (is_unsigned_mark a) (cond (is_long_mark b) 2 1) (cond (is_long_mark a) (cond (is_unsigned_mark b) 2 1) 0) small
    (λ _. both (is_long_mark b))
    (λ _. cond_both (is_long_mark a) (cond (is_unsigned_mark b) 2 1) 0 small (λ _. both (is_unsigned_mark b)) (λ _. omega arith))

-- the prefix stands in the bytes
prefix-bound : (bytes : List ℕ) → prefix_bytes (radix_of bytes) ≤ length bytes
prefix-bound [] = omega arith
prefix-bound (a ∷ []) =
    cond_both (eqb a 48) 8 10 (λ radix. prefix_bytes radix ≤ 1) (λ _. omega arith) (λ _. omega arith)
prefix-bound (a ∷ b ∷ rest) =
    let limit = length (a ∷ b ∷ rest) in
    let small = λ (radix : ℕ). prefix_bytes radix ≤ limit in
    cond_both (eqb a 48) (cond (eqb b 120 || eqb b 88) 16 8) 10 small
    (λ _. cond_both (eqb b 120 || eqb b 88) 16 8 small (λ _. omega arith) (λ _. omega arith)) (λ _. omega arith)

-- what fits stands in the bytes
pub fitting-bound : (bytes : List ℕ) → fitting_bytes bytes ≤ length bytes
fitting-bound bytes =
    let behind = drop (prefix_bytes (radix_of bytes)) bytes in
    let suffix = drop (digits_end bytes) bytes in
    let in_digits : digits_end bytes ≤ length bytes =
    omega (
      arith,
      prefix-bound bytes,
      prefix_len-le-length (is_digit_of (radix_of bytes)) behind,
      length-drop (prefix_bytes (radix_of bytes)) bytes,
    ) in
    cond_both (eqb (digit_count bytes) 0) 0 (suffix_bytes suffix) (λ n. digits_end bytes + n ≤ length bytes)
    (λ _. omega arith) (λ _. omega (arith, suffix-bound suffix, length-drop (digits_end bytes) bytes))

-- ---- a front of bytes fits as far as the bytes do

-- of a front of so many bytes of a whole
record IsFrontOf (n whole front : ℕ) : Type 0 where
  within : n ≤ whole → front ≡ n
  beyond : whole ≤ n → front ≡ whole

front_suffix : (n : ℕ) (bytes : List ℕ) → IsFrontOf n (suffix_bytes bytes) (suffix_bytes (take n bytes))
front_suffix zero bytes = record { within = λ h. refl; beyond = λ h. omega (arith, h) }
front_suffix (suc n) [] = record { within = λ h. absurd (omega (arith, h)); beyond = λ h. refl }
front_suffix (suc zero) (a ∷ rest) =
    one (is_unsigned_mark a) (is_long_mark a) (is_unsigned_mark (get_or rest 0 0)) (is_long_mark (get_or rest 0 0))
  where
    one : (u l v m : Bool) → IsFrontOf 1 (cond u (cond m 2 1) (cond l (cond v 2 1) 0)) (cond u 1 (cond l 1 0))
    one true l v true = record { within = λ h. refl; beyond = λ h. absurd (omega (arith, h)) }
    one true l v false = record { within = λ h. refl; beyond = λ h. refl }
    one false true true m = record { within = λ h. refl; beyond = λ h. absurd (omega (arith, h)) }
    one false true false m = record { within = λ h. refl; beyond = λ h. refl }
    one false false v m = record { within = λ h. absurd (omega (arith, h)); beyond = λ h. refl }
front_suffix (suc (suc n)) (a ∷ []) = one (is_unsigned_mark a) (is_long_mark a)
  where
    one : (u l : Bool) → IsFrontOf (suc (suc n)) (cond u 1 (cond l 1 0)) (cond u 1 (cond l 1 0))
    one true l = record { within = λ h. absurd (omega (arith, h)); beyond = λ h. refl }
    one false true = record { within = λ h. absurd (omega (arith, h)); beyond = λ h. refl }
    one false false = record { within = λ h. absurd (omega (arith, h)); beyond = λ h. refl }
front_suffix (suc (suc n)) (a ∷ b ∷ rest) =
    two (is_unsigned_mark a) (is_long_mark a) (is_unsigned_mark b) (is_long_mark b)
  where
    two : (u l v m : Bool) →
        IsFrontOf (suc (suc n)) (cond u (cond m 2 1) (cond l (cond v 2 1) 0)) (cond u (cond m 2 1) (cond l (cond v 2 1) 0))
    two true l v true = record { within = λ h. omega (arith, h); beyond = λ h. refl }
    two true l v false = record { within = λ h. absurd (omega (arith, h)); beyond = λ h. refl }
    two false true true m = record { within = λ h. omega (arith, h); beyond = λ h. refl }
    two false true false m = record { within = λ h. absurd (omega (arith, h)); beyond = λ h. refl }
    two false false v m = record { within = λ h. absurd (omega (arith, h)); beyond = λ h. refl }

front_more : {n whole front more longer : ℕ} → more ≡ suc whole → longer ≡ suc front → IsFrontOf n whole front →
    IsFrontOf (suc n) more longer
front_more is also f = record {
  within = λ h. omega (arith, also, f.within (omega (arith, h, is)));
  beyond = λ h. omega (arith, is, also, f.beyond (omega (arith, h, is)));
}

same_front : {n whole front other also : ℕ} → other ≡ whole → also ≡ front → IsFrontOf n whole front → IsFrontOf n other also
same_front is as_well f = record {
  within = λ h. omega (arith, as_well, f.within (omega (arith, h, is)));
  beyond = λ h. omega (arith, is, as_well, f.beyond (omega (arith, h, is)));
}

-- digits, and the suffix behind them
abbrev digits_and_suffix : (ℕ → Bool) → List ℕ → ℕ
digits_and_suffix p bytes = prefix_len p bytes + suffix_bytes (drop (prefix_len p bytes) bytes)

digit_more : (p : ℕ → Bool) (b : ℕ) (rest : List ℕ) → p b ≡ true → digits_and_suffix p (b ∷ rest) ≡ suc (digits_and_suffix p rest)
digit_more p b rest is = rw (is, one-add) (omega arith)

digit_none : (p : ℕ → Bool) (b : ℕ) (rest : List ℕ) → p b ≡ false → digits_and_suffix p (b ∷ rest) ≡ suffix_bytes (b ∷ rest)
digit_none p b rest is = rw is (omega arith)

digits_step : (p : ℕ → Bool) (n b : ℕ) (rest : List ℕ) (t : Bool) → p b ≡ t →
    IsFrontOf n (digits_and_suffix p rest) (digits_and_suffix p (take n rest)) →
    IsFrontOf (suc n) (digits_and_suffix p (b ∷ rest)) (digits_and_suffix p (b ∷ take n rest))
digits_step p n b rest true is f = front_more (digit_more p b rest is) (digit_more p b (take n rest) is) f
digits_step p n b rest false is f = same_front (digit_none p b rest is) (digit_none p b (take n rest) is) (front_suffix (suc n) (b ∷ rest))

front_digits : (p : ℕ → Bool) (n : ℕ) (bytes : List ℕ) → IsFrontOf n (digits_and_suffix p bytes) (digits_and_suffix p (take n bytes))
front_digits p zero bytes = record { within = λ h. refl; beyond = λ h. omega (arith, h) }
front_digits p (suc n) [] = record { within = λ h. absurd (omega (arith, h)); beyond = λ h. refl }
front_digits p (suc n) (b ∷ rest) = digits_step p n b rest (p b) refl (front_digits p n rest)

-- the digits, and where there is one, the suffix
abbrev fitting_behind : (ℕ → Bool) → List ℕ → ℕ
fitting_behind p bytes = prefix_len p bytes + cond (eqb (prefix_len p bytes) 0) 0 (suffix_bytes (drop (prefix_len p bytes) bytes))

behind_more : (p : ℕ → Bool) (b : ℕ) (rest : List ℕ) → p b ≡ true → fitting_behind p (b ∷ rest) ≡ suc (digits_and_suffix p rest)
behind_more p b rest is = rw (is, one-add, ne_eqb (suc (prefix_len p rest)) 0 (λ e. omega (arith, e))) (omega arith)

behind_none : (p : ℕ → Bool) (b : ℕ) (rest : List ℕ) → p b ≡ false → fitting_behind p (b ∷ rest) ≡ 0
behind_none p b rest is = rw is refl

behind_zero : (p : ℕ → Bool) (bytes : List ℕ) → prefix_len p bytes ≡ 0 → fitting_behind p bytes ≡ 0
behind_zero p bytes is = rw is refl

front_behind : (p : ℕ → Bool) (n : ℕ) (bytes : List ℕ) → IsFrontOf n (fitting_behind p bytes) (fitting_behind p (take n bytes))
front_behind p zero bytes = record { within = λ h. refl; beyond = λ h. omega (arith, h) }
front_behind p (suc n) [] = record { within = λ h. absurd (omega (arith, h)); beyond = λ h. refl }
front_behind p (suc n) (b ∷ rest) = by_first (p b) refl
  where
    by_first : (t : Bool) → p b ≡ t → IsFrontOf (suc n) (fitting_behind p (b ∷ rest)) (fitting_behind p (b ∷ take n rest))
    by_first true is = front_more (behind_more p b rest is) (behind_more p b (take n rest) is) (front_digits p n rest)
    by_first false is = record {
      within = λ h. absurd (omega (arith, h, behind_none p b rest is));
      beyond = λ h. behind_none p b (take n rest) is ∙ sym (behind_none p b rest is);
    }

-- ---- what fits, by the base

-- what fits behind a prefix of so many bytes
abbrev fitting_from : ℕ → ℕ → List ℕ → ℕ
fitting_from radix prefix bytes =
    prefix + prefix_len (is_digit_of radix) (drop prefix bytes)
    + cond (eqb (prefix_len (is_digit_of radix) (drop prefix bytes)) 0) 0
    (suffix_bytes (drop (prefix + prefix_len (is_digit_of radix) (drop prefix bytes)) bytes))

fits_from : (radix prefix : ℕ) (bytes : List ℕ) → radix_of bytes ≡ radix → prefix_bytes radix ≡ prefix →
    fitting_bytes bytes ≡ prefix + fitting_behind (is_digit_of radix) (drop prefix bytes)
fits_from radix prefix bytes base size =
    let count = prefix_len (is_digit_of radix) (drop prefix bytes) in
    let parts : fitting_bytes bytes ≡ fitting_from radix prefix bytes =
    ap (λ r. fitting_from r (prefix_bytes r) bytes) base ∙ ap (λ n. fitting_from radix n bytes) size in
    omega (arith, parts, ap (λ l. cond (eqb count 0) 0 (suffix_bytes l)) (sym (drop-drop count prefix bytes)))

-- an `x` stands at the front
abbrev begins_x : List ℕ → Bool
begins_x rest = eqb (get_or rest 0 0) 120 || eqb (get_or rest 0 0) 88

base_decimal : (b : ℕ) (rest : List ℕ) → eqb b 48 ≡ false → radix_of (b ∷ rest) ≡ 10
base_decimal b rest other = rw other refl

base_octal : (b : ℕ) (rest : List ℕ) → eqb b 48 ≡ true → begins_x rest ≡ false → radix_of (b ∷ rest) ≡ 8
base_octal b rest begins other = rw (begins, other) refl

base_hexadecimal : (b : ℕ) (rest : List ℕ) → eqb b 48 ≡ true → begins_x rest ≡ true → radix_of (b ∷ rest) ≡ 16
base_hexadecimal b rest begins also = rw (begins, also) refl

no_x_front : (n : ℕ) (rest : List ℕ) → begins_x rest ≡ false → begins_x (take n rest) ≡ false
no_x_front zero rest other = refl
no_x_front (suc n) [] other = refl
no_x_front (suc n) (x ∷ rest) other = other

fits_decimal : (b : ℕ) (rest : List ℕ) → eqb b 48 ≡ false → fitting_bytes (b ∷ rest) ≡ fitting_behind (is_digit_of 10) (b ∷ rest)
fits_decimal b rest other = omega (arith, fits_from 10 0 (b ∷ rest) (base_decimal b rest other) refl)

fits_octal : (b : ℕ) (rest : List ℕ) → eqb b 48 ≡ true → begins_x rest ≡ false →
    fitting_bytes (b ∷ rest) ≡ fitting_behind (is_digit_of 8) (b ∷ rest)
fits_octal b rest begins other = omega (arith, fits_from 8 0 (b ∷ rest) (base_octal b rest begins other) refl)

fits_hexadecimal : (b x : ℕ) (rest : List ℕ) → eqb b 48 ≡ true → begins_x (x ∷ rest) ≡ true →
    fitting_bytes (b ∷ x ∷ rest) ≡ 2 + fitting_behind (is_digit_of 16) rest
fits_hexadecimal b x rest begins also = fits_from 16 2 (b ∷ x ∷ rest) (base_hexadecimal b (x ∷ rest) begins also) refl

-- a front of one byte at least fits as far as the bytes do
front_fits : (n b : ℕ) (rest : List ℕ) → IsFrontOf (suc n) (fitting_bytes (b ∷ rest)) (fitting_bytes (b ∷ take n rest))
front_fits n b rest = by_base (eqb b 48) (begins_x rest) refl refl
  where
    hexadecimals : (n : ℕ) (rest : List ℕ) → eqb b 48 ≡ true → begins_x rest ≡ true →
        IsFrontOf (suc n) (fitting_bytes (b ∷ rest)) (fitting_bytes (b ∷ take n rest))
    hexadecimals n [] begins also = cc
    hexadecimals zero (x ∷ rest) begins also =
        let digit : is_digit_of 8 b ≡ true = ap (is_digit_of 8) (eqb-true b 48 begins) in
        let one : fitting_bytes (b ∷ []) ≡ 1 = fits_octal b [] begins refl ∙ behind_more (is_digit_of 8) b [] digit in
        let whole = fits_hexadecimal b x rest begins also in
        record { within = λ h. one; beyond = λ h. absurd (omega (arith, h, whole)) }
    hexadecimals (suc n) (x ∷ rest) begins also =
        let whole : fitting_bytes (b ∷ x ∷ rest) ≡ suc (suc (fitting_behind (is_digit_of 16) rest)) =
        omega (arith, fits_hexadecimal b x rest begins also) in
        let front : fitting_bytes (b ∷ x ∷ take n rest) ≡ suc (suc (fitting_behind (is_digit_of 16) (take n rest))) =
        omega (arith, fits_hexadecimal b x (take n rest) begins also) in
        front_more whole front (front_more refl refl (front_behind (is_digit_of 16) n rest))

    by_base : (z x : Bool) → eqb b 48 ≡ z → begins_x rest ≡ x →
        IsFrontOf (suc n) (fitting_bytes (b ∷ rest)) (fitting_bytes (b ∷ take n rest))
    by_base false x other also =
        same_front (fits_decimal b rest other) (fits_decimal b (take n rest) other) (front_behind (is_digit_of 10) (suc n) (b ∷ rest))
    by_base true false begins other =
        same_front (fits_octal b rest begins other) (fits_octal b (take n rest) begins (no_x_front n rest other))
        (front_behind (is_digit_of 8) (suc n) (b ∷ rest))
    by_base true true begins also = hexadecimals n rest begins also

-- ---- and so it is all that an integer constant begins with

digit_ten : (b : ℕ) → is_ascii_digit b ≡ true → is_digit_of 10 b ≡ true
digit_ten b digit =
    let parts = and_parts (leb 48 b) (leb b 57) digit in
    let low : 48 ≤ b = leb-true 48 b parts.0 in
    let high : b ≤ 57 = leb-true b 57 parts.1 in
    rw (le-ltb b 48 low, lt-ltb b 58 (omega arith)) (lt-ltb (b - 48) 10 (omega arith))

fitting_some : (b : ℕ) (rest : List ℕ) → is_ascii_digit b ≡ true → 0 < fitting_bytes (b ∷ rest)
fitting_some b rest digit = by_base (eqb b 48) refl
  where
    one : (z : Bool) → eqb b 48 ≡ z → fitting_bytes (b ∷ []) ≡ 1
    one true begins =
        let digit_is : is_digit_of 8 b ≡ true = ap (is_digit_of 8) (eqb-true b 48 begins) in
        fits_octal b [] begins refl ∙ behind_more (is_digit_of 8) b [] digit_is
    one false other = fits_decimal b [] other ∙ behind_more (is_digit_of 10) b [] (digit_ten b digit)

    by_base : (z : Bool) → eqb b 48 ≡ z → 0 < fitting_bytes (b ∷ rest)
    by_base z is = ⊎_elim (λ some. some) (λ few. let same = (front_fits 0 b rest).beyond (omega (arith, few)) in
        omega (arith, one z is, same, few)) (cases_lt 0 (fitting_bytes (b ∷ rest)))

numeral_whole : (bytes : List ℕ) → is_numeral bytes ≡ true → fitting_bytes bytes ≡ length bytes
numeral_whole bytes numeral = eqb-true _ _ (and_parts (ltb 0 (digit_count bytes)) (eqb (fitting_bytes bytes) (length bytes)) numeral).1

-- all of the bytes with which an integer constant begins fit
front_whole : (b : ℕ) (rest more : List ℕ) → IsInteger (b ∷ (rest ++ more)) → fitting_bytes (b ∷ rest) ≡ suc (length rest)
front_whole b rest more i =
    let whole = numeral_whole (b ∷ (rest ++ more)) (integer-numeral (b ∷ (rest ++ more)) i) in
    ap (λ l. fitting_bytes (b ∷ l)) (sym (take-append_seam rest more))
    ∙ (front_fits (length rest) b (rest ++ more)).within (omega (arith, whole, length-append rest more))

counted_from : (radix prefix : ℕ) (bytes : List ℕ) → radix_of bytes ≡ radix → prefix_bytes radix ≡ prefix →
    digit_count bytes ≡ prefix_len (is_digit_of radix) (drop prefix bytes)
counted_from radix prefix bytes base size =
    ap (λ r. prefix_len (is_digit_of r) (drop (prefix_bytes r) bytes)) base ∙ ap (λ n. prefix_len (is_digit_of radix) (drop n bytes)) size

first_counted : (p : ℕ → Bool) (b : ℕ) (rest : List ℕ) → p b ≡ true → prefix_len p (b ∷ rest) ≡ 0 → ⊥
first_counted p b rest passes zero_is = let more : 1 + prefix_len p rest ≡ 0 = rw passes at zero_is in omega (arith, more)

-- where all of the bytes fit and no digit is among them, they are `0x`
prefix_begins : (b : ℕ) (rest : List ℕ) → is_ascii_digit b ≡ true → fitting_bytes (b ∷ rest) ≡ suc (length rest) →
    digit_count (b ∷ rest) ≡ 0 → BeginsInteger (b ∷ rest)
prefix_begins b rest digit whole none_counted = by_base (eqb b 48) (begins_x rest) refl refl
  where
    hexadecimals : (rest : List ℕ) → eqb b 48 ≡ true → begins_x rest ≡ true → fitting_bytes (b ∷ rest) ≡ suc (length rest) →
        digit_count (b ∷ rest) ≡ 0 → BeginsInteger (b ∷ rest)
    hexadecimals [] begins also whole none_counted = cc
    hexadecimals (x ∷ []) begins also whole none_counted =
        let letter : (x ≡ 120) ⊎ (x ≡ 88) =
        ⊎_elim (λ e. inl (eqb-true x 120 e)) (λ e. inr (eqb-true x 88 e)) (or_cases (eqb x 120) (eqb x 88) also) in
        subst (λ c. BeginsInteger (c ∷ x ∷ [])) (sym (eqb-true b 48 begins)) (record {
          more = 48 ∷ [];
          integer = record {
            radix = 16;
            prefix = 48 ∷ x ∷ [];
            digits = 48 ∷ [];
            suffix = [];
            unsigned = false;
            long = false;
            parts = refl;
            based = hexadecimal letter refl;
            marked = none;
          };
        })
    hexadecimals (x ∷ c ∷ more) begins also whole none_counted =
        let counted : prefix_len (is_digit_of 16) (c ∷ more) ≡ 0 =
        sym (counted_from 16 2 (b ∷ x ∷ c ∷ more) (base_hexadecimal b (x ∷ c ∷ more) begins also) refl) ∙ none_counted in
        let behind : fitting_behind (is_digit_of 16) (c ∷ more) ≡ 0 = behind_zero (is_digit_of 16) (c ∷ more) counted in
        absurd (omega (arith, whole, behind, fits_hexadecimal b x (c ∷ more) begins also))

    by_base : (z x : Bool) → eqb b 48 ≡ z → begins_x rest ≡ x → BeginsInteger (b ∷ rest)
    by_base false x other also =
        absurd (first_counted (is_digit_of 10) b rest (digit_ten b digit)
        (sym (counted_from 10 0 (b ∷ rest) (base_decimal b rest other) refl) ∙ none_counted))
    by_base true false begins other =
        absurd (first_counted (is_digit_of 8) b rest (ap (is_digit_of 8) (eqb-true b 48 begins))
        (sym (counted_from 8 0 (b ∷ rest) (base_octal b rest begins other) refl) ∙ none_counted))
    by_base true true begins also = hexadecimals rest begins also whole none_counted

-- an integer constant begins with bytes that all fit
whole_begins : (b : ℕ) (rest : List ℕ) → is_ascii_digit b ≡ true → fitting_bytes (b ∷ rest) ≡ suc (length rest) → BeginsInteger (b ∷ rest)
whole_begins b rest digit whole = by_count (cases_lt 0 (digit_count (b ∷ rest)))
  where
    by_count : (0 < digit_count (b ∷ rest)) ⊎ (digit_count (b ∷ rest) ≤ 0) → BeginsInteger (b ∷ rest)
    by_count (inl some) =
        let numeral : is_numeral (b ∷ rest) ≡ true = and_from _ _ (lt-ltb 0 (digit_count (b ∷ rest)) some) (eq-eqb _ _ whole) in
        record { more = []; integer = subst IsInteger (sym (append-nil (b ∷ rest))) (numeral-integer (b ∷ rest) numeral) }
    by_count (inr few) = prefix_begins b rest digit whole (omega (arith, few))

-- a number fits as far as an integer constant begins with it
pub fits-to : (b : ℕ) (rest : List ℕ) → is_ascii_digit b ≡ true → FitsTo (b ∷ rest) (fitting_bytes (b ∷ rest))
fits-to b rest digit = record {
  within = fitting-bound (b ∷ rest);
  begins = begins_at (fitting_bytes (b ∷ rest)) refl;
  longest = beyond;
}
  where
    begins_at : (place : ℕ) → fitting_bytes (b ∷ rest) ≡ place → BeginsInteger (take place (b ∷ rest))
    begins_at zero is = absurd (omega (arith, is, fitting_some b rest digit))
    begins_at (suc n) is =
        let size : length (take n rest) ≡ n = length-take-le n rest (omega (arith, is, fitting-bound (b ∷ rest))) in
        whole_begins b (take n rest) digit ((front_fits n b rest).within (omega (arith, is)) ∙ ap suc (sym size))

    beyond : (more : ℕ) → fitting_bytes (b ∷ rest) < more → more ≤ length (b ∷ rest) → BeginsInteger (take more (b ∷ rest)) → ⊥
    beyond zero longer within begins = omega (arith, longer)
    beyond (suc n) longer within begins =
        let size : length (take n rest) ≡ n = length-take-le n rest (omega (arith, within)) in
        omega (
          arith,
          longer,
          size,
          front_whole b (take n rest) begins.more begins.integer,
          (front_fits n b rest).beyond (omega (arith, longer)),
        )

-- and as far as it is said to
pub one-fit : (bytes : List ℕ) (place other : ℕ) → FitsTo bytes place → FitsTo bytes other → place ≡ other
one-fit bytes place other f g =
    ⊎_elim (λ less. absurd (f.longest other less g.within g.begins))
    (λ most. ⊎_elim (λ more. absurd (g.longest place more f.within f.begins)) (λ least. omega (arith, most, least)) (cases_lt other place))
    (cases_lt place other)
