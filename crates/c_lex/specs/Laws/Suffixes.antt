-- The suffixes of integer constants, one by one.
use Rattle.std.proofs.Common.{◌≡◌, ℕ, ◌≤◌, List, [], ◌∷◌, length, get_or, Bool, true, false, cond, ◌||◌, eqb, refl, subst}
use Rattle.std.proofs.Common.{sym, ⊎_elim, arith}
use Rattle.std.specs.List.{prefix_len, list_all, list_any}
use Rattle.std.proofs.lemmas.Bool.{or_cases, eqb-true}
use Rattle.c_lex.specs.Bytes.{is_numeral_byte}
use Rattle.c_lex.specs.Digits.{is_digit_of}
use Rattle.c_lex.specs.Scan.Numeral.{suffix_bytes}
use Rattle.c_lex.specs.Constant.{is_unsigned_mark, is_long_mark, Suffix, none, unsigned, long, unsigned_long, long_unsigned}

-- what the scanner finds of a suffix: that it is all one, which marks it has, and that neither the digits nor the
-- prefix before it go on into it
pub record IsSuffix (is_unsigned is_long : Bool) (bytes : List ℕ) : Type 0 where
  pub whole : suffix_bytes bytes ≡ length bytes
  pub unsigned_mark : list_any is_unsigned_mark bytes ≡ is_unsigned
  pub long_mark : list_any is_long_mark bytes ≡ is_long
  pub no_octal : prefix_len (is_digit_of 8) bytes ≡ 0
  pub no_decimal : prefix_len (is_digit_of 10) bytes ≡ 0
  pub no_hexadecimal : prefix_len (is_digit_of 16) bytes ≡ 0
  pub no_x : (eqb (get_or bytes 0 0) 120 || eqb (get_or bytes 0 0) 88) ≡ false
  pub numeral : list_all is_numeral_byte bytes ≡ true

-- a mark is the small letter or the capital
by_unsigned : (u : ℕ) (P : ℕ → Type 0) → P 117 → P 85 → is_unsigned_mark u ≡ true → P u
by_unsigned u P small capital is =
    ⊎_elim (λ e. subst P (sym (eqb-true u 117 e)) small) (λ e. subst P (sym (eqb-true u 85 e)) capital)
    (or_cases (eqb u 117) (eqb u 85) is)

by_long : (l : ℕ) (P : ℕ → Type 0) → P 108 → P 76 → is_long_mark l ≡ true → P l
by_long l P small capital is =
    ⊎_elim (λ e. subst P (sym (eqb-true l 108 e)) small) (λ e. subst P (sym (eqb-true l 76 e)) capital)
    (or_cases (eqb l 108) (eqb l 76) is)

known : (is_unsigned is_long : Bool) (bytes : List ℕ) → suffix_bytes bytes ≡ length bytes → list_any is_unsigned_mark bytes ≡ is_unsigned →
    list_any is_long_mark bytes ≡ is_long → prefix_len (is_digit_of 8) bytes ≡ 0 → prefix_len (is_digit_of 10) bytes ≡ 0 →
    prefix_len (is_digit_of 16) bytes ≡ 0 → (eqb (get_or bytes 0 0) 120 || eqb (get_or bytes 0 0) 88) ≡ false →
    list_all is_numeral_byte bytes ≡ true → IsSuffix is_unsigned is_long bytes
known is_unsigned is_long bytes a b c d e f g h = record {
  whole = a;
  unsigned_mark = b;
  long_mark = c;
  no_octal = d;
  no_decimal = e;
  no_hexadecimal = f;
  no_x = g;
  numeral = h;
}

pub suffix-found : {is_unsigned is_long : Bool} {bytes : List ℕ} → Suffix is_unsigned is_long bytes → IsSuffix is_unsigned is_long bytes
suffix-found none = known false false [] refl refl refl refl refl refl refl refl
suffix-found (unsigned {u = u} is) =
    by_unsigned u (λ u. IsSuffix true false (u ∷ []))
    (known true false (117 ∷ []) refl refl refl refl refl refl refl refl)
    (known true false (85 ∷ []) refl refl refl refl refl refl refl refl) is
suffix-found (long {l = l} is) =
    by_long l (λ l. IsSuffix false true (l ∷ []))
    (known false true (108 ∷ []) refl refl refl refl refl refl refl refl)
    (known false true (76 ∷ []) refl refl refl refl refl refl refl refl) is
suffix-found (unsigned_long {u = u} {l = l} is also) =
    by_unsigned u (λ u. IsSuffix true true (u ∷ l ∷ []))
    (by_long l (λ l. IsSuffix true true (117 ∷ l ∷ []))
    (known true true (117 ∷ 108 ∷ []) refl refl refl refl refl refl refl refl)
    (known true true (117 ∷ 76 ∷ []) refl refl refl refl refl refl refl refl) also)
    (by_long l (λ l. IsSuffix true true (85 ∷ l ∷ []))
    (known true true (85 ∷ 108 ∷ []) refl refl refl refl refl refl refl refl)
    (known true true (85 ∷ 76 ∷ []) refl refl refl refl refl refl refl refl) also) is
suffix-found (long_unsigned {l = l} {u = u} is also) =
    by_long l (λ l. IsSuffix true true (l ∷ u ∷ []))
    (by_unsigned u (λ u. IsSuffix true true (108 ∷ u ∷ []))
    (known true true (108 ∷ 117 ∷ []) refl refl refl refl refl refl refl refl)
    (known true true (108 ∷ 85 ∷ []) refl refl refl refl refl refl refl refl) also)
    (by_unsigned u (λ u. IsSuffix true true (76 ∷ u ∷ []))
    (known true true (76 ∷ 117 ∷ []) refl refl refl refl refl refl refl refl)
    (known true true (76 ∷ 85 ∷ []) refl refl refl refl refl refl refl refl) also) is

both : (a : ℕ) → is_unsigned_mark a ≡ true → is_long_mark a ≡ true → ⊥
both a is also = by_unsigned a (λ a. is_long_mark a ≡ true → ⊥) (λ h. cc) (λ h. cc) is also

few : (u l v m : Bool) → cond u (cond m 2 1) (cond l (cond v 2 1) 0) ≤ 2
few true l v true = omega arith
few true l v false = omega arith
few false true true m = omega arith
few false true false m = omega arith
few false false v m = omega arith

-- Bytes that are all the suffix at their front are a suffix with the marks among them.
pub found-suffix : (bytes : List ℕ) → suffix_bytes bytes ≡ length bytes →
    Suffix (list_any is_unsigned_mark bytes) (list_any is_long_mark bytes) bytes
found-suffix [] whole = none
found-suffix (a ∷ []) whole = one (is_unsigned_mark a) (is_long_mark a) refl refl whole
  where
    one : (u l : Bool) → is_unsigned_mark a ≡ u → is_long_mark a ≡ l → cond {A = ℕ} u 1 (cond l 1 0) ≡ 1 →
        Suffix (u || false) (l || false) (a ∷ [])
    one true true is also h = absurd (both a is also)
    one true false is also h = unsigned is
    one false true is also h = long also
    one false false is also h = absurd (omega (arith, h))
found-suffix (a ∷ b ∷ []) whole =
    two (is_unsigned_mark a) (is_long_mark a) (is_unsigned_mark b) (is_long_mark b) refl refl refl refl whole
  where
    two : (u l v m : Bool) → is_unsigned_mark a ≡ u → is_long_mark a ≡ l → is_unsigned_mark b ≡ v → is_long_mark b ≡ m →
        cond {A = ℕ} u (cond m 2 1) (cond l (cond v 2 1) 0) ≡ 2 → Suffix (u || (v || false)) (l || (m || false)) (a ∷ b ∷ [])
    two true true v m is also third fourth h = absurd (both a is also)
    two true false true true is also third fourth h = absurd (both b third fourth)
    two true false false true is also third fourth h = unsigned_long is fourth
    two true false v false is also third fourth h = absurd (omega (arith, h))
    two false true true true is also third fourth h = absurd (both b third fourth)
    two false true true false is also third fourth h = long_unsigned also third
    two false true false m is also third fourth h = absurd (omega (arith, h))
    two false false v m is also third fourth h = absurd (omega (arith, h))
found-suffix (a ∷ b ∷ c ∷ rest) whole =
    absurd (omega (arith, whole, few (is_unsigned_mark a) (is_long_mark a) (is_unsigned_mark b) (is_long_mark b)))
