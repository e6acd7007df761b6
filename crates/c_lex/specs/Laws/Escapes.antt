-- What the bytes behind a backslash can write, by the first of them.
use Rattle.std.proofs.Common.{◌≡◌, ℕ, zero, suc, ◌+◌, ◌-◌, ◌<◌, ◌≤◌, min, List, [], ◌∷◌, length, take, drop, get_or, Bool, true, false}
use Rattle.std.proofs.Common.{cond}
use Rattle.std.proofs.Common.{◌&&◌, eqb, ltb, Option, Some, None, refl, ap, subst, sym, ◌∙◌, arith, length-take-le}
use Rattle.std.specs.List.{prefix_len}
use Rattle.std.proofs.lemmas.Bool.{both_ways, lt-ltb}
use Rattle.std.proofs.lemmas.List.{get_or-take}
use Rattle.c_lex.specs.Digits.{is_digit_of, are_digits, number_of}
use Rattle.c_lex.specs.Escape.{simple_escape}
use Rattle.c_lex.specs.Scan.Escape.{octal_count, hex_count}
use Rattle.c_lex.specs.Written.{Writes, plain, simple, octal, hexadecimal}
use Rattle.c_lex.specs.Laws.Slices.{front-bound}
use Rattle.c_lex.specs.Laws.ItemFaults.{octal-not_simple}

-- the first bytes of these, which follow a backslash, write this value as one of the three escapes
pub data IsEscape (value bytes : ℕ) (rest : List ℕ) : Type 0 where
  by_letter : {b : ℕ} → take bytes rest ≡ b ∷ [] → simple_escape b ≡ Some value → IsEscape value bytes rest
  by_octal : are_digits 8 (take bytes rest) ≡ true → 1 ≤ bytes → bytes ≤ 3 → value ≡ number_of 8 (take bytes rest)
      → IsEscape value bytes rest
  by_hexadecimal : {digits : List ℕ} → take bytes rest ≡ 120 ∷ digits → are_digits 16 digits ≡ true → 1 ≤ length digits →
      value ≡ number_of 16 digits → IsEscape value bytes rest

behind_first : {b c : ℕ} {xs ys : List ℕ} → b ∷ xs ≡ c ∷ ys → xs ≡ ys
behind_first same = ap (λ (l : List ℕ). drop 1 l) same

-- what is written with a backslash is an escape
pub escape-written : (quote value bytes : ℕ) (rest : List ℕ) → bytes ≤ length rest → Writes quote value (92 ∷ take bytes rest)
    → IsEscape value bytes rest
escape-written quote value bytes rest within (plain is other bare shown) = absurd (bare (sym (ap (λ l. get_or l 0 0) is)))
escape-written quote value bytes rest within (simple is letter) = by_letter (behind_first is) letter
escape-written quote value bytes rest within (octal is digits some few value_is) =
    let same = behind_first is in
    let count : length (take bytes rest) ≡ bytes = length-take-le bytes rest within in
    by_octal (ap (are_digits 8) same ∙ digits) (omega (arith, count, ap length same)) (omega (arith, count, ap length same))
    (value_is ∙ ap (number_of 8) (sym same))
escape-written quote value bytes rest within (hexadecimal is digits some value_is) = by_hexadecimal (behind_first is) digits some value_is

-- and the other way
pub written-escape : (quote value bytes : ℕ) (rest : List ℕ) → bytes ≤ length rest → IsEscape value bytes rest
    → Writes quote value (92 ∷ take bytes rest)
written-escape quote value bytes rest within (by_letter is letter) = simple (ap (λ l. 92 ∷ l) is) letter
written-escape quote value bytes rest within (by_octal digits some few value_is) =
    let count : length (take bytes rest) ≡ bytes = length-take-le bytes rest within in
    octal refl digits (omega (arith, count)) (omega (arith, count)) value_is
written-escape quote value bytes rest within (by_hexadecimal is digits some value_is) =
    hexadecimal (ap (λ l. 92 ∷ l) is) digits some value_is

-- ---- the first byte of each

-- a front that is not empty begins with the first byte
first_of : (bytes b : ℕ) (rest xs : List ℕ) → take bytes rest ≡ b ∷ xs → get_or rest 0 0 ≡ b
first_of zero b rest xs is = absurd (omega (arith, ap length is))
first_of (suc n) b rest xs is = sym (get_or-take (suc n) rest 0 0 (omega arith)) ∙ ap (λ l. get_or l 0 0) is

-- octal digits at the front are counted
octal_counted : (bytes : ℕ) (rest : List ℕ) → bytes ≤ length rest → are_digits 8 (take bytes rest) ≡ true → bytes ≤ 3
    → bytes ≤ octal_count rest
octal_counted bytes rest within digits few = omega (arith, front-bound (is_digit_of 8) bytes rest digits within)

-- where an octal digit is, no `x` is
octal_no_x : (rest : List ℕ) → 0 < octal_count rest → get_or rest 0 0 ≡ 120 → ⊥
octal_no_x [] some is = omega arith
octal_no_x (b ∷ rest) some is = by_digit (is_digit_of 8 b) refl some
  where
    by_digit : (d : Bool) → is_digit_of 8 b ≡ d → 0 < min 3 (cond d (1 + prefix_len (is_digit_of 8) rest) 0) → ⊥
    by_digit true digit some = both_ways (is_digit_of 8 b) (ap (is_digit_of 8) is) digit
    by_digit false digit some = omega arith

none-some : {found : Option ℕ} {value : ℕ} → found ≡ None → found ≡ Some value → ⊥
none-some none some = cc

-- ---- by what stands behind the backslash

-- a letter of a simple escape: its value alone, by the one byte
pub letter-only : (value other bytes : ℕ) (rest : List ℕ) → bytes ≤ length rest → simple_escape (get_or rest 0 0) ≡ Some value
    → IsEscape other bytes rest →
    (bytes ≡ 1) × (other ≡ value)
letter-only value other bytes rest within letter (by_letter {b = b} is also) =
    let same : Some other ≡ Some value = sym also ∙ ap simple_escape (sym (first_of bytes b rest [] is)) ∙ letter in
    (omega (arith, ap length is, length-take-le bytes rest within), cc)
letter-only value other bytes rest within letter (by_octal digits some few value_is) =
    absurd (none-some (octal-not_simple rest (omega (arith, octal_counted bytes rest within digits few))) letter)
letter-only value other bytes rest within letter (by_hexadecimal {digits = digits} is all some value_is) =
    absurd (none-some (ap simple_escape (first_of bytes 120 rest digits is)) letter)

-- octal digits: no more than three, and as many as there are
pub octal-only : (other bytes : ℕ) (rest : List ℕ) → bytes ≤ length rest → 0 < octal_count rest → IsEscape other bytes rest →
    (bytes ≤ octal_count rest) × (other ≡ number_of 8 (take bytes rest))
octal-only other bytes rest within count (by_letter {b = b} is also) =
    absurd (none-some (octal-not_simple rest count) (ap simple_escape (first_of bytes b rest [] is) ∙ also))
octal-only other bytes rest within count (by_octal digits some few value_is) = (octal_counted bytes rest within digits few, value_is)
octal-only other bytes rest within count (by_hexadecimal {digits = digits} is all some value_is) =
    absurd (octal_no_x rest count (first_of bytes 120 rest digits is))

-- hexadecimal digits behind an `x`: as many as there are
pub hexadecimal-only : (other bytes : ℕ) (rest : List ℕ) → bytes ≤ suc (length rest) → IsEscape other bytes (120 ∷ rest) →
    (2 ≤ bytes) × (bytes ≤ 1 + hex_count rest) × (other ≡ number_of 16 (take (bytes - 1) rest))
hexadecimal-only other zero rest within (by_letter is also) = absurd (omega (arith, ap length is))
hexadecimal-only other (suc n) rest within (by_letter {b = b} is also) =
    absurd (none-some (ap simple_escape (sym (first_of (suc n) b (120 ∷ rest) [] is))) also)
hexadecimal-only other bytes rest within (by_octal digits some few value_is) =
    absurd (omega (arith, octal_counted bytes (120 ∷ rest) (omega arith) digits few))
hexadecimal-only other zero rest within (by_hexadecimal is all some value_is) = absurd (omega (arith, ap length is))
hexadecimal-only other (suc n) rest within (by_hexadecimal {digits = digits} is all some value_is) =
    let same : take n rest ≡ digits = behind_first is in
    let count : length (take n rest) ≡ n = length-take-le n rest (omega arith) in
    let bound : n ≤ hex_count rest = front-bound (is_digit_of 16) n rest (ap (are_digits 16) same ∙ all) (omega arith) in
    let one_less : suc n - 1 ≡ n = omega arith in
    (omega (arith, count, ap length same), omega (arith, bound), rw one_less (value_is ∙ ap (number_of 16) (sym same)))

-- nothing of these: no escape
pub nothing-only : (other bytes : ℕ) (rest : List ℕ) → bytes ≤ length rest → simple_escape (get_or rest 0 0) ≡ None
    → octal_count rest ≡ 0 →
    (eqb (get_or rest 0 0) 120 && ltb 0 (hex_count (drop 1 rest))) ≡ false → IsEscape other bytes rest → ⊥
nothing-only other bytes rest within letter octals hexes (by_letter {b = b} is also) =
    none-some letter (ap simple_escape (first_of bytes b rest [] is) ∙ also)
nothing-only other bytes rest within letter octals hexes (by_octal digits some few value_is) =
    omega (arith, octals, octal_counted bytes rest within digits few)
nothing-only other bytes rest within letter octals hexes (by_hexadecimal {digits = digits} is all some value_is) =
    at_x rest within hexes (first_of bytes 120 rest digits is) (by_hexadecimal is all some value_is)
  where
    at_x : (text : List ℕ) → bytes ≤ length text → (eqb (get_or text 0 0) 120 && ltb 0 (hex_count (drop 1 text))) ≡ false
        → get_or text 0 0 ≡ 120 →
        IsEscape other bytes text → ⊥
    at_x [] within hexes first found = omega arith
    at_x (c ∷ more) within hexes first found =
        let there = hexadecimal-only other bytes more (omega arith) (subst (λ b. IsEscape other bytes (b ∷ more)) first found) in
        both_ways (eqb c 120 && ltb 0 (hex_count more)) hexes
        (rw (first, lt-ltb 0 (hex_count more) (omega (arith, there.0, there.1))) refl)
