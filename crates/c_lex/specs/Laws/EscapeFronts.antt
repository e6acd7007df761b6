-- What stands between quotes is the same in each front of the text that holds it.
use Rattle.std.proofs.Common.{◌≡◌, ℕ, zero, suc, ◌+◌, ◌≤◌, min, List, [], ◌∷◌, length, take, get_or, Option, Some, None, Bool, true, false}
use Rattle.std.proofs.Common.{cond, leb, ltb, eqb, refl, subst, arith}
use Rattle.std.proofs.lemmas.Bool.{ltb-false, eqb-true}
use Rattle.std.proofs.lemmas.List.{take-take}
use Rattle.c_lex.specs.declared.fault.Fault.TheVariants.{BadByte, NumberTooLarge}
use Rattle.c_lex.specs.declared.escape.Item.{Item}
use Rattle.c_lex.specs.declared.escape.Item.TheVariants.{Byte, Close, Wrong, Cut}
use Rattle.c_lex.specs.Bytes.{is_cut_off}
use Rattle.c_lex.specs.Digits.{is_digit_of}
use Rattle.c_lex.specs.Scan.Digits.{value_of}
use Rattle.c_lex.specs.Escape.{simple_escape, is_plain}
use Rattle.c_lex.specs.Scan.Escape.{numeric_escape, octal_count, hex_count, no_escape, hex_digits, hexadecimal_escape, digits_escape}
use Rattle.c_lex.specs.Scan.Escape.{simple_or, escape, item_at}
use Rattle.c_lex.specs.Scan.Words.{ItemFits}
use Rattle.c_lex.specs.Laws.RunLaws.{prefix_len-take}
use Rattle.c_lex.specs.Laws.EscapeLaws.{IsBetween, escape-between, item_at-fits}

numeric-bytes : (value bytes v n : ℕ) → numeric_escape value bytes ≡ Byte v n → bytes ≡ n
numeric-bytes value bytes v n h = by_size (leb value 255) h
  where
    by_size : (b : Bool) → cond b (Byte value bytes) (Wrong NumberTooLarge) ≡ Byte v n → bytes ≡ n
    by_size true h = cc
    by_size false h = cc

-- no escape is no byte
none-never : (rest : List ℕ) (v n : ℕ) → no_escape rest ≡ Byte v n → ⊥
none-never rest v n h = by_end (is_cut_off rest) h
  where
    by_end : (b : Bool) → cond b Cut (Wrong BadByte) ≡ Byte v n → ⊥
    by_end true h = cc
    by_end false h = cc

octal-take : (m : ℕ) (rest : List ℕ) → octal_count (take m rest) ≡ min m (octal_count rest)
octal-take m rest = omega (arith, prefix_len-take (is_digit_of 8) m rest)

hexadecimal-front : (c m v n : ℕ) (rest : List ℕ) → hexadecimal_escape (c ∷ rest) ≡ Byte v n → n ≤ 2 + m
    → hexadecimal_escape (c ∷ take m rest) ≡ Byte v n
hexadecimal-front c m v n rest h within = by_x (eqb c 120) h
  where
    by_test : (b : Bool) → ltb 0 (hex_count rest) ≡ b →
        cond b (numeric_escape (value_of 16 (take (hex_count rest) rest)) (2 + hex_count rest)) (no_escape rest) ≡ Byte v n →
        hex_digits (take m rest) ≡ Byte v n
    by_test false is h = absurd (none-never rest v n h)
    by_test true is h =
        let count : hex_count rest ≤ m = omega (
          arith,
          numeric-bytes (value_of 16
              (take (hex_count rest) rest)) (2 + hex_count rest) v n h,
        ) in
        let same : hex_count (take m rest) ≡ hex_count rest = omega (arith, prefix_len-take (is_digit_of 16) m rest) in
        rw (same, take-take (hex_count rest) m rest count, is) h

    by_x : (x : Bool) → cond x (hex_digits rest) (no_escape (c ∷ rest)) ≡ Byte v n →
        cond x (hex_digits (take m rest)) (no_escape (c ∷ take m rest)) ≡ Byte v n
    by_x true h = by_test (ltb 0 (hex_count rest)) refl h
    by_x false h = absurd (none-never (c ∷ rest) v n h)

digits-front : (c m v n : ℕ) (rest : List ℕ) → digits_escape (c ∷ rest) ≡ Byte v n → n ≤ 2 + m → digits_escape (c ∷ take m rest) ≡ Byte v n
digits-front c m v n rest h within = by_test (ltb 0 (octal_count (c ∷ rest))) refl h
  where
    taken : octal_count (c ∷ take m rest) ≡ min (suc m) (octal_count (c ∷ rest))
    taken = octal-take (suc m) (c ∷ rest)

    by_test : (b : Bool) → ltb 0 (octal_count (c ∷ rest)) ≡ b →
        cond b (numeric_escape (value_of 8 (take (octal_count (c ∷ rest)) (c ∷ rest))) (1 + octal_count (c ∷ rest)))
        (hexadecimal_escape (c ∷ rest)) ≡ Byte v n →
        digits_escape (c ∷ take m rest) ≡ Byte v n
    by_test false is h =
        let none : octal_count (c ∷ rest) ≤ 0 = ltb-false 0 (octal_count (c ∷ rest)) is in
        let still : octal_count (c ∷ take m rest) ≡ 0 = omega (arith, taken) in
        rw still (hexadecimal-front c m v n rest h within)
    by_test true is h =
        let count : octal_count (c ∷ rest) ≤ suc m = omega (
          arith,
          numeric-bytes (value_of 8 (take (octal_count (c ∷ rest)) (c ∷ rest))) (1 + octal_count (c ∷ rest)) v n h,
        ) in
        let same : octal_count (c ∷ take m rest) ≡ octal_count (c ∷ rest) = omega (arith, taken) in
        let digits : take (octal_count (c ∷ rest)) (c ∷ take m rest)
        ≡ take (octal_count (c ∷ rest)) (c ∷ rest) = take-take (octal_count (c ∷ rest)) (suc m) (c ∷ rest) count in
        rw (same, digits, is) h

simple-front : (found : Option ℕ) (x y : Item) (v n : ℕ) → simple_or found x ≡ Byte v n → (x ≡ Byte v n → y ≡ Byte v n)
    → simple_or found y ≡ Byte v n
simple-front None x y v n h later = later h
simple-front (Some value) x y v n h later = h

escape-least : (rest : List ℕ) (v n : ℕ) → escape rest ≡ Byte v n → 2 ≤ n
escape-least rest v n h = (subst (IsBetween 2 (1 + length rest)) h (escape-between rest)).0

escape-front : (m : ℕ) (rest : List ℕ) (v n : ℕ) → escape rest ≡ Byte v n → n ≤ 1 + m → escape (take m rest) ≡ Byte v n
unfolding escape
escape-front zero rest v n h within = absurd (omega (arith, escape-least rest v n h))
escape-front (suc m) [] v n h within = h
escape-front (suc m) (c ∷ rest) v n h within =
    simple-front (simple_escape c) (digits_escape (c ∷ rest)) (digits_escape (c ∷ take m rest)) v n h
    (λ digits. digits-front c m v n rest digits (omega arith))

cond_right : (b : Bool) (x y z found : Item) → cond b x y ≡ found → (y ≡ found → z ≡ found) → cond b x z ≡ found
cond_right true x y z found h later = h
cond_right false x y z found h later = later h

cond_left : (b : Bool) (x y z found : Item) → cond b x y ≡ found → (x ≡ found → z ≡ found) → cond b z y ≡ found
cond_left true x y z found h later = later h
cond_left false x y z found h later = h

item-step : (quote b m : ℕ) (rest : List ℕ) (found : Item) → item_at quote (b ∷ rest) ≡ found
    → (escape rest ≡ found → escape (take m rest) ≡ found) → item_at quote (b ∷ take m rest) ≡ found
unfolding item_at
item-step quote b m rest found h escaped =
    let plain = cond (is_plain quote b) (Byte b 1) (Wrong BadByte) in
    let before = cond (eqb b 92) (escape rest) plain in
    let after = cond (eqb b 92) (escape (take m rest)) plain in
    cond_right (eqb b 10) Cut (cond (eqb b quote) Close before) (cond (eqb b quote) Close after) found h
    (λ h. cond_right (eqb b quote) Close before after found h
    (λ h. cond_left (eqb b 92) (escape rest) plain (escape (take m rest)) found h escaped))

-- a byte as it is written is the same in a front that holds it
pub item-front : (quote m : ℕ) (rest : List ℕ) (v n : ℕ) → item_at quote rest ≡ Byte v n → n ≤ m → item_at quote (take m rest) ≡ Byte v n
item-front quote zero rest v n h within = absurd (omega (
  arith,
  (subst (λ found. ItemFits found (length rest)) h (item_at-fits quote rest)).0,
))
item-front quote (suc m) [] v n h within = h
item-front quote (suc m) (b ∷ rest) v n h within = item-step quote b m rest (Byte v n) h
    (λ escaped. escape-front m rest v n escaped (omega arith))

-- so is a closing quote
pub close-front : (quote m : ℕ) (rest : List ℕ) → item_at quote rest ≡ Close → 1 ≤ m → item_at quote (take m rest) ≡ Close
close-front quote zero rest h within = absurd (omega arith)
close-front quote (suc m) [] h within = h
close-front quote (suc m) (b ∷ rest) h within = item-step quote b m rest Close h
    (λ escaped. absurd (subst (IsBetween 2 (1 + length rest)) escaped (escape-between rest)))

-- a closing quote is the quote
pub close-is : (quote : ℕ) (rest : List ℕ) → item_at quote rest ≡ Close → (get_or rest 0 0 ≡ quote) × (1 ≤ length rest)
unfolding item_at
close-is quote [] h = cc
close-is quote (b ∷ rest) h = (by_newline (eqb b 10) h, omega arith)
  where
    by_plain : (c : Bool) → cond c (Byte b 1) (Wrong BadByte) ≡ Close → b ≡ quote
    by_plain true h = cc
    by_plain false h = cc

    by_backslash : (c : Bool) → cond c (escape rest) (cond (is_plain quote b) (Byte b 1) (Wrong BadByte)) ≡ Close → b ≡ quote
    by_backslash true h = absurd (subst (IsBetween 2 (1 + length rest)) h (escape-between rest))
    by_backslash false h = by_plain (is_plain quote b) h

    by_quote : (c : Bool) → eqb b quote ≡ c → cond c Close (cond (eqb b 92) (escape rest)
        (cond (is_plain quote b) (Byte b 1) (Wrong BadByte))) ≡ Close → b ≡ quote
    by_quote true is h = eqb-true b quote is
    by_quote false is h = by_backslash (eqb b 92) h

    by_newline : (c : Bool) → cond c Cut (cond (eqb b quote) Close
        (cond (eqb b 92) (escape rest) (cond (is_plain quote b) (Byte b 1) (Wrong BadByte)))) ≡ Close → b ≡ quote
    by_newline true h = cc
    by_newline false h = by_quote (eqb b quote) refl h
