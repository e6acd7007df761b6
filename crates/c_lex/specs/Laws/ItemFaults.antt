-- What stands between quotes, by the rules on what may not stand there.
use Rattle.std.proofs.Common.{◌≡◌, ℕ, ◌+◌, ◌<◌, List, [], ◌∷◌, take, drop, get_or, Bool, true, false, cond, ◌||◌, ◌&&◌, ⊎_elim, min, eqb}
use Rattle.std.proofs.Common.{leb, ltb, Option, Some, None, refl, ap, subst, sym, ◌∙◌, arith}
use Rattle.std.specs.List.{prefix_len}
use Rattle.std.proofs.lemmas.Bool.{and_parts, cond_both, eqb-true, eqb-false, ne_eqb, ltb-true, ltb-false, leb-false, lt-ltb, lt-leb}
use Rattle.std.proofs.lemmas.Bool.{both_ways, or_cases, or_parts}
use Rattle.c_lex.specs.declared.fault.Fault.{Fault}
use Rattle.c_lex.specs.declared.fault.Fault.TheVariants.{BadByte, NumberTooLarge}
use Rattle.c_lex.specs.declared.escape.Item.{Item}
use Rattle.c_lex.specs.declared.escape.Item.TheVariants.{Byte, Close, Wrong, Cut}
use Rattle.c_lex.specs.Digits.{is_digit_of}
use Rattle.c_lex.specs.Scan.Digits.{value_of}
use Rattle.c_lex.specs.Escape.{simple_escape, is_plain}
use Rattle.c_lex.specs.Scan.Escape.{numeric_escape, octal_count, hex_count, no_escape, hex_digits, hexadecimal_escape, digits_escape}
use Rattle.c_lex.specs.Scan.Escape.{simple_or, escape, item_at}
use Rattle.c_lex.specs.Bytes.{is_cut_off}
use Rattle.c_lex.specs.Faults.{cuts_escape, is_cut}
use Rattle.c_lex.specs.Laws.ScannedFaults.{begins_hexadecimal, IsWrong, byte, escape as wrong_escape, octal, hexadecimal}

-- a front of digits is cut off by no newline
digits-go_on : (radix : ℕ) (rest : List ℕ) → is_digit_of radix 10 ≡ false → 0 < prefix_len (is_digit_of radix) rest
    → is_cut_off rest ≡ false
digits-go_on radix [] none some = absurd (omega arith)
digits-go_on radix (b ∷ rest) none some = by_digit (is_digit_of radix b) refl some
  where
    by_digit : (d : Bool) → is_digit_of radix b ≡ d → 0 < cond d (1 + prefix_len (is_digit_of radix) rest) 0 → eqb b 10 ≡ false
    by_digit true is some = ne_eqb b 10 (λ e. both_ways (is_digit_of radix b) (ap (is_digit_of radix) e ∙ none) is)
    by_digit false is some = absurd (omega arith)

-- neither a newline nor `x` makes a simple escape
simple-goes_on : (rest : List ℕ) (value : ℕ) → simple_escape (get_or rest 0 0) ≡ Some value → cuts_escape rest ≡ false
simple-goes_on [] value is = cc
simple-goes_on (b ∷ rest) value is = rw (ne_eqb b 10 (λ e. never 10 refl e), ne_eqb b 120 (λ e. never 120 refl e)) refl
  where
    never : (c : ℕ) → simple_escape c ≡ None → b ≡ c → ⊥
    never c none e = let clash : Some value ≡ None = sym is ∙ ap simple_escape e ∙ none in cc

octal-goes_on : (rest : List ℕ) → 0 < octal_count rest → cuts_escape rest ≡ false
octal-goes_on [] some = absurd (omega arith)
octal-goes_on (b ∷ rest) some = rw (digits-go_on 8 (b ∷ rest) refl (omega arith), no_x) refl
  where
    by_digit : (d : Bool) → is_digit_of 8 b ≡ d → 0 < min 3 (cond d (1 + prefix_len (is_digit_of 8) rest) 0) → eqb b 120 ≡ false
    by_digit true is some = ne_eqb b 120 (λ e. both_ways (is_digit_of 8 b) (ap (is_digit_of 8) e) is)
    by_digit false is some = absurd (omega arith)

    no_x : eqb b 120 ≡ false
    no_x = by_digit (is_digit_of 8 b) refl some

-- what an escape says of the bytes behind its backslash
abbrev EscapeEnds : List ℕ → Item → Type 0
EscapeEnds rest Cut = cuts_escape rest ≡ true
EscapeEnds rest Close = ⊥
EscapeEnds rest _ = cuts_escape rest ≡ false

numeric-ends : (rest : List ℕ) (value bytes : ℕ) → cuts_escape rest ≡ false → EscapeEnds rest (numeric_escape value bytes)
numeric-ends rest value bytes goes =
    cond_both (leb value 255) (Byte value bytes) (Wrong NumberTooLarge) (EscapeEnds rest) (λ _. goes) (λ _. goes)

none-ends : (rest more : List ℕ) → cuts_escape rest ≡ is_cut_off more → EscapeEnds rest (no_escape more)
none-ends rest more same = cond_both (is_cut_off more) Cut (Wrong BadByte) (EscapeEnds rest) (λ ends. same ∙ ends) (λ goes. same ∙ goes)

hex-ends : (rest : List ℕ) → EscapeEnds (120 ∷ rest) (hex_digits rest)
hex-ends rest =
    cond_both (ltb 0 (hex_count rest)) (numeric_escape (value_of 16 (take (hex_count rest) rest)) (2 + hex_count rest)) (no_escape rest)
    (EscapeEnds (120 ∷ rest))
    (λ some. numeric-ends (120 ∷ rest) _ _ (digits-go_on 16 rest refl (ltb-true 0 (hex_count rest) some)))
    (λ _. none-ends (120 ∷ rest) rest refl)

or_none : (b : Bool) → (b || false) ≡ b
or_none true = refl
or_none false = refl

hexadecimal-ends : (rest : List ℕ) → EscapeEnds rest (hexadecimal_escape rest)
hexadecimal-ends [] = refl
hexadecimal-ends (c ∷ rest) = by_x (eqb c 120) refl
  where
    by_x : (x : Bool) → eqb c 120 ≡ x → EscapeEnds (c ∷ rest) (cond x (hex_digits rest) (no_escape (c ∷ rest)))
    by_x true is = subst (λ b. EscapeEnds (b ∷ rest) (hex_digits rest)) (sym (eqb-true c 120 is)) (hex-ends rest)
    by_x false is = none-ends (c ∷ rest) (c ∷ rest) (rw is (or_none (eqb c 10)))

escape-ends : (rest : List ℕ) → EscapeEnds rest (escape rest)
unfolding escape
escape-ends rest = simple (simple_escape (get_or rest 0 0)) refl
  where
    simple : (found : Option ℕ) → simple_escape (get_or rest 0 0) ≡ found → EscapeEnds rest (simple_or found (digits_escape rest))
    simple (Some value) is = simple-goes_on rest value is
    simple None is =
        cond_both (ltb 0 (octal_count rest)) (numeric_escape (value_of 8 (take (octal_count rest) rest)) (1 + octal_count rest))
        (hexadecimal_escape rest) (EscapeEnds rest)
        (λ some. numeric-ends rest _ _ (octal-goes_on rest (ltb-true 0 (octal_count rest) some)))
        (λ _. hexadecimal-ends rest)

-- what an item says of its first byte, and of an escape that begins there
abbrev pub EndsAs : ℕ → List ℕ → Item → Type 0
EndsAs quote rest Cut = is_cut rest ≡ true
EndsAs quote rest Close = get_or rest 0 0 ≡ quote
EndsAs quote rest _ = Unit {0}

slash-ends : (quote : ℕ) (rest : List ℕ) (found : Item) → EscapeEnds rest found → EndsAs quote (92 ∷ rest) found
slash-ends quote rest (Byte value bytes) ends = tt
slash-ends quote rest Close ends = absurd ends
slash-ends quote rest (Wrong fault) ends = tt
slash-ends quote rest Cut ends = ends

pub item-ends : (quote : ℕ) (rest : List ℕ) → EndsAs quote rest (item_at quote rest)
unfolding item_at
item-ends quote [] = refl
item-ends quote (b ∷ rest) =
    let P = λ (found : Item). EndsAs quote (b ∷ rest) found in
    let plain = cond (is_plain quote b) (Byte b 1) (Wrong BadByte) in
    let other = cond (eqb b 92) (escape rest) plain in
    cond_both (eqb b 10) Cut (cond (eqb b quote) Close other) P (λ line. rw line refl)
    (λ line. cond_both (eqb b quote) Close other P (λ end. eqb-true b quote end)
    (λ more. cond_both (eqb b 92) (escape rest) plain P
    (λ slash. subst (λ c. EndsAs quote (c ∷ rest) (escape rest)) (sym (eqb-true b 92 slash))
    (slash-ends quote rest (escape rest) (escape-ends rest)))
    (λ _. cond_both (is_plain quote b) (Byte b 1) (Wrong BadByte) P (λ _. tt) (λ _. tt))))

-- an item that is wrong is so by a rule
abbrev pub IsWrongAs : ℕ → List ℕ → Item → Type 0
IsWrongAs quote rest (Wrong fault) = IsWrong quote rest fault
IsWrongAs quote rest _ = Unit {0}

numeric-wrong : (quote value bytes : ℕ) (rest : List ℕ) → (255 < value → IsWrong quote rest NumberTooLarge)
    → IsWrongAs quote rest (numeric_escape value bytes)
numeric-wrong quote value bytes rest large =
    cond_both (leb value 255) (Byte value bytes) (Wrong NumberTooLarge) (IsWrongAs quote rest) (λ _. tt)
    (λ over. large (omega (arith, leb-false value 255 over)))

-- where an item is wrong, the rule says so
module _ (quote : ℕ) where
  none-wrong : (rest more : List ℕ) → simple_escape (get_or rest 0 0) ≡ None → octal_count rest ≡ 0 → begins_hexadecimal rest ≡ false →
      cuts_escape rest ≡ is_cut_off more → IsWrongAs quote (92 ∷ rest) (no_escape more)
  none-wrong rest more simple octals hexes same =
      cond_both (is_cut_off more) Cut (Wrong BadByte) (IsWrongAs quote (92 ∷ rest)) (λ _. tt)
      (λ goes. wrong_escape refl simple octals hexes (same ∙ goes))

  hex-wrong : (rest : List ℕ) → IsWrongAs quote (92 ∷ 120 ∷ rest) (hex_digits rest)
  hex-wrong rest = by_digits (ltb 0 (hex_count rest)) refl
    where
      hexes : ℕ
      hexes = value_of 16 (take (hex_count rest) rest)

      by_digits : (d : Bool) → ltb 0 (hex_count rest) ≡ d →
          IsWrongAs quote (92 ∷ 120 ∷ rest) (cond d (numeric_escape hexes (2 + hex_count rest)) (no_escape rest))
      by_digits true is = numeric-wrong quote hexes (2 + hex_count rest) (92 ∷ 120 ∷ rest) (λ large. hexadecimal refl is large)
      by_digits false is = none-wrong (120 ∷ rest) rest refl refl is refl

  hexadecimal-wrong : (rest : List ℕ) → simple_escape (get_or rest 0 0) ≡ None → octal_count rest ≡ 0 →
      IsWrongAs quote (92 ∷ rest) (hexadecimal_escape rest)
  hexadecimal-wrong [] simple octals = tt
  hexadecimal-wrong (c ∷ rest) simple octals = by_x (eqb c 120) refl
    where
      by_x : (x : Bool) → eqb c 120 ≡ x → IsWrongAs quote (92 ∷ c ∷ rest) (cond x (hex_digits rest) (no_escape (c ∷ rest)))
      by_x true is = subst (λ b. IsWrongAs quote (92 ∷ b ∷ rest) (hex_digits rest)) (sym (eqb-true c 120 is)) (hex-wrong rest)
      by_x false is = none-wrong (c ∷ rest) (c ∷ rest) simple octals (rw is refl) (rw is (or_none (eqb c 10)))

escape-wrong : (quote : ℕ) (rest : List ℕ) → IsWrongAs quote (92 ∷ rest) (escape rest)
unfolding escape
escape-wrong quote rest = simple (simple_escape (get_or rest 0 0)) refl
  where
    P : Item → Type 0
    P = IsWrongAs quote (92 ∷ rest)

    simple : (found : Option ℕ) → simple_escape (get_or rest 0 0) ≡ found
        → IsWrongAs quote (92 ∷ rest) (simple_or found (digits_escape rest))
    simple (Some value) is = tt
    simple None is =
        let octals = value_of 8 (take (octal_count rest) rest) in
        cond_both (ltb 0 (octal_count rest)) (numeric_escape octals (1 + octal_count rest)) (hexadecimal_escape rest)
        (IsWrongAs quote (92 ∷ rest))
        (λ some. numeric-wrong quote octals (1 + octal_count rest) (92 ∷ rest)
        (λ large. octal refl (ltb-true 0 (octal_count rest) some) large))
        (λ none. hexadecimal-wrong quote rest is (omega (arith, ltb-false 0 (octal_count rest) none)))

pub item-wrong : (quote : ℕ) (rest : List ℕ) → IsWrongAs quote rest (item_at quote rest)
unfolding item_at
item-wrong quote [] = tt
item-wrong quote (b ∷ rest) =
    let P = IsWrongAs quote (b ∷ rest) in
    let plain = cond (is_plain quote b) (Byte b 1) (Wrong BadByte) in
    let other = cond (eqb b 92) (escape rest) plain in
    cond_both (eqb b 10) Cut (cond (eqb b quote) Close other) P (λ _. tt)
    (λ line. cond_both (eqb b quote) Close other P (λ _. tt)
    (λ more. cond_both (eqb b 92) (escape rest) plain P
    (λ slash. subst (λ c. IsWrongAs quote (c ∷ rest) (escape rest)) (sym (eqb-true b 92 slash)) (escape-wrong quote rest))
    (λ bare. cond_both (is_plain quote b) (Byte b 1) (Wrong BadByte) P (λ _. tt)
    (λ odd. byte line (eqb-false b quote more) (eqb-false b 92 bare) odd))))

-- ---- and the other way

-- a newline or the end behind a backslash, or behind its `x`, cuts the escape off
escape-cut : (rest : List ℕ) → cuts_escape rest ≡ true → escape rest ≡ Cut
unfolding escape
escape-cut [] h = refl
escape-cut (b ∷ rest) h = ⊎_elim (λ line. subst (λ c. escape (c ∷ rest) ≡ Cut) (sym (eqb-true b 10 line)) refl)
    (λ marked. let parts = and_parts (eqb b 120) (is_cut_off rest) marked in
    subst (λ c. escape (c ∷ rest) ≡ Cut) (sym (eqb-true b 120 parts.0)) (behind_x rest parts.1))
    (or_cases (eqb b 10) (eqb b 120 && is_cut_off rest) h)
  where
    behind_x : (more : List ℕ) → is_cut_off more ≡ true → escape (120 ∷ more) ≡ Cut
    behind_x [] ends = refl
    behind_x (c ∷ more) ends = subst (λ d. escape (120 ∷ d ∷ more) ≡ Cut) (sym (eqb-true c 10 ends)) refl

pub close-item : (rest : List ℕ) → get_or rest 0 0 ≡ 39 → item_at 39 rest ≡ Close
unfolding item_at
close-item [] h = absurd (omega arith)
close-item (b ∷ rest) h = rw h refl

-- a digit is no letter of a simple escape
digit_other : (b c : ℕ) → is_digit_of 8 b ≡ true → is_digit_of 8 c ≡ false → eqb b c ≡ false
digit_other b c digit other = ne_eqb b c (λ e. both_ways (is_digit_of 8 b) (ap (is_digit_of 8) e ∙ other) digit)

pub octal-not_simple : (rest : List ℕ) → 0 < octal_count rest → simple_escape (get_or rest 0 0) ≡ None
octal-not_simple [] some = refl
octal-not_simple (b ∷ rest) some = by_digit (is_digit_of 8 b) refl some
  where
    by_digit : (d : Bool) → is_digit_of 8 b ≡ d → 0 < min 3 (cond d (1 + prefix_len (is_digit_of 8) rest) 0) → simple_escape b ≡ None
    by_digit false is some = absurd (omega arith)
    by_digit true is some =
        rw (
          digit_other b 97 is refl,
          digit_other b 98 is refl,
          digit_other b 102 is refl,
          digit_other b 110 is refl,
          digit_other b 114 is refl,
          digit_other b 116 is refl,
          digit_other b 118 is refl,
          digit_other b 92 is refl,
          digit_other b 39 is refl,
          digit_other b 34 is refl,
          digit_other b 63 is refl,
        ) refl

octal-escape : (rest : List ℕ) → 0 < octal_count rest → 255 < value_of 8 (take (octal_count rest) rest)
    → escape rest ≡ Wrong NumberTooLarge
unfolding escape
octal-escape rest some large = rw (
  octal-not_simple rest some,
  lt-ltb 0 (octal_count rest) some,
  lt-leb (value_of 8 (take (octal_count rest) rest)) 255 large,
) refl

escape-at_x : (rest : List ℕ) → ltb 0 (hex_count rest) ≡ true → 255 < value_of 16 (take (hex_count rest) rest)
    → escape (120 ∷ rest) ≡ Wrong NumberTooLarge
unfolding escape
escape-at_x rest some large = rw (some, lt-leb (value_of 16 (take (hex_count rest) rest)) 255 large) refl

hexadecimal-escape : (rest : List ℕ) → begins_hexadecimal rest ≡ true → 255 < value_of 16 (take (hex_count (drop 1 rest)) (drop 1 rest))
    → escape rest ≡ Wrong NumberTooLarge
hexadecimal-escape [] begins large = cc
hexadecimal-escape (c ∷ rest) begins large =
    let parts = and_parts (eqb c 120) (ltb 0 (hex_count rest)) begins in
    subst (λ x. escape (x ∷ rest) ≡ Wrong NumberTooLarge) (sym (eqb-true c 120 parts.0)) (escape-at_x rest parts.1 large)

module _ (quote : ℕ) (usual : eqb 92 quote ≡ false) where
  slash-item : (rest : List ℕ) → item_at quote (92 ∷ rest) ≡ escape rest
  unfolding item_at
  slash-item rest = rw usual refl

  pub cut-item : (rest : List ℕ) → is_cut rest ≡ true → item_at quote rest ≡ Cut
  unfolding item_at
  cut-item [] h = refl
  cut-item (b ∷ rest) h = ⊎_elim (λ line. rw line refl)
      (λ slashed. let parts = and_parts (eqb b 92) (cuts_escape rest) slashed in
      subst (λ c. item_at quote (c ∷ rest) ≡ Cut) (sym (eqb-true b 92 parts.0)) (slash-item rest ∙ escape-cut rest parts.1))
      (or_cases (eqb b 10) (eqb b 92 && cuts_escape rest) h)

  slash_wrong : (b : ℕ) (rest : List ℕ) (fault : Fault) → b ≡ 92 → escape rest ≡ Wrong fault → item_at quote (b ∷ rest) ≡ Wrong fault
  slash_wrong b rest fault slash is = ap (λ c. item_at quote (c ∷ rest)) slash ∙ slash-item rest ∙ is

  unknown-escape : (rest : List ℕ) → simple_escape (get_or rest 0 0) ≡ None → octal_count rest ≡ 0 → begins_hexadecimal rest ≡ false
      → cuts_escape rest ≡ false →
      escape rest ≡ Wrong BadByte
  unfolding escape
  unknown-escape [] simple octals hexes goes = cc
  unknown-escape (c ∷ rest) simple octals hexes goes = rw (simple, octals) (by_x (eqb c 120) hexes goes)
    where
      by_x : (x : Bool) → (x && ltb 0 (hex_count rest)) ≡ false → (eqb c 10 || (x && is_cut_off rest)) ≡ false →
          cond x (hex_digits rest) (no_escape (c ∷ rest)) ≡ Wrong BadByte
      by_x true hexes goes = rw (hexes, (or_parts (eqb c 10) (is_cut_off rest) goes).1) refl
      by_x false hexes goes = rw (or_parts (eqb c 10) false goes).0 refl

  pub wrong-item : (rest : List ℕ) (fault : Fault) → IsWrong quote rest fault → item_at quote rest ≡ Wrong fault
  unfolding item_at
  wrong-item [] _ (byte line more bare odd) = cc
  wrong-item [] _ (wrong_escape slash simple octals hexes goes) = absurd (omega arith)
  wrong-item [] _ (octal slash some large) = absurd (omega arith)
  wrong-item [] _ (hexadecimal slash begins large) = absurd (omega arith)
  wrong-item (b ∷ rest) _ (byte line more bare odd) = rw (line, ne_eqb b quote more, ne_eqb b 92 bare, odd) refl
  wrong-item (b ∷ rest) _ (wrong_escape slash simple octals hexes goes) =
      slash_wrong b rest BadByte slash (unknown-escape rest simple octals hexes goes)
  wrong-item (b ∷ rest) _ (octal slash some large) = slash_wrong b rest NumberTooLarge slash (octal-escape rest some large)
  wrong-item (b ∷ rest) _ (hexadecimal slash begins large) = slash_wrong b rest NumberTooLarge slash (hexadecimal-escape rest begins large)
