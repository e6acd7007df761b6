-- Laws of what stands between quotes.
use Rattle.std.proofs.Common.{◌≡◌, ℕ, ◌+◌, ◌≤◌, List, [], ◌∷◌, length, take, Option, Some, None, cond, leb, ltb, eqb, arith}
use Rattle.std.proofs.Math.Numerals.{one-add}
use Rattle.std.proofs.lemmas.Bool.{ltb-true, cond_both}
use Rattle.std.proofs.lemmas.List.Sums.{prefix_len-le-length}
use Rattle.c_lex.specs.declared.fault.Fault.TheVariants.{BadByte, NumberTooLarge}
use Rattle.c_lex.specs.declared.escape.Item.{Item}
use Rattle.c_lex.specs.declared.escape.Item.TheVariants.{Byte, Close, Wrong, Cut}
use Rattle.c_lex.specs.Bytes.{is_cut_off}
use Rattle.c_lex.specs.Digits.{is_digit_of}
use Rattle.c_lex.specs.Scan.Digits.{value_of}
use Rattle.c_lex.specs.Escape.{simple_escape, is_plain}
use Rattle.c_lex.specs.Scan.Escape.{numeric_escape, octal_count, hex_count, no_escape, hex_digits, hexadecimal_escape, digits_escape}
use Rattle.c_lex.specs.Scan.Escape.{simple_or, escape, item_at}
use Rattle.c_lex.specs.Scan.Words.{ItemFits}

-- an escape takes at least this many bytes and at most that many
abbrev pub IsBetween : ℕ → ℕ → Item → Type 0
IsBetween low high (Byte value bytes) = (low ≤ bytes) × (bytes ≤ high)
IsBetween low high Close = ⊥
IsBetween low high _ = Unit {0}

numeric-between : (value bytes low high : ℕ) → low ≤ bytes → bytes ≤ high → IsBetween low high (numeric_escape value bytes)
numeric-between value bytes low high some within =
    cond_both (leb value 255) (Byte value bytes) (Wrong NumberTooLarge) (IsBetween low high) (λ _. (some, within)) (λ _. tt)

simple-between : (found : Option ℕ) (other : Item) (high : ℕ) → 2 ≤ high → IsBetween 2 high other
    → IsBetween 2 high (simple_or found other)
simple-between None other high some within = within
simple-between (Some value) other high some within = (omega arith, some)

none-between : (rest : List ℕ) (high : ℕ) → IsBetween 2 high (no_escape rest)
none-between rest high = cond_both (is_cut_off rest) Cut (Wrong BadByte) (IsBetween 2 high) (λ _. tt) (λ _. tt)

hex-between : (rest : List ℕ) → IsBetween 2 (2 + length rest) (hex_digits rest)
hex-between rest =
    let count = hex_count rest in
    let value = value_of 16 (take count rest) in
    let limit = 2 + length rest in
    cond_both (ltb 0 count) (numeric_escape value (2 + count)) (no_escape rest) (IsBetween 2 limit)
    (λ _. numeric-between value (2 + count) 2 limit (omega arith) (omega (arith, prefix_len-le-length (is_digit_of 16) rest)))
    (λ _. none-between rest limit)

hexadecimal-between : (c : ℕ) (rest : List ℕ) → IsBetween 2 (2 + length rest) (hexadecimal_escape (c ∷ rest))
hexadecimal-between c rest =
    cond_both (eqb c 120) (hex_digits rest) (no_escape (c ∷ rest)) (IsBetween 2 (2 + length rest))
    (λ _. hex-between rest) (λ _. none-between (c ∷ rest) (2 + length rest))

digits-between : (c : ℕ) (rest : List ℕ) → IsBetween 2 (2 + length rest) (digits_escape (c ∷ rest))
digits-between c rest =
    let count = octal_count (c ∷ rest) in
    let value = value_of 8 (take count (c ∷ rest)) in
    let limit = 2 + length rest in
    cond_both (ltb 0 count) (numeric_escape value (1 + count)) (hexadecimal_escape (c ∷ rest)) (IsBetween 2 limit)
    (λ some. numeric-between value (1 + count) 2 limit (omega (arith, ltb-true 0 count some))
    (omega (arith, prefix_len-le-length (is_digit_of 8) (c ∷ rest))))
    (λ _. hexadecimal-between c rest)

-- an escape has its backslash and at least one byte more
pub escape-between : (rest : List ℕ) → IsBetween 2 (1 + length rest) (escape rest)
unfolding escape
escape-between [] = tt
escape-between (c ∷ rest) =
    let some : 1 + length (c ∷ rest) ≡ 2 + length rest = omega arith in
    rw some (simple-between (simple_escape c) (digits_escape (c ∷ rest)) (2 + length rest) (omega arith) (digits-between c rest))

fits-from_between : (found : Item) (high : ℕ) → IsBetween 2 high found → ItemFits found high
fits-from_between (Byte value bytes) high between = (omega arith, between.1)
fits-from_between Close high between = absurd between
fits-from_between (Wrong fault) high between = tt
fits-from_between Cut high between = tt

-- with its backslash, an escape takes no more bytes than there are
pub escape-fits : (rest : List ℕ) → ItemFits (escape rest) (1 + length rest)
escape-fits rest = fits-from_between (escape rest) (1 + length rest) (escape-between rest)

-- an escape by digits likewise
pub digits-fits : (rest : List ℕ) → ItemFits (digits_escape rest) (1 + length rest)
digits-fits [] = tt
digits-fits (c ∷ rest) =
    let some : 1 + length (c ∷ rest) ≡ 2 + length rest = omega arith in
    rw some (fits-from_between (digits_escape (c ∷ rest)) (2 + length rest) (digits-between c rest))

pub ruleset escape_fits = (escape-fits)

-- what stands at the front takes at least one byte and no more than there are
pub item_at-fits : (quote : ℕ) (rest : List ℕ) → ItemFits (item_at quote rest) (length rest)
unfolding item_at
item_at-fits quote [] = tt
item_at-fits quote (b ∷ rest) =
    let fits = λ (found : Item). ItemFits found (length (b ∷ rest)) in
    let plain = cond (is_plain quote b) (Byte b 1) (Wrong BadByte) in
    let other = cond (eqb b 92) (escape rest) plain in
    cond_both (eqb b 10) Cut (cond (eqb b quote) Close other) fits (λ _. tt)
    (λ _. cond_both (eqb b quote) Close other fits (λ _. omega arith)
    (λ _. cond_both (eqb b 92) (escape rest) plain fits (λ _.
    fits-from_between (escape rest) (length (b ∷ rest)) (rw one-add at (escape-between rest)))
    (λ _. cond_both (is_plain quote b) (Byte b 1) (Wrong BadByte) fits (λ _. (omega arith, omega arith)) (λ _. tt))))

pub ruleset item_fits = (item_at-fits)
