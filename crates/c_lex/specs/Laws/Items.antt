-- What the scanner finds between quotes is what is written there.
use Rattle.std.proofs.Common.{◌≡◌, ◌≢◌, ℕ, zero, suc, ◌+◌, ◌-◌, ◌<◌, ◌≤◌, List, [], ◌∷◌, length, take, get_or, Bool, true, false, cond}
use Rattle.std.proofs.Common.{◌&&◌, ◌||◌, eqb, leb, ltb, Option, Some, None, refl, ap, subst, sym, ◌∙◌, arith, length-take-le, ⊎_elim}
use Rattle.std.proofs.lemmas.Bool.{cond_both, eqb-true, eqb-false, ltb-true, ltb-false, leb-true, leb-false, or_cases, and_parts}
use Rattle.std.proofs.lemmas.Bool.{both_ways}
use Rattle.std.proofs.lemmas.Bool.{false_from_ne_true, cases_lt}
use Rattle.std.proofs.lemmas.List.{get_or-take}
use Rattle.std.proofs.lemmas.List.Sums.{prefix_len-le-length}
use Rattle.c_lex.specs.declared.fault.Fault.TheVariants.{BadByte, UnclosedText, UnclosedComment, NumberTooLarge, BadDirective}
use Rattle.c_lex.specs.declared.escape.Item.{Item}
use Rattle.c_lex.specs.declared.escape.Item.TheVariants.{Byte, Close, Wrong, Cut}
use Rattle.c_lex.specs.Bytes.{is_cut_off}
use Rattle.c_lex.specs.Digits.{is_digit_of, number_of}
use Rattle.c_lex.specs.Scan.Digits.{value_of}
use Rattle.c_lex.specs.Escape.{simple_escape}
use Rattle.c_lex.specs.Scan.Escape.{numeric_escape, octal_count, hex_count, no_escape, hex_digits, hexadecimal_escape, digits_escape}
use Rattle.c_lex.specs.Escape.{is_plain}
use Rattle.c_lex.specs.Scan.Escape.{simple_or, escape, item_at}
use Rattle.c_lex.specs.Written.{Writes, plain, simple, octal, hexadecimal, WrittenAt, IsUnwritten}
use Rattle.c_lex.specs.Faults.{is_cut}
use Rattle.c_lex.specs.Laws.DigitValues.{value_of-number_of}
use Rattle.c_lex.specs.Laws.Slices.{list_all-front, list_all-take}
use Rattle.c_lex.specs.Laws.Escapes.{IsEscape, by_letter, by_octal, by_hexadecimal, escape-written, written-escape, letter-only}
use Rattle.c_lex.specs.Laws.Escapes.{octal-only}
use Rattle.c_lex.specs.Laws.Escapes.{hexadecimal-only, nothing-only}
use Rattle.c_lex.specs.Laws.ItemFaults.{EndsAs, item-ends, cut-item}

-- these bytes write the value, no more do, and each front that writes one is as long at most, and writes this one if it is as long
pub record IsBest (quote : ℕ) (rest : List ℕ) (value bytes : ℕ) : Type 0 where
  pub within : bytes ≤ length rest
  pub writes : Writes quote value (take bytes rest)
  pub best : (more other : ℕ) → more ≤ length rest → Writes quote other (take more rest) → (more ≤ bytes) × (more ≡ bytes → other ≡ value)

-- what an item says of what is written
abbrev pub Tells : ℕ → List ℕ → Item → Type 0
Tells quote rest (Byte value bytes) = IsBest quote rest value bytes × (value ≤ 255)
Tells quote rest (Wrong NumberTooLarge) = (value : ℕ) × (bytes : ℕ) × IsBest quote rest value bytes × (255 < value)
Tells quote rest (Wrong BadByte) = IsUnwritten quote rest
Tells quote rest (Wrong UnclosedText) = ⊥
Tells quote rest (Wrong UnclosedComment) = ⊥
Tells quote rest (Wrong BadDirective) = ⊥
Tells quote rest Close = IsUnwritten quote rest
Tells quote rest Cut = IsUnwritten quote rest

-- ---- without a backslash

written-some : {quote value : ℕ} {bytes : List ℕ} → Writes quote value bytes → 1 ≤ length bytes
written-some (plain is other bare shown) = omega (arith, ap length is)
written-some (simple is letter) = omega (arith, ap length is)
written-some (octal is digits some few value_is) = omega (arith, ap length is)
written-some (hexadecimal is digits some value_is) = omega (arith, ap length is)

-- what stands for a byte alone
record IsAlone (quote b bytes value : ℕ) : Type 0 where
  one : bytes ≡ 1
  same : value ≡ b
  other : b ≢ quote
  shown : is_plain quote b ≡ true

alone : (quote b bytes value : ℕ) (rest : List ℕ) → b ≢ 92 → bytes ≤ length (b ∷ rest) → Writes quote value (take bytes (b ∷ rest))
    → IsAlone quote b bytes value
alone quote b bytes value rest bare within writes = by_case writes
  where
    count : length (take bytes (b ∷ rest)) ≡ bytes
    count = length-take-le bytes (b ∷ rest) within

    first : get_or (take bytes (b ∷ rest)) 0 0 ≡ b
    first = get_or-take bytes (b ∷ rest) 0 0 (omega (arith, written-some writes, count))

    by_case : Writes quote value (take bytes (b ∷ rest)) → IsAlone quote b bytes value
    by_case (plain is other slash shown) =
        let same : value ≡ b = sym (ap (λ l. get_or l 0 0) is) ∙ first in
        record {
          one = omega (arith, ap length is, count);
          same = same;
          other = λ e. other (same ∙ e);
          shown = ap (is_plain quote) (sym same) ∙ shown;
        }
    by_case (simple is letter) = absurd (bare (sym first ∙ ap (λ l. get_or l 0 0) is))
    by_case (octal is digits some few value_is) = absurd (bare (sym first ∙ ap (λ l. get_or l 0 0) is))
    by_case (hexadecimal is digits some value_is) = absurd (bare (sym first ∙ ap (λ l. get_or l 0 0) is))

none_empty : (quote : ℕ) → IsUnwritten quote []
none_empty quote bytes value within writes = omega (arith, written-some writes, length-take-le {A = ℕ} bytes [] within)

plain-best : (quote b : ℕ) (rest : List ℕ) → b ≢ 92 → b ≢ quote → is_plain quote b ≡ true → IsBest quote (b ∷ rest) b 1
plain-best quote b rest bare other shown = record {
  within = omega arith;
  writes = plain refl other bare shown;
  best = λ more value within writes. let is = alone quote b more value rest bare within writes in (omega (arith, is.one), λ _. is.same);
}

-- no newline is plain, and what is plain is a byte
line-not_plain : (quote : ℕ) → is_plain quote 10 ≡ false
line-not_plain quote = by_quote (eqb quote 34)
  where
    by_quote : (q : Bool) → ((leb 32 10 && leb 10 126) || (q && leb 128 10 && leb 10 255)) ≡ false
    by_quote true = refl
    by_quote false = refl

plain-small : (quote b : ℕ) → is_plain quote b ≡ true → b ≤ 255
plain-small quote b shown =
    ⊎_elim (λ ascii. omega (arith, leb-true b 126 (and_parts (leb 32 b) (leb b 126) ascii).1))
    (λ high. leb-true b 255 (and_parts (eqb quote 34 && leb 128 b) (leb b 255) high).1)
    (or_cases (leb 32 b && leb b 126) (eqb quote 34 && leb 128 b && leb b 255) shown)

-- the value of a simple escape is a byte
letter-small : (b value : ℕ) → simple_escape b ≡ Some value → value ≤ 255
letter-small b value is =
    let P = λ (found : Option ℕ). found ≡ Some value → value ≤ 255 in
    let mark = cond (eqb b 92 || eqb b 39 || eqb b 34 || eqb b 63) (Some b) None in
    let v = cond (eqb b 118) (Some 11) mark in
    let t = cond (eqb b 116) (Some 9) v in
    let r = cond (eqb b 114) (Some 13) t in
    let n = cond (eqb b 110) (Some 10) r in
    let f = cond (eqb b 102) (Some 12) n in
    let bell = cond (eqb b 98) (Some 8) f in
    cond_both (eqb b 97) (Some 7) bell P (λ _. at 7 (omega arith))
    (λ _. cond_both (eqb b 98) (Some 8) f P (λ _. at 8 (omega arith))
    (λ _. cond_both (eqb b 102) (Some 12) n P (λ _. at 12 (omega arith))
    (λ _. cond_both (eqb b 110) (Some 10) r P (λ _. at 10 (omega arith))
    (λ _. cond_both (eqb b 114) (Some 13) t P (λ _. at 13 (omega arith))
    (λ _. cond_both (eqb b 116) (Some 9) v P (λ _. at 9 (omega arith))
    (λ _. cond_both (eqb b 118) (Some 11) mark P (λ _. at 11 (omega arith))
    (λ _. cond_both (eqb b 92 || eqb b 39 || eqb b 34 || eqb b 63) (Some b) None P (λ one. at b (mark-small one))
    (λ _ h. cc)))))))) is
  where
    at : (n : ℕ) → n ≤ 255 → Some n ≡ Some value → value ≤ 255
    at n small h = let same : n ≡ value = cc in omega (arith, same)

    mark-small : (eqb b 92 || eqb b 39 || eqb b 34 || eqb b 63) ≡ true → b ≤ 255
    mark-small one =
        ⊎_elim (λ three. ⊎_elim (λ two. ⊎_elim (λ slash. omega (arith, eqb-true b 92 slash))
        (λ single. omega (arith, eqb-true b 39 single))
        (or_cases (eqb b 92) (eqb b 39) two)) (λ double. omega (arith, eqb-true b 34 double))
        (or_cases (eqb b 92 || eqb b 39) (eqb b 34) three))
        (λ question. omega (arith, eqb-true b 63 question)) (or_cases (eqb b 92 || eqb b 39 || eqb b 34) (eqb b 63) one)

-- ---- behind a backslash

module _ (quote : ℕ) where
  -- what is written with a backslash, by the bytes behind it
  behind_slash : (more value : ℕ) (rest : List ℕ) → more ≤ length (92 ∷ rest) → Writes quote value (take more (92 ∷ rest)) →
      (1 ≤ more) × IsEscape value (more - 1) rest × (more - 1 ≤ length rest)
  behind_slash zero value rest within writes = absurd (omega (arith, written-some writes, length-take-le 0 (92 ∷ rest) within))
  behind_slash (suc n) value rest within writes =
      let one_less : suc n - 1 ≡ n = omega arith in
      rw one_less (omega arith, escape-written quote value n rest (omega arith) writes, omega arith)

  slash-best : (value bytes : ℕ) (rest : List ℕ) → bytes ≤ length rest → IsEscape value bytes rest →
      ((more other : ℕ) → more ≤ length rest → IsEscape other more rest → (more ≤ bytes) × (more ≡ bytes → other ≡ value)) →
      IsBest quote (92 ∷ rest) value (suc bytes)
  slash-best value bytes rest within is best = record {
    within = omega arith;
    writes = written-escape quote value bytes rest within is;
    best = λ more other inside writes.
        let behind = behind_slash more other rest inside writes in
        let least = best (more - 1) other behind.2 behind.1 in
        (omega (arith, behind.0, least.0), λ same. least.1 (omega (arith, same)));
  }

  slash-none : (rest : List ℕ) → ((more other : ℕ) → more ≤ length rest → IsEscape other more rest → ⊥) → IsUnwritten quote (92 ∷ rest)
  slash-none rest never more other inside writes =
      let behind = behind_slash more other rest inside writes in never (more - 1) other behind.2 behind.1

  numeric-tells : (rest : List ℕ) (value bytes : ℕ) → IsBest quote rest value bytes → Tells quote rest (numeric_escape value bytes)
  numeric-tells rest value bytes best =
      cond_both (leb value 255) (Byte value bytes) (Wrong NumberTooLarge) (Tells quote rest)
      (λ small. (best, leb-true value 255 small)) (λ large. (value, bytes, best, omega (arith, leb-false value 255 large)))

  none-tells : (rest more : List ℕ) → IsUnwritten quote (92 ∷ rest) → Tells quote (92 ∷ rest) (no_escape more)
  none-tells rest more never = cond_both (is_cut_off more) Cut (Wrong BadByte) (Tells quote (92 ∷ rest)) (λ _. never) (λ _. never)

  letter-tells : (value : ℕ) (rest : List ℕ) → simple_escape (get_or rest 0 0) ≡ Some value → value ≤ 255
      → Tells quote (92 ∷ rest) (Byte value 2)
  letter-tells value [] letter small = cc
  letter-tells value (b ∷ rest) letter small = (
    slash-best value 1 (b ∷ rest) (omega arith) (by_letter refl letter)
        (λ more other within is. let only = letter-only value other more (b ∷ rest) within letter is in
        (omega (arith, only.0), λ _. only.1)),
    small,
  )

  octal-tells : (rest : List ℕ) → 0 < octal_count rest → Tells quote (92
      ∷ rest) (numeric_escape (value_of 8 (take (octal_count rest) rest)) (1 + octal_count rest))
  octal-tells rest some =
      let count = octal_count rest in
      let value = number_of 8 (take count rest) in
      let within : count ≤ length rest = omega (arith, prefix_len-le-length (is_digit_of 8) rest) in
      let next : 1 + count ≡ suc count = omega arith in
      rw (next, value_of-number_of 8 (take count rest))
      (numeric-tells (92 ∷ rest) value (suc count)
      (slash-best value count rest within (by_octal (list_all-take (is_digit_of 8) 3 rest) some (omega arith) refl)
      (λ more other inside is. let only = octal-only other more rest inside some is in
      (only.0, λ same. only.1 ∙ ap (λ n. number_of 8 (take n rest)) same))))

  hex-tells : (rest : List ℕ) → Tells quote (92 ∷ 120 ∷ rest) (hex_digits rest)
  hex-tells rest = by_count (ltb 0 (hex_count rest)) refl
    where
      count : ℕ
      count = hex_count rest

      within : count ≤ length rest
      within = prefix_len-le-length (is_digit_of 16) rest

      best : 0 < count → IsBest quote (92 ∷ 120 ∷ rest) (number_of 16 (take count rest)) (suc (suc count))
      best some = slash-best (number_of 16 (take count rest)) (suc count) (120 ∷ rest) (omega (arith, within))
          (by_hexadecimal refl (list_all-front (is_digit_of 16) rest) (omega (arith, length-take-le count rest within, some)) refl)
          (λ more other inside is. let only = hexadecimal-only other more rest (omega arith) is in
          (omega (arith, only.1), λ same. only.2 ∙ ap (λ n. number_of 16 (take n rest)) (omega (arith, same))))

      by_count : (d : Bool) → ltb 0 count ≡ d → Tells quote (92 ∷ 120 ∷ rest)
          (cond d (numeric_escape (value_of 16 (take count rest)) (2 + count)) (no_escape rest))
      by_count true is =
          let next : 2 + count ≡ suc (suc count) = omega arith in
          rw (next, value_of-number_of 16 (take count rest)) (numeric-tells (92 ∷ 120 ∷ rest) _ _ (best (ltb-true 0 count is)))
      by_count false is =
          none-tells (120 ∷ rest) rest (slash-none (120 ∷ rest) (λ more other inside found.
          let only = hexadecimal-only other more rest (omega arith) found in omega (arith, ltb-false 0 count is, only.0, only.1)))

  x-tells : (rest : List ℕ) → simple_escape (get_or rest 0 0) ≡ None → octal_count rest ≡ 0
      → Tells quote (92 ∷ rest) (hexadecimal_escape rest)
  x-tells [] letter octals = slash-none [] (λ more other inside found. nothing-only other more [] inside letter octals refl found)
  x-tells (c ∷ rest) letter octals = by_x (eqb c 120) refl
    where
      by_x : (x : Bool) → eqb c 120 ≡ x → Tells quote (92 ∷ c ∷ rest) (cond x (hex_digits rest) (no_escape (c ∷ rest)))
      by_x true is = subst (λ b. Tells quote (92 ∷ b ∷ rest) (hex_digits rest)) (sym (eqb-true c 120 is)) (hex-tells rest)
      by_x false is =
          none-tells (c ∷ rest) (c ∷ rest) (slash-none (c ∷ rest) (λ more other inside found.
          nothing-only other more (c ∷ rest) inside letter octals (rw is refl) found))

  escape-tells : (rest : List ℕ) → Tells quote (92 ∷ rest) (escape rest)
  unfolding escape
  escape-tells rest = by_letter_of (simple_escape (get_or rest 0 0)) refl
    where
      by_letter_of : (found : Option ℕ) → simple_escape (get_or rest 0 0) ≡ found
          → Tells quote (92 ∷ rest) (simple_or found (digits_escape rest))
      by_letter_of (Some value) is = letter-tells value rest is (letter-small (get_or rest 0 0) value is)
      by_letter_of None is =
          cond_both (ltb 0 (octal_count rest)) (numeric_escape (value_of 8 (take (octal_count rest) rest)) (1 + octal_count rest))
          (hexadecimal_escape rest) (Tells quote (92 ∷ rest))
          (λ some. octal-tells rest (ltb-true 0 (octal_count rest) some))
          (λ none. x-tells rest is (omega (arith, ltb-false 0 (octal_count rest) none)))

-- ---- between quotes

bare-none : (quote b : ℕ) (rest : List ℕ) → b ≢ 92 → (b ≢ quote → is_plain quote b ≡ true → ⊥) → IsUnwritten quote (b ∷ rest)
bare-none quote b rest bare never bytes value within writes =
    let is = alone quote b bytes value rest bare within writes in never is.other is.shown

pub item-tells : (quote : ℕ) → eqb 92 quote ≡ false → (rest : List ℕ) → Tells quote rest (item_at quote rest)
unfolding item_at
item-tells quote usual [] = none_empty quote
item-tells quote usual (b ∷ rest) =
    let P = Tells quote (b ∷ rest) in
    let shown = cond (is_plain quote b) (Byte b 1) (Wrong BadByte) in
    let other = cond (eqb b 92) (escape rest) shown in
    cond_both (eqb b 10) Cut (cond (eqb b quote) Close other) P
    (λ line. let newline : b ≡ 10 = eqb-true b 10 line in
    bare-none quote b rest (λ e. omega (arith, newline, e)) (λ _ plain.
    both_ways (is_plain quote b) (ap (is_plain quote) newline ∙ line-not_plain quote) plain))
    (λ line. cond_both (eqb b quote) Close other P
    (λ end. let same : b ≡ quote = eqb-true b quote end in
    bare-none quote b rest (λ e. eqb-false 92 quote usual (sym e ∙ same)) (λ differs _. differs same))
    (λ more. cond_both (eqb b 92) (escape rest) shown P
    (λ slash. subst (λ c. Tells quote (c ∷ rest) (escape rest)) (sym (eqb-true b 92 slash)) (escape-tells quote rest))
    (λ bare. cond_both (is_plain quote b) (Byte b 1) (Wrong BadByte) P
    (λ plain. (plain-best quote b rest (eqb-false b 92 bare) (eqb-false b quote more) plain, plain-small quote b plain))
    (λ odd. bare-none quote b rest (eqb-false b 92 bare) (λ _ plain. both_ways (is_plain quote b) odd plain)))))

-- ---- and so each is found

best-written : {quote : ℕ} {rest : List ℕ} {value bytes : ℕ} → IsBest quote rest value bytes → WrittenAt quote rest value bytes
best-written best = record {
  within = best.within;
  writes = best.writes;
  longest = λ more other longer within writes. omega (arith, (best.best more other within writes).0);
}

-- of two the one is the other
written-one : {quote : ℕ} {rest : List ℕ} {value bytes other more : ℕ} → IsBest quote rest value bytes → WrittenAt quote rest other more →
    (bytes ≡ more) × (value ≡ other)
written-one {quote = quote} {rest = rest} {value = value} {bytes = bytes} {other = other} {more = more} best written =
    let least = best.best more other written.within written.writes in
    let same : more ≡ bytes = ⊎_elim (λ less. absurd (written.longest bytes value less best.within best.writes))
    (λ no_less. omega (arith, least.0))
    (cases_lt more bytes) in
    (sym same, sym (least.1 same))

module _ (quote : ℕ) (usual : eqb 92 quote ≡ false) (rest : List ℕ) where
  told : (found : Item) → item_at quote rest ≡ found → Tells quote rest found
  told found is = subst (Tells quote rest) is (item-tells quote usual rest)

  pub byte-written : (value bytes : ℕ) → item_at quote rest ≡ Byte value bytes → WrittenAt quote rest value bytes × (value ≤ 255)
  byte-written value bytes is = let best = told (Byte value bytes) is in (best-written best.0, best.1)

  pub large-written : item_at quote rest ≡ Wrong NumberTooLarge
      → (value : ℕ) × (bytes : ℕ) × WrittenAt quote rest value bytes × (255 < value)
  large-written is = let best = told (Wrong NumberTooLarge) is in (best.0, best.1, best-written best.2, best.3)

  pub bad-unwritten : item_at quote rest ≡ Wrong BadByte → IsUnwritten quote rest × (is_cut rest ≡ false)
  bad-unwritten is = (
    told (Wrong BadByte) is,
    false_from_ne_true (is_cut rest)
        (λ cut. let clash : Wrong BadByte ≡ Cut = sym is ∙ cut-item quote usual rest cut in cc),
  )

  -- what is written is found, as a byte or as too large
  found_written : (value bytes : ℕ) → WrittenAt quote rest value bytes → (found : Item) → Tells quote rest found →
      (value ≤ 255 → found ≡ Byte value bytes) × (255 < value → found ≡ Wrong NumberTooLarge)
  found_written value bytes written (Byte other n) best =
      let same = written-one best.0 written in
      ((λ small. rw (same.0, same.1) refl), (λ large. absurd (omega (arith, large, best.1, same.1))))
  found_written value bytes written (Wrong NumberTooLarge) best =
      let same = written-one best.2 written in
      ((λ small. absurd (omega (arith, small, best.3, same.1))), (λ large. refl))
  found_written value bytes written (Wrong BadByte) never = absurd (never bytes value written.within written.writes)
  found_written value bytes written (Wrong UnclosedText) never = absurd never
  found_written value bytes written (Wrong UnclosedComment) never = absurd never
  found_written value bytes written (Wrong BadDirective) never = absurd never
  found_written value bytes written Close never = absurd (never bytes value written.within written.writes)
  found_written value bytes written Cut never = absurd (never bytes value written.within written.writes)

  pub written-byte : (value bytes : ℕ) → WrittenAt quote rest value bytes → value ≤ 255 → item_at quote rest ≡ Byte value bytes
  written-byte value bytes written small = (found_written value bytes written (item_at quote rest) (item-tells quote usual rest)).0 small

  pub written-large : (value bytes : ℕ) → WrittenAt quote rest value bytes → 255 < value → item_at quote rest ≡ Wrong NumberTooLarge
  written-large value bytes written large = (found_written value bytes written (item_at quote rest) (item-tells quote usual rest)).1 large

  found_unwritten : IsUnwritten quote rest → get_or rest 0 0 ≢ quote → is_cut rest ≡ false → (found : Item) → Tells quote rest found
      → EndsAs quote rest found →
      found ≡ Wrong BadByte
  found_unwritten never other goes (Byte value n) best ends = absurd (never n value best.0.within best.0.writes)
  found_unwritten never other goes (Wrong NumberTooLarge) best ends = absurd (never best.1 best.0 best.2.within best.2.writes)
  found_unwritten never other goes (Wrong BadByte) told ends = refl
  found_unwritten never other goes (Wrong UnclosedText) told ends = absurd told
  found_unwritten never other goes (Wrong UnclosedComment) told ends = absurd told
  found_unwritten never other goes (Wrong BadDirective) told ends = absurd told
  found_unwritten never other goes Close told ends = absurd (other ends)
  found_unwritten never other goes Cut told ends = absurd (both_ways (is_cut rest) goes ends)

  pub unwritten-bad : IsUnwritten quote rest → get_or rest 0 0 ≢ quote → is_cut rest ≡ false → item_at quote rest ≡ Wrong BadByte
  unwritten-bad never other goes =
      found_unwritten never other goes (item_at quote rest) (item-tells quote usual rest) (item-ends quote rest)
