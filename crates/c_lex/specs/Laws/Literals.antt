-- A character and a string are spelled as the scanner reads them, and the other way.
use Rattle.std.proofs.Common.{◌≡◌, ℕ, zero, suc, ◌+◌, ◌-◌, ◌≤◌, List, [], ◌∷◌, length, drop, get_or, Bool, true, false, cond, ◌&&◌, eqb}
use Rattle.std.proofs.Common.{Some, None, refl, ap, subst, sym, ◌∙◌, arith, length-drop, get_or-drop, add-zero}
use Rattle.std.proofs.lemmas.Bool.{and_parts, eqb-true, eq-eqb}
use Rattle.c_lex.specs.declared.escape.Item.{Item}
use Rattle.c_lex.specs.declared.escape.Item.TheVariants.{Byte, Close, Wrong, Cut}
use Rattle.c_lex.specs.Scan.Escape.{item_at}
use Rattle.c_lex.specs.Written.{WrittenAt, IsCharacter, ClosesAfter, close, more, IsText}
use Rattle.c_lex.specs.Scan.Quoted.{Body, closed, wrong, cut, item_bytes, behind, body_with, body, closed_text, text_of, closed_character}
use Rattle.c_lex.specs.Scan.Quoted.{character_of}
use Rattle.c_lex.specs.Scan.Words.{ItemFits}
use Rattle.c_lex.specs.Laws.EscapeLaws.{item_at-fits}
use Rattle.c_lex.specs.Laws.EscapeFronts.{close-is}
use Rattle.c_lex.specs.Laws.TextLaws.{body-step}
use Rattle.c_lex.specs.Laws.Items.{byte-written, written-byte}

-- a list whose last byte is at a place
last-is : (n c : ℕ) (rest : List ℕ) → length rest ≡ n + 1 → get_or rest n 0 ≡ c → drop n rest ≡ c ∷ []
last-is zero c [] count is = absurd (omega (arith, count))
last-is zero c (x ∷ []) count is = ap (λ b. b ∷ []) is
last-is zero c (x ∷ y ∷ tail) count is = absurd (omega (arith, count))
last-is (suc n) c [] count is = absurd (omega (arith, count))
last-is (suc n) c (x ∷ rest) count is = last-is n c rest (omega (arith, count)) is

one_less : (b : ℕ) (rest : List ℕ) → length (b ∷ rest) - 1 ≡ length rest
one_less b rest = omega arith

-- ---- characters

abbrev ClosedAs : List ℕ → ℕ → Type 0
ClosedAs rest value = (count : ℕ) × WrittenAt 39 rest value count × (value ≤ 255) × (drop count rest ≡ 39 ∷ [])

closing : (value : ℕ) (rest : List ℕ) (found : Item) → item_at 39 rest ≡ found → closed_character found (length rest) rest ≡ Some value →
    ClosedAs rest value
closing value rest (Byte v n) is h = by_end (eqb (get_or rest n 0) 39 && eqb (length rest) (n + 1)) refl h
  where
    by_end : (e : Bool) → (eqb (get_or rest n 0) 39 && eqb (length rest) (n + 1)) ≡ e → cond e (Some v) None ≡ Some value
        → ClosedAs rest value
    by_end true ends h =
        let same : v ≡ value = cc in
        let parts = and_parts (eqb (get_or rest n 0) 39) (eqb (length rest) (n + 1)) ends in
        let written = byte-written 39 refl rest v n is in
        subst (ClosedAs rest) same
        (n, written.0, written.1, last-is n 39 rest (eqb-true (length rest) (n + 1) parts.1) (eqb-true (get_or rest n 0) 39 parts.0))
    by_end false ends h = cc
closing value rest Close is h = cc
closing value rest (Wrong fault) is h = cc
closing value rest Cut is h = cc

pub character-spelled : (value : ℕ) (bytes : List ℕ) → character_of bytes ≡ Some value → IsCharacter value bytes
character-spelled value [] is = cc
character-spelled value (b ∷ rest) is = by_quote (eqb b 39) refl is
  where
    by_quote : (q : Bool) → eqb b 39 ≡ q → cond q (closed_character (item_at 39 rest) (length (b ∷ rest) - 1) rest) None ≡ Some value →
        IsCharacter value (b ∷ rest)
    by_quote true quote h =
        let found = closing value rest (item_at 39 rest) refl
        (ap (λ n. closed_character (item_at 39 rest) n rest) (sym (one_less b rest)) ∙ h) in
        record {
          rest = rest;
          count = found.0;
          opens = ap (λ c. c ∷ rest) (eqb-true b 39 quote);
          written = found.1;
          small = found.2;
          closes = found.3;
        }
    by_quote false quote h = cc

of_parts : (value n : ℕ) (rest : List ℕ) → item_at 39 rest ≡ Byte value n → get_or rest n 0 ≡ 39 → length rest ≡ n + 1 →
    character_of (39 ∷ rest) ≡ Some value
of_parts value n rest found quote count = rw (one_less 39 rest, found, quote, count, eq-eqb (n + 1) (n + 1) refl) refl

pub spelled-character : (value : ℕ) (bytes : List ℕ) → IsCharacter value bytes → character_of bytes ≡ Some value
spelled-character value bytes c =
    let found : item_at 39 c.rest ≡ Byte value c.count = written-byte 39 refl c.rest value c.count c.written c.small in
    let first : get_or (drop c.count c.rest) 0 0 ≡ 39 = ap (λ l. get_or l 0 0) c.closes in
    let quote : get_or c.rest c.count 0 ≡ 39 = rw (get_or-drop, add-zero) at first in
    let count : length c.rest ≡ c.count + 1 = omega (arith, ap length c.closes, length-drop c.count c.rest, c.written.within) in
    subst (λ b. character_of b ≡ Some value) (sym c.opens) (of_parts value c.count c.rest found quote count)

-- ---- strings

closes_body : (rest values : List ℕ) (v n : ℕ) → n ≤ length rest → WrittenAt 34 rest v n → v ≤ 255 → (found : Body) →
    body (drop n rest) ≡ found → behind (v ∷ []) n found ≡ closed values (length rest) →
    ((others : List ℕ) → body (drop n rest) ≡ closed others (length (drop n rest)) → ClosesAfter others (drop n rest))
    → ClosesAfter values rest
closes_body rest values v n within written small (closed others place) is h later =
    let list : v ∷ others ≡ values = cc in
    let size : n + place ≡ length rest = cc in
    let left : place ≡ length (drop n rest) = omega (arith, size, length-drop n rest) in
    subst (λ l. ClosesAfter l rest) list (more v n written small (later others (is ∙ ap (closed others) left)))
closes_body rest values v n within written small (wrong fault place) is h later = cc
closes_body rest values v n within written small cut is h later = cc

closes_step : (rest values : List ℕ) (found : Item) → item_at 34 rest ≡ found →
    body_with found (body (drop (item_bytes found) rest)) ≡ closed values (length rest) →
    ((n : ℕ) (others : List ℕ) → 1 ≤ n → n ≤ length rest → body (drop n rest) ≡ closed others (length (drop n rest))
    → ClosesAfter others (drop n rest)) →
    ClosesAfter values rest
closes_step rest values (Byte v n) is h later =
    let fits : ItemFits (Byte v n) (length rest) = subst (λ found. ItemFits found (length rest)) is (item_at-fits 34 rest) in
    let written = byte-written 34 refl rest v n is in
    closes_body rest values v n fits.1 written.0 written.1 (body (drop n rest)) refl h (λ others goes. later n others fits.0 fits.1 goes)
closes_step rest values Close is h later =
    let none : [] ≡ values = cc in
    let size : 1 ≡ length rest = cc in
    let quote = (close-is 34 rest is).0 in
    subst (λ l. ClosesAfter l rest) none (close (last-is 0 34 rest (omega (arith, size)) quote))
closes_step rest values (Wrong fault) is h later = cc
closes_step rest values Cut is h later = cc

closes : (fuel : ℕ) (rest values : List ℕ) → length rest ≤ fuel → body rest ≡ closed values (length rest) → ClosesAfter values rest
closes zero rest values limit h =
    closes_step rest values (item_at 34 rest) refl (sym (body-step rest) ∙ h) (λ n others some within goes. absurd (omega arith))
closes (suc fuel) rest values limit h =
    closes_step rest values (item_at 34 rest) refl (sym (body-step rest) ∙ h)
    (λ n others some within goes. closes fuel (drop n rest) others (omega (arith, length-drop n rest)) goes)

alone : body (34 ∷ []) ≡ closed [] 1
unfolding body item_at
alone = refl

body-closes : (values rest : List ℕ) → ClosesAfter values rest → body rest ≡ closed values (length rest)
body-closes _ rest (close is) = subst (λ l. body l ≡ closed [] (length l)) (sym is) alone
body-closes _ rest (more {values = values} value count written small after) =
    let found : item_at 34 rest ≡ Byte value count = written-byte 34 refl rest value count written small in
    let left : count + length (drop count rest) ≡ length rest = omega (arith, length-drop count rest, written.within) in
    body-step rest
    ∙ ap (λ it. body_with it (body (drop (item_bytes it) rest))) found
    ∙ ap (behind (value ∷ []) count) (body-closes values (drop count rest) after)
    ∙ ap (closed (value ∷ values)) left

text_closed : (values rest : List ℕ) (found : Body) → closed_text found (length rest) ≡ Some values → found ≡ closed values (length rest)
text_closed values rest (closed others place) h = by_end (eqb place (length rest)) refl h
  where
    by_end : (e : Bool) → eqb place (length rest) ≡ e → cond e (Some others) None ≡ Some values
        → closed others place ≡ closed values (length rest)
    by_end true ends h =
        let same : others ≡ values = cc in
        rw (same, eqb-true place (length rest) ends) refl
    by_end false ends h = cc
text_closed values rest (wrong fault place) h = cc
text_closed values rest cut h = cc

pub text-spelled : (values bytes : List ℕ) → text_of bytes ≡ Some values → IsText values bytes
text-spelled values [] is = cc
text-spelled values (b ∷ rest) is = by_quote (eqb b 34) refl is
  where
    by_quote : (q : Bool) → eqb b 34 ≡ q → cond q (closed_text (body rest) (length (b ∷ rest) - 1)) None ≡ Some values
        → IsText values (b ∷ rest)
    by_quote true quote h =
        let whole = text_closed values rest (body rest) (ap (closed_text (body rest)) (sym (one_less b rest)) ∙ h) in
        record {
          rest = rest;
          opens = ap (λ c. c ∷ rest) (eqb-true b 34 quote);
          closes = closes (length rest) rest values (omega arith) whole;
        }
    by_quote false quote h = cc

of_body : (values rest : List ℕ) → body rest ≡ closed values (length rest) → text_of (34 ∷ rest) ≡ Some values
of_body values rest whole = rw (one_less 34 rest, whole, eq-eqb (length rest) (length rest) refl) refl

pub spelled-text : (values bytes : List ℕ) → IsText values bytes → text_of bytes ≡ Some values
spelled-text values bytes t =
    subst (λ b. text_of b ≡ Some values) (sym t.opens) (of_body values t.rest (body-closes values t.rest t.closes))
