-- The scanner finds the faults that the rules name, and no other.
use Rattle.std.proofs.Common.{◌≡◌, ◌≢◌, ℕ, zero, suc, ◌+◌, ◌-◌, ◌<◌, ◌≤◌, List, [], ◌∷◌, ◌++◌, length, take, drop, get_or, true, false}
use Rattle.std.proofs.Common.{cond, ◌||◌, eqb, leb, Option, Some, None, refl, ap, subst, sym, ◌∙◌, arith, length-drop, length-take-le}
use Rattle.std.proofs.Common.{drop-drop, get_or-drop, add-zero}
use Rattle.std.specs.List.{prefix_len}
use Rattle.std.specs.Char.{is_ascii_digit}
use Rattle.std.proofs.lemmas.Bool.{and_parts, cond_both, eqb-true, eqb-false, ne_eqb, or_parts, or_from, leb-true, false_from_ne_true}
use Rattle.c_ast.specs.Words.{punctuator_of}
use Rattle.c_ast.specs.declared.token.Lexeme.TheVariants as lexeme
use Rattle.c_ast.specs.declared.int_type.IntType.{IntType}
use Rattle.c_lex.specs.declared.fault.Fault.{Fault as Faults}
use Rattle.c_lex.specs.declared.fault.Fault.TheVariants.{BadByte, UnclosedText, UnclosedComment, NumberTooLarge, BadDirective}
use Rattle.c_lex.specs.declared.escape.Item.{Item}
use Rattle.c_lex.specs.declared.escape.Item.TheVariants.{Byte, Close, Wrong, Cut}
use Rattle.c_lex.specs.declared.reading.Line.{Line}
use Rattle.c_lex.specs.declared.reading.Line.TheVariants.{Clear, Spaced, Used}
use Rattle.c_lex.specs.declared.reading.Reading.{Reading}
use Rattle.c_lex.specs.declared.reading.Reading.TheVariants.{Gap, Token, Fault}
use Rattle.c_lex.specs.Bytes.{is_white, is_letter, is_in_line, is_cut_off}
use Rattle.c_lex.specs.Scan.Numeral.{numeral_at, is_numeral, fitting_bytes, numeral_value, numeral_type}
use Rattle.c_lex.specs.Scan.Escape.{item_at}
use Rattle.c_lex.specs.Scan.Quoted.{Body, closed, wrong, cut, item_bytes, behind, body_with, body}
use Rattle.c_lex.specs.Directive.{is_include_line, from_header}
use Rattle.c_lex.specs.Gap.{begins_line_comment, begins_block_comment, block_comment}
use Rattle.c_lex.specs.Faults.{is_cut, begins_other}
use Rattle.c_lex.specs.Laws.ScannedFaults.{IsWrong, AreItems, none, more, FaultAt, stray, unclosed_comment, unfit_number, large_number}
use Rattle.c_lex.specs.Laws.ScannedFaults.{wrong_in_text, unclosed_text, empty_character, wrong_in_character, long_character}
use Rattle.c_lex.specs.Laws.ScannedFaults.{unclosed_quote, unclosed_character}
use Rattle.c_lex.specs.Scan.Reading.{read_word, typed_number, read_number, closing_quote, character_from, read_character, text_from}
use Rattle.c_lex.specs.Scan.Reading.{read_text, include_or, read_directive, punctuator_or, punctuator_at, read_punctuator, read_token}
use Rattle.c_lex.specs.Scan.Reading.{comment_or, read}
use Rattle.c_lex.specs.Scan.Words.{ItemFits}
use Rattle.c_lex.specs.Laws.EscapeLaws.{item_at-fits}
use Rattle.c_lex.specs.Laws.LineFaults.{FaultOn, by_bytes, not_directive, spaced_directive, late_hash}
use Rattle.c_lex.specs.Laws.TextLaws.{IsReadTo, body-step, text-more, text-wrong, text-cut}
use Rattle.c_lex.specs.Laws.Classes.{class_of, white-class, digit-class, digit-is_no_letter, punctuator-short}
use Rattle.c_lex.specs.Laws.WordReads.{at_none}
use Rattle.c_lex.specs.Laws.ItemFaults.{EndsAs, item-ends, IsWrongAs, item-wrong, cut-item, close-item, wrong-item}

-- a fault that is read stands by a rule
abbrev Shows : List ℕ → Reading → Type 0
Shows rest (Fault what place) = FaultAt rest what place
Shows rest _ = Unit {0}

-- likewise on a line with this before it
abbrev ShowsOn : Line → List ℕ → Reading → Type 0
ShowsOn line rest (Fault what place) = FaultOn line rest what place
ShowsOn line rest _ = Unit {0}

on : (line : Line) (rest : List ℕ) (found : Reading) → Shows rest found → ShowsOn line rest found
on line rest (Gap n) shown = tt
on line rest (Token kind n) shown = tt
on line rest (Fault what place) shown = by_bytes shown

-- the byte at a place is the first from there on
first_at : (rest : List ℕ) (place : ℕ) → get_or (drop place rest) 0 0 ≡ get_or rest place 0
first_at rest place = rw (get_or-drop, add-zero) refl

-- ---- numbers

typed-shows : (b : ℕ) (rest : List ℕ) → is_ascii_digit b ≡ true → is_numeral (numeral_at (b ∷ rest)) ≡ true → (found : Option IntType)
    → numeral_type (numeral_at (b ∷ rest)) ≡ found →
    (value bytes : ℕ) → Shows (b ∷ rest) (typed_number value found bytes)
typed-shows b rest digit numeral None is value bytes = large_number digit numeral is
typed-shows b rest digit numeral (Some ty) is value bytes = tt

number-shows : (b : ℕ) (rest : List ℕ) → is_ascii_digit b ≡ true → Shows (b ∷ rest) (read_number (b ∷ rest))
unfolding read_number
number-shows b rest digit =
    let bytes = numeral_at (b ∷ rest) in
    cond_both (is_numeral bytes) (typed_number (numeral_value bytes) (numeral_type bytes) (length bytes))
    (Fault BadByte (fitting_bytes bytes)) (Shows (b ∷ rest))
    (λ numeral. typed-shows b rest digit numeral (numeral_type bytes) refl (numeral_value bytes) (length bytes))
    (λ unfit. unfit_number digit unfit)

-- ---- characters

closing-shows : (rest : List ℕ) (value bytes : ℕ) → item_at 39 rest ≡ Byte value bytes →
    Shows (39 ∷ rest) (closing_quote value (1 + bytes) (drop (1 + bytes) (39 ∷ rest)))
closing-shows rest value bytes first =
    let left = drop (1 + bytes) (39 ∷ rest) in
    cond_both (is_cut_off left) (Fault UnclosedText 0) (cond (eqb (get_or left 0 0) 39) (Token (lexeme.Character value) (1 + bytes + 1))
    (Fault BadByte (1 + bytes)))
    (Shows (39 ∷ rest)) (λ ends. unclosed_character refl first ends)
    (λ goes. cond_both (eqb (get_or left 0 0) 39) (Token (lexeme.Character value) (1 + bytes + 1)) (Fault BadByte (1 + bytes))
    (Shows (39 ∷ rest)) (λ _. tt)
    (λ other. long_character refl first (λ e. eqb-false (get_or left 0 0) 39 other (first_at (39 ∷ rest) (1 + bytes) ∙ e)) goes))

character_shows : (rest : List ℕ) (found : Item) → item_at 39 rest ≡ found → EndsAs 39 rest found → IsWrongAs 39 rest found
    → Shows (39 ∷ rest) (character_from found (39 ∷ rest))
character_shows rest (Byte value bytes) is ends bad = closing-shows rest value bytes is
character_shows rest Close is ends bad = empty_character refl ends
character_shows rest (Wrong fault) is ends bad = wrong_in_character refl bad
character_shows rest Cut is ends bad = unclosed_quote refl ends

character-shows : (rest : List ℕ) → Shows (39 ∷ rest) (read_character (39 ∷ rest))
unfolding read_character
character-shows rest = character_shows rest (item_at 39 rest) refl (item-ends 39 rest) (item-wrong 39 rest)

-- ---- texts

abbrev TextShows : List ℕ → ℕ → Body → Type 0
TextShows rest n (closed values place) = Unit {0}
TextShows rest n (wrong fault place) = AreItems 34 rest (n + place) × IsWrong 34 (drop (n + place) rest) fault
TextShows rest n cut = (m : ℕ) × AreItems 34 rest m × (is_cut (drop m rest) ≡ true)

shows_behind : (rest : List ℕ) (n value bytes : ℕ) (found : Body) → TextShows rest (n + bytes) found
    → TextShows rest n (behind (value ∷ []) bytes found)
shows_behind rest n value bytes (closed values place) shown = tt
shows_behind rest n value bytes (wrong fault place) shown =
    let sum : n + bytes + place ≡ n + (bytes + place) = omega arith in
    (subst (AreItems 34 rest) sum shown.0, subst (λ k. IsWrong 34 (drop k rest) fault) sum shown.1)
shows_behind rest n value bytes cut shown = shown

text_step : (n : ℕ) (rest : List ℕ) (found : Item) → item_at 34 (drop n rest) ≡ found → AreItems 34 rest n →
    ((bytes : ℕ) → 1 ≤ bytes → n + bytes ≤ length rest → AreItems 34 rest (n + bytes)
    → TextShows rest (n + bytes) (body (drop (n + bytes) rest))) →
    TextShows rest n (body_with found (body (drop (item_bytes found) (drop n rest))))
text_step n rest (Byte value bytes) is items later =
    let fits : ItemFits (Byte value bytes) (length (drop n rest)) = subst (λ found. ItemFits found (length (drop n rest))) is
    (item_at-fits 34 (drop n rest)) in
    let room : n + bytes ≤ length rest = omega (arith, fits.0, fits.1, length-drop n rest) in
    shows_behind rest n value bytes (body (drop bytes (drop n rest)))
    (subst (λ w. TextShows rest (n + bytes) (body w)) (sym (drop-drop bytes n rest)) (later bytes fits.0 room (more value bytes items is)))
text_step n rest Close is items later = tt
text_step n rest (Wrong fault) is items later =
    let bad : IsWrong 34 (drop n rest) fault = subst (IsWrongAs 34 (drop n rest)) is (item-wrong 34 (drop n rest)) in
    (rw add-zero items, rw add-zero bad)
text_step n rest Cut is items later = (n, items, subst (EndsAs 34 (drop n rest)) is (item-ends 34 (drop n rest)))

text_shows : (fuel n : ℕ) (rest : List ℕ) → length rest ≤ n + fuel → AreItems 34 rest n → TextShows rest n (body (drop n rest))
text_shows zero n rest limit items =
    subst (TextShows rest n) (sym (body-step (drop n rest)))
    (text_step n rest (item_at 34 (drop n rest)) refl items (λ bytes some room goes. absurd (omega arith)))
text_shows (suc fuel) n rest limit items =
    subst (TextShows rest n) (sym (body-step (drop n rest)))
    (text_step n rest (item_at 34 (drop n rest)) refl items (λ bytes some room goes. text_shows fuel (n + bytes) rest (omega arith) goes))

from_body : (rest : List ℕ) (found : Body) → TextShows rest 0 found → Shows (34 ∷ rest) (text_from found)
from_body rest (closed values place) shown = tt
from_body rest (wrong fault place) shown =
    let sum : 0 + place ≡ place = omega arith in
    let next : drop place rest ≡ drop (1 + place) (34 ∷ rest) = drop-drop place 1 (34 ∷ rest) in
    wrong_in_text refl (subst (AreItems 34 rest) sum shown.0)
    (subst (λ w. IsWrong 34 w fault) next (subst (λ k. IsWrong 34 (drop k rest) fault) sum shown.1))
from_body rest cut shown =
    let next : drop shown.0 rest ≡ drop (1 + shown.0) (34 ∷ rest) = drop-drop shown.0 1 (34 ∷ rest) in
    unclosed_text refl shown.1 (ap is_cut (sym next) ∙ shown.2)

text-shows : (rest : List ℕ) → Shows (34 ∷ rest) (read_text (34 ∷ rest))
unfolding read_text
text-shows rest = from_body rest (body rest) (text_shows (length rest) 0 rest (omega arith) none)

-- ---- directives and punctuators

directive-shows : (line : Line) (rest : List ℕ) → ShowsOn line (35 ∷ rest) (read_directive line (35 ∷ rest))
unfolding read_directive
directive-shows Used rest = late_hash refl refl
directive-shows Spaced rest = spaced_directive refl refl
directive-shows Clear rest =
    cond_both (is_include_line (35 ∷ rest)) (Some (length (35 ∷ rest) - length (drop 9 (from_header (35 ∷ rest))))) None
    (λ found. ShowsOn Clear (35 ∷ rest) (include_or found))
    (λ _. tt) (λ other. not_directive refl refl other)

module _ (rest : List ℕ) (one : punctuator_at 1 rest ≡ None) (two : punctuator_at 2 rest ≡ None)
    (three : punctuator_at 3 rest ≡ None) where
  none_of : (bytes : ℕ) → bytes ≤ length rest → (found : Option ℕ) → punctuator_of (take bytes rest) ≡ found
      → punctuator_of (take bytes rest) ≡ None
  unfolding punctuator_of
  none_of bytes within None is = is
  none_of zero within (Some number) is = refl
  none_of (suc zero) within (Some number) is = at_none 1 rest one within
  none_of (suc (suc zero)) within (Some number) is = at_none 2 rest two within
  none_of (suc (suc (suc zero))) within (Some number) is = at_none 3 rest three within
  none_of (suc (suc (suc (suc n)))) within (Some number) is =
      let count = length-take-le (suc (suc (suc (suc n)))) rest within in
      absurd (omega (arith, punctuator-short (take (suc (suc (suc (suc n)))) rest) number is, count))

  no_punctuator : (bytes : ℕ) → bytes ≤ length rest → punctuator_of (take bytes rest) ≡ None
  no_punctuator bytes within = none_of bytes within (punctuator_of (take bytes rest)) refl

punctuator-shows : (rest : List ℕ) → ((bytes : ℕ) → punctuator_at 1 rest ≡ None → punctuator_at 2 rest ≡ None → punctuator_at 3 rest ≡ None
    → FaultAt rest BadByte 0) → Shows rest (read_punctuator rest)
unfolding read_punctuator
punctuator-shows rest faulty = three (punctuator_at 3 rest) refl
  where
    one : (found : Option ℕ) → punctuator_at 1 rest ≡ found → punctuator_at 2 rest ≡ None → punctuator_at 3 rest ≡ None
        → Shows rest (punctuator_or found 1 (Fault BadByte 0))
    one None is none2 none3 = faulty 0 is none2 none3
    one (Some number) is none2 none3 = tt

    two : (found : Option ℕ) → punctuator_at 2 rest ≡ found → punctuator_at 3 rest ≡ None
        → Shows rest (punctuator_or found 2 (punctuator_or (punctuator_at 1 rest) 1 (Fault BadByte 0)))
    two None is none3 = one (punctuator_at 1 rest) refl is none3
    two (Some number) is none3 = tt

    three : (found : Option ℕ) → punctuator_at 3 rest ≡ found
        → Shows rest (punctuator_or found 3 (punctuator_or (punctuator_at 2 rest) 2
        (punctuator_or (punctuator_at 1 rest) 1 (Fault BadByte 0))))
    three None is = two (punctuator_at 2 rest) refl is
    three (Some number) is = tt

-- ---- all

word-shows : (rest : List ℕ) → Shows rest (read_word rest)
unfolding read_word
word-shows rest = tt

token-shows : (line : Line) (b : ℕ) (rest : List ℕ) → is_white b ≡ false
    → (begins_line_comment (b ∷ rest) || begins_block_comment (b ∷ rest)) ≡ false → ShowsOn line (b ∷ rest) (read_token line b (b ∷ rest))
unfolding read_token
token-shows line b rest white apart =
    let P = ShowsOn line (b ∷ rest) in
    let text = b ∷ rest in
    let mark = cond (eqb b 35) (read_directive line text) (read_punctuator text) in
    let quotes = cond (eqb b 34) (read_text text) mark in
    let quote = cond (eqb b 39) (read_character text) quotes in
    let number = cond (is_ascii_digit b) (read_number text) quote in
    cond_both (is_letter b) (read_word text) number P (λ _. on line text (read_word text) (word-shows text))
    (λ letter. cond_both (is_ascii_digit b) (read_number text) quote P
    (λ digit. on line text (read_number text) (number-shows b rest digit))
    (λ digit. cond_both (eqb b 39) (read_character text) quotes P
    (λ is. on line text (read_character text) (subst (λ c. Shows (c ∷ rest) (read_character (c ∷ rest))) (sym (eqb-true b 39 is))
    (character-shows rest)))
    (λ single. cond_both (eqb b 34) (read_text text) mark P (λ is.
    on line text (read_text text) (subst (λ c. Shows (c ∷ rest) (read_text (c ∷ rest))) (sym (eqb-true b 34 is)) (text-shows rest)))
    (λ double. cond_both (eqb b 35) (read_directive line text) (read_punctuator text) P
    (λ is. subst (λ c. ShowsOn line (c ∷ rest) (read_directive line (c ∷ rest))) (sym (eqb-true b 35 is)) (directive-shows line rest))
    (λ hash. on line text (read_punctuator text) (punctuator-shows text
    (λ _ one two three. stray (omega arith) (or_from _ _ white
    (or_from _ _ letter (or_from _ _ digit (or_from _ _ single (or_from _ _ double hash))))) apart
    (no_punctuator text one two three))))))))

comment-shows : (rest : List ℕ) → begins_block_comment rest ≡ true → (found : Option ℕ) → block_comment rest ≡ found
    → Shows rest (comment_or found)
comment-shows rest begins None is = unclosed_comment begins is
comment-shows rest begins (Some bytes) is = tt

shows : (line : Line) (b : ℕ) (rest : List ℕ) → ShowsOn line (b ∷ rest) (read line (b ∷ rest))
unfolding read
shows line b rest =
    let P = ShowsOn line (b ∷ rest) in
    let text = b ∷ rest in
    let token = read_token line b text in
    let comment = cond (begins_block_comment text) (comment_or (block_comment text)) token in
    cond_both (is_white b) (Gap 1) (cond (begins_line_comment text) (Gap (prefix_len is_in_line text)) comment) P (λ _. tt)
    (λ white. cond_both (begins_line_comment text) (Gap (prefix_len is_in_line text)) comment P (λ _. tt)
    (λ lined. cond_both (begins_block_comment text) (comment_or (block_comment text)) token P
    (λ blocked. on line text (comment_or (block_comment text)) (comment-shows text blocked (block_comment text) refl))
    (λ blocked. token-shows line b rest white (or_from _ _ lined blocked))))

-- each fault that is read is one by a rule
pub read-fault : (line : Line) (rest : List ℕ) (what : Faults) (place : ℕ) → 0 < length rest → read line rest ≡ Fault what place
    → FaultOn line rest what place
read-fault line [] what place some is = absurd (omega arith)
read-fault line (b ∷ rest) what place some is = subst (ShowsOn line (b ∷ rest)) is (shows line b rest)

-- ---- and the other way

front_some : (rest : List ℕ) (c : ℕ) → 0 < c → get_or rest 0 0 ≡ c → 0 < length rest
front_some [] c some is = absurd (omega arith)
front_some (b ∷ rest) c some is = omega arith

-- a byte that a name, a number, a quote or a `#` begins with begins no gap
no_gap : (line : Line) (b : ℕ) (rest : List ℕ) → (class_of b ≡ 5 → ⊥) → read line (b ∷ rest) ≡ read_token line b (b ∷ rest)
unfolding read
no_gap line b rest other =
    let white : is_white b ≡ false = false_from_ne_true (is_white b) (λ w. other (white-class b w)) in
    let slash : eqb b 47 ≡ false = ne_eqb b 47 (λ e. other (ap class_of e)) in
    rw (white, slash) refl

number-read : (line : Line) (rest : List ℕ) → is_ascii_digit (get_or rest 0 0) ≡ true → read line rest ≡ read_number rest
unfolding read_token
number-read line [] digit = cc
number-read line (b ∷ rest) digit =
    no_gap line b rest (λ class. let clash : 1 ≡ 5 = sym (digit-class b digit) ∙ class in omega arith)
    ∙ rw (digit-is_no_letter b digit, digit) refl

character-read : (line : Line) (rest : List ℕ) → get_or rest 0 0 ≡ 39 → read line rest ≡ read_character rest
unfolding read read_token
character-read line [] is = absurd (omega arith)
character-read line (b ∷ rest) is = subst (λ c. read line (c ∷ rest) ≡ read_character (c ∷ rest)) (sym is) refl

text-read : (line : Line) (rest : List ℕ) → get_or rest 0 0 ≡ 34 → read line rest ≡ read_text rest
unfolding read read_token
text-read line [] is = absurd (omega arith)
text-read line (b ∷ rest) is = subst (λ c. read line (c ∷ rest) ≡ read_text (c ∷ rest)) (sym is) refl

directive-read : (line : Line) (rest : List ℕ) → get_or rest 0 0 ≡ 35 → read line rest ≡ read_directive line rest
unfolding read read_token
directive-read line [] is = absurd (omega arith)
directive-read line (b ∷ rest) is = subst (λ c. read line (c ∷ rest) ≡ read_directive line (c ∷ rest)) (sym is) refl

-- a text is read up to the place behind its items
behind_none : (found : Body) → found ≡ behind [] 0 found
behind_none (closed values place) = let sum : 0 + place ≡ place = omega arith in rw sum refl
behind_none (wrong fault place) = let sum : 0 + place ≡ place = omega arith in rw sum refl
behind_none cut = refl

items-read : (rest : List ℕ) (n : ℕ) → 0 < length rest → AreItems 34 (drop 1 rest) n → (values : List ℕ) × IsReadTo rest values (1 + n)
items-read rest _ some none = ([], record { some = omega arith; within = omega arith; goes_on = behind_none (body (drop 1 rest)) })
items-read rest _ some (more {place = place} value bytes items is) =
    let before = items-read rest place some items in
    let here : item_at 34 (drop (1 + place) rest) ≡ Byte value bytes = ap (item_at 34) (sym (drop-drop place 1 rest)) ∙ is in
    let fits : ItemFits (Byte value bytes) (length (drop (1 + place) rest)) = subst
    (λ found. ItemFits found (length (drop (1 + place) rest))) here (item_at-fits 34 (drop (1 + place) rest)) in
    let sum : 1 + place + bytes ≡ 1 + (place + bytes) = omega arith in
    let room : 1 + place + bytes ≤ length rest = omega (arith, fits.0, fits.1, length-drop (1 + place) rest) in (
      before.0 ++ value ∷ [],
      subst (λ k. IsReadTo rest (before.0 ++ value ∷ []) k) sum
          (text-more rest before.0 (1 + place) before.1 value bytes here room),
    )

-- a character whose first item is a byte goes on with what stands behind it
long-read : (rest : List ℕ) (value bytes : ℕ) → item_at 39 (drop 1 rest) ≡ Byte value bytes
    → read_character rest ≡ closing_quote value (1 + bytes) (drop (1 + bytes) rest)
unfolding read_character
long-read rest value bytes is = rw is refl

neither-read : (rest : List ℕ) (value place : ℕ) → get_or rest 0 0 ≢ 39 → is_cut_off rest ≡ false
    → closing_quote value place rest ≡ Fault BadByte place
neither-read rest value place other goes = rw (goes, ne_eqb (get_or rest 0 0) 39 other) refl

ended-read : (rest : List ℕ) (value place : ℕ) → is_cut_off rest ≡ true → closing_quote value place rest ≡ Fault UnclosedText 0
ended-read rest value place ends = rw ends refl

empty-read : (rest : List ℕ) → get_or (drop 1 rest) 0 0 ≡ 39 → read_character rest ≡ Fault BadByte 1
unfolding read_character
empty-read rest is = rw (close-item (drop 1 rest) is) refl

wrong-read : (rest : List ℕ) (what : Faults) → IsWrong 39 (drop 1 rest) what → read_character rest ≡ Fault what 1
unfolding read_character
wrong-read rest what bad = rw (wrong-item 39 refl (drop 1 rest) what bad) refl

quote-read : (rest : List ℕ) → is_cut (drop 1 rest) ≡ true → read_character rest ≡ Fault UnclosedText 0
unfolding read_character
quote-read rest ends = rw (cut-item 39 refl (drop 1 rest) ends) refl

unfit-read : (rest : List ℕ) → is_numeral (numeral_at rest) ≡ false → read_number rest ≡ Fault BadByte (fitting_bytes (numeral_at rest))
unfolding read_number
unfit-read rest unfit = rw unfit refl

large-read : (rest : List ℕ) → is_numeral (numeral_at rest) ≡ true → numeral_type (numeral_at rest) ≡ None
    → read_number rest ≡ Fault NumberTooLarge 0
unfolding read_number
large-read rest numeral large = rw (numeral, large) refl

clear-read : (line : Line) (rest : List ℕ) → line ≡ Clear → is_include_line rest ≡ false → read_directive line rest ≡ Fault BadDirective 0
unfolding read_directive
clear-read Clear rest is other = rw other refl
clear-read Spaced rest is other = cc
clear-read Used rest is other = cc

spaced-read : (line : Line) (rest : List ℕ) → line ≡ Spaced → read_directive line rest ≡ Fault BadDirective 0
unfolding read_directive
spaced-read Clear rest is = cc
spaced-read Spaced rest is = refl
spaced-read Used rest is = cc

used-read : (line : Line) (rest : List ℕ) → line ≡ Used → read_directive line rest ≡ Fault BadByte 0
unfolding read_directive
used-read Clear rest is = cc
used-read Spaced rest is = cc
used-read Used rest is = refl

comment-read : (line : Line) (rest : List ℕ) → begins_block_comment rest ≡ true → block_comment rest ≡ None
    → read line rest ≡ Fault UnclosedComment 0
unfolding read
comment-read line [] begins open_end = cc
comment-read line (b ∷ rest) begins open_end =
    let parts = and_parts (eqb b 47) (eqb (get_or rest 0 0) 42) begins in
    let slash : b ≡ 47 = eqb-true b 47 parts.0 in
    let star : get_or rest 0 0 ≡ 42 = eqb-true (get_or rest 0 0) 42 parts.1 in
    rw (open_end, slash, star) refl

none-at : (rest : List ℕ) → ((bytes : ℕ) → bytes ≤ length rest → punctuator_of (take bytes rest) ≡ None) → (bytes : ℕ)
    → punctuator_at bytes rest ≡ None
none-at rest never bytes =
    cond_both (leb bytes (length rest)) (punctuator_of (take bytes rest)) None (λ found. found ≡ None)
    (λ within. never bytes (leb-true bytes (length rest) within)) (λ _. refl)

stray-read : (line : Line) (rest : List ℕ) → 0 < length rest → begins_other (get_or rest 0 0) ≡ false
    → (begins_line_comment rest || begins_block_comment rest) ≡ false →
    ((bytes : ℕ) → bytes ≤ length rest → punctuator_of (take bytes rest) ≡ None) → read line rest ≡ Fault BadByte 0
unfolding read read_token read_punctuator
stray-read line [] some other apart never = absurd (omega arith)
stray-read line (b ∷ rest) some other apart never =
    let white = or_parts (is_white b) (is_letter b || (is_ascii_digit b || (eqb b 39 || (eqb b 34 || eqb b 35)))) other in
    let letter = or_parts (is_letter b) (is_ascii_digit b || (eqb b 39 || (eqb b 34 || eqb b 35))) white.1 in
    let digit = or_parts (is_ascii_digit b) (eqb b 39 || (eqb b 34 || eqb b 35)) letter.1 in
    let single = or_parts (eqb b 39) (eqb b 34 || eqb b 35) digit.1 in
    let double = or_parts (eqb b 34) (eqb b 35) single.1 in
    let comments = or_parts (begins_line_comment (b ∷ rest)) (begins_block_comment (b ∷ rest)) apart in
    rw (
      white.0,
      comments.0,
      comments.1,
      letter.0,
      digit.0,
      single.0,
      double.0,
      double.1,
      none-at (b ∷ rest) never 3,
      none-at (b ∷ rest) never 2,
      none-at (b ∷ rest) never 1,
    ) refl

-- each fault by a rule stands in a text that is not empty
bytes-some : (rest : List ℕ) (what : Faults) (place : ℕ) → FaultAt rest what place → 0 < length rest
bytes-some rest _ _ (stray some other apart never) = some
bytes-some [] _ _ (unclosed_comment begins open_end) = cc
bytes-some (b ∷ rest) _ _ (unclosed_comment begins open_end) = omega arith
bytes-some [] _ _ (unfit_number digit unfit) = cc
bytes-some (b ∷ rest) _ _ (unfit_number digit unfit) = omega arith
bytes-some [] _ _ (large_number digit numeral large) = cc
bytes-some (b ∷ rest) _ _ (large_number digit numeral large) = omega arith
bytes-some rest _ _ (wrong_in_text is items bad) = front_some rest 34 (omega arith) is
bytes-some rest _ _ (unclosed_text is items ends) = front_some rest 34 (omega arith) is
bytes-some rest _ _ (empty_character is next) = front_some rest 39 (omega arith) is
bytes-some rest _ _ (wrong_in_character is bad) = front_some rest 39 (omega arith) is
bytes-some rest _ _ (long_character is first other goes) = front_some rest 39 (omega arith) is
bytes-some rest _ _ (unclosed_quote is ends) = front_some rest 39 (omega arith) is
bytes-some rest _ _ (unclosed_character is first ends) = front_some rest 39 (omega arith) is

pub fault-some : (line : Line) (rest : List ℕ) (what : Faults) (place : ℕ) → FaultOn line rest what place → 0 < length rest
fault-some line rest what place (by_bytes fault) = bytes-some rest what place fault
fault-some line rest _ _ (not_directive is clear other) = front_some rest 35 (omega arith) is
fault-some line rest _ _ (spaced_directive is spaced) = front_some rest 35 (omega arith) is
fault-some line rest _ _ (late_hash is used) = front_some rest 35 (omega arith) is

-- each fault by a rule is read
bytes-read : (line : Line) (rest : List ℕ) (what : Faults) (place : ℕ) → FaultAt rest what place → read line rest ≡ Fault what place
bytes-read line rest _ _ (stray some other apart never) = stray-read line rest some other apart never
bytes-read line rest _ _ (unclosed_comment begins open_end) = comment-read line rest begins open_end
bytes-read line rest _ _ (unfit_number digit unfit) = number-read line rest digit ∙ unfit-read rest unfit
bytes-read line rest _ _ (large_number digit numeral large) = number-read line rest digit ∙ large-read rest numeral large
bytes-read line rest _ _ (wrong_in_text {what = what} {place = place} is items bad) =
    let before = items-read rest place (front_some rest 34 (omega arith) is) items in
    text-read line rest is ∙ text-wrong rest before.0 (1 + place) before.1 what (wrong-item 34 refl (drop (1 + place) rest) what bad)
bytes-read line rest _ _ (unclosed_text {place = place} is items ends) =
    let before = items-read rest place (front_some rest 34 (omega arith) is) items in
    text-read line rest is ∙ text-cut rest before.0 (1 + place) before.1 (cut-item 34 refl (drop (1 + place) rest) ends)
bytes-read line rest _ _ (empty_character is next) = character-read line rest is ∙ empty-read rest (first_at rest 1 ∙ next)
bytes-read line rest _ _ (wrong_in_character {what = what} is bad) = character-read line rest is ∙ wrong-read rest what bad
bytes-read line rest _ _ (long_character {value = value} {bytes = bytes} is first other goes) =
    character-read line rest is ∙ long-read rest value bytes first
    ∙ neither-read (drop (1 + bytes) rest) value (1 + bytes) (λ e. other (sym (first_at rest (1 + bytes)) ∙ e)) goes
bytes-read line rest _ _ (unclosed_quote is ends) = character-read line rest is ∙ quote-read rest ends
bytes-read line rest _ _ (unclosed_character {value = value} {bytes = bytes} is first ends) =
    character-read line rest is ∙ long-read rest value bytes first ∙ ended-read (drop (1 + bytes) rest) value (1 + bytes) ends

pub fault-read : (line : Line) (rest : List ℕ) (what : Faults) (place : ℕ) → FaultOn line rest what place
    → read line rest ≡ Fault what place
fault-read line rest what place (by_bytes fault) = bytes-read line rest what place fault
fault-read line rest _ _ (not_directive is clear other) = directive-read line rest is ∙ clear-read line rest clear other
fault-read line rest _ _ (spaced_directive is spaced) = directive-read line rest is ∙ spaced-read line rest spaced
fault-read line rest _ _ (late_hash is used) = directive-read line rest is ∙ used-read line rest used
