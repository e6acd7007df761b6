-- Characters and texts are read as they are spelled.
use Rattle.std.proofs.Common.{◌≡◌, ℕ, zero, suc, ◌+◌, ◌-◌, ◌<◌, ◌≤◌, List, [], ◌∷◌, length, take, drop, get_or, cond, eqb, Some, None}
use Rattle.std.proofs.Common.{refl, ap, ◌∙◌, arith, length-take-le, length-drop, get_or-drop, get_or-take, add-zero}
use Rattle.std.proofs.Math.Numerals.{one-add}
use Rattle.std.proofs.lemmas.Bool.{eq-eqb, ne_eqb, cond_both, eqb-true}
use Rattle.c_ast.specs.declared.token.Lexeme.{Lexeme}
use Rattle.c_ast.specs.declared.token.Lexeme.TheVariants as lexeme
use Rattle.c_lex.specs.declared.escape.Item.{Item}
use Rattle.c_lex.specs.declared.escape.Item.TheVariants.{Byte, Close, Wrong, Cut}
use Rattle.c_lex.specs.declared.fault.Fault.TheVariants.{BadByte, UnclosedText}
use Rattle.c_lex.specs.declared.reading.Reading.TheVariants.{Token, Fault}
use Rattle.c_lex.specs.Bytes.{is_cut_off}
use Rattle.c_lex.specs.Scan.Escape.{item_at}
use Rattle.c_lex.specs.Scan.Quoted.{Body, closed, wrong, cut, body, text_of, character_of}
use Rattle.c_lex.specs.Laws.Scanned.{Scans}
use Rattle.c_lex.specs.Scan.Reading.{closing_quote, character_from, read_character, text_from, read_text}
use Rattle.c_lex.specs.Scan.Words.{ItemFits}
use Rattle.c_lex.specs.Laws.EscapeLaws.{item_at-fits}
use Rattle.c_lex.specs.Laws.EscapeFronts.{item-front}
use Rattle.c_lex.specs.Laws.BodyFronts.{BodyFits, body-fits, body-front}
use Rattle.c_lex.specs.Laws.Classes.{front-class, character-bytes, text-bytes}
use Rattle.c_lex.specs.Laws.Tells.{IsToken, Tells}

-- ---- characters

some_left : (rest : List ℕ) → get_or rest 0 0 ≡ 39 → 1 ≤ length rest
some_left [] is = absurd (omega arith)
some_left (b ∷ rest) is = omega arith

module _ (rest : List ℕ) (value bytes : ℕ) (first : item_at 39 rest ≡ Byte value bytes) (last : get_or (drop bytes rest) 0 0 ≡ 39) where
  quote_there : get_or rest bytes 0 ≡ 39
  quote_there = rw (get_or-drop, add-zero) at last

  room : bytes + 1 ≤ length rest
  room = omega (arith, some_left (drop bytes rest) last, length-drop bytes rest)

  -- a front spells the character just where it ends behind the closing quote
  front_character : (m : ℕ) → bytes + 1 ≤ m → m ≤ length rest
      → character_of (39 ∷ take m rest) ≡ cond (eqb m (bytes + 1)) (Some value) None
  front_character m holds within =
      let same : item_at 39 (take m rest) ≡ Byte value bytes = item-front 39 m rest value bytes first (omega arith) in
      let quote : get_or (take m rest) bytes 0 ≡ 39 = get_or-take m rest bytes 0 (omega arith) ∙ quote_there in
      let count : length (39 ∷ take m rest) - 1 ≡ m = omega (arith, length-take-le m rest within) in
      rw (same, count, quote) refl

  pub character_token : IsToken (39 ∷ rest) (lexeme.Character value) (suc (bytes + 1))
  unfolding Scans
  character_token = record {
    some = omega arith;
    within = omega (arith, room);
    spells = front_character (bytes + 1) (omega arith) room ∙ ap (λ c. cond c (Some value) None) (eq-eqb (bytes + 1) (bytes + 1) refl);
    longest = λ more other longer within spells. longest more other longer within spells;
  }
    where
      longest : (more : ℕ) (other : Lexeme) → suc (bytes + 1) < more → more ≤ length (39 ∷ rest) → Scans other (take more (39 ∷ rest)) → ⊥
      longest zero other longer within spells = omega arith
      longest (suc m) other longer within spells =
          character-bytes other (39 ∷ take m rest) (front-class (39 ∷ rest) (suc m) 2 other refl (omega arith) spells) spells
          (front_character m (omega arith) (omega arith) ∙ ap (λ c. cond c (Some value) None) (ne_eqb m (bytes + 1) (λ e. omega arith)))

closing_tells : (rest : List ℕ) (value bytes : ℕ) → item_at 39 rest ≡ Byte value bytes → bytes ≤ length rest →
    Tells (39 ∷ rest) (closing_quote value (1 + bytes) (drop bytes rest))
closing_tells rest value bytes first fits =
    let left = drop bytes rest in
    let found = cond (eqb (get_or left 0 0) 39) (Token (lexeme.Character value) (1 + bytes + 1)) (Fault BadByte (1 + bytes)) in
    cond_both (is_cut_off left) (Fault UnclosedText 0) found (Tells (39 ∷ rest)) (λ _. omega arith)
    (λ goes. cond_both (eqb (get_or left 0 0) 39) (Token (lexeme.Character value) (1 + bytes + 1)) (Fault BadByte (1 + bytes))
    (Tells (39 ∷ rest))
    (λ quote. let end : 1 + bytes + 1 ≡ suc (bytes + 1) = omega arith in
    rw end (character_token rest value bytes first (eqb-true (get_or left 0 0) 39 quote)))
    (λ _. omega arith))

character_tells : (rest : List ℕ) (found : Item) → item_at 39 rest ≡ found → ItemFits found (length rest)
    → Tells (39 ∷ rest) (character_from found (39 ∷ rest))
character_tells rest (Byte value bytes) is fits = rw one-add (rw one-add at (closing_tells rest value bytes is fits.1))
character_tells rest Close is fits = omega arith
character_tells rest (Wrong fault) is fits = omega arith
character_tells rest Cut is fits = omega arith

pub character-tells : (rest : List ℕ) → Tells (39 ∷ rest) (read_character (39 ∷ rest))
unfolding read_character
character-tells rest = character_tells rest (item_at 39 rest) refl (item_at-fits 39 rest)

-- ---- texts

module _ (rest values : List ℕ) (place : ℕ) (whole : body rest ≡ closed values place) (some : 1 ≤ place) (room : place ≤ length rest) where
  -- a front spells the text just where it ends behind the closing quote
  front_text : (m : ℕ) → place ≤ m → m ≤ length rest → text_of (34 ∷ take m rest) ≡ cond (eqb place m) (Some values) None
  front_text m holds within =
      let same : body (take m rest) ≡ closed values place = body-front m rest values place whole holds in
      let count : length (34 ∷ take m rest) - 1 ≡ m = omega (arith, length-take-le m rest within) in
      rw (same, count) refl

  pub text_token : IsToken (34 ∷ rest) (lexeme.Text values) (suc place)
  unfolding Scans
  text_token = record {
    some = omega arith;
    within = omega (arith, room);
    spells = front_text place (omega arith) room ∙ ap (λ c. cond c (Some values) None) (eq-eqb place place refl);
    longest = λ more other longer within spells. longest more other longer within spells;
  }
    where
      longest : (more : ℕ) (other : Lexeme) → suc place < more → more ≤ length (34 ∷ rest) → Scans other (take more (34 ∷ rest)) → ⊥
      longest zero other longer within spells = omega arith
      longest (suc m) other longer within spells =
          text-bytes other (34 ∷ take m rest) (front-class (34 ∷ rest) (suc m) 3 other refl (omega arith) spells) spells
          (front_text m (omega arith) (omega arith) ∙ ap (λ c. cond c (Some values) None) (ne_eqb place m (λ e. omega arith)))

text_tells : (rest : List ℕ) (found : Body) → body rest ≡ found → BodyFits 0 (length rest) found → Tells (34 ∷ rest) (text_from found)
text_tells rest (closed values place) is fits = rw one-add (text_token rest values place is fits.0 (omega (arith, fits.1)))
text_tells rest (wrong fault place) is fits = omega arith
text_tells rest cut is fits = omega arith

pub text-tells : (rest : List ℕ) → Tells (34 ∷ rest) (read_text (34 ∷ rest))
unfolding read_text
text-tells rest = text_tells rest (body rest) refl (body-fits rest)
