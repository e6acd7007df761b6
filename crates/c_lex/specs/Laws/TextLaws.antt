-- Laws of texts.
use Rattle.std.proofs.Common.{◌≡◌, ℕ, zero, suc, ◌+◌, ◌-◌, ◌≤◌, List, [], ◌∷◌, ◌++◌, length, drop, refl, ap, sym, ◌∙◌, arith, append_assoc}
use Rattle.std.proofs.Common.{append-nil, add_assoc, drop-drop}
use Rattle.c_ast.specs.declared.token.Lexeme.TheVariants as lexeme
use Rattle.c_lex.specs.declared.fault.Fault.{Fault}
use Rattle.c_lex.specs.declared.fault.Fault.TheVariants.{UnclosedText}
use Rattle.c_lex.specs.declared.escape.Item.{Item}
use Rattle.c_lex.specs.declared.escape.Item.TheVariants.{Byte, Close, Wrong, Cut}
use Rattle.c_lex.specs.declared.reading.Reading.TheVariants as reading
use Rattle.c_lex.specs.Scan.Escape.{item_at}
use Rattle.c_lex.specs.Scan.Quoted.{Body, closed, wrong, cut, item_bytes, behind, body_with, body_from, body}
use Rattle.c_lex.specs.Scan.Reading.{text_from, read_text}
use Rattle.c_lex.specs.Scan.Words.{ItemFits}
use Rattle.c_lex.specs.Laws.EscapeLaws.{item_at-fits}

body_from-drop : (left : ℕ) (rest : List ℕ) → body_from left rest ≡ body_from 0 (drop left rest)
body_from-drop zero rest = refl
body_from-drop (suc left) [] = refl
body_from-drop (suc left) (b ∷ rest) = body_from-drop left rest

with_rest : (found : Item) (limit b : ℕ) (rest : List ℕ) → ItemFits found limit →
    body_with found (body_from (item_bytes found - 1) rest) ≡ body_with found (body_from 0 (drop (item_bytes found) (b ∷ rest)))
with_rest (Byte value zero) limit b rest fits = absurd (omega (arith, fits.0))
with_rest (Byte value (suc bytes)) limit b rest fits =
    let one_less : suc bytes - 1 ≡ bytes = omega arith in
    rw one_less (ap (λ more. behind (value ∷ []) (suc bytes) more) (body_from-drop bytes rest))
with_rest Close limit b rest fits = refl
with_rest (Wrong fault) limit b rest fits = refl
with_rest Cut limit b rest fits = refl

-- a text is what stands at its front, and then the text behind that
pub body-step : (rest : List ℕ) → body rest ≡ body_with (item_at 34 rest) (body (drop (item_bytes (item_at 34 rest)) rest))
unfolding body item_at
body-step [] = refl
body-step (b ∷ rest) = with_rest (item_at 34 (b ∷ rest)) (length (b ∷ rest)) b rest (item_at-fits 34 (b ∷ rest))

-- one part behind another
pub behind-behind : (some more : List ℕ) (m n : ℕ) (found : Body)
    → behind some m (behind more n found) ≡ behind (some ++ more) (m + n) found
behind-behind some more m n (closed values place) =
    let lists = append_assoc some more values in
    let places = add_assoc m n place in
    rw (lists, places) refl
behind-behind some more m n (wrong fault place) = ap (wrong fault) (sym (add_assoc m n place))
behind-behind some more m n cut = refl

-- what is read so far of a text, and what is left of it
pub record IsReadTo (text values : List ℕ) (place : ℕ) : Type 0 where
  pub some : 1 ≤ place
  pub within : place ≤ length text
  pub goes_on : body (drop 1 text) ≡ behind values (place - 1) (body (drop place text))

module _ (text values : List ℕ) (place : ℕ) (so_far : IsReadTo text values place) where
  -- the text by what stands at the place
  at_place : (found : Item) → item_at 34 (drop place text) ≡ found →
      body (drop 1 text) ≡ behind values (place - 1) (body_with found (body (drop (item_bytes found) (drop place text))))
  at_place found is = so_far.goes_on ∙ ap (behind values (place - 1))
      (body-step (drop place text) ∙ ap (λ it. body_with it (body (drop (item_bytes it) (drop place text)))) is)

  pub text-more : (value bytes : ℕ) → item_at 34 (drop place text) ≡ Byte value bytes → place + bytes ≤ length text
      → IsReadTo text (values ++ value ∷ []) (place + bytes)
  text-more value bytes is within = record {
    some = omega (arith, so_far.some);
    within = within;
    goes_on =
        at_place (Byte value bytes) is
        ∙ behind-behind values (value ∷ []) (place - 1) bytes (body (drop bytes (drop place text)))
        ∙ (let sum : place - 1 + bytes ≡ place + bytes - 1 = omega (arith, so_far.some) in
        rw (sum, drop-drop) refl);
  }

  pub text-closed : item_at 34 (drop place text) ≡ Close → read_text text ≡ reading.Token (lexeme.Text values) (place + 1)
  unfolding read_text
  text-closed is =
      let end : 1 + (place - 1 + 1) ≡ place + 1 = omega (arith, so_far.some) in
      ap text_from (at_place Close is) ∙ rw (append-nil values, end) refl

  pub text-wrong : (fault : Fault) → item_at 34 (drop place text) ≡ Wrong fault → read_text text ≡ reading.Fault fault place
  unfolding read_text
  text-wrong fault is =
      let end : 1 + (place - 1 + 0) ≡ place = omega (arith, so_far.some) in
      ap text_from (at_place (Wrong fault) is) ∙ rw end refl

  pub text-cut : item_at 34 (drop place text) ≡ Cut → read_text text ≡ reading.Fault UnclosedText 0
  unfolding read_text
  text-cut is = ap text_from (at_place Cut is)
