-- A text is the same in each front that holds its closing quote.
use Rattle.std.proofs.Common.{◌≡◌, ℕ, zero, suc, ◌+◌, ◌-◌, ◌≤◌, List, [], ◌∷◌, length, take, refl, arith}
use Rattle.c_lex.specs.declared.escape.Item.{Item}
use Rattle.c_lex.specs.declared.escape.Item.TheVariants.{Byte, Close, Wrong, Cut}
use Rattle.c_lex.specs.Scan.Escape.{item_at}
use Rattle.c_lex.specs.Scan.Quoted.{Body, closed, wrong, cut, item_bytes, behind, body_with, body_from, body}
use Rattle.c_lex.specs.Scan.Words.{ItemFits}
use Rattle.c_lex.specs.Laws.EscapeLaws.{item_at-fits}
use Rattle.c_lex.specs.Laws.EscapeFronts.{item-front, close-front}

-- what is told of a text lies within these bytes, the first of which are left of an item
abbrev pub BodyFits : ℕ → ℕ → Body → Type 0
BodyFits left limit (closed values place) = (1 ≤ place) × (left + place ≤ limit)
BodyFits left limit (wrong fault place) = left + place ≤ limit
BodyFits left limit cut = Unit {0}

fits_later : (left limit : ℕ) (found : Body) → BodyFits left limit found → BodyFits (suc left) (suc limit) found
fits_later left limit (closed values place) fits = (fits.0, omega arith)
fits_later left limit (wrong fault place) fits = omega arith
fits_later left limit cut fits = tt

fits_behind : (value bytes limit : ℕ) (found : Body) → 1 ≤ bytes → bytes ≤ suc limit → BodyFits (bytes - 1) limit found
    → BodyFits 0 (suc limit) (behind (value ∷ []) bytes found)
fits_behind value bytes limit (closed values place) some within fits = (omega arith, omega arith)
fits_behind value bytes limit (wrong fault place) some within fits = omega arith
fits_behind value bytes limit cut some within fits = tt

fits_with : (found : Item) (limit : ℕ) (later : Body) → ItemFits found (suc limit) → BodyFits (item_bytes found - 1) limit later
    → BodyFits 0 (suc limit) (body_with found later)
fits_with (Byte value bytes) limit later item fits = fits_behind value bytes limit later item.0 item.1 fits
fits_with Close limit later item fits = (omega arith, omega arith)
fits_with (Wrong fault) limit later item fits = omega arith
fits_with Cut limit later item fits = tt

body_from-fits : (left : ℕ) (rest : List ℕ) → BodyFits left (length rest) (body_from left rest)
body_from-fits zero [] = tt
body_from-fits (suc left) [] = tt
body_from-fits (suc left) (b ∷ rest) = fits_later left (length rest) (body_from left rest) (body_from-fits left rest)
body_from-fits zero (b ∷ rest) =
    let found = item_at 34 (b ∷ rest) in
    fits_with found (length rest) (body_from (item_bytes found - 1) rest) (item_at-fits 34 (b ∷ rest))
    (body_from-fits (item_bytes found - 1) rest)

pub body-fits : (rest : List ℕ) → BodyFits 0 (length rest) (body rest)
unfolding body
body-fits rest = body_from-fits 0 rest

-- what is behind an item is closed where the whole is
closed_behind : (value bytes place : ℕ) (values : List ℕ) (found goes : Body) → behind (value ∷ []) bytes found ≡ closed values place →
    ((more : List ℕ) (n : ℕ) → found ≡ closed more n → bytes + n ≡ place → goes ≡ closed more n)
    → behind (value ∷ []) bytes goes ≡ closed values place
closed_behind value bytes place values (closed more n) goes h later =
    let end : bytes + n ≡ place = cc in
    rw (later more n refl end) h
closed_behind value bytes place values (wrong fault n) goes h later = cc
closed_behind value bytes place values cut goes h later = cc

with_front : (b m : ℕ) (rest values : List ℕ) (place : ℕ) (found : Item) → item_at 34 (b ∷ rest) ≡ found
    → ItemFits found (length (b ∷ rest)) →
    body_with found (body_from (item_bytes found - 1) rest) ≡ closed values place → place ≤ suc m →
    ((left : ℕ) (more : List ℕ) (n : ℕ) → body_from left rest ≡ closed more n → left + n ≤ m
    → body_from left (take m rest) ≡ closed more n) →
    body_from 0 (b ∷ take m rest) ≡ closed values place
with_front b m rest values place (Byte value bytes) is fits h within later =
    let placed : bytes ≤ suc m = omega (arith, behind_least value bytes place values (body_from (bytes - 1) rest) h) in
    let same : item_at 34 (b ∷ take m rest) ≡ Byte value bytes = item-front 34 (suc m) (b ∷ rest) value bytes is placed in
    rw same (closed_behind value bytes place values (body_from (bytes - 1) rest) (body_from (bytes - 1) (take m rest)) h
    (λ more n found end. later (bytes - 1) more n found (omega (arith, fits.0))))
  where
    behind_least : (value bytes place : ℕ) (values : List ℕ) (found : Body) → behind (value ∷ []) bytes found ≡ closed values place
        → bytes ≤ place
    behind_least value bytes place values (closed more n) h = let end : bytes + n ≡ place = cc in omega arith
    behind_least value bytes place values (wrong fault n) h = cc
    behind_least value bytes place values cut h = cc
with_front b m rest values place Close is fits h within later =
    let same : item_at 34 (b ∷ take m rest) ≡ Close = close-front 34 (suc m) (b ∷ rest) is (omega arith) in
    rw same h
with_front b m rest values place (Wrong fault) is fits h within later = cc
with_front b m rest values place Cut is fits h within later = cc

body_from-front : (left m : ℕ) (rest values : List ℕ) (place : ℕ) → body_from left rest ≡ closed values place → left + place ≤ m
    → body_from left (take m rest) ≡ closed values place
body_from-front zero m [] values place h within = cc
body_from-front (suc left) m [] values place h within = cc
body_from-front (suc left) zero (b ∷ rest) values place h within = absurd (omega arith)
body_from-front (suc left) (suc m) (b ∷ rest) values place h within = body_from-front left m rest values place h (omega arith)
body_from-front zero zero (b ∷ rest) values place h within = absurd (no_place (body_from 0 (b ∷ rest)) h (body_from-fits 0 (b ∷ rest)))
  where
    no_place : (found : Body) → found ≡ closed values place → BodyFits 0 (length (b ∷ rest)) found → ⊥
    no_place (closed more n) h fits = let end : n ≡ place = cc in omega (arith, fits.0)
    no_place (wrong fault n) h fits = cc
    no_place cut h fits = cc
body_from-front zero (suc m) (b ∷ rest) values place h within =
    with_front b m rest values place (item_at 34 (b ∷ rest)) refl (item_at-fits 34 (b ∷ rest)) h (omega arith)
    (λ left more n found fits. body_from-front left m rest more n found fits)

pub body-front : (m : ℕ) (rest values : List ℕ) (place : ℕ) → body rest ≡ closed values place → place ≤ m
    → body (take m rest) ≡ closed values place
unfolding body
body-front m rest values place h within = body_from-front 0 m rest values place h (omega arith)
