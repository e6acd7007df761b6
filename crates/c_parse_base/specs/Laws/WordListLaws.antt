-- Which of several words a token is.
use Rattle.std.specs.Prelude.{◌≡◌, ℕ, Bool, true, false, ◌==◌, ◌||◌, if◌then◌else◌, List, [], ◌∷◌, refl}
use Rattle.std.proofs.Common.{◌∙◌, ap}
use Rattle.c_ast.specs.Seen.{Seen as Token}
use Rattle.c_grammar.specs.Words.{word_of}
use Rattle.c_parse_base.specs.Reading.Words.{is, one_word, among, apart_from, within, none_passes}
use Rattle.c_parse_base.specs.Laws.WordGood.{equal_is}

apart_step : (ws : List ℕ) (v w : ℕ) (left rest : Bool) → (rest ≡ true → left ≡ true → one_word ws w ≡ false) → (x : Bool) →
    (w == v) ≡ x → (y : Bool) → one_word ws v ≡ y →
    (if y then false else rest) ≡ true → (x || left) ≡ true → one_word ws w ≡ false
apart_step ws v w left rest later x here true found h e = cc
apart_step ws v w left rest later true here false found h e = ap (one_word ws) (equal_is w v here) ∙ found
apart_step ws v w left rest later false here false found h e = later h e

pub apart_words : (vs ws : List ℕ) → apart_from vs ws ≡ true → (w : ℕ) → one_word vs w ≡ true → one_word ws w ≡ false
apart_words [] ws h w e = cc
apart_words (v ∷ vs) ws h w e = apart_step ws v w (one_word vs w) (apart_from vs ws) (λ h e. apart_words vs ws h w e) (w == v) refl
    (one_word ws v) refl h e

within_step : (ws : List ℕ) (v w : ℕ) (left rest : Bool) → (rest ≡ true → left ≡ true → one_word ws w ≡ true) → (x : Bool) →
    (w == v) ≡ x → (y : Bool) → one_word ws v ≡ y →
    (if y then rest else false) ≡ true → (x || left) ≡ true → one_word ws w ≡ true
within_step ws v w left rest later x here false found h e = cc
within_step ws v w left rest later true here true found h e = ap (one_word ws) (equal_is w v here) ∙ found
within_step ws v w left rest later false here true found h e = later h e

pub within_words : (vs ws : List ℕ) → within vs ws ≡ true → (w : ℕ) → one_word vs w ≡ true → one_word ws w ≡ true
within_words [] ws h w e = cc
within_words (v ∷ vs) ws h w e = within_step ws v w (one_word vs w) (within vs ws) (λ h e. within_words vs ws h w e) (w == v) refl
    (one_word ws v) refl h e

-- what is true of a word is true of a token that is this word
pub is_at : {A : Type 0} (f : ℕ → A) (w : ℕ) (t : Token) → is w t ≡ true → f (word_of t) ≡ f w
is_at f w t e = ap f (equal_is (word_of t) w e)

if_not : (a b : Bool) → (a ≡ true → b ≡ true) → b ≡ false → a ≡ false
if_not true b h e = let k = h refl in cc
if_not false b h e = refl

-- a token that is none of these words is not this one of them
pub is_not : (ws : List ℕ) (w : ℕ) (t : Token) → one_word ws w ≡ true → among ws t ≡ false → is w t ≡ false
is_not ws w t h e = if_not (is w t) (among ws t) (λ i. is_at (one_word ws) w t i ∙ h) e

pub none_within : (vs ws : List ℕ) → within vs ws ≡ true → (w : ℕ) → one_word ws w ≡ false → one_word vs w ≡ false
none_within vs ws h w e = if_not (one_word vs w) (one_word ws w) (within_words vs ws h w) e

pub or_left : (a b : Bool) → a ≡ true → (a || b) ≡ true
or_left a b e = ap (λ a. a || b) e

pub or_right : (a b : Bool) → b ≡ true → (a || b) ≡ true
or_right true b e = refl
or_right false b e = e

pub both_false : (a b : Bool) → (a || b) ≡ false → (a ≡ false) × (b ≡ false)
both_false true b e = cc
both_false false b e = (refl, e)

pub or_false : (a b : Bool) → a ≡ false → b ≡ false → (a || b) ≡ false
or_false true b e h = cc
or_false false b e h = h

-- a word that is not in a list is not its first one
pub is_not_first : (v : ℕ) (w : ℕ) → one_word (v ∷ []) w ≡ false → (w == v) ≡ false
is_not_first v w h = (both_false (w == v) false h).0

fails_step : (test : ℕ → Bool) (v w : ℕ) (left rest : Bool) → (rest ≡ true → left ≡ true → test w ≡ false) → (x : Bool) → (w == v) ≡ x →
    (y : Bool) → test v ≡ y →
    (if y then false else rest) ≡ true → (x || left) ≡ true → test w ≡ false
fails_step test v w left rest later x here true found h e = cc
fails_step test v w left rest later true here false found h e = ap test (equal_is w v here) ∙ found
fails_step test v w left rest later false here false found h e = later h e

-- a word of such a list does not pass
pub fails_test : (test : ℕ → Bool) (vs : List ℕ) → none_passes test vs ≡ true → (w : ℕ) → one_word vs w ≡ true → test w ≡ false
fails_test test [] h w e = cc
fails_test test (v ∷ vs) h w e = fails_step test v w (one_word vs w) (none_passes test vs) (λ h e. fails_test test vs h w e)
    (w == v) refl (test v) refl h e

-- a word that passes is none of such a list
pub not_listed : (test : ℕ → Bool) (vs : List ℕ) → none_passes test vs ≡ true → (w : ℕ) → test w ≡ true → one_word vs w ≡ false
not_listed test vs h w e = go (one_word vs w) refl
  where
    go : (b : Bool) → one_word vs w ≡ b → one_word vs w ≡ false
    go false is = is
    go true is = let fails = fails_test test vs h w is in cc
