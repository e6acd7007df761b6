-- One word, and behind it a word of a language that may hang on the place of the first one.
use Rattle.std.specs.Prelude.{◌≡◌, ℕ, Bool, true, List, [], ◌∷◌, refl}
use Rattle.std.proofs.Common.{subst}
use Rattle.c_ast.specs.declared.token.Span.{Span}
use Rattle.c_ast.specs.Seen.{Seen as Token}
use Rattle.c_grammar.specs.Words.{word_of}
use Rattle.c_parse_base.specs.Reading.Answer.{Parser, thens, makes}
use Rattle.c_parse_base.specs.Reading.Good.{Language, Begins, StartsIn, Good}
use Rattle.c_parse_base.specs.Reading.Languages.{Then, join, Always, nothing, Made}
use Rattle.c_parse_base.specs.Laws.Parts.{thens_good, makes_good}
use Rattle.c_parse_base.specs.Reading.Words.{is, place_of, Spot, spot}
use Rattle.c_parse_base.specs.Laws.WordGood.{spot_starts, spot_begins}

module _ {B : Type 0} (w : ℕ) (M : Span → Language Token B) where
  -- the word, and what stands behind it
  abbrev pub After : Language Token B
  After = Made (λ (c : Span × B). c.1) (Then (Spot w) M)

  pub after_into : (t : Token) (b : B) (u : List Token) → word_of t ≡ w → M (place_of t) b u → After b (t ∷ u)
  after_into t b u e m = record { source = (place_of t, b); is = refl; word = join (spot t e) m }

  -- the token and the rest
  pub record AfterParts (b : B) (x : List Token) : Type 0 where
    pub token : Token
    pub rest : List Token
    pub parts : x ≡ token ∷ rest
    pub is_word : word_of token ≡ w
    pub word : M (place_of token) b rest

  joined_parts : (c : Span × B) (x : List Token) → Then (Spot w) M c x → AfterParts c.1 x
  joined_parts c x (join {v = u} (spot t e) m) = record { token = t; rest = u; parts = refl; is_word = e; word = m }

  pub after_parts : (b : B) (x : List Token) → After b x → AfterParts b x
  after_parts b x m = subst (λ b. AfterParts b x) m.is (joined_parts m.source x m.word)

  pub after_starts : (b : B) (x : List Token) → After b x → StartsIn (is w) x
  after_starts b x m = spot_starts w M m.source x m.word

  pub after_begins : (t : Token) → is w t ≡ true → Begins (M (place_of t)) [] → Begins After (t ∷ [])
  after_begins t e b =
      let c = spot_begins w M t e b in
      record { value = c.value.1; more = c.more; whole = record { source = c.value; is = refl; word = c.whole } }

  pub after_good : {p : Parser Token Span} {F : B → Type 0} {first : Token → Bool} {last : B → Token → Bool} (q : Span → Parser Token B) →
      Good p (Spot w) Always (is w) nothing → ((place : Span) → Good (q place) (M place) F first last) →
      ((place : Span) → Begins (M place) []) →
      Good (makes (λ c. c.1) (thens p q)) After F (is w) last
  after_good {p} {F} {first} {last} q gp gq begins = makes_good (λ c. c.1) After F last
      (thens_good q M (λ _. F) first (λ _. last) gp (λ place _. gq place) begins (λ a x e. refl))
      (λ a x m. record { source = a; is = refl; word = m }) (λ b x m. m) (λ a x m fits. fits.1) (λ a x m fits. (tt, fits)) (λ a x e. e)
