-- A word of one token, and a word behind it.
use Rattle.std.specs.Prelude.{◌≡◌, ◌-◌, Bool, true, List, [], ◌∷◌, refl}
use Rattle.std.proofs.Common.{subst}
use Rattle.c_ast.specs.declared.token.Span.{Span}
use Rattle.c_ast.specs.Seen.{Seen as Token}
use Rattle.c_ast.specs.declared.punctuator.Punctuator.{Punctuator}
use Rattle.c_grammar.specs.Words.{word_of, punctuator}
use Rattle.c_parse_base.specs.Reading.Answer.{Parser, thens, makes, word}
use Rattle.c_parse_base.specs.Reading.Good.{Language, Begins, StartsIn, Good}
use Rattle.c_parse_base.specs.Reading.Languages.{Then, join, Made}
use Rattle.c_parse_base.specs.Laws.Parts.{thens_good, makes_good}
use Rattle.c_parse_base.specs.Reading.Words.{is, punct, place_of, Spot, spot}
use Rattle.c_parse_base.specs.Laws.WordGood.{punct_good, spot_starts, spot_begins}
use Rattle.c_parse_expr.specs.Reading.Expressions.{behind}

-- the word, and what stands behind it
abbrev pub Marked : {B : Type 0} → Punctuator → Language Token B → Language Token B
Marked {B} p M = Made (λ (c : Span × B). c.1) (Then (Spot (punctuator p)) (λ _. M))

pub marked_into : {B : Type 0} (p : Punctuator) (M : Language Token B) (t : Token) (b : B) (w : List Token) → word_of t ≡ punctuator p →
    M b w → Marked p M b (t ∷ w)
marked_into p M t b w e m = record { source = (place_of t, b); is = refl; word = join (spot t e) m }

-- the token and the rest
pub record Parts {B : Type 0} (p : Punctuator) (M : Language Token B) (b : B) (w : List Token) : Type 0 where
  pub token : Token
  pub rest : List Token
  pub parts : w ≡ token ∷ rest
  pub is_mark : word_of token ≡ punctuator p
  pub word : M b rest

parts_joined : {B : Type 0} (p : Punctuator) (M : Language Token B) (c : Span × B) (w : List Token) →
    Then (Spot (punctuator p)) (λ _. M) c w → Parts p M c.1 w
parts_joined p M c w (join {v = u} (spot t e) m) = record { token = t; rest = u; parts = refl; is_mark = e; word = m }

pub marked_parts : {B : Type 0} (p : Punctuator) (M : Language Token B) (b : B) (w : List Token) → Marked p M b w → Parts p M b w
marked_parts p M b w m = subst (λ b. Parts p M b w) m.is (parts_joined p M m.source w m.word)

pub marked_starts : {B : Type 0} (p : Punctuator) (M : Language Token B) (b : B) (w : List Token) → Marked p M b w →
    StartsIn (is (punctuator p)) w
marked_starts p M b w m = spot_starts (punctuator p) (λ _. M) m.source w m.word

pub marked_begins : {B : Type 0} (p : Punctuator) (M : Language Token B) (t : Token) → is (punctuator p) t ≡ true → Begins M [] →
    Begins (Marked p M) (t ∷ [])
marked_begins p M t e b =
    let c = spot_begins (punctuator p) (λ _. M) t e b in
    record { value = c.value.1; more = c.more; whole = record { source = c.value; is = refl; word = c.whole } }

pub marked_good : {B : Type 0} (p : Punctuator) {q : Parser Token B} {M : Language Token B} {F : B → Type 0} {first : Token →
    Bool} {last : B → Token → Bool} →
    Good q M F first last → Begins M [] → Good (makes (λ c. c.1) (thens (punct p) (λ _. q))) (Marked p M) F (is (punctuator p)) last
marked_good p {q} {M} {F} {first} {last} g b = makes_good (λ c. c.1) (Marked p M) F last
    (thens_good (λ _. q) (λ _. M) (λ _. F) first (λ _. last) (punct_good p) (λ _ _. g) (λ _. b) (λ a x e. refl))
    (λ a w m. record { source = a; is = refl; word = m }) (λ b w m. m) (λ a w m fits. fits.1) (λ a w m fits. (tt, fits)) (λ a x e. e)
