-- Members and steps behind an operand.
use Rattle.std.specs.Prelude.{◌≡◌, ℕ, ◌-◌, ◌<◌, ◌==◌, Bool, true, false, if◌then◌else◌, List, [], ◌∷◌, Option, Some, None, is_some, refl}
use Rattle.std.proofs.Common.{sym, ap, subst, arith}
use Rattle.c_ast.specs.declared.token.Span.{Span}
use Rattle.c_ast.specs.Seen.{Seen as Token}
use Rattle.c_ast.specs.declared.token.Lexeme.{Lexeme}
use Rattle.c_ast.specs.declared.token.Lexeme.TheVariants as lexeme
use Rattle.c_ast.specs.declared.operator.Step.{Step}
use Rattle.c_ast.specs.declared.operator.Step.TheVariants as step
use Rattle.c_ast.specs.Words.{punctuator_number}
use Rattle.c_ast.specs.declared.punctuator.Punctuator.{Punctuator}
use Rattle.c_ast.specs.declared.punctuator.Punctuator.TheVariants as mark
use Rattle.c_grammar.specs.Words.{word_of, punctuator}
use Rattle.c_grammar.specs.Operators.{StepWord, Behind}
use Rattle.c_parse_base.specs.declared.words.Named.{Named}
use Rattle.c_parse_base.specs.Reading.Answer.{thens, makes, word}
use Rattle.c_parse_base.specs.Reading.Good.{Language, Begins, StartsIn, Good}
use Rattle.c_parse_base.specs.Reading.Languages.{Word, word_of as one_word_of, Then, Either, Always, nothing, Made}
use Rattle.c_parse_base.specs.Laws.Parts.{picks, word_good, thens_good, makes_good, either_good}
use Rattle.c_parse_base.specs.Reading.Words.{is, punct, name, pick_name, named_at, place_of, token_of, Spot, one_word, among}
use Rattle.c_parse_base.specs.Laws.WordGood.{good_as, punct_good, spot_starts, spot_begins, equal_is}
use Rattle.c_parse_expr.specs.declared.suffix.Suffix.{Suffix}
use Rattle.c_parse_expr.specs.declared.suffix.Suffix.TheVariants as suffix
use Rattle.c_parse_expr.specs.Reading.Nodes.{height_behind}
use Rattle.c_parse_base.specs.Laws.WordListLaws.{is_at, is_not_first, apart_words, within_words}
use Rattle.c_parse_expr.specs.Reading.Expressions.{behind, short_suffix, pick_step}

-- a name by a token
pub named_kind : (place : Span) (kind : Lexeme) (n : Named) → named_at place kind ≡ Some n → (kind ≡ lexeme.Name n.name) × (n.place ≡ place)
named_kind place (lexeme.Name b) n h =
    let same : record { name = b; place = place } ≡ n = cc in
    (ap (λ (n : Named). lexeme.Name n.name) same, ap (λ (n : Named). n.place) (sym same))
named_kind place (lexeme.Number value ty) n h = cc
named_kind place (lexeme.Character value) n h = cc
named_kind place (lexeme.Text b) n h = cc
named_kind place lexeme.Include n h = cc
named_kind place (lexeme.Keyword k) n h = cc
named_kind place (lexeme.Punct p) n h = cc

abbrev named_example : Named
named_example = record { name = []; place = place_of (token_of (lexeme.Name [])) }

name_good : Good name (Word pick_name) Always (picks pick_name) nothing
unfolding name
name_good = word_good pick_name (record { token = token_of (lexeme.Name []); value = named_example; is = refl })

name_begins : Begins (Word pick_name) []
name_begins = record { value = named_example; more = token_of (lexeme.Name []) ∷ []; whole = one_word_of refl }

abbrev pub MemberWord : Language Token Suffix
MemberWord = Made (λ (c : Span × Named). suffix.Member c.1) (Then (Spot (punctuator mark.Dot)) (λ _. Word pick_name))

abbrev pub ArrowWord : Language Token Suffix
ArrowWord = Made (λ (c : Span × Named). suffix.Arrow c.1) (Then (Spot (punctuator mark.Arrow)) (λ _. Word pick_name))

abbrev pub ShortWord : Language Token Suffix
ShortWord = Either MemberWord (Either ArrowWord (Word pick_step))

-- the token is this step behind an operand
pub record IsStep (t : Token) (s : Suffix) : Type 0 where
  pub step : Step
  pub is_suffix : suffix.Step step (place_of t) ≡ s
  pub word : StepWord Behind step t

pub step_is : (t : Token) (s : Suffix) (x : Bool) → is (punctuator mark.PlusPlus) t ≡ x → (y : Bool) →
    is (punctuator mark.MinusMinus) t ≡ y →
    (if x then Some (suffix.Step step.PostIncrement (place_of t))
    else (if y then Some (suffix.Step step.PostDecrement (place_of t)) else None)) ≡ Some s → IsStep t s
step_is t s true h y k e = record {
  step = step.PostIncrement;
  is_suffix = cc;
  word = (refl, equal_is (word_of t) (punctuator mark.PlusPlus) h);
}
step_is t s false h true k e = record {
  step = step.PostDecrement;
  is_suffix = cc;
  word = (refl, equal_is (word_of t) (punctuator mark.MinusMinus) k);
}
step_is t s false h false k e = cc

abbrev step_at : Span → ℕ → Option Suffix
step_at place w = if w == punctuator mark.PlusPlus then Some (suffix.Step step.PostIncrement place)
    else (if w == punctuator mark.MinusMinus then Some (suffix.Step step.PostDecrement place) else None)

pub step_picked : (t : Token) (s : Step) → StepWord Behind s t → pick_step t ≡ Some (suffix.Step s (place_of t))
step_picked t step.PreIncrement h = let bad = h.0 in cc
step_picked t step.PreDecrement h = let bad = h.0 in cc
step_picked t step.PostIncrement h = ap (step_at (place_of t)) h.1
step_picked t step.PostDecrement h = ap (step_at (place_of t)) h.1

abbrev step_token : Token
step_token = token_of (lexeme.Punct (punctuator_number mark.PlusPlus))

abbrev pub LowSuffix : ℕ → Suffix → Type 0
LowSuffix d s = height_behind s < d

step_low : (d : ℕ) (s : Suffix) (w : List Token) → 0 < d → Word pick_step s w → LowSuffix d s
step_low d s w h (one_word_of {x = t} e) =
    let i : IsStep t s = step_is t s (is (punctuator mark.PlusPlus) t) refl (is (punctuator mark.MinusMinus) t) refl e in
    subst (LowSuffix d) i.is_suffix h

-- which tokens are picked
picked_step : (t : Token) (o : Option Suffix) → pick_step t ≡ o → is_some o ≡ true →
    one_word (punctuator mark.PlusPlus ∷ punctuator mark.MinusMinus ∷ []) (word_of t) ≡ true
picked_step t None e h = cc
picked_step t (Some s) e h =
    let i : IsStep t s = step_is t s (is (punctuator mark.PlusPlus) t) refl (is (punctuator mark.MinusMinus) t) refl e in
    step_word_one t i.step i.word
  where
    step_word_one : (t : Token) (s : Step) → StepWord Behind s t →
        one_word (punctuator mark.PlusPlus ∷ punctuator mark.MinusMinus ∷ []) (word_of t) ≡ true
    step_word_one t step.PreIncrement h = let bad = h.0 in cc
    step_word_one t step.PreDecrement h = let bad = h.0 in cc
    step_word_one t step.PostIncrement h = ap (one_word (punctuator mark.PlusPlus ∷ punctuator mark.MinusMinus ∷ [])) h.1
    step_word_one t step.PostDecrement h = ap (one_word (punctuator mark.PlusPlus ∷ punctuator mark.MinusMinus ∷ [])) h.1

abbrev pub steps_list : List ℕ
steps_list = punctuator mark.PlusPlus ∷ punctuator mark.MinusMinus ∷ []

abbrev pub arrows_list : List ℕ
arrows_list = punctuator mark.Arrow ∷ steps_list

abbrev pub short_list : List ℕ
short_list = punctuator mark.Dot ∷ arrows_list

step_good : (d : ℕ) → 0 < d → Good (word pick_step) (Word pick_step) (LowSuffix d) (among steps_list) nothing
step_good d h = good_as (Word pick_step) (LowSuffix d) (among steps_list)
    (word_good pick_step (record { token = step_token; value = suffix.Step step.PostIncrement (place_of step_token); is = refl }))
    (λ a w m. m) (λ a w m. m) (λ a w m _. step_low d a w h m) (λ a w m low. tt) (λ x e. picked_step x (pick_step x) refl e)

named_suffix_good : (d : ℕ) → 0 < d → (p : Punctuator) (f : Named → Suffix) → ((n : Named) → height_behind (f n) ≡ 0) →
    Good (makes (λ c. f c.1) (thens (punct p) (λ _. name))) (Made (λ (c : Span × Named). f c.1)
    (Then (Spot (punctuator p)) (λ _. Word pick_name))) (LowSuffix d) (is (punctuator p)) nothing
named_suffix_good d h p f low = makes_good (λ c. f c.1) (Made (λ (c : Span × Named). f c.1)
    (Then (Spot (punctuator p)) (λ _. Word pick_name))) (LowSuffix d) nothing
    (thens_good (λ _. name) (λ _. Word pick_name) (λ _. Always) (picks pick_name) (λ _. nothing) (punct_good p) (λ _ _. name_good)
    (λ _. name_begins) (λ a x e. refl))
    (λ c w m. record { source = c; is = refl; word = m }) (λ b w m. m)
    (λ c w m fits. omega (arith, low c.1)) (λ c w m fits. (tt, tt)) (λ a x e. refl)

pub named_begins : (p : Punctuator) (f : Named → Suffix) (t : Token) → is (punctuator p) t ≡ true →
    Begins (Made (λ (c : Span × Named). f c.1) (Then (Spot (punctuator p)) (λ _. Word pick_name))) (t ∷ [])
named_begins p f t e =
    let c = spot_begins (punctuator p) (λ _. Word pick_name) t e name_begins in
    record { value = f c.value.1; more = c.more; whole = record { source = c.value; is = refl; word = c.whole } }

named_starts : (p : Punctuator) (f : Named → Suffix) (s : Suffix) (w : List Token) →
    Made (λ (c : Span × Named). f c.1) (Then (Spot (punctuator p)) (λ _. Word pick_name)) s w → StartsIn (is (punctuator p)) w
named_starts p f s w m = spot_starts (punctuator p) (λ _. Word pick_name) m.source w m.word

pub short_good : (d : ℕ) → 0 < d → Good short_suffix ShortWord (LowSuffix d) (among short_list) nothing
unfolding short_suffix
short_good d h =
    either_good (is (punctuator mark.Dot)) true (among short_list) (λ r. named_suffix_good d h mark.Dot suffix.Member (λ n. refl))
    (either_good (is (punctuator mark.Arrow)) true (among arrows_list) (λ r. named_suffix_good d h mark.Arrow suffix.Arrow (λ n. refl))
    (step_good d h)
    (named_begins mark.Arrow suffix.Arrow) (λ a w l f. refl) (named_starts mark.Arrow suffix.Arrow)
    (λ x e. is_not_first (punctuator mark.Arrow) (word_of x) (apart_words steps_list (punctuator mark.Arrow ∷ []) refl (word_of x) e))
    (λ x e. is_at (one_word arrows_list) (punctuator mark.Arrow) x e) (λ x e. within_words steps_list arrows_list refl (word_of x) e))
    (named_begins mark.Dot suffix.Member) (λ a w l f. refl) (named_starts mark.Dot suffix.Member)
    (λ x e. is_not_first (punctuator mark.Dot) (word_of x) (apart_words arrows_list (punctuator mark.Dot ∷ []) refl (word_of x) e))
    (λ x e. is_at (one_word short_list) (punctuator mark.Dot) x e) (λ x e. within_words arrows_list short_list refl (word_of x) e)
