-- The languages of single words, and that their parsers read them.
use Rattle.std.specs.Prelude.{◌≡◌, ℕ, Bool, true, false, ◌==◌, if◌then◌else◌, List, [], ◌∷◌, ◌++◌, Some, None, is_some, refl}
use Rattle.std.proofs.Common.{ap, subst, arith}
use Rattle.std.proofs.lemmas.Bool.Decides.{nat_tests}
use Rattle.c_ast.specs.declared.token.Span.{Span}
use Rattle.c_ast.specs.Seen.{Seen as Token}
use Rattle.c_ast.specs.declared.token.Lexeme.TheVariants as lexeme
use Rattle.c_ast.specs.declared.keyword.Keyword.{Keyword}
use Rattle.c_ast.specs.declared.punctuator.Punctuator.{Punctuator}
use Rattle.c_ast.specs.Words.{keyword_number, punctuator_number}
use Rattle.c_grammar.specs.Words.{word_of, keyword, punctuator}
use Rattle.c_parse_base.specs.declared.fault.Fault.{Fault}
use Rattle.c_parse_base.specs.Reading.Answer.{Answer, Read, Stuck, Parser, word}
use Rattle.c_parse_base.specs.Reading.Good.{Language, Begins, BeginsFitting, Stops, Blames, Tells, StartsIn, Good}
use Rattle.c_parse_base.specs.Reading.Languages.{Word, word_of as one_word, Then, join, Always, nothing}
use Rattle.c_parse_base.specs.Laws.Parts.{word_good}
use Rattle.c_parse_base.specs.Reading.Words.{place_of, is, pick_word, punct, key, token_of, Spot, spot}

-- the same parser for another language of the same words, whose values fit alike
pub good_as : {T A : Type 0} {p : Parser T A} {L : Language T A} {F : A → Type 0} {first : T → Bool} {goes_on : A → T → Bool}
    (M : Language T A) (G : A → Type 0) (other : T → Bool) →
    Good p L F first goes_on → ((a : A) (w : List T) → L a w → M a w) → ((a : A) (w : List T) → M a w → L a w) →
    ((a : A) (w : List T) → L a w → F a → G a) → ((a : A) (w : List T) → L a w → G a → F a) →
    ((x : T) → first x ≡ true → other x ≡ true) → Good p M G other goes_on
good_as {T} {A} {p} {L} {F} {first} {goes_on} M G other g into out fit unfit firsts = record {
  some = begun [] g.some;
  starts = λ a w m. let s = g.starts a w (out a w m) in record {
    head = s.head;
    tail = s.tail;
    parts = s.parts;
    is_first = firsts s.head s.is_first;
  };
  complete = λ a w rest m fits stop. g.complete a w rest (out a w m) (unfit a w (out a w m) fits) stop;
  tells = λ ts. go ts (p ts) (g.tells ts);
}
  where
    begun : (w : List T) → BeginsFitting L F w → BeginsFitting M G w
    begun w b = record {
      value = b.value;
      more = b.more;
      whole = into b.value (w ++ b.more) b.whole;
      fits = fit b.value (w ++ b.more) b.whole b.fits;
    }

    blame : (f : Fault) (w us : List T) → Blames L f w us → Blames M f w us
    blame f w [] h = h
    blame f w (x ∷ us) h = λ e. record {
      value = (h e).value;
      more = (h e).more;
      whole = into (h e).value ((w ++ x ∷ []) ++ (h e).more) (h e).whole;
    }

    go : (ts : List T) (o : Answer T A) → Tells p L F ts o → Tells p M G ts o
    go ts (Read a us) r = record {
      taken = r.taken;
      parts = r.parts;
      whole = into a r.taken r.whole;
      fits = fit a r.taken r.whole r.fits;
      at_next = r.at_next;
    }
    go ts (Stuck f us) s = record {
      taken = s.taken;
      parts = s.parts;
      begun = begun s.taken s.begun;
      at_next = s.at_next;
      blames = blame f s.taken us s.blames;
    }

pub equal_is : (m n : ℕ) → (m == n) ≡ true → m ≡ n
equal_is m n h = grind (arith, nat_tests)

pub is_equal : (m n : ℕ) → m ≡ n → (m == n) ≡ true
is_equal m n h = grind (arith, nat_tests)

module _ (w : ℕ) where
  picked : (t : Token) (p : Span) (b : Bool) → is w t ≡ b → (if b then Some (place_of t) else None) ≡ Some p → Spot w p (t ∷ [])
  picked t p true e h = let same : place_of t ≡ p = cc in subst (λ p. Spot w p (t ∷ [])) same (spot t (equal_is (word_of t) w e))
  picked t p false e h = cc

  spot_into : (p : Span) (u : List Token) → Word (pick_word w) p u → Spot w p u
  spot_into p u (one_word {x = t} e) = picked t p (is w t) refl e

  spot_out : (p : Span) (u : List Token) → Spot w p u → Word (pick_word w) p u
  spot_out p u (spot t e) = one_word (ap (λ b. if b then Some (place_of t) else None) (is_equal (word_of t) w e))

  spot_first : (t : Token) (b : Bool) → is w t ≡ b → is_some (if b then Some (place_of t) else None) ≡ true → is w t ≡ true
  spot_first t true e h = e
  spot_first t false e h = cc

  spot_good : (t : Token) → word_of t ≡ w → Good (word (pick_word w)) (Spot w) Always (is w) nothing
  spot_good t e = good_as (Spot w) Always (is w)
      (word_good (pick_word w) (record {
        token = t;
        value = place_of t;
        is = ap (λ b. if b then Some (place_of t) else None) (is_equal (word_of t) w e);
      }))
      spot_into spot_out (λ a w l h. h) (λ a w l h. h) (λ x h. spot_first x (is w x) refl h)

pub punct_good : (p : Punctuator) → Good (punct p) (Spot (punctuator p)) Always (is (punctuator p)) nothing
unfolding punct
punct_good p = spot_good (punctuator p) (token_of (lexeme.Punct (punctuator_number p))) refl

pub key_good : (k : Keyword) → Good (key k) (Spot (keyword k)) Always (is (keyword k)) nothing
unfolding key
key_good k = spot_good (keyword k) (token_of (lexeme.Keyword (keyword_number k))) refl

-- some word is this punctuator
pub punct_begins : (p : Punctuator) → Begins (Spot (punctuator p)) []
punct_begins p = let t = token_of (lexeme.Punct (punctuator_number p)) in record { value = place_of t; more = t ∷ []; whole = spot t refl }

pub key_begins : (k : Keyword) → Begins (Spot (keyword k)) []
key_begins k = let t = token_of (lexeme.Keyword (keyword_number k)) in record { value = place_of t; more = t ∷ []; whole = spot t refl }

-- more tokens may go on
pub good_on : {T A : Type 0} {p : Parser T A} {L : Language T A} {F : A → Type 0} {first : T → Bool} {goes_on : A → T → Bool}
    (more : A → T → Bool) →
    Good p L F first goes_on → ((a : A) (x : T) → more a x ≡ false → goes_on a x ≡ false) → Good p L F first more
good_on {T} {A} {p} {L} {F} {first} {goes_on} more g less = record {
  some = g.some;
  starts = g.starts;
  tells = g.tells;
  complete = λ a w rest l fits stop. g.complete a w rest l fits (go a rest stop);
}
  where
    go : (a : A) (rest : List T) → Stops (more a) rest → Stops (goes_on a) rest
    go a [] h = tt
    go a (x ∷ rest) h = less a x h

-- what begins with a word begins with it
pub spot_starts : {B : Type 0} (w : ℕ) (M : Span → Language Token B) (c : Span × B) (u : List Token) → Then (Spot w) M c u →
    StartsIn (is w) u
spot_starts w M c u (join {v = v} (spot t e) m) = record { head = t; tail = v; parts = refl; is_first = is_equal (word_of t) w e }

-- some word begins with this word
pub spot_begins : {B : Type 0} (w : ℕ) (M : Span → Language Token B) (t : Token) → is w t ≡ true → Begins (M (place_of t)) [] →
    Begins (Then (Spot w) M) (t ∷ [])
spot_begins w M t e b = record { value = (place_of t, b.value); more = b.more; whole = join (spot t (equal_is (word_of t) w e)) b.whole }

pub starts_spot : (w : ℕ) (place : Span) (u : List Token) → Spot w place u → StartsIn (is w) u
starts_spot w place u (spot t e) = record { head = t; tail = []; parts = refl; is_first = is_equal (word_of t) w e }
