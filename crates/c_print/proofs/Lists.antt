-- Lists of lexemes and of their tokens.
use Rattle.std.proofs.Common.{◌≡◌, refl, List, [], ◌∷◌, ◌++◌, map, flat_map, append_assoc, ap, sym, ◌∙◌, ℕ, zero, suc, ◌+◌, ◌<◌, ◌≤◌}
use Rattle.std.proofs.Common.{length, take, get_or, arith, subst}
use Rattle.std.proofs.lemmas.List.{append-nil, map-append, take_more, take_all}
use Rattle.std.proofs.lemmas.Grind.{flat_map-append}
use Rattle.c_ast.specs.declared.token.Lexeme.{Lexeme}
use Rattle.c_ast.specs.declared.token.Span.{Span}
use Rattle.c_ast.specs.Seen.{Seen as Token}
use Rattle.c_grammar.specs.Words.{last_end, span_of}
use Rattle.c_grammar.specs.Operators.{Side, Before, Behind}
use Rattle.c_print.specs.Expressions.{step_at}
use Rattle.c_print.specs.Words.{after_comma, with_commas, separator}
use Rattle.c_print.specs.Laws.SeenTokens.{token_of, tokens_of}
use Rattle.c_print.specs.Spans.{no_span}

pub tokens-append : (u v : List Lexeme) → tokens_of (u ++ v) ≡ tokens_of u ++ tokens_of v
tokens-append = map-append token_of

pub tokens-inside : (l : Lexeme) (u v : List Lexeme) → tokens_of (l ∷ u ++ v) ≡ token_of l ∷ tokens_of u ++ tokens_of v
tokens-inside l u v = ap (λ w. token_of l ∷ w) (tokens-append u v)

pub tokens-inside_two : (k l : Lexeme) (u v : List Lexeme) →
    tokens_of (k ∷ l ∷ u ++ v) ≡ token_of k ∷ token_of l ∷ tokens_of u ++ tokens_of v
tokens-inside_two k l u v = ap (λ w. token_of k ∷ w) (tokens-inside l u v)

pub tokens-behind : (u : List Lexeme) (l : Lexeme) (v r : List Lexeme) →
    tokens_of (u ++ (l ∷ v ++ r)) ≡ tokens_of u ++ (token_of l ∷ tokens_of v ++ tokens_of r)
tokens-behind u l v r = tokens-append u (l ∷ v ++ r) ∙ ap (λ w. tokens_of u ++ w) (tokens-inside l v r)

pub tokens-step_behind : (side : Side) (o : Lexeme) (e : List Lexeme) → side ≡ Behind →
    tokens_of (step_at side o e) ≡ tokens_of e ++ token_of o ∷ []
tokens-step_behind side o e is = rw is (tokens-append e (o ∷ []))

pub tokens-step_before : (side : Side) (o : Lexeme) (e : List Lexeme) → side ≡ Before →
    tokens_of (step_at side o e) ≡ token_of o ∷ tokens_of e
tokens-step_before side o e is = rw is refl

last_end-tokens : (l : Lexeme) (ls : List Lexeme) → last_end (token_of l) (tokens_of ls) ≡ 0
last_end-tokens l [] = refl
last_end-tokens l (k ∷ ls) = last_end-tokens k ls

pub span_of-tokens : (ls : List Lexeme) → span_of (tokens_of ls) ≡ no_span
span_of-tokens [] = refl
span_of-tokens (l ∷ ls) = λ i. record { start = 0; end = last_end-tokens l ls i }

-- a list with a first part
pub record NonEmpty {A : Type 0} (xs : List A) : Type 0 where
  pub first : A
  pub rest : List A
  pub is : xs ≡ first ∷ rest

pub nonempty-append : {A : Type 0} (xs : List A) (x : A) → NonEmpty (xs ++ x ∷ [])
nonempty-append [] x = record { first = x; rest = []; is = refl }
nonempty-append (y ∷ ys) x = record { first = y; rest = ys ++ x ∷ []; is = refl }

tail-append : {A : Type 0} (f : A → List Lexeme) (ys : List A) (x : A) →
    flat_map after_comma (map f (ys ++ x ∷ [])) ≡ flat_map after_comma (map f ys) ++ after_comma (f x)
tail-append f ys x = simp (map-append, flat_map-append, append-nil)

with_commas-cons : {A : Type 0} (f : A → List Lexeme) (y : A) (ys : List A) (x : A) →
    with_commas (map f ((y ∷ ys) ++ x ∷ [])) ≡ with_commas (map f (y ∷ ys)) ++ after_comma (f x)
with_commas-cons f y ys x = ap (λ t. f y ++ t) (tail-append f ys x)
    ∙ sym (append_assoc (f y) (flat_map after_comma (map f ys)) (after_comma (f x)))

-- one more part comes behind a comma
pub with_commas-append : {A : Type 0} (f : A → List Lexeme) (xs : List A) (x : A) → NonEmpty xs →
    with_commas (map f (xs ++ x ∷ [])) ≡ with_commas (map f xs) ++ after_comma (f x)
with_commas-append {A} f xs x some = rw some.is (with_commas-cons f some.first some.rest x)

comma_last : {A : Type 0} (f : A → List Lexeme) (xs : List A) (i : ℕ) (x : A) → i < length xs →
    with_commas (map f (take i xs ++ x ∷ [])) ≡ with_commas (map f (take i xs)) ++ (separator i ++ f x)
comma_last f xs zero x lt = append-nil (f x)
comma_last f [] (suc n) x lt = absurd (omega arith)
comma_last f (y ∷ ys) (suc n) x lt = with_commas-append f (y ∷ take n ys) x (record { first = y; rest = take n ys; is = refl })

-- one more part of a list is printed behind those before it
pub comma_kept : {A : Type 0} (f : A → List Lexeme) (xs : List A) (i : ℕ) (x : A) (out here before behind : List Lexeme) →
    i < length xs → x ≡ get_or xs i x →
    here ≡ out ++ with_commas (map f (take i xs)) → before ≡ here ++ separator i → behind ≡ before ++ f x →
    behind ≡ out ++ with_commas (map f (take (i + 1) xs))
comma_kept f xs i x out here before behind lt is p q r =
    let more : take (i + 1) xs ≡ take i xs ++ x ∷ [] = take_more xs i x lt ∙ ap (λ y. take i xs ++ y ∷ []) (sym is) in
    let w : List Lexeme = with_commas (map f (take i xs)) in
    let last : with_commas (map f (take (i + 1) xs)) ≡ w ++ (separator i ++ f x) = ap (λ ys. with_commas (map f ys)) more
    ∙ comma_last f xs i x lt in
    r ∙ ap (λ u. u ++ f x) (q ∙ ap (λ u. u ++ separator i) p) ∙ append_assoc (out ++ w) (separator i) (f x)
    ∙ append_assoc out w (separator i ++ f x) ∙ ap (λ u. out ++ u) (sym last)

-- a fact of a span and its tokens, at the tokens of these lexemes
pub placed : (P : Span → List Token → Type 0) (ls : List Lexeme) {w : List Token} → tokens_of ls ≡ w → P (span_of w) w →
    P no_span (tokens_of ls)
placed P ls is p =
    let T : List Token → Type 0 = λ ts. P (span_of ts) ts in
    let S : Span → Type 0 = λ s. P s (tokens_of ls) in
    subst S (span_of-tokens ls) (subst T (sym is) p)

pub tokens-three : (u v r : List Lexeme) → tokens_of (u ++ (v ++ r)) ≡ tokens_of u ++ (tokens_of v ++ tokens_of r)
tokens-three u v r = tokens-append u (v ++ r) ∙ ap (λ w. tokens_of u ++ w) (tokens-append v r)

pub tokens-four : (u v r s : List Lexeme) → tokens_of (u ++ (v ++ (r ++ s))) ≡ tokens_of u ++ (tokens_of v ++ (tokens_of r ++ tokens_of s))
tokens-four u v r s = tokens-append u (v ++ (r ++ s)) ∙ ap (λ w. tokens_of u ++ w) (tokens-three v r s)

-- a loop over a whole list has printed all of it
pub all_printed : {A : Type 0} (f : A → List Lexeme) (xs ys : List A) (i : ℕ) (out : List Lexeme) → out ≡ flat_map f (take i xs) →
    ys ≡ xs → length ys ≤ i → out ≡ flat_map f xs
all_printed f xs ys i out is same past =
    let more : length xs ≤ i = omega (arith, ap length same) in
    is ∙ ap (flat_map f) (take_all i xs more)
