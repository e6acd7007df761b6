-- Other tokens with the lexemes of given ones: how what the given ones spell is spelled again, part by part.
use Rattle.std.specs.Prelude.{◌≡◌, ℕ, List, [], ◌∷◌, ◌++◌, map, refl}
use Rattle.std.proofs.Common.{sym, ◌∙◌, ap}
use Rattle.std.proofs.lemmas.List.{map-append}
use Rattle.c_ast.specs.Seen.{Seen as Token}
use Rattle.c_ast.specs.declared.token.Lexeme.{Lexeme}
use Rattle.c_grammar.specs.Words.{lexeme_word, word_of}
use Rattle.c_print.specs.Laws.SeenTokens.{kinds}

-- a tree like this one, spans aside, that the tokens spell
pub record Again {A B : Type 0} (L : A → List Token → Type 0) (bare_of : A → B) (a : A) (us : List Token) : Type 0 where
  pub tree : A
  pub word : L tree us
  pub same : bare_of tree ≡ bare_of a

-- all tokens of these lexemes have this
pub record Alike (w : List Token) (P : List Token → Type 0) : Type 0 where
  pub at : (us : List Token) → kinds us ≡ kinds w → P us

pub done : {P : List Token → Type 0} → P [] → Alike [] P
done {P} p = record { at = go }
  where
    go : (us : List Token) → kinds us ≡ [] → P us
    go [] e = p
    go (u ∷ us) e = cc

-- a token, and what is behind it
pub kind : {v : List Token} {P : List Token → Type 0} (t : Token) {l : Lexeme} → t.kind ≡ l →
    ((s : Token) → s.kind ≡ l → Alike v (λ vs. P (s ∷ vs))) → Alike (t ∷ v) P
kind {v} {P} t {l} is f = record { at = go }
  where
    go : (us : List Token) → kinds us ≡ t.kind ∷ kinds v → P us
    go [] e = cc
    go (u ∷ us) e = let one : u.kind ≡ t.kind = cc in let rest : kinds us ≡ kinds v = cc in (f u (one ∙ is)).at us rest

-- a token that is this word, and what is behind it
pub word : {v : List Token} {P : List Token → Type 0} (t : Token) {n : ℕ} → word_of t ≡ n →
    ((s : Token) → word_of s ≡ n → Alike v (λ vs. P (s ∷ vs))) → Alike (t ∷ v) P
word t is f = kind t refl (λ s e. f s (ap lexeme_word e ∙ is))

any_before : (u : List Token) {v : List Token} {P : List Token → Type 0} →
    ((us : List Token) → kinds us ≡ kinds u → Alike v (λ vs. P (us ++ vs))) → Alike (u ++ v) P
any_before [] f = f [] refl
any_before (t ∷ u) f = kind t refl (λ s e. any_before u (λ us is. f (s ∷ us) (ap (λ l. l ∷ kinds us) e ∙ ap (λ ls. t.kind ∷ ls) is)))

-- a part, and what is behind it
pub before : {u v : List Token} {P Q : List Token → Type 0} → Alike u Q → ((us : List Token) → Q us → Alike v (λ vs. P (us ++ vs))) →
    Alike (u ++ v) P
before {u} a f = any_before u (λ us e. f us (a.at us e))

-- a last part
pub last : {v : List Token} {P Q : List Token → Type 0} → Alike v Q → ((vs : List Token) → Q vs → P vs) → Alike v P
last a f = record { at = λ vs e. f vs (a.at vs e) }

-- lists that are alike, with one more that is alike behind each
pub more_alike : {A B : Type 0} (f : A → B) (xs ys : List A) (x y : A) → map f xs ≡ map f ys → f x ≡ f y →
    map f (xs ++ x ∷ []) ≡ map f (ys ++ y ∷ [])
more_alike f xs ys x y e h = map-append f xs (x ∷ []) ∙ ap (λ fs. fs ++ f x ∷ []) e ∙ ap (λ z. map f ys ++ z ∷ []) h
    ∙ sym (map-append f ys (y ∷ []))

pub appended_alike : {A B : Type 0} (f : A → B) (xs ys us vs : List A) → map f xs ≡ map f ys → map f us ≡ map f vs →
    map f (xs ++ us) ≡ map f (ys ++ vs)
appended_alike f xs ys us vs e h = map-append f xs us ∙ ap (λ fs. fs ++ map f us) e ∙ ap (λ z. map f ys ++ z) h ∙ sym (map-append f ys vs)
