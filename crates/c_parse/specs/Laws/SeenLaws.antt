-- Lists of tokens and what contracts see of them: where the one is two parts, so is the other.
use Rattle.std.specs.Prelude.{◌≡◌, ◌≢◌, List, [], ◌∷◌, ◌++◌, map, refl}
use Rattle.std.proofs.Common.{ap, ◌∙◌}
use Rattle.std.proofs.lemmas.List.{map-append}
use Rattle.c_ast.specs.Seen.{Seen, seen, all_seen}
use Rattle.c_ast.specs.declared.token.Token.{Token}

-- a token that is seen so
abbrev pub token_of : Seen → Token
token_of s = record { kind = s.kind; text = record { ref_ptr = (0, 0); now = s.bytes }; start = s.start }

abbrev pub tokens_of : List Seen → List Token
tokens_of = map token_of

pub seen-tokens : (ss : List Seen) → all_seen (tokens_of ss) ≡ ss
seen-tokens [] = refl
seen-tokens (s ∷ ss) = ap (λ ss. s ∷ ss) (seen-tokens ss)

pub seen-append : (ts us : List Token) → all_seen (ts ++ us) ≡ all_seen ts ++ all_seen us
seen-append ts us = map-append seen ts us

-- tokens with more behind them, of which these are seen
pub seen-more : (ts : List Token) (more : List Seen) → all_seen (ts ++ tokens_of more) ≡ all_seen ts ++ more
seen-more ts more = seen-append ts (tokens_of more) ∙ ap (λ ss. all_seen ts ++ ss) (seen-tokens more)

-- tokens with one more behind them, and more behind that
pub seen-behind : (ts : List Token) (t : Token) (us : List Token) →
    all_seen ((ts ++ t ∷ []) ++ us) ≡ (all_seen ts ++ seen t ∷ []) ++ all_seen us
seen-behind ts t us = seen-append (ts ++ t ∷ []) us ∙ ap (λ ss. ss ++ all_seen us) (seen-append ts (t ∷ []))

pub seen-behind-more : (ts : List Token) (t : Token) (more : List Seen) →
    all_seen ((ts ++ t ∷ []) ++ tokens_of more) ≡ (all_seen ts ++ seen t ∷ []) ++ more
seen-behind-more ts t more = seen-behind ts t (tokens_of more) ∙ ap (λ ss. (all_seen ts ++ seen t ∷ []) ++ ss) (seen-tokens more)

pub seen-some : (ts : List Token) → ts ≢ [] → all_seen ts ≢ []
seen-some [] some = absurd (some refl)
seen-some (t ∷ ts) some = λ e. cc

-- tokens of which two parts are seen
pub record Parts (ts : List Token) (u v : List Seen) : Type 0 where
  pub front : List Token
  pub back : List Token
  pub parts : ts ≡ front ++ back
  pub front_seen : all_seen front ≡ u
  pub back_seen : all_seen back ≡ v

tail_same : {x y : Seen} {xs ys : List Seen} → x ∷ xs ≡ y ∷ ys → xs ≡ ys
tail_same e = cc

head_same : {x y : Seen} {xs ys : List Seen} → x ∷ xs ≡ y ∷ ys → x ≡ y
head_same e = cc

pub parts_of : (ts : List Token) (u v : List Seen) → all_seen ts ≡ u ++ v → Parts ts u v
parts_of ts [] v e = record { front = []; back = ts; parts = refl; front_seen = refl; back_seen = e }
parts_of [] (x ∷ u) v e = cc
parts_of (t ∷ ts) (x ∷ u) v e =
    let p = parts_of ts u v (tail_same e) in
    let here : seen t ≡ x = head_same e in
    record {
      front = t ∷ p.front;
      back = p.back;
      parts = ap (λ ts. t ∷ ts) p.parts;
      front_seen = λ i. here i ∷ p.front_seen i;
      back_seen = p.back_seen;
    }

-- tokens of which one is seen first
pub record First (ts : List Token) (x : Seen) (v : List Seen) : Type 0 where
  pub next : Token
  pub rest : List Token
  pub parts : ts ≡ next ∷ rest
  pub next_seen : seen next ≡ x
  pub rest_seen : all_seen rest ≡ v

pub first_of : (ts : List Token) (x : Seen) (v : List Seen) → all_seen ts ≡ x ∷ v → First ts x v
first_of [] x v e = cc
first_of (t ∷ ts) x v e = record { next = t; rest = ts; parts = refl; next_seen = head_same e; rest_seen = tail_same e }
