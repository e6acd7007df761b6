-- Where words that follow one another stand.
use Rattle.std.specs.Prelude.{◌≡◌, Bool, List, [], ◌∷◌, ◌++◌, refl}
use Rattle.std.proofs.Common.{sym, ◌∙◌, ap}
use Rattle.c_ast.specs.Seen.{Seen as Token}
use Rattle.c_grammar.specs.Words.{end_of, last_end, span_of}
use Rattle.c_parse_base.specs.Reading.Good.{StartsIn}
use Rattle.c_parse_base.specs.Reading.Spans.{join_spans}

pub last_end_append : (x : Token) (u : List Token) (t : Token) (v : List Token) → last_end x (u ++ t ∷ v) ≡ last_end t v
last_end_append x [] t v = refl
last_end_append x (y ∷ u) t v = last_end_append y u t v

span_join_at : (x : Token) (u : List Token) (t y : Token) (v : List Token) →
    span_of ((x ∷ u) ++ t ∷ y ∷ v) ≡ join_spans (span_of (x ∷ u)) (span_of (y ∷ v))
span_join_at x u t y v = ap (λ end. record { start = x.start; end = end }) (last_end_append x u t (y ∷ v))

-- two words with a token between them
pub span_join : (first second : Token → Bool) (u : List Token) (t : Token) (v : List Token) → StartsIn first u → StartsIn second v →
    span_of (u ++ t ∷ v) ≡ join_spans (span_of u) (span_of v)
span_join first second u t v s r =
    ap (λ u. span_of (u ++ t ∷ v)) s.parts ∙ ap (λ v. span_of ((s.head ∷ s.tail) ++ t ∷ v)) r.parts
    ∙ span_join_at s.head s.tail t r.head r.tail
    ∙ ap (λ u. join_spans (span_of u) (span_of (r.head ∷ r.tail))) (sym s.parts)
    ∙ ap (λ v. join_spans (span_of u) (span_of v)) (sym r.parts)

-- a word between two tokens
pub span_between : (l : Token) (u : List Token) (r : Token) → span_of (l ∷ u ++ r ∷ []) ≡ record { start = l.start; end = end_of r }
span_between l u r = ap (λ end. record { start = l.start; end = end }) (last_end_append l u r [])

-- two words, one behind the other
pub span_append : (first second : Token → Bool) (u v : List Token) → StartsIn first u → StartsIn second v →
    span_of (u ++ v) ≡ join_spans (span_of u) (span_of v)
span_append first second u v s r =
    ap (λ u. span_of (u ++ v)) s.parts ∙ ap (λ v. span_of ((s.head ∷ s.tail) ++ v)) r.parts
    ∙ ap (λ end. record { start = s.head.start; end = end }) (last_end_append s.head s.tail r.head r.tail)
    ∙ ap (λ u. join_spans (span_of u) (span_of (r.head ∷ r.tail))) (sym s.parts)
    ∙ ap (λ v. join_spans (span_of u) (span_of v)) (sym r.parts)

pub end_last : (w : List Token) (t : Token) → (span_of (w ++ t ∷ [])).end ≡ end_of t
end_last [] t = refl
end_last (x ∷ u) t = last_end_append x u t []
