-- The bytes where the tokens of a text start.
use Rattle.std.proofs.Common.{◌≡◌, ℕ, List, [], ◌∷◌, drop, refl, sym, ap, ◌∙◌}
use Rattle.std.proofs.lemmas.List.{drop-map}
use Rattle.c_ast.specs.Seen.{Seen, seen, all_seen}
use Rattle.c_ast.specs.declared.token.Token.{Token}
use Rattle.mt_compile.specs.Refused.{front_byte, byte_at}
use Rattle.mt_compile.specs.Source.{HasTokens}
use Rattle.mt_compile.specs.Laws.Respelled.{same_seen}

first_same : {x y : Seen} {xs ys : List Seen} → x ∷ xs ≡ y ∷ ys → x ≡ y
first_same e = cc

front_same : (text : List ℕ) (us ts : List Token) → all_seen us ≡ all_seen ts → front_byte text us ≡ front_byte text ts
front_same text [] [] same = refl
front_same text [] (t ∷ ts) same = absurd (cc)
front_same text (u ∷ us) [] same = absurd (cc)
front_same text (u ∷ us) (t ∷ ts) same = ap (λ s. s.start) (first_same same)

-- the byte of a place is that of the text
pub byte_same : {text : List ℕ} {us ts : List Token} (place : ℕ) → HasTokens text us → HasTokens text ts →
    byte_at text us place ≡ byte_at text ts place
byte_same {text} {us} {ts} place held other =
    front_same text (drop place us) (drop place ts) (sym (drop-map seen place us) ∙ ap (drop place) (same_seen held other)
    ∙ drop-map seen place ts)
