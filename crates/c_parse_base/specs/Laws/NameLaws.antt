-- Names are read.
use Rattle.std.specs.Prelude.{◌≡◌, true, List, [], ◌∷◌, Some, is_some, refl}
use Rattle.std.proofs.Common.{ap, subst, arith}
use Rattle.c_ast.specs.Seen.{Seen as Token}
use Rattle.c_ast.specs.declared.token.Lexeme.{Lexeme}
use Rattle.c_ast.specs.declared.token.Lexeme.TheVariants as lexeme
use Rattle.c_grammar.specs.Words.{word_of, lexeme_word, a_name}
use Rattle.c_parse_base.specs.declared.words.Named.{Named}
use Rattle.c_parse_base.specs.Reading.Good.{Begins, Good}
use Rattle.c_parse_base.specs.Reading.Languages.{Word, word_of as one_word, Always, nothing}
use Rattle.c_parse_base.specs.Laws.Parts.{picks, word_good}
use Rattle.c_parse_base.specs.Reading.Words.{is, place_of, named_at, pick_name, name, token_of, Naming, naming}
use Rattle.c_parse_base.specs.Laws.WordGood.{good_as, equal_is}

name_found : (t : Token) (kind : Lexeme) (n : Named) → t.kind ≡ kind → named_at (place_of t) kind ≡ Some n → Naming n (t ∷ [])
name_found t (lexeme.Name b) n e h = let same : record { name = b; place = place_of t } ≡ n = cc in
    subst (λ n. Naming n (t ∷ [])) same (naming t e)
name_found t lexeme.Include n e h = cc
name_found t (lexeme.Number v ty) n e h = cc
name_found t (lexeme.Character c) n e h = cc
name_found t (lexeme.Text b) n e h = cc
name_found t (lexeme.Keyword k) n e h = cc
name_found t (lexeme.Punct p) n e h = cc

name_into : (n : Named) (w : List Token) → Word pick_name n w → Naming n w
name_into n w (one_word {x = t} e) = name_found t t.kind n refl e

name_out : (n : Named) (w : List Token) → Naming n w → Word pick_name n w
name_out n w (naming t e) = one_word (ap (named_at (place_of t)) e)

abbrev some_name : Token
some_name = token_of (lexeme.Name [])

-- a name is read
pub name_good : Good name Naming Always (picks pick_name) nothing
unfolding name
name_good = good_as Naming Always (picks pick_name)
    (word_good pick_name (record { token = some_name; value = record { name = []; place = place_of some_name }; is = refl }))
    name_into name_out (λ a w l h. h) (λ a w l h. h) (λ x h. h)

-- the token is a name
pub name_word : (t : Token) → picks pick_name t ≡ true → word_of t ≡ a_name
name_word t h = go t.kind h
  where
    go : (kind : Lexeme) → is_some (named_at (place_of t) kind) ≡ true → lexeme_word kind ≡ a_name
    go (lexeme.Name n) h = refl
    go lexeme.Include h = cc
    go (lexeme.Number v ty) h = cc
    go (lexeme.Character c) h = cc
    go (lexeme.Text b) h = cc
    go (lexeme.Keyword k) h = cc
    go (lexeme.Punct p) h = cc

-- some word is a name
pub name_begins : Begins Naming []
name_begins = record { value = record { name = []; place = place_of some_name }; more = some_name ∷ []; whole = naming some_name refl }

-- a token with the word of names is one
pub name_begins_at : (t : Token) → is a_name t ≡ true → Begins Naming (t ∷ [])
name_begins_at t e = go t.kind refl (equal_is (word_of t) a_name e)
  where
    go : (kind : Lexeme) → t.kind ≡ kind → lexeme_word kind ≡ a_name → Begins Naming (t ∷ [])
    go (lexeme.Name n) e h = record { value = record { name = n; place = place_of t }; more = []; whole = naming t e }
    go lexeme.Include e h = cc
    go (lexeme.Number v ty) e h = cc
    go (lexeme.Character c) e h = cc
    go (lexeme.Text b) e h = cc
    go (lexeme.Keyword k) e h = absurd (omega arith)
    go (lexeme.Punct p) e h = absurd (omega arith)
