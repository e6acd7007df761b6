-- The parser of translation units reads their language.
use Rattle.std.specs.Prelude.{◌≡◌, ℕ, ◌-◌, ◌≤◌, ◌==◌, max, Bool, true, false, ◌||◌, List, [], ◌∷◌, ◌++◌, Option, Some, None, is_some, refl}
use Rattle.std.proofs.Common.{ap, subst, arith, inl, inr}
use Rattle.c_ast.specs.Seen.{Seen as Token}
use Rattle.c_ast.specs.declared.token.Lexeme.{Lexeme}
use Rattle.c_ast.specs.declared.token.Lexeme.TheVariants as lexeme
use Rattle.c_ast.specs.declared.keyword.Keyword.TheVariants as key
use Rattle.c_ast.specs.declared.punctuator.Punctuator.TheVariants as mark
use Rattle.c_grammar.specs.Words.{lexeme_word, word_of, keyword, punctuator}
use Rattle.c_grammar.specs.Externals as externals
use Rattle.c_grammar.specs.Externals.{ExternalDeclaration}
use Rattle.c_parse_base.specs.Reading.Answer.{word}
use Rattle.c_parse_base.specs.Reading.Good.{Language, Begins, Good}
use Rattle.c_parse_base.specs.Reading.Languages.{Word, word_of as one_word_of, join, Chain, nothing, Made}
use Rattle.c_parse_base.specs.Laws.Parts.{word_good, thens_good, makes_good, either_good}
use Rattle.c_parse_base.specs.Laws.ChainLaws.{MayTurn, chain_good}
use Rattle.c_parse_base.specs.Reading.Words.{is, token_of}
use Rattle.c_parse_base.specs.Laws.WordGood.{good_as}
use Rattle.c_parse_base.specs.Reading.TypeWords.{first_at, size_at}
use Rattle.c_parse_base.specs.Laws.WordListLaws.{or_left, or_right, fails_test}
use Rattle.c_parse.specs.declared.externals.Externals.{Externals}
use Rattle.c_parse.specs.Reading.Values.{external_of, include_line, more_externals}
use Rattle.c_parse.specs.Reading.Externals.{storage_at, tail, declaration, included_at, pick_include, is_include, begins_declaration}
use Rattle.c_parse.specs.Reading.Externals.{begins_external, external, next_external, unit}
use Rattle.c_parse.specs.Laws.HeadLaws.{goes_on_head, specifiers_good, specifiers_begin_at}
use Rattle.c_parse.specs.Laws.TailLaws.{TailWord, TailLow, tail_words, begins_tail, tail_good, tail_begins}
use Rattle.c_parse.specs.Laws.ExternalBridge.{declaration_into}
use Rattle.c_parse.specs.Laws.ExternalSeen.{DeclarationWord, AnyExternal, external_seen}

-- an external declaration, with its levels
abbrev pub ExternalWord : Language Token Externals
ExternalWord v w = ExternalDeclaration v.height v.items w

-- one more external declaration
abbrev pub NextExternal : Externals → Language Token Externals
NextExternal a = Made (more_externals a) ExternalWord

-- one external declaration or more
abbrev pub UnitWord : Language Token Externals
UnitWord = Chain ExternalWord NextExternal

-- how many levels there are below those of a declaration and of what it holds
abbrev pub levels_below : Externals → ℕ
levels_below v = v.height - 2

abbrev pub Low : ℕ → Externals → Type 0
Low d v = levels_below v ≤ d

-- ---- declarations

abbrev goes_on_word : ℕ → Bool
goes_on_word w = (is_some (size_at w) || (w == keyword key.Int)) || (w == punctuator mark.LeftBrace)

tail_apart : (x : Token) → begins_tail x ≡ true → goes_on_head x ≡ false
unfolding size_at
tail_apart x e = fails_test goes_on_word tail_words refl (word_of x) e

pub declaration_good : (d : ℕ) → Good (declaration d) DeclarationWord (Low d) begins_declaration nothing
unfolding declaration
declaration_good d = makes_good external_of DeclarationWord (Low d) nothing
    (thens_good (tail d) TailWord (λ _. TailLow d) begins_tail (λ _. nothing) (specifiers_good d)
    (λ s _. tail_good d s) tail_begins (λ s x e. tail_apart x e))
    (λ c w m. record { source = c; is = refl; word = m }) (λ v w m. m) (λ c w m fits. omega (arith, fits.0, fits.1))
    (λ c w m low. (omega arith, omega arith)) (λ c x e. refl)

declaration_begins : (t : Token) → begins_declaration t ≡ true → Begins DeclarationWord (t ∷ [])
declaration_begins t e =
    let s = specifiers_begin_at t e in
    let b = tail_begins s.value in
    record {
      value = external_of (s.value, b.value);
      more = s.more ++ b.more;
      whole = record { source = (s.value, b.value); is = refl; word = join s.whole b.whole };
    }

-- ---- the line of a header

pub include_picked : (o : Lexeme) (v : Externals) → included_at o ≡ Some v → (o ≡ lexeme.Include) × (include_line ≡ v)
include_picked lexeme.Include v e = (refl, cc)
include_picked (lexeme.Name b) v e = cc
include_picked (lexeme.Number n ty) v e = cc
include_picked (lexeme.Character c) v e = cc
include_picked (lexeme.Text b) v e = cc
include_picked (lexeme.Keyword k) v e = cc
include_picked (lexeme.Punct p) v e = cc

include_low : (d : ℕ) (v : Externals) (w : List Token) → Word pick_include v w → Low d v
include_low d v w (one_word_of {x = t} e) =
    let h : 0 ≡ v.height = ap (λ (v : Externals). v.height) (include_picked t.kind v e).1 in
    omega arith

include_good : (d : ℕ) → Good (word pick_include) (Word pick_include) (Low d) is_include nothing
include_good d = good_as (Word pick_include) (Low d) is_include
    (word_good pick_include (record { token = token_of lexeme.Include; value = include_line; is = refl }))
    (λ v w m. m) (λ v w m. m) (λ v w m low. include_low d v w m) (λ v w m low. tt) (λ x e. e)

abbrev declaration_word : ℕ → Bool
declaration_word w = is_some (storage_at w) || ((w == keyword key.Struct) || ((w == keyword key.Void) || is_some (first_at w)))

include_apart : (t : Token) (o : Option Externals) → included_at t.kind ≡ o → is_some o ≡ true → begins_declaration t ≡ false
unfolding storage_at first_at
include_apart t None e h = cc
include_apart t (Some v) e h = ap (λ k. declaration_word (lexeme_word k)) (include_picked t.kind v e).0

-- ---- external declarations

either_good_external : (d : ℕ) → Good (external d) AnyExternal (Low d) begins_external nothing
unfolding external
either_good_external d = either_good begins_declaration true begins_external (λ r. declaration_good d) (include_good d)
    declaration_begins (λ v w m low. refl) (declaration_good 0).starts
    (λ x e. include_apart x (included_at x.kind) refl e) (λ x e. or_left (begins_declaration x) (is_include x) e)
    (λ x e. or_right (begins_declaration x) (is_include x) e)

external_into : (v : Externals) (w : List Token) → AnyExternal v w → ExternalWord v w
external_into v w (inl m) = subst (λ v. ExternalWord v w) m.is (declaration_into m.source w m.word)
external_into v w (inr (one_word_of {x = t} e)) =
    let p = include_picked t.kind v e in subst (λ v. ExternalWord v (t ∷ [])) p.1 (externals.include t p.0)

-- an external declaration is read
pub external_good : (d : ℕ) → Good (external d) ExternalWord (Low d) begins_external nothing
external_good d = good_as ExternalWord (Low d) begins_external (either_good_external d) external_into (λ v w m. external_seen m)
    (λ v w m low. low) (λ v w m low. low) (λ x e. e)

-- some external declaration begins with each of the tokens
include_begins : (t : Token) (o : Option Externals) → included_at t.kind ≡ o → is_some o ≡ true → Begins ExternalWord (t ∷ [])
include_begins t None e h = cc
include_begins t (Some v) e h = record { value = include_line; more = []; whole = externals.include t (include_picked t.kind v e).0 }

pub external_begins : (t : Token) → begins_external t ≡ true → Begins ExternalWord (t ∷ [])
external_begins t e = go (begins_declaration t) refl e
  where
    go : (b : Bool) → begins_declaration t ≡ b → (b || is_include t) ≡ true → Begins ExternalWord (t ∷ [])
    go true is h = let b = declaration_begins t is in record {
      value = b.value;
      more = b.more;
      whole = external_into b.value ((t ∷ []) ++ b.more) (inl b.whole);
    }
    go false is h = include_begins t (included_at t.kind) refl h

-- ---- units

pub next_good : (d : ℕ) (a : Externals) → MayTurn (Low d) (λ _. true) a →
    Good (next_external d a) (NextExternal a) (Low d) begins_external nothing
unfolding next_external
next_good d a may = makes_good (more_externals a) (NextExternal a) (Low d) nothing (external_good d)
    (λ b w m. record { source = b; is = refl; word = m }) (λ v w m. m) (λ b w m low. omega (arith, may.fits)) (λ b w m low. omega arith)
    (λ b x e. refl)

next_begins : (a : Externals) (t : Token) → begins_external t ≡ true → Begins (NextExternal a) (t ∷ [])
next_begins a t e = let b = external_begins t e in record {
  value = more_externals a b.value;
  more = b.more;
  whole = record { source = b.value; is = refl; word = b.whole };
}

may_go_on : (d : ℕ) (a b : Externals) (u : List Token) → NextExternal a b u → Low d b → MayTurn (Low d) (λ _. true) a
may_go_on d a b u m low =
    let high : max a.height m.source.height ≡ b.height = ap (λ (v : Externals). v.height) m.is in
    record { fits = omega arith; has_room = refl }

abbrev pub goes_on_unit : Externals → Token → Bool
goes_on_unit a t = begins_external t

-- a unit is read
pub unit_good : (d : ℕ) → Good (unit d) UnitWord (Low d) begins_external goes_on_unit
unfolding unit
unit_good d = chain_good begins_external (λ _. true) (next_external d) NextExternal (next_good d) goes_on_unit
    (external_good d) next_begins (may_go_on d) (λ a x e. refl) (λ a x e. (refl, e))
