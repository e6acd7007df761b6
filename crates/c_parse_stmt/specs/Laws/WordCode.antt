-- What the code needs of single words.
use Rattle.std.specs.Prelude.{◌≡◌, ℕ, Bool, true, false, ◌||◌, if◌then◌else◌, List, [], ◌∷◌, Some, None, refl}
use Rattle.std.proofs.Common.{◌∙◌, ap}
use Rattle.c_ast.specs.declared.token.Span.{Span}
use Rattle.c_ast.specs.Seen.{Seen as Token}
use Rattle.c_ast.specs.declared.keyword.Keyword.{Keyword}
use Rattle.c_ast.specs.declared.keyword.Keyword.TheVariants as key
use Rattle.c_ast.specs.declared.punctuator.Punctuator.TheVariants as mark
use Rattle.c_grammar.specs.Words.{keyword, punctuator}
use Rattle.c_grammar.specs.Statements.{Outside, InLoop}
use Rattle.c_parse_base.specs.Reading.Answer.{Parser, Read, and_then, word_or, thens, makes, sees}
use Rattle.c_parse_base.specs.Reading.Answers.{rest_of}
use Rattle.c_parse_base.specs.Reading.Spans.{start_of}
use Rattle.c_parse_base.specs.Reading.Words as read
use Rattle.c_parse_base.specs.Reading.Words.{is, place_of}
use Rattle.c_parse_expr.specs.Reading.Levels.{begins}
use Rattle.c_parse_expr.specs.Laws.WordCode.{paired}
use Rattle.c_parse_base.specs.Reading.TypeNames.{begins_type}
use Rattle.c_parse_stmt.specs.Reading.Statements.{placed, begins_first_statement, begins_jump, begins_last, begins_item}

-- ---- the words with which statements begin

abbrev at_word : List Token → ℕ → Bool
at_word ts w = sees (is w) ts

pub first_words_are : (ts : List Token) →
    sees begins_first_statement ts ≡ (at_word ts (punctuator mark.LeftBrace) ||
    (at_word ts (keyword key.If) || (at_word ts (keyword key.While) ||
    (at_word ts (keyword key.Do) || (at_word ts (keyword key.For) || at_word ts (keyword key.Return))))))
first_words_are [] = refl
first_words_are (x ∷ ts) = ap (λ b. is (punctuator mark.LeftBrace)
    x || (is (keyword key.If) x || (is (keyword key.While) x || (is (keyword key.Do) x || (is (keyword key.For) x || b))))) (or_none
    (is (keyword key.Return) x))
  where
    or_none : (b : Bool) → (b || false) ≡ b
    or_none true = refl
    or_none false = refl

pub jump_words_are : (ts : List Token) → sees begins_jump ts ≡ (at_word ts (keyword key.Break) || at_word ts (keyword key.Continue))
jump_words_are [] = refl
jump_words_are (x ∷ ts) = ap (λ b. is (keyword key.Break) x || b) (or_none (is (keyword key.Continue) x))
  where
    or_none : (b : Bool) → (b || false) ≡ b
    or_none true = refl
    or_none false = refl

pub last_outside : (ts : List Token) → sees (begins_last Outside) ts ≡ (at_word ts (punctuator mark.Semicolon) || sees begins ts)
last_outside [] = refl
last_outside (x ∷ ts) = refl

pub last_in_loop : (ts : List Token) → sees (begins_last InLoop)
    ts ≡ (sees begins_jump ts || (at_word ts (punctuator mark.Semicolon) || sees begins ts))
last_in_loop [] = refl
last_in_loop (x ∷ ts) = go (is (keyword key.Break) x) (is (keyword key.Continue) x) (is (punctuator mark.Semicolon) x || begins x)
  where
    go : (a b c : Bool) → (a || (b || c)) ≡ ((a || (b || false)) || c)
    go true b c = refl
    go false true c = refl
    go false false c = refl

pub item_is : (b : Bool) (ts : List Token) → sees (begins_item (placed b))
    ts ≡ (sees begins_type ts || (sees begins_first_statement ts || sees (begins_last (placed b)) ts))
item_is b [] = refl
item_is b (x ∷ ts) = ap (λ c. begins_type x || c) (go (is (punctuator mark.LeftBrace) x) (is (keyword key.If) x)
    (is (keyword key.While) x) (is (keyword key.Do) x) (is (keyword key.For) x) (is (keyword key.Return) x) (begins_last (placed b) x))
  where
    go : (a b c d e f g : Bool) → (a || (b || (c || (d || (e || (f || g)))))) ≡ ((a || (b || (c || (d || (e || (f || false)))))) || g)
    go true b c d e f g = refl
    go false true c d e f g = refl
    go false false true d e f g = refl
    go false false false true e f g = refl
    go false false false false true f g = refl
    go false false false false false true g = refl
    go false false false false false false g = refl

-- ---- a keyword that is passed

-- where the next token stands
abbrev pub place_next : List Token → Span
place_next [] = record { start = 0; end = 0 }
place_next (x ∷ ts) = place_of x

pub start_next : (ts : List Token) → (place_next ts).start ≡ start_of ts
start_next [] = refl
start_next (x ∷ ts) = refl

-- what stands behind a keyword that comes next
pub keyed_makes : {B C : Type 0} (k : Keyword) (q : Parser Token B) (f : Span × B → C) (ts : List Token) → sees (is (keyword k)) ts ≡ true →
    makes f (thens (read.key k) (λ _. q)) ts ≡ makes (λ b. f (place_next ts, b)) q (rest_of ts)
unfolding read.key
keyed_makes k q f [] e = cc
keyed_makes k q f (x ∷ ts) e =
    ap (λ b. and_then (and_then (word_or (if b then Some (place_of x) else None) x ts)
    (λ a us. and_then (q us) (λ b vs. Read (a, b) vs))) (λ c vs. Read (f c) vs)) e
    ∙ paired f (place_of x) (q ts)
