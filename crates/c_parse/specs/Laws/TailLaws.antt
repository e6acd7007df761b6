-- What stands behind a type at file scope is read.
use Rattle.std.specs.Prelude.{◌≡◌, ℕ, ◌+◌, ◌≤◌, Bool, true, ◌&&◌, List, [], ◌∷◌, ◌++◌, refl}
use Rattle.std.proofs.Common.{◌∙◌, ap, arith, inl, inr}
use Rattle.c_ast.specs.Seen.{Seen as Token}
use Rattle.c_ast.specs.declared.expr.CType.{CType}
use Rattle.c_ast.specs.declared.punctuator.Punctuator.TheVariants as mark
use Rattle.c_grammar.specs.Words.{word_of, punctuator, a_name}
use Rattle.c_parse_base.specs.Reading.Answer.{makes}
use Rattle.c_parse_base.specs.Reading.Good.{Language, Begins, StartsIn, Good}
use Rattle.c_parse_base.specs.Reading.Languages.{Then, join, Either, nothing, Made}
use Rattle.c_parse_base.specs.Laws.Parts.{thens_good, makes_good, either_good}
use Rattle.c_parse_base.specs.Reading.Words.{is, place_of, punct, Spot, spot, one_word, among}
use Rattle.c_parse_base.specs.Laws.WordGood.{punct_good, punct_begins, equal_is, starts_spot}
use Rattle.c_parse_base.specs.Laws.TypeWordLaws.{other_word}
use Rattle.c_parse_base.specs.Laws.WordListLaws.{within_words, is_at}
use Rattle.c_parse_decl.specs.declared.declarators.declared.Declared.{Declared}
use Rattle.c_parse_decl.specs.Reading.Declarators.{StarredWord, begins_declarator}
use Rattle.c_parse_decl.specs.declared.parameter_list.parameters_read.ParametersRead.{ParametersRead}
use Rattle.c_parse_decl.specs.Reading.Parameters.{ParametersWord}
use Rattle.c_parse_decl.specs.Reading.Objects.{RestWord, begins_rest, rest}
use Rattle.c_parse_stmt.specs.Reading.Statements.{BlockWord, block}
use Rattle.c_parse_decl.specs.Laws.Declarators.StarredLaws.{starred_good}
use Rattle.c_parse_decl.specs.Laws.Parameters.ParametersLaws.{parameters_good, parameters_begins_at}
use Rattle.c_parse_decl.specs.Laws.Objects.RestLaws.{rest_good, rest_begins, rest_height}
use Rattle.c_parse_stmt.specs.Laws.StatementLaws.{block_good}
use Rattle.c_parse_stmt.specs.Laws.BlockLaws.{block_begins_at}
use Rattle.c_parse.specs.declared.head.Specifiers.{Specifiers}
use Rattle.c_parse.specs.declared.behind.Ending.{Ending}
use Rattle.c_parse.specs.declared.behind.Behind.{Behind}
use Rattle.c_parse.specs.declared.behind.Behind.TheVariants as behind
use Rattle.c_parse.specs.Reading.Values.{is_lone, no_body, body_of, function_of, height_behind}
use Rattle.c_parse.specs.Reading.Externals.{ending, function, after_name, named, tail}
use Rattle.c_parse.specs.Laws.WordTests.{both_so, and_so, and_not}

-- ---- the languages

-- a block behind parameters that all have names
pub record WithBlock (p : ParametersRead) (v : Ending) (w : List Token) : Type 0 where
  pub allowed : p.all_named ≡ true
  pub made : Made body_of BlockWord v w

abbrev pub EndingWord : ParametersRead → Language Token Ending
EndingWord p = Either (WithBlock p) (Made no_body (Spot (punctuator mark.Semicolon)))

abbrev pub FunctionWord : Declared → Language Token Behind
FunctionWord a = Made (function_of a) (Then ParametersWord EndingWord)

abbrev pub AfterName : CType → Declared → Language Token Behind
AfterName of a = Either (FunctionWord a) (Made behind.Objects (RestWord of a))

abbrev pub NamedWord : CType → Language Token Behind
NamedWord of = Made (λ c. c.1) (Then (StarredWord of) (AfterName of))

-- a semicolon alone, where it may stand
pub record LoneWord (s : Specifiers) (v : Behind) (w : List Token) : Type 0 where
  pub allowed : is_lone s ≡ true
  pub made : Made (λ _. behind.Lone) (Spot (punctuator mark.Semicolon)) v w

abbrev pub TailWord : Specifiers → Language Token Behind
TailWord s = Either (LoneWord s) (NamedWord s.head.base)

-- ---- levels and tests

abbrev EndingLow : ℕ → Ending → Type 0
EndingLow d v = v.height ≤ d + 1

abbrev pub TailLow : ℕ → Behind → Type 0
TailLow d v = height_behind v ≤ d + 1

abbrev pub ending_words : List ℕ
ending_words = punctuator mark.LeftBrace ∷ punctuator mark.Semicolon ∷ []

abbrev rest_words : List ℕ
rest_words = punctuator mark.LeftBracket ∷ punctuator mark.Equal ∷ punctuator mark.Comma ∷ punctuator mark.Semicolon ∷ []

abbrev behind_words : List ℕ
behind_words = punctuator mark.LeftParen ∷ rest_words

abbrev pub tail_words : List ℕ
tail_words = a_name ∷ punctuator mark.Star ∷ punctuator mark.Semicolon ∷ []

abbrev pub begins_tail : Token → Bool
begins_tail = among tail_words

-- a token that is one of the words is in the list
in_list : (ws : List ℕ) (w : ℕ) (t : Token) → one_word ws w ≡ true → is w t ≡ true → among ws t ≡ true
in_list ws w t h e = is_at (one_word ws) w t e ∙ h

starts_allowed : (may : Bool) (test : Token → Bool) (w : List Token) → may ≡ true → StartsIn test w → StartsIn (λ t. may && test t) w
starts_allowed may test w h s = record { head = s.head; tail = s.tail; parts = s.parts; is_first = and_so may (test s.head) h s.is_first }

-- ---- how a function ends

no_body_good : (d : ℕ) → Good (makes no_body (punct mark.Semicolon)) (Made no_body (Spot (punctuator mark.Semicolon))) (EndingLow d)
    (is (punctuator mark.Semicolon)) nothing
no_body_good d = makes_good no_body (Made no_body (Spot (punctuator mark.Semicolon))) (EndingLow d) nothing (punct_good mark.Semicolon)
    (λ p w m. record { source = p; is = refl; word = m }) (λ v w m. m) (λ p w m low. omega arith) (λ p w m low. tt) (λ p x e. refl)

with_block_good : (d : ℕ) (p : ParametersRead) → p.all_named ≡ true →
    Good (makes body_of (block (d + 1))) (WithBlock p) (EndingLow d) (is (punctuator mark.LeftBrace)) nothing
with_block_good d p may = makes_good body_of (WithBlock p) (EndingLow d) nothing (block_good (d + 1))
    (λ b w m. record { allowed = may; made = record { source = b; is = refl; word = m } }) (λ v w m. m.made) (λ b w m low. low)
    (λ b w m low. low) (λ b x e. refl)

with_block_begins : (p : ParametersRead) (t : Token) → (p.all_named && is (punctuator mark.LeftBrace) t) ≡ true →
    Begins (WithBlock p) (t ∷ [])
with_block_begins p t e =
    let so = both_so p.all_named (is (punctuator mark.LeftBrace) t) e in
    let b = block_begins_at t so.1 in
    record {
      value = body_of b.value;
      more = b.more;
      whole =
          record { allowed = so.0; made = record { source = b.value; is = refl; word = b.whole } };
    }

with_block_starts : (p : ParametersRead) (v : Ending) (w : List Token) → WithBlock p v w →
    StartsIn (λ t. p.all_named && is (punctuator mark.LeftBrace) t) w
with_block_starts p v w m = starts_allowed p.all_named (is (punctuator mark.LeftBrace)) w m.allowed
    ((block_good 0).starts m.made.source w m.made.word)

ending_good : (d : ℕ) (p : ParametersRead) → Good (ending d p) (EndingWord p) (EndingLow d) (among ending_words) nothing
unfolding ending
ending_good d p = either_good (λ t. p.all_named && is (punctuator mark.LeftBrace) t) p.all_named (among ending_words)
    (with_block_good d p) (no_body_good d)
    (with_block_begins p) (λ v w m low. m.allowed) (with_block_starts p)
    (λ x e. and_not p.all_named (is (punctuator mark.LeftBrace) x)
    (other_word (one_word (punctuator mark.Semicolon ∷ [])) (punctuator mark.LeftBrace) (word_of x) refl
    (in_list (punctuator mark.Semicolon ∷ []) (punctuator mark.Semicolon) x refl e)))
    (λ x e. in_list ending_words (punctuator mark.LeftBrace) x refl (both_so p.all_named (is (punctuator mark.LeftBrace) x) e).1)
    (λ x e. in_list ending_words (punctuator mark.Semicolon) x refl e)

ending_begins : (p : ParametersRead) → Begins (EndingWord p) []
ending_begins p = let b = punct_begins mark.Semicolon in record {
  value = no_body b.value;
  more = b.more;
  whole = inr (record { source = b.value; is = refl; word = b.whole });
}

pub ending_starts : (p : ParametersRead) (v : Ending) (w : List Token) → EndingWord p v w → StartsIn (among ending_words) w
ending_starts p = (ending_good 0 p).starts

-- ---- functions

pub function_good : (d : ℕ) (a : Declared) → a.height ≤ d + 1 → Good (function d a) (FunctionWord a) (TailLow d)
    (is (punctuator mark.LeftParen)) nothing
unfolding function
function_good d a low = makes_good (function_of a) (FunctionWord a) (TailLow d) nothing
    (thens_good (ending d) EndingWord (λ _. EndingLow d) (among ending_words) (λ _. nothing) (parameters_good d)
    (λ p _. ending_good d p) ending_begins (λ a x e. refl))
    (λ c w m. record { source = c; is = refl; word = m }) (λ v w m. m) (λ c w m fits. omega (arith, fits.0, fits.1))
    (λ c w m fits. (omega arith, omega arith)) (λ c x e. refl)

function_begins : (a : Declared) (t : Token) → is (punctuator mark.LeftParen) t ≡ true → Begins (FunctionWord a) (t ∷ [])
function_begins a t e =
    let p = parameters_begins_at t e in
    let b = ending_begins p.value in
    record {
      value = function_of a (p.value, b.value);
      more = p.more ++ b.more;
      whole = record { source = (p.value, b.value); is = refl; word = join p.whole b.whole };
    }

objects_good : (d : ℕ) (of : CType) (a : Declared) → a.height ≤ d + 1 →
    Good (makes behind.Objects (rest (d + 1) of a)) (Made behind.Objects (RestWord of a)) (TailLow d) begins_rest nothing
objects_good d of a low = makes_good behind.Objects (Made behind.Objects (RestWord of a)) (TailLow d) nothing (rest_good (d + 1) of a low)
    (λ o w m. record { source = o; is = refl; word = m }) (λ v w m. m) (λ o w m low. low) (λ o w m low. low) (λ o x e. refl)

after_name_good : (d : ℕ) (of : CType) (a : Declared) → a.height ≤ d + 1 →
    Good (after_name d of a) (AfterName of a) (TailLow d) (among behind_words) nothing
unfolding after_name
after_name_good d of a low = either_good (is (punctuator mark.LeftParen)) true (among behind_words) (λ _. function_good d a low)
    (objects_good d of a low)
    (function_begins a) (λ v w m low. refl) (function_good d a low).starts
    (λ x e. other_word (one_word rest_words) (punctuator mark.LeftParen) (word_of x) refl e)
    (λ x e. in_list behind_words (punctuator mark.LeftParen) x refl e) (λ x e. within_words rest_words behind_words refl (word_of x) e)

after_name_begins : (of : CType) (a : Declared) → Begins (AfterName of a) []
after_name_begins of a = let b = rest_begins of a in record {
  value = behind.Objects b.value;
  more = b.more;
  whole = inr (record { source = b.value; is = refl; word = b.whole });
}

-- ---- a name and what is left

-- the levels of the name's type are among those of the whole
after_name_height : (of : CType) (a : Declared) (v : Behind) (w : List Token) → AfterName of a v w → a.height ≤ height_behind v
after_name_height of a v w (inl m) =
    let high : height_behind (function_of a m.source) ≡ height_behind v = ap height_behind m.is in omega arith
after_name_height of a v w (inr m) =
    let high : m.source.height ≡ height_behind v = ap height_behind m.is in omega (arith, rest_height of a m.source w m.word)

name_height : (of : CType) (c : Declared × Behind) (w : List Token) → Then (StarredWord of) (AfterName of) c w →
    c.0.height ≤ height_behind c.1
name_height of c w (join {a = a} {b = b} {v = v} l m) = after_name_height of a b v m

named_good : (d : ℕ) (of : CType) → Good (named d of) (NamedWord of) (TailLow d) begins_declarator nothing
unfolding named
named_good d of = makes_good (λ c. c.1) (NamedWord of) (TailLow d) nothing
    (thens_good (after_name d of) (AfterName of) (λ _. TailLow d) (among behind_words) (λ _. nothing) (starred_good (d + 1) of)
    (after_name_good d of) (after_name_begins of) (λ a x e. refl))
    (λ c w m. record { source = c; is = refl; word = m }) (λ v w m. m) (λ c w m fits. fits.1)
    (λ c w m low. (omega (arith, name_height of c w m), low)) (λ c x e. refl)

-- ---- all that may stand behind a type

lone_good : (d : ℕ) (s : Specifiers) → is_lone s ≡ true → Good (makes (λ _. behind.Lone) (punct mark.Semicolon)) (LoneWord s) (TailLow d)
    (is (punctuator mark.Semicolon)) nothing
lone_good d s may = makes_good (λ _. behind.Lone) (LoneWord s) (TailLow d) nothing (punct_good mark.Semicolon)
    (λ p w m. record { allowed = may; made = record { source = p; is = refl; word = m } }) (λ v w m. m.made) (λ p w m low. omega arith)
    (λ p w m low. tt) (λ p x e. refl)

lone_begins : (s : Specifiers) (t : Token) → (is_lone s && is (punctuator mark.Semicolon) t) ≡ true → Begins (LoneWord s) (t ∷ [])
lone_begins s t e =
    let so = both_so (is_lone s) (is (punctuator mark.Semicolon) t) e in
    record {
      value = behind.Lone;
      more = [];
      whole = record {
        allowed = so.0;
        made = record {
          source = place_of t;
          is = refl;
          word = spot t (equal_is (word_of t) (punctuator mark.Semicolon) so.1);
        };
      };
    }

lone_starts : (s : Specifiers) (v : Behind) (w : List Token) → LoneWord s v w →
    StartsIn (λ t. is_lone s && is (punctuator mark.Semicolon) t) w
lone_starts s v w m = starts_allowed (is_lone s) (is (punctuator mark.Semicolon)) w m.allowed
    (starts_spot (punctuator mark.Semicolon) m.made.source w m.made.word)

pub tail_good : (d : ℕ) (s : Specifiers) → Good (tail d s) (TailWord s) (TailLow d) begins_tail nothing
unfolding tail
tail_good d s = either_good (λ t. is_lone s && is (punctuator mark.Semicolon) t) (is_lone s) begins_tail (lone_good d s)
    (named_good d s.head.base)
    (lone_begins s) (λ v w m low. m.allowed) (lone_starts s)
    (λ x e. and_not (is_lone s) (is (punctuator mark.Semicolon) x)
    (other_word (one_word (a_name ∷ punctuator mark.Star ∷ [])) (punctuator mark.Semicolon) (word_of x) refl e))
    (λ x e. in_list tail_words (punctuator mark.Semicolon) x refl (both_so (is_lone s) (is (punctuator mark.Semicolon) x) e).1)
    (λ x e. within_words (a_name ∷ punctuator mark.Star ∷ []) tail_words refl (word_of x) e)

abbrev some_named : (of : CType) → Begins (StarredWord of) []
some_named of = let b = (starred_good 0 of).some in record { value = b.value; more = b.more; whole = b.whole }

pub tail_begins : (s : Specifiers) → Begins (TailWord s) []
tail_begins s =
    let n = some_named s.head.base in
    let b = after_name_begins s.head.base n.value in
    record {
      value = b.value;
      more = n.more ++ b.more;
      whole = inr
          (record { source = (n.value, b.value); is = refl; word = join n.whole b.whole });
    }
