-- What the code of the parser needs of the parser.
use Rattle.std.specs.Prelude.{◌≡◌, ℕ, ◌+◌, ◌-◌, ◌<◌, ◌≤◌, Bool, true, false, ◌&&◌, if◌then◌else◌, List, [], ◌∷◌, Option, Some, None}
use Rattle.std.specs.Prelude.{is_some, length, refl}
use Rattle.std.proofs.Common.{sym, ◌∙◌, ap, arith}
use Rattle.c_ast.specs.Seen.{Seen as Token}
use Rattle.c_ast.specs.declared.expr.CType.{CType}
use Rattle.c_ast.specs.declared.declaration.Storage.{Storage}
use Rattle.c_ast.specs.declared.declaration.Storage.TheVariants as storage
use Rattle.c_ast.specs.declared.keyword.Keyword.TheVariants as key
use Rattle.c_ast.specs.declared.punctuator.Punctuator.TheVariants as mark
use Rattle.c_grammar.specs.Words.{word_of, keyword, punctuator}
use Rattle.c_parse_base.specs.declared.fault.Fault.TheVariants.{Unexpected}
use Rattle.c_parse_base.specs.Reading.Answer.{Answer, Read, Stuck, Parser, and_then, word, word_or, makes, thens, sees, follows, turns}
use Rattle.c_parse_base.specs.Reading.Answer.{repeats}
use Rattle.c_parse_base.specs.Laws.OptionalLaws.{follows_stop, follows_wrong, follows_part}
use Rattle.c_parse_base.specs.Laws.ChainLaws.{MayTurn}
use Rattle.c_parse_base.specs.Laws.LoopLaws.{Loop, left}
use Rattle.c_parse_base.specs.Reading.Answers.{rest_of, next_value}
use Rattle.c_parse_base.specs.Laws.AnswerLaws.{either_one, either_other}
use Rattle.c_parse_base.specs.Reading.Spans.{start_of}
use Rattle.c_parse_base.specs.Reading.Words.{is, place_of, punct}
use Rattle.c_parse_base.specs.Laws.WordLaws.{sees_value}
use Rattle.c_parse_base.specs.Reading.TypeNames.{base}
use Rattle.c_parse_base.specs.declared.type_read.TypeRead.{TypeRead}
use Rattle.c_parse_decl.specs.declared.declarators.declared.Declared.{Declared}
use Rattle.c_parse_decl.specs.Reading.Declarators.{starred}
use Rattle.c_parse_decl.specs.declared.parameter_list.parameters_read.ParametersRead.{ParametersRead}
use Rattle.c_parse_decl.specs.Reading.Parameters.{parameters}
use Rattle.c_parse_decl.specs.Reading.Objects.{rest}
use Rattle.c_parse_decl.specs.Reading.Members.{body}
use Rattle.c_parse_stmt.specs.Reading.Statements.{block}
use Rattle.c_parse.specs.declared.head.Head.{Head}
use Rattle.c_parse.specs.declared.head.Specifiers.{Specifiers}
use Rattle.c_parse.specs.declared.behind.Behind.TheVariants as behind
use Rattle.c_parse.specs.declared.externals.Externals.{Externals}
use Rattle.c_parse.specs.Reading.Values.{plain_head, with_body, is_struct, stored, unstored, is_lone, no_body, body_of, function_of}
use Rattle.c_parse.specs.Reading.Values.{external_of, include_line, more_externals}
use Rattle.c_parse.specs.Reading.Externals.{storage_at, from_start, pick_storage, is_storage, plain, body_behind, head, stored_head}
use Rattle.c_parse.specs.Reading.Externals.{specifiers, ending, function, after_name, named, tail, declaration, included_at, pick_include}
use Rattle.c_parse.specs.Reading.Externals.{begins_declaration, begins_external, external, next_external, unit}
use Rattle.c_parse.specs.Laws.UnitLaws.{Low, include_picked}

-- a token is seen by a test with a condition where both are true
pub sees_both : (b : Bool) (test : Token → Bool) (ts : List Token) → sees (λ t. b && test t) ts ≡ (b && sees test ts)
sees_both true test [] = refl
sees_both true test (x ∷ ts) = refl
sees_both false test [] = refl
sees_both false test (x ∷ ts) = refl

-- ---- storage classes

abbrev pub next_storage : List Token → Option Storage
next_storage = next_value (λ t. storage_at (word_of t))

pub storage_static : (ts : List Token) → sees (is (keyword key.Static)) ts ≡ true → next_storage ts ≡ Some storage.Static
unfolding storage_at
storage_static [] e = cc
storage_static (x ∷ ts) e = ap (λ b. if b then Some storage.Static else (if is (keyword key.Extern) x then Some storage.Extern else None)) e

pub storage_extern : (ts : List Token) → sees (is (keyword key.Static)) ts ≡ false → sees (is (keyword key.Extern)) ts ≡ true →
    next_storage ts ≡ Some storage.Extern
unfolding storage_at
storage_extern [] e h = cc
storage_extern (x ∷ ts) e h = ap (λ b. if b then Some storage.Static
    else (if is (keyword key.Extern) x then Some storage.Extern else None)) e ∙ ap (λ b. if b then Some storage.Extern else None) h

pub storage_none : (ts : List Token) → sees (is (keyword key.Static)) ts ≡ false → sees (is (keyword key.Extern)) ts ≡ false →
    next_storage ts ≡ None
unfolding storage_at
storage_none [] e h = refl
storage_none (x ∷ ts) e h = ap (λ b. if b then Some storage.Static
    else (if is (keyword key.Extern) x then Some storage.Extern else None)) e ∙ ap (λ b. if b then Some storage.Extern else None) h

-- ---- types at file scope

pub plain_is : (ts : List Token) → plain ts ≡ and_then (base ts) (λ a us. Read (plain_head (start_of ts, a)) us)
unfolding plain
plain_is ts = go (base ts)
  where
    go : (o : Answer Token TypeRead) → and_then (and_then o (λ a us. Read (start_of ts, a) us))
        (λ c us. Read (plain_head c) us) ≡ and_then o (λ a us. Read (plain_head (start_of ts, a)) us)
    go (Read a us) = refl
    go (Stuck f us) = refl

-- a body that may follow
abbrev pub body_follows : ℕ → Head → Parser Token Head
body_follows d = follows (is (punctuator mark.LeftBrace)) is_struct (λ _. true) (body_behind d)

pub head_is : (d : ℕ) (ts : List Token) → head d ts ≡ and_then (plain ts) (body_follows d)
unfolding head
head_is d ts = refl

pub no_body_follows : (d : ℕ) (a : Head) (ts : List Token) → sees (is (punctuator mark.LeftBrace)) ts ≡ false →
    body_follows d a ts ≡ Read a ts
no_body_follows d a ts e = follows_stop (is (punctuator mark.LeftBrace)) is_struct (λ _. true) (body_behind d) a ts e

pub body_wrong : (d : ℕ) (a : Head) (ts : List Token) → sees (is (punctuator mark.LeftBrace)) ts ≡ true → is_struct a ≡ false →
    body_follows d a ts ≡ Stuck Unexpected ts
body_wrong d a ts e n = follows_wrong (is (punctuator mark.LeftBrace)) is_struct (λ _. true) (body_behind d) a ts e n

pub body_taken : (d : ℕ) (a : Head) (ts : List Token) → sees (is (punctuator mark.LeftBrace)) ts ≡ true → is_struct a ≡ true →
    body_follows d a ts ≡ makes (with_body a) (body d) ts
unfolding body_behind
body_taken d a ts e y = follows_part (is (punctuator mark.LeftBrace)) is_struct (λ _. true) (body_behind d) a ts e y refl

-- ---- storage classes and types

storage_taken : (ts : List Token) (c : Storage) → next_storage ts ≡ Some c → word pick_storage ts ≡ Read (c, start_of ts) (rest_of ts)
storage_taken [] c e = cc
storage_taken (x ∷ ts) c e = ap (λ o. word_or (from_start x.start o) x ts) e

pub specifiers_stored : (d : ℕ) (ts : List Token) (c : Storage) → next_storage ts ≡ Some c →
    specifiers d ts ≡ and_then (head d (rest_of ts)) (λ a us. Read (stored ((c, start_of ts), a)) us)
unfolding specifiers stored_head
specifiers_stored d ts c e =
    either_one is_storage true (stored_head d) (makes unstored (head d)) ts
    (sees_value (λ t. storage_at (word_of t)) ts ∙ ap is_some e) refl
    ∙ ap (λ o. and_then (and_then o (λ a us. and_then (head d us) (λ b vs. Read (a, b) vs))) (λ c us. Read (stored c) us))
    (storage_taken ts c e)
    ∙ go (head d (rest_of ts))
  where
    go : (o : Answer Token Head) → and_then (and_then o (λ b vs. Read ((c, start_of ts), b) vs))
        (λ c us. Read (stored c) us) ≡ and_then o (λ a us. Read (stored ((c, start_of ts), a)) us)
    go (Read a us) = refl
    go (Stuck f us) = refl

pub specifiers_plain : (d : ℕ) (ts : List Token) → next_storage ts ≡ None → specifiers d ts ≡ makes unstored (head d) ts
unfolding specifiers
specifiers_plain d ts e = either_other is_storage true (stored_head d) (makes unstored (head d)) ts
    (sees_value (λ t. storage_at (word_of t)) ts ∙ ap is_some e)

-- ---- functions

abbrev pub sees_block : ParametersRead → List Token → Bool
sees_block p = sees (λ t. p.all_named && is (punctuator mark.LeftBrace) t)

seen_allowed : (b : Bool) (test : Token → Bool) (ts : List Token) → sees (λ t. b && test t) ts ≡ true → b ≡ true
seen_allowed true test ts e = refl
seen_allowed false test [] e = cc
seen_allowed false test (x ∷ ts) e = cc

pub ending_block : (d : ℕ) (p : ParametersRead) (ts : List Token) → sees_block p ts ≡ true → ending d p ts ≡
    makes body_of (block (d + 1)) ts
unfolding ending
ending_block d p ts e = either_one _ p.all_named (makes body_of (block (d + 1))) (makes no_body (punct mark.Semicolon)) ts e
    (seen_allowed p.all_named (is (punctuator mark.LeftBrace)) ts e)

pub ending_bare : (d : ℕ) (p : ParametersRead) (ts : List Token) → sees_block p ts ≡ false →
    ending d p ts ≡ makes no_body (punct mark.Semicolon) ts
unfolding ending
ending_bare d p ts e = either_other _ p.all_named (makes body_of (block (d + 1))) (makes no_body (punct mark.Semicolon)) ts e

pub function_is : (d : ℕ) (a : Declared) (ts : List Token) → function d a ts ≡ makes (function_of a) (thens (parameters d) (ending d)) ts
unfolding function
function_is d a ts = refl

pub after_function : (d : ℕ) (of : CType) (a : Declared) (ts : List Token) → sees (is (punctuator mark.LeftParen)) ts ≡ true →
    after_name d of a ts ≡ function d a ts
unfolding after_name
after_function d of a ts e = either_one (is (punctuator mark.LeftParen)) true (function d a) (makes behind.Objects (rest (d + 1) of a)) ts
    e refl

pub after_objects : (d : ℕ) (of : CType) (a : Declared) (ts : List Token) → sees (is (punctuator mark.LeftParen)) ts ≡ false →
    after_name d of a ts ≡ makes behind.Objects (rest (d + 1) of a) ts
unfolding after_name
after_objects d of a ts e = either_other (is (punctuator mark.LeftParen)) true (function d a) (makes behind.Objects (rest (d + 1) of a))
    ts e

pub named_is : (d : ℕ) (of : CType) (ts : List Token) → named d of ts ≡ makes (λ c. c.1) (thens (starred (d + 1) of) (after_name d of)) ts
unfolding named
named_is d of ts = refl

-- ---- what stands behind a type

abbrev pub sees_lone : Specifiers → List Token → Bool
sees_lone s = sees (λ t. is_lone s && is (punctuator mark.Semicolon) t)

lone_taken : (b : Bool) (ts : List Token) → sees (λ t. b && is (punctuator mark.Semicolon) t) ts ≡ true →
    makes (λ _. behind.Lone) (punct mark.Semicolon) ts ≡ Read behind.Lone (rest_of ts)
unfolding punct
lone_taken b [] e = cc
lone_taken true (x ∷ ts) e = ap (λ b. and_then (word_or (if b then Some (place_of x) else None) x ts) (λ _ us. Read behind.Lone us)) e
lone_taken false (x ∷ ts) e = cc

pub tail_lone : (d : ℕ) (s : Specifiers) (ts : List Token) → sees_lone s ts ≡ true → tail d s ts ≡ Read behind.Lone (rest_of ts)
unfolding tail
tail_lone d s ts e =
    either_one _ (is_lone s) (makes (λ _. behind.Lone) (punct mark.Semicolon)) (named d s.head.base) ts e
    (seen_allowed (is_lone s) (is (punctuator mark.Semicolon)) ts e) ∙ lone_taken (is_lone s) ts e

pub tail_named : (d : ℕ) (s : Specifiers) (ts : List Token) → sees_lone s ts ≡ false → tail d s ts ≡ named d s.head.base ts
unfolding tail
tail_named d s ts e = either_other _ (is_lone s) (makes (λ _. behind.Lone) (punct mark.Semicolon)) (named d s.head.base) ts e

-- ---- external declarations

pub declaration_is : (d : ℕ) (ts : List Token) → declaration d ts ≡ makes external_of (thens (specifiers d) (tail d)) ts
unfolding declaration
declaration_is d ts = refl

included : (o : Option Externals) → is_some o ≡ true → (t : Token) → included_at t.kind ≡ o → o ≡ Some include_line
included None e t h = cc
included (Some v) e t h = ap Some (sym (include_picked t.kind v h).1)

pub external_include : (d : ℕ) (ts : List Token) → sees begins_declaration ts ≡ false → external d ts ≡ word pick_include ts
unfolding external
external_include d ts e = either_other begins_declaration true (declaration d) (word pick_include) ts e

pub external_declared : (d : ℕ) (ts : List Token) → sees begins_declaration ts ≡ true → external d ts ≡ declaration d ts
unfolding external
external_declared d ts e = either_one begins_declaration true (declaration d) (word pick_include) ts e refl

-- ---- the loop over external declarations

-- a further external declaration
abbrev pub further_external : ℕ → Loop Token Externals
further_external d = record { test = λ _. begins_external; room = λ _. true; step = next_external d }

pub unit_is : (d : ℕ) (ts : List Token) → unit d ts ≡ and_then (external d ts) (left (further_external d))
unfolding unit left
unit_is d ts = refl

pub next_is : (d : ℕ) (a : Externals) (ts : List Token) → next_external d a ts ≡ makes (more_externals a) (external d) ts
unfolding next_external
next_is d a ts = refl

pub next_read : (d : ℕ) (a b : Externals) (ts us : List Token) → external d ts ≡ Read b us → next_external d a ts ≡
    Read (more_externals a b) us
next_read d a b ts us e = next_is d a ts ∙ ap (λ o. and_then o (λ b us. Read (more_externals a b) us)) e

pub may_follow : (d : ℕ) (a : Externals) → a.height ≤ d + 2 → MayTurn (Low d) (λ _. true) a
may_follow d a low = record { fits = omega arith; has_room = refl }
