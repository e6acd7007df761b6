-- What the code of the parts of statements, and of those without a statement in them, needs of their parsers.
use Rattle.std.specs.Prelude.{◌≡◌, ℕ, ◌-◌, ◌<◌, Bool, true, false, List, refl}
use Rattle.std.proofs.Common.{◌∙◌, ap}
use Rattle.c_ast.specs.declared.token.Span.{Span}
use Rattle.c_ast.specs.Seen.{Seen as Token}
use Rattle.c_ast.specs.declared.keyword.Keyword.TheVariants as key
use Rattle.c_ast.specs.declared.punctuator.Punctuator.{Punctuator}
use Rattle.c_ast.specs.declared.punctuator.Punctuator.TheVariants as mark
use Rattle.c_grammar.specs.Words.{keyword}
use Rattle.c_grammar.specs.Statements.{InLoop}
use Rattle.c_parse_base.specs.declared.fault.Fault.TheVariants.{TooDeep}
use Rattle.c_parse_base.specs.Reading.Answer.{Parser, Stuck, thens, makes, sees}
use Rattle.c_parse_base.specs.Reading.Answers.{rest_of}
use Rattle.c_parse_base.specs.Laws.AnswerLaws.{either_one, either_deep, either_other}
use Rattle.c_parse_base.specs.Reading.Spans.{start_of}
use Rattle.c_parse_base.specs.Reading.Words as read
use Rattle.c_parse_base.specs.Reading.Words.{is, punct}
use Rattle.c_parse_expr.specs.declared.measured.Measured.{Measured}
use Rattle.c_parse_expr.specs.Reading.Levels.{begins}
use Rattle.c_parse_base.specs.Reading.TypeNames.{begins_type}
use Rattle.c_parse_decl.specs.Reading.Objects.{local}
use Rattle.c_parse_stmt.specs.declared.clause_read.MaybeRead.{MaybeRead}
use Rattle.c_parse_stmt.specs.declared.clause_read.FirstRead.{FirstRead}
use Rattle.c_parse_stmt.specs.Reading.Nodes.{written_of, left_out_of, first_local, first_expression, head_of, simple_of, return_from}
use Rattle.c_parse_stmt.specs.Reading.Nodes.{return_of, break_from, break_of, continue_from, continue_of}
use Rattle.c_parse_stmt.specs.Reading.Statements.{placed, room, inner, condition, maybe, first, for_head, do_tail, simple, returned}
use Rattle.c_parse_stmt.specs.Reading.Statements.{broken, continued, continued_or, last}
use Rattle.c_parse_stmt.specs.Laws.WordCode.{start_next, keyed_makes}
use Rattle.c_parse_stmt.specs.Laws.Room.{has_room, no_room}

-- ---- parts of statements

pub condition_is : (d : ℕ) (ts : List Token) → condition d ts ≡ makes (λ (c : Span × (Measured × Span)). c.1.0)
    (thens (punct mark.LeftParen) (λ _. thens (inner d) (λ _. punct mark.RightParen))) ts
unfolding condition
condition_is d ts = refl

abbrev written : ℕ → Punctuator → Parser Token MaybeRead
written d p = makes written_of (thens (inner d) (λ _. punct p))

abbrev left_out : Punctuator → Parser Token MaybeRead
left_out p = makes left_out_of (punct p)

pub maybe_none : (d : ℕ) (p : Punctuator) (ts : List Token) → sees begins ts ≡ false → maybe d p ts ≡ makes left_out_of (punct p) ts
unfolding maybe
maybe_none d p ts e = either_other begins (room d) (written d p) (left_out p) ts e

pub maybe_deep : (d : ℕ) (p : Punctuator) (ts : List Token) → sees begins ts ≡ true → d ≡ 0 → maybe d p ts ≡ Stuck TooDeep ts
unfolding maybe
maybe_deep d p ts e z = either_deep begins (room d) (written d p) (left_out p) ts e (no_room d z)

pub maybe_some : (d : ℕ) (p : Punctuator) (ts : List Token) → sees begins ts ≡ true → 0 < d →
    maybe d p ts ≡ makes written_of (thens (inner d) (λ _. punct p)) ts
unfolding maybe
maybe_some d p ts e h = either_one begins (room d) (written d p) (left_out p) ts e (has_room d h)

abbrev declared : ℕ → Parser Token FirstRead
declared d = makes first_local (local (d - 1))

abbrev undeclared : ℕ → Parser Token FirstRead
undeclared d = makes first_expression (maybe d mark.Semicolon)

pub first_other : (d : ℕ) (ts : List Token) → sees begins_type ts ≡ false → first d ts ≡ makes first_expression (maybe d mark.Semicolon) ts
unfolding first
first_other d ts e = either_other begins_type (room d) (declared d) (undeclared d) ts e

pub first_deep : (d : ℕ) (ts : List Token) → sees begins_type ts ≡ true → d ≡ 0 → first d ts ≡ Stuck TooDeep ts
unfolding first
first_deep d ts e z = either_deep begins_type (room d) (declared d) (undeclared d) ts e (no_room d z)

pub first_declared : (d : ℕ) (ts : List Token) → sees begins_type ts ≡ true → 0 < d → first d ts ≡ makes first_local (local (d - 1)) ts
unfolding first
first_declared d ts e h = either_one begins_type (room d) (declared d) (undeclared d) ts e (has_room d h)

pub for_head_is : (d : ℕ) (ts : List Token) →
    for_head d ts ≡ makes head_of (thens (punct mark.LeftParen)
    (λ _. thens (first d) (λ _. thens (maybe d mark.Semicolon) (λ _. maybe d mark.RightParen)))) ts
unfolding for_head
for_head_is d ts = refl

pub do_tail_is : (d : ℕ) (ts : List Token) → do_tail d ts ≡ makes (λ (c : Span × (Measured × Span)). c.1.0)
    (thens (read.key key.While) (λ _. thens (condition d) (λ _. punct mark.Semicolon))) ts
unfolding do_tail
do_tail_is d ts = refl

-- ---- statements without a statement in them

pub simple_is : (d : ℕ) (ts : List Token) → simple d ts ≡ makes simple_of (maybe d mark.Semicolon) ts
unfolding simple
simple_is d ts = refl

pub returned_is : (d : ℕ) (ts : List Token) → sees (is (keyword key.Return)) ts ≡ true →
    returned d ts ≡ makes (return_from (start_of ts)) (maybe d mark.Semicolon) (rest_of ts)
unfolding returned
returned_is d ts e = keyed_makes key.Return (maybe d mark.Semicolon) return_of ts e
    ∙ ap (λ s. makes (return_from s) (maybe d mark.Semicolon) (rest_of ts)) (start_next ts)

pub broken_is : (ts : List Token) → sees (is (keyword key.Break)) ts ≡ true →
    broken ts ≡ makes (break_from (start_of ts)) (punct mark.Semicolon) (rest_of ts)
unfolding broken
broken_is ts e = keyed_makes key.Break (punct mark.Semicolon) break_of ts e
    ∙ ap (λ s. makes (break_from s) (punct mark.Semicolon) (rest_of ts)) (start_next ts)

pub continued_is : (ts : List Token) → sees (is (keyword key.Continue)) ts ≡ true →
    continued ts ≡ makes (continue_from (start_of ts)) (punct mark.Semicolon) (rest_of ts)
unfolding continued
continued_is ts e = keyed_makes key.Continue (punct mark.Semicolon) continue_of ts e
    ∙ ap (λ s. makes (continue_from s) (punct mark.Semicolon) (rest_of ts)) (start_next ts)

pub last_break : (d : ℕ) (ts : List Token) → sees (is (keyword key.Break)) ts ≡ true → last d InLoop ts ≡ broken ts
unfolding last
last_break d ts e = either_one (is (keyword key.Break)) true broken (continued_or d) ts e refl

pub last_continue : (d : ℕ) (ts : List Token) → sees (is (keyword key.Break)) ts ≡ false → sees (is (keyword key.Continue)) ts ≡ true →
    last d InLoop ts ≡ continued ts
unfolding last continued_or
last_continue d ts n e = either_other (is (keyword key.Break)) true broken (continued_or d) ts n
    ∙ either_one (is (keyword key.Continue)) true continued (simple d) ts e refl

pub last_simple : (d : ℕ) (ts : List Token) → sees (is (keyword key.Break)) ts ≡ false → sees (is (keyword key.Continue)) ts ≡ false →
    last d InLoop ts ≡ simple d ts
unfolding last continued_or
last_simple d ts n e = either_other (is (keyword key.Break)) true broken (continued_or d) ts n
    ∙ either_other (is (keyword key.Continue)) true continued (simple d) ts e

pub last_inside : (d : ℕ) (b : Bool) (ts : List Token) → b ≡ true → last d (placed b) ts ≡ last d InLoop ts
last_inside d b ts h = ap (λ b. last d (placed b) ts) h

pub last_outside : (d : ℕ) (b : Bool) (ts : List Token) → b ≡ false → last d (placed b) ts ≡ simple d ts
unfolding last
last_outside d true ts h = cc
last_outside d false ts h = refl
