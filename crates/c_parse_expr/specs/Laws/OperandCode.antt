-- What the code of operands needs of their parsers.
use Rattle.std.specs.Prelude.{◌≡◌, ℕ, ◌-◌, ◌<◌, ◌≤◌, true, false, nat_lt, List, Some, None, is_some, refl}
use Rattle.std.proofs.Common.{◌∙◌, ap, arith}
use Rattle.c_ast.specs.declared.token.Span.{Span}
use Rattle.c_ast.specs.Seen.{Seen as Token}
use Rattle.c_ast.specs.declared.operator.Step.{Step}
use Rattle.c_ast.specs.declared.operator.UnaryOperator.{UnaryOperator}
use Rattle.c_ast.specs.declared.keyword.Keyword.TheVariants as key
use Rattle.c_ast.specs.declared.punctuator.Punctuator.TheVariants as mark
use Rattle.c_grammar.specs.Words.{keyword, punctuator}
use Rattle.c_parse_base.specs.declared.fault.Fault.TheVariants.{TooDeep}
use Rattle.c_parse_base.specs.Reading.Answer.{Read, Stuck, and_then, sees, makes, thens, either, word}
use Rattle.c_parse_base.specs.Laws.AnswerLaws.{either_one, either_deep, either_other}
use Rattle.c_parse_base.specs.Reading.Words as read
use Rattle.c_parse_base.specs.Reading.Words.{punct, is}
use Rattle.c_parse_base.specs.Laws.LoopLaws.{left}
use Rattle.c_parse_base.specs.Laws.Depths.{is_below, not_below}
use Rattle.c_parse_base.specs.Reading.TypeNames.{begins_type, type_name}
use Rattle.c_parse_expr.specs.Reading.Nodes.{paren_of, step_of, unary_of, size_of, size_name_of, cast_of}
use Rattle.c_parse_expr.specs.Reading.Expressions.{Reader, under, assignment, step_word, unary_word, pick_placed, has_word, begins_bare}
use Rattle.c_parse_expr.specs.Reading.Expressions.{plain, opened, worded, grouped, stepped, operated, size_name, size_opened, size_rest}
use Rattle.c_parse_expr.specs.Reading.Expressions.{sized, bare, unary, casted, cast_or_group, operand, tier}
use Rattle.c_parse_expr.specs.Reading.Levels.{begins}
use Rattle.c_parse_expr.specs.Laws.WordCode.{next_word, sees_word, paired}
use Rattle.c_parse_expr.specs.Laws.Code.{under_is, more_suffixes}

-- ---- what is behind a "(", and operands that begin with neither

pub grouped_is : (d : ℕ) (l : Span) (ts : List Token) → 0 < d →
    grouped d (under d) l ts ≡ and_then (makes (paren_of l) (thens (assignment (d - 1) (under (d - 1))) (λ _. punct mark.RightParen)) ts)
    (more_suffixes d)
unfolding grouped opened left
grouped_is d l ts h = ap (λ e. and_then (makes (paren_of l) (thens e.expression (λ _. punct mark.RightParen)) ts) (more_suffixes d))
    (under_is d h)

pub worded_is : (d : ℕ) (ts : List Token) → worded d (under d) ts ≡ and_then (plain ts) (more_suffixes d)
unfolding worded left
worded_is d ts = refl

-- ---- what stands before an operand

pub stepped_is : (d : ℕ) (ts us : List Token) (c : Step × Span) → 0 < d → word (pick_placed step_word) ts ≡ Read c us →
    stepped d (under d) ts ≡ makes (λ a. step_of (c, a)) (unary (d - 1) (under (d - 1))) us
unfolding stepped
stepped_is d ts us c h e = ap (λ x. makes step_of (thens (word (pick_placed step_word)) (λ _. x.unary)) ts) (under_is d h)
    ∙ ap (λ o. and_then (and_then o (λ a us. and_then (unary (d - 1) (under (d - 1)) us) (λ b vs. Read (a, b) vs)))
    (λ c us. Read (step_of c) us)) e
    ∙ paired step_of c (unary (d - 1) (under (d - 1)) us)

pub operated_is : (d : ℕ) (ts us : List Token) (c : UnaryOperator × Span) → 0 < d → word (pick_placed unary_word) ts ≡ Read c us →
    operated d (under d) ts ≡ makes (λ a. unary_of (c, a)) (tier (d - 1) (under (d - 1)) 0) us
unfolding operated
operated_is d ts us c h e = ap (λ x. makes unary_of (thens (word (pick_placed unary_word)) (λ _. x.binary 0)) ts) (under_is d h)
    ∙ ap (λ o. and_then (and_then o (λ a us. and_then (tier (d - 1) (under (d - 1)) 0 us) (λ b vs. Read (a, b) vs)))
    (λ c us. Read (unary_of c) us)) e
    ∙ paired unary_of c (tier (d - 1) (under (d - 1)) 0 us)

-- ---- `sizeof`

pub size_name_is : (d : ℕ) (place : Span) (ts : List Token) →
    size_name d (under d) place ts ≡ makes (size_name_of place) (thens (type_name d) (λ _. punct mark.RightParen)) ts
unfolding size_name
size_name_is d place ts = refl

abbrev two_below : ℕ → Span → Span → Reader
two_below d place l = makes (size_of place) ((under d).grouped l)

pub size_opened_name : (d : ℕ) (place l : Span) (ts : List Token) → sees begins ts ≡ false →
    size_opened d (under d) place l ts ≡ size_name d (under d) place ts
unfolding size_opened
size_opened_name d place l ts e = either_other begins (nat_lt 1 d) (two_below d place l) (size_name d (under d) place) ts e

pub size_opened_deep : (d : ℕ) (place l : Span) (ts : List Token) → sees begins ts ≡ true → d ≤ 1 →
    size_opened d (under d) place l ts ≡ Stuck TooDeep ts
unfolding size_opened
size_opened_deep d place l ts e low = either_deep begins (nat_lt 1 d) (two_below d place l) (size_name d (under d) place) ts e
    (not_below 1 d low)

pub size_opened_group : (d : ℕ) (place l : Span) (ts : List Token) → sees begins ts ≡ true → 1 < d →
    size_opened d (under d) place l ts ≡ makes (size_of place) (grouped (d - 1) (under (d - 1)) l) ts
unfolding size_opened
size_opened_group d place l ts e h = either_one begins (nat_lt 1 d) (two_below d place l) (size_name d (under d) place) ts e
    (is_below 1 d h)
    ∙ ap (λ e. makes (size_of place) (e.grouped l) ts) (under_is d (omega arith))

abbrev one_below : ℕ → Span → Reader
one_below d place = makes (size_of place) (under d).bare

abbrev size_open : ℕ → Span → Reader
size_open d place = makes (λ c. c.1) (thens (punct mark.LeftParen) (size_opened d (under d) place))

pub size_rest_bare : (d : ℕ) (place : Span) (ts : List Token) → sees begins_bare ts ≡ true → 0 < d →
    size_rest d (under d) place ts ≡ makes (size_of place) (bare (d - 1) (under (d - 1))) ts
unfolding size_rest
size_rest_bare d place ts e h = either_one begins_bare (nat_lt 0 d) (one_below d place) (size_open d place) ts e (is_below 0 d h)
    ∙ ap (λ e. makes (size_of place) e.bare ts) (under_is d h)

pub size_rest_deep : (d : ℕ) (place : Span) (ts : List Token) → sees begins_bare ts ≡ true → d ≡ 0 →
    size_rest d (under d) place ts ≡ Stuck TooDeep ts
unfolding size_rest
size_rest_deep d place ts e z = either_deep begins_bare (nat_lt 0 d) (one_below d place) (size_open d place) ts e
    (not_below 0 d (omega arith))

pub size_rest_open : (d : ℕ) (place : Span) (ts : List Token) → sees begins_bare ts ≡ false →
    size_rest d (under d) place ts ≡ size_open d place ts
unfolding size_rest
size_rest_open d place ts e = either_other begins_bare (nat_lt 0 d) (one_below d place) (size_open d place) ts e

pub sized_is : (d : ℕ) (ts : List Token) → sized d (under d) ts ≡ makes (λ c. c.1) (thens (read.key key.Sizeof) (size_rest d (under d))) ts
unfolding sized
sized_is d ts = refl

-- ---- operands that are no cast

abbrev no_operator : ℕ → Reader
no_operator d = either (is (keyword key.Sizeof)) true (sized d (under d)) (worded d (under d))

abbrev no_step : ℕ → Reader
no_step d = either (has_word unary_word) (nat_lt 0 d) (operated d (under d)) (no_operator d)

pub bare_step : (d : ℕ) (ts : List Token) (s : Step) → next_word step_word ts ≡ Some s → 0 < d →
    bare d (under d) ts ≡ stepped d (under d) ts
unfolding bare
bare_step d ts s e h = either_one (has_word step_word) (nat_lt 0 d) (stepped d (under d)) (no_step d) ts
    (sees_word step_word ts ∙ ap is_some e) (is_below 0 d h)

pub bare_step_deep : (d : ℕ) (ts : List Token) (s : Step) → next_word step_word ts ≡ Some s → d ≡ 0 → bare d (under d) ts ≡ Stuck TooDeep ts
unfolding bare
bare_step_deep d ts s e z = either_deep (has_word step_word) (nat_lt 0 d) (stepped d (under d)) (no_step d) ts
    (sees_word step_word ts ∙ ap is_some e) (not_below 0 d (omega arith))

bare_other : (d : ℕ) (ts : List Token) → next_word step_word ts ≡ None → bare d (under d) ts ≡ no_step d ts
unfolding bare
bare_other d ts e = either_other (has_word step_word) (nat_lt 0 d) (stepped d (under d)) (no_step d) ts
    (sees_word step_word ts ∙ ap is_some e)

pub bare_operated : (d : ℕ) (ts : List Token) (o : UnaryOperator) → next_word step_word ts ≡ None → next_word unary_word ts ≡ Some o →
    0 < d → bare d (under d) ts ≡ operated d (under d) ts
bare_operated d ts o n e h = bare_other d ts n ∙ either_one (has_word unary_word) (nat_lt 0 d) (operated d (under d)) (no_operator d) ts
    (sees_word unary_word ts ∙ ap is_some e) (is_below 0 d h)

pub bare_operated_deep : (d : ℕ) (ts : List Token) (o : UnaryOperator) → next_word step_word ts ≡ None →
    next_word unary_word ts ≡ Some o → d ≡ 0 → bare d (under d) ts ≡ Stuck TooDeep ts
bare_operated_deep d ts o n e z = bare_other d ts n ∙ either_deep (has_word unary_word) (nat_lt 0 d) (operated d (under d))
    (no_operator d) ts (sees_word unary_word ts ∙ ap is_some e) (not_below 0 d (omega arith))

bare_rest : (d : ℕ) (ts : List Token) → next_word step_word ts ≡ None → next_word unary_word ts ≡ None →
    bare d (under d) ts ≡ no_operator d ts
bare_rest d ts n e = bare_other d ts n ∙ either_other (has_word unary_word) (nat_lt 0 d) (operated d (under d)) (no_operator d) ts
    (sees_word unary_word ts ∙ ap is_some e)

pub bare_sized : (d : ℕ) (ts : List Token) → next_word step_word ts ≡ None → next_word unary_word ts ≡ None →
    sees (is (keyword key.Sizeof)) ts ≡ true → bare d (under d) ts ≡ sized d (under d) ts
bare_sized d ts n m e = bare_rest d ts n m ∙ either_one (is (keyword key.Sizeof)) true (sized d (under d)) (worded d (under d)) ts e refl

pub bare_worded : (d : ℕ) (ts : List Token) → next_word step_word ts ≡ None → next_word unary_word ts ≡ None →
    sees (is (keyword key.Sizeof)) ts ≡ false →
    bare d (under d) ts ≡ and_then (plain ts) (more_suffixes d)
bare_worded d ts n m e = bare_rest d ts n m ∙ either_other (is (keyword key.Sizeof)) true (sized d (under d)) (worded d (under d)) ts e
    ∙ worded_is d ts

abbrev group_first : ℕ → Reader
group_first d = makes (λ c. c.1) (thens (punct mark.LeftParen) (grouped d (under d)))

pub unary_bare : (d : ℕ) (ts : List Token) → sees (is (punctuator mark.LeftParen)) ts ≡ false → unary d (under d) ts ≡ bare d (under d) ts
unfolding unary
unary_bare d ts e = either_other (is (punctuator mark.LeftParen)) (nat_lt 0 d) (group_first d) (bare d (under d)) ts e

pub unary_deep : (d : ℕ) (ts : List Token) → sees (is (punctuator mark.LeftParen)) ts ≡ true → d ≡ 0 →
    unary d (under d) ts ≡ Stuck TooDeep ts
unfolding unary
unary_deep d ts e z = either_deep (is (punctuator mark.LeftParen)) (nat_lt 0 d) (group_first d) (bare d (under d)) ts e
    (not_below 0 d (omega arith))

pub unary_group : (d : ℕ) (ts : List Token) → sees (is (punctuator mark.LeftParen)) ts ≡ true → 0 < d →
    unary d (under d) ts ≡ group_first d ts
unfolding unary
unary_group d ts e h = either_one (is (punctuator mark.LeftParen)) (nat_lt 0 d) (group_first d) (bare d (under d)) ts e (is_below 0 d h)

-- ---- casts

pub casted_is : (d : ℕ) (l : Span) (ts : List Token) → 0 < d →
    casted d (under d) l ts ≡ makes (cast_of l) (thens (type_name d)
    (λ _. thens (punct mark.RightParen) (λ _. tier (d - 1) (under (d - 1)) 0))) ts
unfolding casted
casted_is d l ts h = ap (λ e. makes (cast_of l) (thens (type_name d) (λ _. thens (punct mark.RightParen) (λ _. e.binary 0))) ts)
    (under_is d h)

pub open_type : (d : ℕ) (l : Span) (ts : List Token) → sees begins_type ts ≡ true → cast_or_group d (under d) l ts ≡ casted d (under d) l ts
unfolding cast_or_group
open_type d l ts e = either_one begins_type true (casted d (under d) l) (grouped d (under d) l) ts e refl

pub open_group : (d : ℕ) (l : Span) (ts : List Token) → sees begins_type ts ≡ false →
    cast_or_group d (under d) l ts ≡ grouped d (under d) l ts
unfolding cast_or_group
open_group d l ts e = either_other begins_type true (casted d (under d) l) (grouped d (under d) l) ts e

abbrev open_first : ℕ → Reader
open_first d = makes (λ c. c.1) (thens (punct mark.LeftParen) (cast_or_group d (under d)))

pub operand_bare : (d : ℕ) (ts : List Token) → sees (is (punctuator mark.LeftParen)) ts ≡ false →
    operand d (under d) ts ≡ bare d (under d) ts
unfolding operand
operand_bare d ts e = either_other (is (punctuator mark.LeftParen)) (nat_lt 0 d) (open_first d) (bare d (under d)) ts e

pub operand_deep : (d : ℕ) (ts : List Token) → sees (is (punctuator mark.LeftParen)) ts ≡ true → d ≡ 0 →
    operand d (under d) ts ≡ Stuck TooDeep ts
unfolding operand
operand_deep d ts e z = either_deep (is (punctuator mark.LeftParen)) (nat_lt 0 d) (open_first d) (bare d (under d)) ts e
    (not_below 0 d (omega arith))

pub operand_open : (d : ℕ) (ts : List Token) → sees (is (punctuator mark.LeftParen)) ts ≡ true → 0 < d →
    operand d (under d) ts ≡ open_first d ts
unfolding operand
operand_open d ts e h = either_one (is (punctuator mark.LeftParen)) (nat_lt 0 d) (open_first d) (bare d (under d)) ts e (is_below 0 d h)
