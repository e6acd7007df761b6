-- What the code of the parser needs of the parser.
use Rattle.std.specs.Prelude.{◌≡◌, ℕ, zero, suc, ◌-◌, ◌<◌, ◌≤◌, Bool, true, false, List, Option, Some, None, is_some, length, refl}
use Rattle.std.proofs.Common.{◌∙◌, ap, subst, arith}
use Rattle.c_ast.specs.Seen.{Seen as Token}
use Rattle.c_ast.specs.declared.operator.BinaryOperator.{BinaryOperator}
use Rattle.c_ast.specs.declared.operator.AssignOperator.{AssignOperator}
use Rattle.c_parse_base.specs.Laws.OptionalLaws.{follows_stop, follows_wrong, follows_deep, follows_part}
use Rattle.c_parse_base.specs.declared.fault.Fault.TheVariants.{Unexpected, TooDeep}
use Rattle.c_ast.specs.declared.token.Span.{Span}
use Rattle.c_ast.specs.declared.punctuator.Punctuator.TheVariants as mark
use Rattle.c_grammar.specs.Words.{word_of, punctuator}
use Rattle.c_parse_base.specs.Reading.Words.{punct, any, is}
use Rattle.c_parse_base.specs.Laws.WordLaws.{punct_seen, value_passed, sees_value}
use Rattle.c_parse_expr.specs.Laws.WordCode.{next_word, sees_word, paired, marked_is, marked_makes}
use Rattle.c_parse_expr.specs.Reading.Nodes.{choice_of, assign_of, assignable, more_arguments, one_argument, no_arguments, applied}
use Rattle.c_parse_expr.specs.Reading.Nodes.{binary_of}
use Rattle.c_parse_base.specs.Reading.Answer.{follows, Parser, Read, Stuck, and_then, repeats, turns, sees, makes, thens, either, word}
use Rattle.c_parse_base.specs.Reading.Good.{Good}
use Rattle.c_parse_base.specs.Laws.ChainLaws.{MayTurn}
use Rattle.c_parse_base.specs.Laws.LoopLaws.{Loop, left}
use Rattle.c_parse_base.specs.Reading.Answers.{rest_of, next_value}
use Rattle.c_parse_base.specs.Laws.AnswerLaws.{either_one, either_other}
use Rattle.c_parse_base.specs.Laws.Depths.{is_below, not_below}
use Rattle.c_parse_expr.specs.declared.measured.Measured.{Measured}
use Rattle.c_parse_expr.specs.Reading.Operators.{pick_binary}
use Rattle.c_parse_expr.specs.declared.suffix.Arguments.{Arguments}
use Rattle.c_parse_expr.specs.declared.suffix.Suffix.{Suffix}
use Rattle.c_parse_expr.specs.declared.suffix.Suffix.TheVariants as suffix
use Rattle.c_parse_expr.specs.Reading.Expressions.{chosen, conditional, assigned, assignment, assign_word, has_word, operand, Reader}
use Rattle.c_parse_expr.specs.Reading.Expressions.{under, at, has_room, further, arguments, called, indexed, behind, apply, begins_suffix}
use Rattle.c_parse_expr.specs.Reading.Expressions.{sees_suffix, short_suffix, tier, operation}
use Rattle.c_parse_expr.specs.Reading.Levels.{Low, goes_on, expression_on, example}
use Rattle.c_parse_expr.specs.Laws.PrimaryLaws.{text_behind}
use Rattle.c_parse_expr.specs.Laws.SuffixLaws.{Applied, apply_good, further_good}
use Rattle.c_parse_expr.specs.Laws.ArgumentLaws.{Further, LowArguments}
use Rattle.c_parse_expr.specs.Laws.ExpressionLaws.{under_good, Operation, operation_good}

-- the parsers of the level below
pub under_is : (d : ℕ) → 0 < d → under d ≡ at (d - 1)
unfolding under
under_is zero h = absurd (omega arith)
under_is (suc d) h = let same : d ≡ suc d - 1 = omega arith in ap at same

-- ---- the loop of a tier

abbrev pub picked : ℕ → Token → Bool
picked n t = is_some (pick_binary (suc n) t)

-- a further operator of a tier and its right operand
abbrev pub further_operation : ℕ → ℕ → Loop Token Measured
further_operation d n = record { test = λ _. picked n; room = has_room d; step = operation d (under d) n }

pub tier_zero : (d : ℕ) (ts : List Token) → tier d (under d) 0 ts ≡ operand d (under d) ts
unfolding tier
tier_zero d ts = refl

pub tier_chain : (d n : ℕ) (ts : List Token) → tier d (under d) (suc n) ts ≡ and_then (tier d (under d) n ts) (left (further_operation d n))
unfolding tier left
tier_chain d n ts = refl

pub seen_some : (n : ℕ) (ts : List Token) (o : BinaryOperator) → next_value (pick_binary (suc n)) ts ≡ Some o → sees (picked n) ts ≡ true
seen_some n ts o e = sees_value (pick_binary (suc n)) ts ∙ ap is_some e

pub seen_none : (n : ℕ) (ts : List Token) → next_value (pick_binary (suc n)) ts ≡ None → sees (picked n) ts ≡ false
seen_none n ts e = sees_value (pick_binary (suc n)) ts ∙ ap is_some e

pub good_operation : (d n : ℕ) → n < 10 → (a : Measured) → MayTurn (Low d) (has_room d) a →
    Good (operation d (under d) n a) (Operation n a) (Low d) (picked n) (goes_on n)
good_operation d n small = operation_good d (under d) (under_good d) n small

pub may_go_on : (d : ℕ) (a : Measured) → a.height < d → MayTurn (Low d) (has_room d) a
may_go_on d a low = record { fits = omega arith; has_room = is_below a.height d low }

-- ---- arguments

abbrev comma : Token → Bool
comma = is (punctuator mark.Comma)

-- a further argument
abbrev pub further_argument : ℕ → Loop Token Arguments
further_argument d = record { test = λ _. comma; room = λ _. true; step = further d (under d) }

pub arguments_is : (d : ℕ) (ts : List Token) → 0 < d → arguments d (under d) ts ≡ and_then
    (makes one_argument (assignment (d - 1) (under (d - 1))) ts) (left (further_argument d))
unfolding arguments left
arguments_is d ts h = ap (λ e. and_then (makes one_argument e.expression ts) (repeats comma (λ _. true) (further d (under d))))
    (under_is d h)

pub further_is : (d : ℕ) (a : Arguments) (ts : List Token) → 0 < d → sees comma ts ≡ true →
    further d (under d) a ts ≡ makes (more_arguments a) (assignment (d - 1) (under (d - 1))) (rest_of ts)
unfolding further
further_is d a ts h e = ap (λ x. makes (λ c. more_arguments a c.1) (thens (punct mark.Comma) (λ _. x.expression)) ts) (under_is d h)
    ∙ marked_makes mark.Comma (assignment (d - 1) (under (d - 1))) (more_arguments a) ts e

pub good_further : (d : ℕ) → 0 < d → (a : Arguments) → MayTurn (LowArguments (d - 1)) (λ _. true) a →
    Good (further d (under d) a) (Further a) (LowArguments (d - 1)) comma (λ _ t. expression_on example t)
good_further d h a may = further_good d (under d) (under_good d) h a may.fits

pub further_read : (d : ℕ) (a : Arguments) (b : Measured) (ts us : List Token) → 0 < d → sees comma ts ≡ true →
    assignment (d - 1) (under (d - 1)) (rest_of ts) ≡ Read b us →
    further d (under d) a ts ≡ Read (more_arguments a b) us
further_read d a b ts us h e r = further_is d a ts h e ∙ ap (λ o. and_then o (λ b us. Read (more_arguments a b) us)) r

-- ---- calls, indices and shorter suffixes

pub called_empty : (d : ℕ) (ts : List Token) → sees (is (punctuator mark.RightParen)) ts ≡ true →
    called d (under d) ts ≡ makes (suffix.Call no_arguments) any ts
unfolding called
called_empty d ts e = either_one (is (punctuator mark.RightParen)) true (makes (suffix.Call no_arguments) (punct mark.RightParen))
    (makes (λ c. suffix.Call c.0 c.1) (thens (arguments d (under d)) (λ _. punct mark.RightParen))) ts e refl
    ∙ ap (λ o. and_then o (λ a us. Read (suffix.Call no_arguments a) us)) (punct_seen mark.RightParen ts e)

pub called_full : (d : ℕ) (ts : List Token) → sees (is (punctuator mark.RightParen)) ts ≡ false →
    called d (under d) ts ≡ makes (λ c. suffix.Call c.0 c.1) (thens (arguments d (under d)) (λ _. punct mark.RightParen)) ts
unfolding called
called_full d ts e = either_other (is (punctuator mark.RightParen)) true (makes (suffix.Call no_arguments) (punct mark.RightParen))
    (makes (λ c. suffix.Call c.0 c.1) (thens (arguments d (under d)) (λ _. punct mark.RightParen))) ts e

pub indexed_is : (d : ℕ) (ts : List Token) → 0 < d →
    indexed d (under d) ts ≡ makes (λ c. suffix.Index c.0 c.1)
    (thens (assignment (d - 1) (under (d - 1))) (λ _. punct mark.RightBracket)) ts
unfolding indexed
indexed_is d ts h = ap (λ e. makes (λ c. suffix.Index c.0 c.1) (thens e.expression (λ _. punct mark.RightBracket)) ts) (under_is d h)

abbrev bracket_first : ℕ → Parser Token Suffix
bracket_first d = makes (λ c. c.1) (thens (punct mark.LeftBracket) (λ _. indexed d (under d)))

abbrev call_first : ℕ → Parser Token Suffix
call_first d = makes (λ c. c.1) (thens (punct mark.LeftParen) (λ _. called d (under d)))

abbrev no_bracket : ℕ → Parser Token Suffix
no_bracket d = either (is (punctuator mark.LeftParen)) true (call_first d) short_suffix

pub behind_index : (d : ℕ) (ts : List Token) → sees (is (punctuator mark.LeftBracket)) ts ≡ true →
    behind d (under d) ts ≡ indexed d (under d) (rest_of ts)
unfolding behind
behind_index d ts e = either_one (is (punctuator mark.LeftBracket)) true (bracket_first d) (no_bracket d) ts e refl
    ∙ marked_is mark.LeftBracket (indexed d (under d)) ts e

pub behind_call : (d : ℕ) (ts : List Token) → sees (is (punctuator mark.LeftBracket)) ts ≡ false →
    sees (is (punctuator mark.LeftParen)) ts ≡ true → behind d (under d) ts ≡ called d (under d) (rest_of ts)
unfolding behind
behind_call d ts n e = either_other (is (punctuator mark.LeftBracket)) true (bracket_first d) (no_bracket d) ts n
    ∙ either_one (is (punctuator mark.LeftParen)) true (call_first d) short_suffix ts e refl
    ∙ marked_is mark.LeftParen (called d (under d)) ts e

pub behind_short : (d : ℕ) (ts : List Token) → sees (is (punctuator mark.LeftBracket)) ts ≡ false →
    sees (is (punctuator mark.LeftParen)) ts ≡ false → behind d (under d) ts ≡ short_suffix ts
unfolding behind
behind_short d ts n m = either_other (is (punctuator mark.LeftBracket)) true (bracket_first d) (no_bracket d) ts n
    ∙ either_other (is (punctuator mark.LeftParen)) true (call_first d) short_suffix ts m

-- ---- the loop of suffixes

-- the suffixes that are left, behind what was read so far
abbrev pub further_suffix : ℕ → Loop Token Measured
further_suffix d = record { test = λ _. begins_suffix; room = has_room d; step = apply d (under d) }

abbrev pub more_suffixes : ℕ → Measured → Reader
more_suffixes d = left (further_suffix d)

pub good_apply : (d : ℕ) → (a : Measured) → MayTurn (Low d) (has_room d) a →
    Good (apply d (under d) a) (Applied a) (Low d) begins_suffix text_behind
good_apply d = apply_good d (under d) (under_good d)

pub suffix_seen : (ts : List Token) (b : Bool) → sees_suffix ts ≡ b → sees begins_suffix ts ≡ b
unfolding sees_suffix
suffix_seen ts b e = e

pub apply_is : (d : ℕ) (a : Measured) (ts : List Token) → apply d (under d) a ts ≡ makes (applied a) (behind d (under d)) ts
unfolding apply
apply_is d a ts = refl

pub applied_read : (d : ℕ) (a : Measured) (s : Suffix) (ts us : List Token) → behind d (under d) ts ≡ Read s us →
    apply d (under d) a ts ≡ Read (applied a s) us
applied_read d a s ts us e = apply_is d a ts ∙ ap (λ o. and_then o (λ s us. Read (applied a s) us)) e

-- ---- choices and assignments

abbrev question : Token → Bool
question = is (punctuator mark.Question)

-- `expr : cond`, at this depth
unfoldable pub branches_of : ℕ → Parser Token (Measured × (Span × Measured))
branches_of d = thens (assignment (d - 1) (under (d - 1))) (λ _. thens (punct mark.Colon) (λ _. conditional (d - 1) (under (d - 1))))

pub branches_is : (d : ℕ) (ts : List Token) → branches_of d ts ≡ thens (assignment (d - 1) (under (d - 1)))
    (λ _. thens (punct mark.Colon) (λ _. conditional (d - 1) (under (d - 1)))) ts
unfolding branches_of
branches_is d ts = refl

pub chosen_is : (d : ℕ) (c : Measured) (ts : List Token) → 0 < d → sees question ts ≡ true →
    chosen d (under d) c ts ≡ makes (choice_of c) (branches_of d) (rest_of ts)
unfolding chosen branches_of
chosen_is d c ts h e = ap (λ x. makes (λ p. choice_of c p.1)
    (thens (punct mark.Question) (λ _. thens x.expression (λ _. thens (punct mark.Colon) (λ _. x.conditional)))) ts) (under_is d h)
    ∙ marked_makes mark.Question (thens (assignment (d - 1) (under (d - 1)))
    (λ _. thens (punct mark.Colon) (λ _. conditional (d - 1) (under (d - 1))))) (choice_of c) ts e

abbrev choice_follows : ℕ → Measured → Reader
choice_follows d = follows question (λ _. true) (has_room d) (chosen d (under d))

pub conditional_is : (d : ℕ) (ts : List Token) → conditional d (under d) ts ≡ and_then (tier d (under d) 10 ts) (choice_follows d)
unfolding conditional
conditional_is d ts = refl

pub no_choice : (d : ℕ) (a : Measured) (ts : List Token) → sees question ts ≡ false → choice_follows d a ts ≡ Read a ts
no_choice d a ts e = follows_stop question (λ _. true) (has_room d) (chosen d (under d)) a ts e

pub choice_deep : (d : ℕ) (a : Measured) (ts : List Token) → sees question ts ≡ true → d ≤ a.height →
    choice_follows d a ts ≡ Stuck TooDeep ts
choice_deep d a ts e h = follows_deep question (λ _. true) (has_room d) (chosen d (under d)) a ts e refl (not_below a.height d h)

pub choice_read : (d : ℕ) (a : Measured) (ts : List Token) → sees question ts ≡ true → a.height < d →
    choice_follows d a ts ≡ chosen d (under d) a ts
choice_read d a ts e h = follows_part question (λ _. true) (has_room d) (chosen d (under d)) a ts e refl (is_below a.height d h)

pub assigned_is : (d : ℕ) (a : Measured) (ts : List Token) (o : Option AssignOperator) → 0 < d → next_word assign_word ts ≡ Some o →
    assigned d (under d) a ts ≡ makes (λ b. assign_of a (o, b)) (assignment (d - 1) (under (d - 1))) (rest_of ts)
unfolding assigned
assigned_is d a ts o h e = ap (λ x. makes (assign_of a) (thens (word (λ t. assign_word (word_of t))) (λ _. x.expression)) ts) (under_is d h)
    ∙ ap (λ q. and_then (and_then q (λ a us. and_then (assignment (d - 1) (under (d - 1)) us) (λ b vs. Read (a, b) vs)))
    (λ c us. Read (assign_of a c) us)) (value_passed (λ t. assign_word (word_of t)) ts o e)
    ∙ paired (assign_of a) o (assignment (d - 1) (under (d - 1)) (rest_of ts))

abbrev assign_follows : ℕ → Measured → Reader
assign_follows d = follows (has_word assign_word) assignable (has_room d) (assigned d (under d))

pub assignment_is : (d : ℕ) (ts : List Token) → assignment d (under d) ts ≡ and_then (conditional d (under d) ts) (assign_follows d)
unfolding assignment
assignment_is d ts = refl

pub no_assign : (d : ℕ) (a : Measured) (ts : List Token) → next_word assign_word ts ≡ None → assign_follows d a ts ≡ Read a ts
no_assign d a ts e = follows_stop (has_word assign_word) assignable (has_room d) (assigned d (under d)) a ts
    (sees_word assign_word ts ∙ ap is_some e)

pub assign_wrong : (d : ℕ) (a : Measured) (ts : List Token) (o : Option AssignOperator) → next_word assign_word ts ≡ Some o →
    assignable a ≡ false → assign_follows d a ts ≡ Stuck Unexpected ts
assign_wrong d a ts o e h = follows_wrong (has_word assign_word) assignable (has_room d) (assigned d (under d)) a ts
    (sees_word assign_word ts ∙ ap is_some e) h

pub assign_deep : (d : ℕ) (a : Measured) (ts : List Token) (o : Option AssignOperator) → next_word assign_word ts ≡ Some o →
    assignable a ≡ true → d ≤ a.height → assign_follows d a ts ≡ Stuck TooDeep ts
assign_deep d a ts o e y h = follows_deep (has_word assign_word) assignable (has_room d) (assigned d (under d)) a ts
    (sees_word assign_word ts ∙ ap is_some e) y (not_below a.height d h)

pub assign_read : (d : ℕ) (a : Measured) (ts : List Token) (o : Option AssignOperator) → next_word assign_word ts ≡ Some o →
    assignable a ≡ true → a.height < d → assign_follows d a ts ≡ assigned d (under d) a ts
assign_read d a ts o e y h = follows_part (has_word assign_word) assignable (has_room d) (assigned d (under d)) a ts
    (sees_word assign_word ts ∙ ap is_some e) y (is_below a.height d h)

-- ---- an operator and its right operand

pub operation_is : (d n : ℕ) (a : Measured) (ts : List Token) → 0 < d →
    operation d (under d) n a ts ≡ makes (binary_of a) (thens (word (pick_binary (suc n))) (λ _. tier (d - 1) (under (d - 1)) n)) ts
unfolding operation
operation_is d n a ts h = ap (λ e. makes (binary_of a) (thens (word (pick_binary (suc n))) (λ _. e.binary n)) ts) (under_is d h)

-- ---- a tier of a number

pub tier_is : (d n m : ℕ) (ts : List Token) → n ≡ m → tier d (under d) n ts ≡ tier d (under d) m ts
tier_is d n m ts e = ap (λ n. tier d (under d) n ts) e

-- the next operator of the same tier, by another name of its number
pub at_tier : (n m : ℕ) (ts : List Token) (o : Option BinaryOperator) → n ≡ m → next_value (pick_binary n) ts ≡ o →
    next_value (pick_binary m) ts ≡ o
at_tier n m ts o e h = subst (λ n. next_value (pick_binary n) ts ≡ o) e h
