-- The languages of expressions, and facts on their words.
use Rattle.std.specs.Prelude.{◌≡◌, ℕ, zero, suc, Bool, true, false, List, [], ◌∷◌, ◌++◌, None, refl, ◌==◌}
use Rattle.std.proofs.Common.{sym, ◌∙◌, ap}
use Rattle.c_ast.specs.declared.token.Span.{Span}
use Rattle.c_ast.specs.Seen.{Seen as Token}
use Rattle.c_ast.specs.declared.expr.Expr.{Expr}
use Rattle.c_ast.specs.declared.operator.Step.{Step}
use Rattle.c_ast.specs.declared.operator.Step.TheVariants as step
use Rattle.c_ast.specs.declared.operator.UnaryOperator.{UnaryOperator}
use Rattle.c_ast.specs.declared.operator.UnaryOperator.TheVariants as operator
use Rattle.c_ast.specs.declared.punctuator.Punctuator.TheVariants as mark
use Rattle.c_grammar.specs.Operators.{UnaryWord, StepWord, Before}
use Rattle.c_grammar.specs.Words.{word_of, lexeme_word, punctuator, span_of, last_end}
use Rattle.c_grammar.specs.Expressions as spells
use Rattle.c_grammar.specs.Expressions.{Expression, Conditional, Primary, Postfix, Unary, Cast, Binary, Texts, one_text, more_text}
use Rattle.c_parse_base.specs.Reading.Good.{Begins, StartsIn}
use Rattle.c_parse_base.specs.Laws.Lists.{starts_append}
use Rattle.c_parse_base.specs.Laws.SpanLaws.{last_end_append}
use Rattle.c_parse_base.specs.Reading.Words.{is, one_word, among}
use Rattle.c_parse_expr.specs.declared.measured.Measured.{Measured}
use Rattle.c_parse_expr.specs.Reading.Operators.{operator_word, up_to}
use Rattle.c_parse_base.specs.Laws.WordListLaws.{is_at, or_false, within_words}
use Rattle.c_parse_expr.specs.Reading.Expressions.{bare_words, begins_bare}
use Rattle.c_parse_expr.specs.Reading.Levels.{BinaryWords, ExpressionWord, ConditionalWord, primary_words, opens, begin_words, begins}
use Rattle.c_parse_expr.specs.Reading.Levels.{operand_words, goes_on_word, goes_on, conditional_on, assign_words, expression_on}
use Rattle.c_parse_expr.specs.Reading.Levels.{example_token, example}

-- ---- tests

-- a word that is no operator and behind no operand does not go on
pub closes : (n : ℕ) (a : Measured) (w : ℕ) (t : Token) → one_word operand_words w ≡ false → operator_word w ≡ None → is w t ≡ true →
    goes_on n a t ≡ false
closes n a w t apart none e = is_at (goes_on_word n) w t e ∙ or_false (one_word operand_words w) (up_to n (operator_word w)) apart
    (ap (up_to n) none)

-- a word that is none of these does not go on behind an expression
pub closes_all : (a : Measured) (w : ℕ) (t : Token) → one_word operand_words w ≡ false → operator_word w ≡ None →
    (w == punctuator mark.Question) ≡ false → one_word assign_words w ≡ false →
    is w t ≡ true → expression_on a t ≡ false
closes_all a w t apart none no_choice no_assign e =
    or_false (conditional_on a t) (among assign_words t)
    (or_false (goes_on 10 a t) (is (punctuator mark.Question) t) (closes 10 a w t apart none e)
    (is_at (λ w. w == punctuator mark.Question) w t e ∙ no_choice))
    (is_at (one_word assign_words) w t e ∙ no_assign)

-- ---- spans and first tokens of words

pub opens_at : (w : ℕ) (t : Token) → word_of t ≡ w → one_word primary_words w ≡ true → opens t ≡ true
opens_at w t e h = ap (one_word primary_words) e ∙ h

starts_one : (t : Token) (w : ℕ) (u : List Token) → word_of t ≡ w → one_word primary_words w ≡ true → StartsIn opens (t ∷ u)
starts_one t w u e h = record { head = t; tail = u; parts = refl; is_first = opens_at w t e h }

pub starts_texts : (bytes : List ℕ) (w : List Token) → Texts bytes w → StartsIn opens w
starts_texts bytes w (one_text t e) = starts_one t 4 [] (ap lexeme_word e) refl
starts_texts bytes w (more_text {before = before} {w = u} t m e) = starts_append opens u (t ∷ []) (starts_texts before u m)

pub starts_primary : (h : ℕ) (e : Expr) (w : List Token) → Primary h e w → StartsIn opens w
starts_primary h e w (spells.variable t is) = starts_one t 1 [] (ap lexeme_word is) refl
starts_primary h e w (spells.number t is) = starts_one t 2 [] (ap lexeme_word is) refl
starts_primary h e w (spells.character t is) = starts_one t 3 [] (ap lexeme_word is) refl
starts_primary h e w (spells.text {bytes = bytes} m) = starts_texts bytes w m
starts_primary h e w (spells.paren {u = u} l r isl m isr) = starts_one l (punctuator mark.LeftParen) (u ++ r ∷ []) isl refl

pub starts_postfix : (h : ℕ) (e : Expr) (w : List Token) → Postfix h e w → StartsIn opens w
starts_postfix h e w (spells.primary p) = starts_primary h e w p
starts_postfix h e w (spells.index {h = k} {e = a} {u = u} {v = v} l r p isl m isr) = starts_append opens u (l ∷ v ++ r ∷ [])
    (starts_postfix k a u p)
starts_postfix h e w (spells.call {h = k} {e = a} {u = u} {v = v} l r p isl m isr) = starts_append opens u (l ∷ v ++ r ∷ [])
    (starts_postfix k a u p)
starts_postfix h e w (spells.member {h = k} {e = a} {u = u} d t p isd ist) = starts_append opens u (d ∷ t ∷ []) (starts_postfix k a u p)
starts_postfix h e w (spells.arrow {h = k} {e = a} {u = u} d t p isd ist) = starts_append opens u (d ∷ t ∷ []) (starts_postfix k a u p)
starts_postfix h e w (spells.step_behind {h = k} {e = a} {u = u} t p ist) = starts_append opens u (t ∷ []) (starts_postfix k a u p)

-- what opens begins
starts_more : (w : List Token) → StartsIn opens w → StartsIn begins w
starts_more w s = record {
  head = s.head;
  tail = s.tail;
  parts = s.parts;
  is_first = within_words primary_words begin_words refl (word_of s.head) s.is_first;
}

pub step_bare : (t : Token) (s : Step) → StepWord Before s t → begins_bare t ≡ true
step_bare t step.PreIncrement h = ap (one_word bare_words) h.1
step_bare t step.PreDecrement h = ap (one_word bare_words) h.1
step_bare t step.PostIncrement h = let bad = h.0 in cc
step_bare t step.PostDecrement h = let bad = h.0 in cc

pub operator_bare : (t : Token) (o : UnaryOperator) → UnaryWord o t → begins_bare t ≡ true
operator_bare t operator.AddressOf h = ap (one_word bare_words) h
operator_bare t operator.Dereference h = ap (one_word bare_words) h
operator_bare t operator.Plus h = ap (one_word bare_words) h
operator_bare t operator.Minus h = ap (one_word bare_words) h
operator_bare t operator.Complement h = ap (one_word bare_words) h
operator_bare t operator.Not h = ap (one_word bare_words) h

pub bare_begins : (t : Token) → begins_bare t ≡ true → begins t ≡ true
bare_begins t h = within_words bare_words begin_words refl (word_of t) h

pub starts_unary : (h : ℕ) (e : Expr) (w : List Token) → Unary h e w → StartsIn begins w
starts_unary h e w (spells.postfix p) = starts_more w (starts_postfix h e w p)
starts_unary h e w (spells.step_before {s = s} {u = u} t is m) =
    record { head = t; tail = u; parts = refl; is_first = bare_begins t (step_bare t s is) }
starts_unary h e w (spells.operated {o = o} {u = u} t is m) =
    record { head = t; tail = u; parts = refl; is_first = bare_begins t (operator_bare t o is) }
starts_unary h e w (spells.sizeof_expr {u = u} t is m) = record {
  head = t;
  tail = u;
  parts = refl;
  is_first = ap (one_word begin_words) is;
}
starts_unary h e w (spells.sizeof_name {v = v} t l r is isl m isr) =
    record { head = t; tail = l ∷ v ++ r ∷ []; parts = refl; is_first = ap (one_word begin_words) is }

pub starts_cast : (h : ℕ) (e : Expr) (w : List Token) → Cast h e w → StartsIn begins w
starts_cast h e w (spells.unary m) = starts_unary h e w m
starts_cast h e w (spells.cast {v = v} {u = u} l r isl m isr c) =
    record { head = l; tail = v ++ r ∷ u; parts = refl; is_first = ap (one_word begin_words) isl }

pub starts_binary : (n h : ℕ) (e : Expr) (w : List Token) → Binary n h e w → StartsIn begins w
starts_binary n h e w (spells.operand c) = starts_cast h e w c
starts_binary n h e w (spells.tighter {n = k} b) = starts_binary k h e w b
starts_binary n h e w (spells.operation {n = k} {h = i} {a = a} {u = u} {v = v} t l op r) = starts_append begins u (t ∷ v)
    (starts_binary (suc k) i a u l)

primary_span : (h : ℕ) (e : Expr) (w : List Token) → Primary h e w → e.span ≡ span_of w
primary_span h e w (spells.variable t is) = refl
primary_span h e w (spells.number t is) = refl
primary_span h e w (spells.character t is) = refl
primary_span h e w (spells.text m) = refl
primary_span h e w (spells.paren l r isl m isr) = refl

pub postfix_span : (h : ℕ) (e : Expr) (w : List Token) → Postfix h e w → e.span ≡ span_of w
postfix_span h e w (spells.primary p) = primary_span h e w p
postfix_span h e w (spells.index l r p isl m isr) = refl
postfix_span h e w (spells.call l r p isl m isr) = refl
postfix_span h e w (spells.member d t p isd ist) = refl
postfix_span h e w (spells.arrow d t p isd ist) = refl
postfix_span h e w (spells.step_behind t p ist) = refl

pub unary_span : (h : ℕ) (e : Expr) (w : List Token) → Unary h e w → e.span ≡ span_of w
unary_span h e w (spells.postfix p) = postfix_span h e w p
unary_span h e w (spells.step_before t is m) = refl
unary_span h e w (spells.operated t is m) = refl
unary_span h e w (spells.sizeof_expr t is m) = refl
unary_span h e w (spells.sizeof_name t l r is isl m isr) = refl

pub cast_span : (h : ℕ) (e : Expr) (w : List Token) → Cast h e w → e.span ≡ span_of w
cast_span h e w (spells.unary m) = unary_span h e w m
cast_span h e w (spells.cast l r isl m isr c) = refl

pub binary_span : (n h : ℕ) (e : Expr) (w : List Token) → Binary n h e w → e.span ≡ span_of w
binary_span n h e w (spells.operand c) = cast_span h e w c
binary_span n h e w (spells.tighter {n = k} b) = binary_span k h e w b
binary_span n h e w (spells.operation t a is b) = refl

abbrev pub reach : ℕ → ℕ → Span
reach start end = record { start = start; end = end }

-- a word with more tokens behind it
pub span_behind : (first : Token → Bool) (u : List Token) (t : Token) (v : List Token) (end : ℕ) → StartsIn first u → last_end t v ≡ end →
    span_of (u ++ t ∷ v) ≡ reach (span_of u).start end
span_behind first u t v end s e =
    ap (λ u. span_of (u ++ t ∷ v)) s.parts ∙ ap (reach s.head.start) (last_end_append s.head s.tail t v ∙ e)
    ∙ ap (λ u. reach (span_of u).start end) (sym s.parts)

-- a token with a word behind it
pub span_before : (first : Token → Bool) (t : Token) (u : List Token) → StartsIn first u → span_of (t ∷ u) ≡ reach t.start (span_of u).end
span_before first t u s = ap (λ u. span_of (t ∷ u)) s.parts ∙ ap (λ u. reach t.start (span_of u).end) (sym s.parts)

-- ---- what can always be written

pub example_unary : Unary example.height example.tree (example_token ∷ [])
unfolding example
example_unary = spells.postfix (spells.primary (spells.number example_token refl))

-- an operand that is no cast is an expression of each tier
pub unary_tier : (n h : ℕ) (e : Expr) (w : List Token) → Unary h e w → Binary n h e w
unary_tier zero h e w m = spells.operand (spells.unary m)
unary_tier (suc n) h e w m = spells.tighter (unary_tier n h e w m)

-- the smallest expression of each tier
pub example_binary : (n : ℕ) → BinaryWords n example (example_token ∷ [])
example_binary n = unary_tier n example.height example.tree (example_token ∷ []) example_unary

pub binary_begins : (n : ℕ) → Begins (BinaryWords n) []
binary_begins n = record { value = example; more = example_token ∷ []; whole = example_binary n }

pub example_conditional : ConditionalWord example (example_token ∷ [])
example_conditional = spells.binary (example_binary 10)

pub example_expression : ExpressionWord example (example_token ∷ [])
example_expression = spells.conditional example_conditional

pub expression_begins : Begins ExpressionWord []
expression_begins = record { value = example; more = example_token ∷ []; whole = example_expression }

pub conditional_begins : Begins ConditionalWord []
conditional_begins = record { value = example; more = example_token ∷ []; whole = example_conditional }

pub starts_conditional : (h : ℕ) (e : Expr) (w : List Token) → Conditional h e w → StartsIn begins w
starts_conditional h e w (spells.binary b) = starts_binary 10 h e w b
starts_conditional h e w (spells.choice {h = k} {c = c} {u = u} {v = v} {w = x} q s b isq m iss n) = starts_append begins u
    (q ∷ v ++ s ∷ x) (starts_binary 10 k c u b)

pub starts_expression : (h : ℕ) (e : Expr) (w : List Token) → Expression h e w → StartsIn begins w
starts_expression h e w (spells.conditional c) = starts_conditional h e w c
starts_expression h e w (spells.assignment {h = k} {a = a} {u = u} {v = v} t m is n) = starts_append begins u (t ∷ v) (starts_unary k a u m)

pub conditional_span : (h : ℕ) (e : Expr) (w : List Token) → Conditional h e w → e.span ≡ span_of w
conditional_span h e w (spells.binary b) = binary_span 10 h e w b
conditional_span h e w (spells.choice q s b isq m iss n) = refl

pub expression_span : (h : ℕ) (e : Expr) (w : List Token) → Expression h e w → e.span ≡ span_of w
expression_span h e w (spells.conditional c) = conditional_span h e w c
expression_span h e w (spells.assignment t m is n) = refl
