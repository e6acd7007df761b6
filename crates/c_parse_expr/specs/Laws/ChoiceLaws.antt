-- Choices and assignments are read.
use Rattle.std.specs.Prelude.{◌≡◌, ℕ, suc, ◌-◌, ◌<◌, ◌==◌, max, Bool, true, false, List, [], ◌∷◌, ◌++◌, Option, Some, None, is_some, refl}
use Rattle.std.proofs.Common.{sym, ◌∙◌, ap, subst, arith}
use Rattle.c_ast.specs.declared.token.Span.{Span}
use Rattle.c_ast.specs.Seen.{Seen as Token}
use Rattle.c_ast.specs.declared.token.Lexeme.TheVariants as lexeme
use Rattle.c_ast.specs.declared.expr.Expr.{Expr}
use Rattle.c_ast.specs.declared.expr.Node.TheVariants as node
use Rattle.c_ast.specs.Laws.Opened.{given_trees}
use Rattle.c_ast.specs.Tree.{expr}
use Rattle.c_ast.specs.Words.{punctuator_number}
use Rattle.c_ast.specs.declared.operator.AssignOperator.{AssignOperator}
use Rattle.c_ast.specs.declared.operator.AssignOperator.TheVariants as assign
use Rattle.c_ast.specs.declared.punctuator.Punctuator.TheVariants as mark
use Rattle.c_grammar.specs.Words.{word_of, punctuator, span_of}
use Rattle.c_grammar.specs.Operators.{assign_mark}
use Rattle.c_grammar.specs.Expressions as spells
use Rattle.c_grammar.specs.Expressions.{Primary, Postfix, Unary, Binary, Conditional, Expression}
use Rattle.c_parse_base.specs.Reading.Answer.{thens}
use Rattle.c_parse_base.specs.Reading.Good.{Language, Begins, StartsIn, Good}
use Rattle.c_parse_base.specs.Reading.Languages.{Word, word_of as one_word_of, Then, join, Perhaps, alone, followed, Made}
use Rattle.c_parse_base.specs.Laws.Parts.{word_good, thens_good, makes_good}
use Rattle.c_parse_base.specs.Laws.Lists.{starts_append}
use Rattle.c_parse_base.specs.Laws.OptionalLaws.{MayFollow, optional_good}
use Rattle.c_parse_base.specs.Reading.Spans.{join_spans}
use Rattle.c_parse_base.specs.Laws.SpanLaws.{span_join}
use Rattle.c_parse_base.specs.Reading.Words.{is, punct, place_of, token_of, Spot, spot, one_word, among}
use Rattle.c_parse_base.specs.Laws.WordGood.{good_as, punct_good, punct_begins, spot_begins}
use Rattle.c_parse_expr.specs.declared.measured.Measured.{Measured}
use Rattle.c_parse_expr.specs.Reading.Nodes.{choice_of, assign_of, assignable}
use Rattle.c_parse_expr.specs.Reading.Operators.{operator_word}
use Rattle.c_parse_base.specs.Laws.WordListLaws.{both_false}
use Rattle.c_parse_base.specs.Laws.Depths.{below_is, is_below}
use Rattle.c_parse_expr.specs.Reading.Expressions.{Expressions, has_room, tier, chosen, conditional, assigned, assignment, assign_word}
use Rattle.c_parse_expr.specs.Reading.Expressions.{has_word}
use Rattle.c_parse_expr.specs.Reading.Levels.{Low, BinaryWords, UnaryWords, ConditionalWord, ExpressionWord, begins, goes_on}
use Rattle.c_parse_expr.specs.Reading.Levels.{conditional_on, conditional_word, expression_on, assign_words, GoodExpressions, measured}
use Rattle.c_parse_expr.specs.Reading.Levels.{example, example_token}
use Rattle.c_parse_expr.specs.Laws.LevelLaws.{closes, closes_all, reach, unary_tier, starts_unary, starts_binary, starts_conditional}
use Rattle.c_parse_expr.specs.Laws.LevelLaws.{starts_expression, unary_span, binary_span, conditional_span, expression_span}
use Rattle.c_parse_expr.specs.Laws.LevelLaws.{expression_begins, conditional_begins, example_conditional, example_expression}
use Rattle.c_parse_expr.specs.Laws.UnaryLaws.{chosen as one_chosen, chosen_is}

-- ---- choices

-- ":" cond
abbrev Else : Language Token (Span × Measured)
Else = Then (Spot (punctuator mark.Colon)) (λ _. ConditionalWord)

-- expr ":" cond
abbrev Branches : Language Token (Measured × (Span × Measured))
Branches = Then ExpressionWord (λ _. Else)

abbrev ChoiceParts : Language Token (Span × (Measured × (Span × Measured)))
ChoiceParts = Then (Spot (punctuator mark.Question)) (λ _. Branches)

abbrev pub Choice : Measured → Language Token Measured
Choice c = Made (λ (p : Span × (Measured × (Span × Measured))). choice_of c p.1) ChoiceParts

choice_span : (c a b : Measured) (w v x : List Token) (q s : Token) → BinaryWords 10 c w → ExpressionWord a v → ConditionalWord b x →
    span_of (w ++ (q ∷ v ++ s ∷ x)) ≡ reach c.tree.span.start b.tree.span.end
choice_span c a b w v x q s l m n =
    let starts : StartsIn begins v = starts_expression a.height a.tree v m in
    span_join begins begins w q (v ++ s ∷ x) (starts_binary 10 c.height c.tree w l) (starts_append begins v (s ∷ x) starts)
    ∙ ap (join_spans (span_of w)) (span_join begins begins v s x starts (starts_conditional b.height b.tree x n))
    ∙ ap (λ (k : Span). reach k.start (span_of x).end) (sym (binary_span 10 c.height c.tree w l))
    ∙ ap (λ (k : Span). reach c.tree.span.start k.end) (sym (conditional_span b.height b.tree x n))

choice_made : (c : Measured) (p : Span × (Measured × (Span × Measured))) (w u : List Token) → BinaryWords 10 c w → ChoiceParts p u →
    ConditionalWord (choice_of c p.1) (w ++ u)
choice_made c p w u l (join (spot q isq) (join {a = a} {u = v} m (join {b = b} {v = x} (spot s iss) n))) =
    subst (λ k. Conditional (suc (max c.height (max a.height b.height))) (expr k (node.Cond c.tree a.tree b.tree)) (w ++ (q ∷ v ++ s ∷ x)))
    (choice_span c a b w v x q s l m n) (spells.choice q s l isq m iss n)

conditional_into : (v : Measured) (w : List Token) → Perhaps (BinaryWords 10) Choice v w → ConditionalWord v w
conditional_into v w (alone l) = spells.binary l
conditional_into v w (followed {a = c} {w = x} {u = u} l m) = subst (λ v. ConditionalWord v (x ++ u)) m.is
    (choice_made c m.source x u l m.word)

conditional_out : (h : ℕ) (e : Expr) (w : List Token) → Conditional h e w → Perhaps (BinaryWords 10) Choice (measured e h) w
conditional_out h e w (spells.binary b) = alone b
conditional_out h e w (spells.choice {h = i} {k = k} {j = j} {c = c} {a = a} {b = b} {u = u} {v = v} {w = x} q s l isq m iss n) =
    followed l (record {
      source = (place_of q, (measured a k, (place_of s, measured b j)));
      is = ap (λ p. measured (expr p (node.Cond c a b)) (suc (max i (max k j))))
          (sym (choice_span (measured c i) (measured a k) (measured b j) u v x q s l m n));
      word = join (spot q isq) (join m (join (spot s iss) n));
    })

colon_none : operator_word (punctuator mark.Colon) ≡ None
unfolding operator_word
colon_none = refl

question_none : operator_word (punctuator mark.Question) ≡ None
unfolding operator_word
question_none = refl

else_begin : Begins Else []
else_begin = let b = punct_begins mark.Colon in record {
  value = (b.value, example);
  more = b.more ++ example_token ∷ [];
  whole = join b.whole example_conditional;
}

branches_begin : Begins Branches []
branches_begin = record {
  value = (example, else_begin.value);
  more = (example_token ∷ []) ++ else_begin.more;
  whole = join example_expression else_begin.whole;
}

choice_begins : (c : Measured) (t : Token) → is (punctuator mark.Question) t ≡ true → Begins (Choice c) (t ∷ [])
choice_begins c t e =
    let b = spot_begins (punctuator mark.Question) (λ _. Branches) t e branches_begin in
    record { value = choice_of c b.value.1; more = b.more; whole = record { source = b.value; is = refl; word = b.whole } }

module _ (d : ℕ) (below : Expressions) (good : 0 < d → GoodExpressions (d - 1) below) where
  abbrev BranchesLow : Measured × (Span × Measured) → Type 0
  BranchesLow p = Low (d - 1) p.0 × (Unit {0} × Low (d - 1) p.1.1)

  else_good : 0 < d → Good (thens (punct mark.Colon) (λ _. below.conditional)) Else (λ p. Unit {0} × Low (d - 1) p.1)
      (is (punctuator mark.Colon)) (λ p t. conditional_on p.1 t)
  else_good h = thens_good (λ _. below.conditional) (λ _. ConditionalWord) (λ _. Low (d - 1)) begins (λ _. conditional_on)
      (punct_good mark.Colon) (λ _ _. (good h).conditional) (λ _. conditional_begins) (λ a x e. refl)

  branches_good : 0 < d → Good (thens below.expression (λ _. thens (punct mark.Colon) (λ _. below.conditional))) Branches BranchesLow
      begins (λ p t. conditional_on p.1.1 t)
  branches_good h = thens_good (λ _. thens (punct mark.Colon) (λ _. below.conditional)) (λ _. Else) (λ _ p. Unit {0} × Low (d - 1) p.1)
      (is (punctuator mark.Colon)) (λ _ p t. conditional_on p.1 t)
      (good h).expression (λ _ _. else_good h) (λ _. else_begin)
      (λ a x e. closes_all a (punctuator mark.Colon) x refl colon_none refl refl e)

  pub chosen_good : (c : Measured) → MayFollow (Low d) (λ _. true) (has_room d) c →
      Good (chosen d below c) (Choice c) (Low d) (is (punctuator mark.Question)) conditional_on
  unfolding chosen
  chosen_good c may =
      let room : c.height < d = below_is c.height d may.has_room in
      makes_good (λ p. choice_of c p.1) (Choice c) (Low d) conditional_on
      (thens_good (λ _. thens below.expression (λ _. thens (punct mark.Colon) (λ _. below.conditional))) (λ _. Branches)
      (λ _. BranchesLow) begins (λ _ p t. conditional_on p.1.1 t)
      (punct_good mark.Question) (λ _ _. branches_good (omega arith)) (λ _. branches_begin) (λ a x e. refl))
      (λ p w m. record { source = p; is = refl; word = m }) (λ b w m. m)
      (λ p w m fits. omega (arith, fits.1.0, fits.1.1.1)) (λ p w m fits. (tt, (omega (arith, fits), (tt, omega (arith, fits)))))
      (λ p x e. e)

  may_choose : (a b : Measured) (u : List Token) → Choice a b u → Low d b → MayFollow (Low d) (λ _. true) (has_room d) a
  may_choose a b u m low =
      let high : suc (max a.height (max m.source.1.0.height m.source.1.1.1.height)) ≡ b.height = ap (λ v. v.height) m.is in
      record { fits = omega arith; is_allowed = refl; has_room = is_below a.height d (omega arith) }

  pub conditional_good : Good (tier d below 10) (BinaryWords 10) (Low d) begins (goes_on 10) →
      Good (conditional d below) ConditionalWord (Low d) begins conditional_on
  unfolding conditional
  conditional_good g = good_as ConditionalWord (Low d) begins
      (optional_good (is (punctuator mark.Question)) (λ _. true) (has_room d) (chosen d below) Choice conditional_on g chosen_good
      (λ a x y e. choice_begins a x e) may_choose
      (λ a x e. closes 10 a (punctuator mark.Question) x refl question_none e)
      (λ a x e. let b = both_false (goes_on 10 a x) (is (punctuator mark.Question) x) e in (b.0, b.1, e)))
      conditional_into (λ v w m. conditional_out v.height v.tree w m) (λ v w m low. low) (λ v w m low. low) (λ x e. e)

-- ---- assignments

abbrev assign_number : Option AssignOperator → ℕ
assign_number o = punctuator (assign_mark o)

assign_listed : (w : ℕ) → is_some (assign_word w) ≡ true → one_word assign_words w ≡ true
assign_listed w = one_chosen w (punctuator mark.Equal) None _
    (punctuator mark.PlusEqual ∷ punctuator mark.MinusEqual ∷ punctuator mark.StarEqual ∷ punctuator mark.SlashEqual ∷ punctuator
    mark.PercentEqual ∷ punctuator mark.ShiftLeftEqual ∷ punctuator mark.ShiftRightEqual ∷ punctuator mark.AmpersandEqual ∷ punctuator
    mark.CaretEqual ∷ punctuator mark.BarEqual ∷ [])
    (one_chosen w (punctuator mark.PlusEqual) (Some assign.Add) _
    (punctuator mark.MinusEqual ∷ punctuator mark.StarEqual ∷ punctuator mark.SlashEqual ∷ punctuator mark.PercentEqual ∷ punctuator
    mark.ShiftLeftEqual ∷ punctuator mark.ShiftRightEqual ∷ punctuator mark.AmpersandEqual ∷ punctuator mark.CaretEqual ∷ punctuator
    mark.BarEqual ∷ [])
    (one_chosen w (punctuator mark.MinusEqual) (Some assign.Subtract) _
    (punctuator mark.StarEqual ∷ punctuator mark.SlashEqual ∷ punctuator mark.PercentEqual ∷ punctuator
    mark.ShiftLeftEqual ∷ punctuator mark.ShiftRightEqual ∷ punctuator mark.AmpersandEqual ∷ punctuator mark.CaretEqual ∷ punctuator
    mark.BarEqual ∷ [])
    (one_chosen w (punctuator mark.StarEqual) (Some assign.Multiply) _
    (punctuator mark.SlashEqual ∷ punctuator mark.PercentEqual ∷ punctuator mark.ShiftLeftEqual ∷ punctuator
    mark.ShiftRightEqual ∷ punctuator mark.AmpersandEqual ∷ punctuator mark.CaretEqual ∷ punctuator mark.BarEqual ∷ [])
    (one_chosen w (punctuator mark.SlashEqual) (Some assign.Divide) _
    (punctuator mark.PercentEqual ∷ punctuator mark.ShiftLeftEqual ∷ punctuator mark.ShiftRightEqual ∷ punctuator
    mark.AmpersandEqual ∷ punctuator mark.CaretEqual ∷ punctuator mark.BarEqual ∷ [])
    (one_chosen w (punctuator mark.PercentEqual) (Some assign.Remainder) _
    (punctuator mark.ShiftLeftEqual ∷ punctuator mark.ShiftRightEqual ∷ punctuator mark.AmpersandEqual ∷ punctuator
    mark.CaretEqual ∷ punctuator mark.BarEqual ∷ [])
    (one_chosen w (punctuator mark.ShiftLeftEqual) (Some assign.ShiftLeft) _
    (punctuator mark.ShiftRightEqual ∷ punctuator mark.AmpersandEqual ∷ punctuator mark.CaretEqual ∷ punctuator mark.BarEqual ∷ [])
    (one_chosen w (punctuator mark.ShiftRightEqual) (Some assign.ShiftRight) _
    (punctuator mark.AmpersandEqual ∷ punctuator mark.CaretEqual ∷ punctuator mark.BarEqual ∷ [])
    (one_chosen w (punctuator mark.AmpersandEqual) (Some assign.BitAnd) _ (punctuator mark.CaretEqual ∷ punctuator mark.BarEqual ∷ [])
    (one_chosen w (punctuator mark.CaretEqual) (Some assign.BitXor) _ (punctuator mark.BarEqual ∷ [])
    (one_chosen w (punctuator mark.BarEqual) (Some assign.BitOr) None ([])
    (λ h. cc) (w == punctuator mark.BarEqual) refl) (w == punctuator
    mark.CaretEqual) refl) (w == punctuator mark.AmpersandEqual) refl) (w == punctuator mark.ShiftRightEqual) refl)
    (w == punctuator mark.ShiftLeftEqual) refl) (w == punctuator mark.PercentEqual) refl) (w == punctuator mark.SlashEqual) refl)
    (w == punctuator mark.StarEqual) refl) (w == punctuator mark.MinusEqual) refl) (w == punctuator mark.PlusEqual) refl)
    (w == punctuator mark.Equal) refl

assign_is : (w : ℕ) (o : Option AssignOperator) → assign_word w ≡ Some o → w ≡ assign_number o
assign_is w = chosen_is assign_number w (punctuator mark.Equal) None _ refl
    (chosen_is assign_number w (punctuator mark.PlusEqual) (Some assign.Add) _ refl
    (chosen_is assign_number w (punctuator mark.MinusEqual) (Some assign.Subtract) _ refl
    (chosen_is assign_number w (punctuator mark.StarEqual) (Some assign.Multiply) _ refl
    (chosen_is assign_number w (punctuator mark.SlashEqual) (Some assign.Divide) _ refl
    (chosen_is assign_number w (punctuator mark.PercentEqual) (Some assign.Remainder) _ refl
    (chosen_is assign_number w (punctuator mark.ShiftLeftEqual) (Some assign.ShiftLeft) _ refl
    (chosen_is assign_number w (punctuator mark.ShiftRightEqual) (Some assign.ShiftRight) _ refl
    (chosen_is assign_number w (punctuator mark.AmpersandEqual) (Some assign.BitAnd) _ refl
    (chosen_is assign_number w (punctuator mark.CaretEqual) (Some assign.BitXor) _ refl
    (chosen_is assign_number w (punctuator mark.BarEqual) (Some assign.BitOr) None refl
    (λ b h. cc) (w == punctuator mark.BarEqual) refl) (w == punctuator
    mark.CaretEqual) refl) (w == punctuator mark.AmpersandEqual) refl) (w == punctuator mark.ShiftRightEqual) refl)
    (w == punctuator mark.ShiftLeftEqual) refl) (w == punctuator mark.PercentEqual) refl) (w == punctuator mark.SlashEqual) refl)
    (w == punctuator mark.StarEqual) refl) (w == punctuator mark.MinusEqual) refl) (w == punctuator mark.PlusEqual) refl)
    (w == punctuator mark.Equal) refl

assign_found : (w : ℕ) (o : Option AssignOperator) → w ≡ assign_number o → assign_word w ≡ Some o
assign_found w None e = ap assign_word e
assign_found w (Some assign.Add) e = ap assign_word e
assign_found w (Some assign.Subtract) e = ap assign_word e
assign_found w (Some assign.Multiply) e = ap assign_word e
assign_found w (Some assign.Divide) e = ap assign_word e
assign_found w (Some assign.Remainder) e = ap assign_word e
assign_found w (Some assign.ShiftLeft) e = ap assign_word e
assign_found w (Some assign.ShiftRight) e = ap assign_word e
assign_found w (Some assign.BitAnd) e = ap assign_word e
assign_found w (Some assign.BitXor) e = ap assign_word e
assign_found w (Some assign.BitOr) e = ap assign_word e

abbrev pick_assign : Token → Option (Option AssignOperator)
pick_assign t = assign_word (word_of t)

abbrev Assigned : Measured → Language Token Measured
Assigned a = Made (assign_of a) (Then (Word pick_assign) (λ _. ExpressionWord))

-- what is assigned, behind an expression that may be assigned to
pub record Allowed (a b : Measured) (u : List Token) : Type 0 where
  pub may : assignable a ≡ true
  pub part : Assigned a b u

unary_of_binary : (n h : ℕ) (e : Expr) (w : List Token) → Binary n h e w → assignable (measured e h) ≡ true → Unary h e w
unfolding given_trees
unary_of_binary n h e w (spells.operand (spells.unary m)) may = m
unary_of_binary n h e w (spells.operand (spells.cast l r isl m isr c)) may = cc
unary_of_binary n h e w (spells.tighter {n = k} b) may = unary_of_binary k h e w b may
unary_of_binary n h e w (spells.operation t a is b) may = cc

unary_of : (h : ℕ) (e : Expr) (w : List Token) → Conditional h e w → assignable (measured e h) ≡ true → Unary h e w
unfolding given_trees
unary_of h e w (spells.binary b) may = unary_of_binary 10 h e w b may
unary_of h e w (spells.choice q s b isq m iss n) may = cc

primary_assignable : (h : ℕ) (e : Expr) (w : List Token) → Primary h e w → assignable (measured e h) ≡ true
unfolding given_trees
primary_assignable h e w (spells.variable t is) = refl
primary_assignable h e w (spells.number t is) = refl
primary_assignable h e w (spells.character t is) = refl
primary_assignable h e w (spells.text m) = refl
primary_assignable h e w (spells.paren l r isl m isr) = refl

postfix_assignable : (h : ℕ) (e : Expr) (w : List Token) → Postfix h e w → assignable (measured e h) ≡ true
unfolding given_trees
postfix_assignable h e w (spells.primary p) = primary_assignable h e w p
postfix_assignable h e w (spells.index l r p isl m isr) = refl
postfix_assignable h e w (spells.call l r p isl m isr) = refl
postfix_assignable h e w (spells.member d t p isd ist) = refl
postfix_assignable h e w (spells.arrow d t p isd ist) = refl
postfix_assignable h e w (spells.step_behind t p ist) = refl

unary_assignable : (h : ℕ) (e : Expr) (w : List Token) → Unary h e w → assignable (measured e h) ≡ true
unfolding given_trees
unary_assignable h e w (spells.postfix p) = postfix_assignable h e w p
unary_assignable h e w (spells.step_before t is m) = refl
unary_assignable h e w (spells.operated t is m) = refl
unary_assignable h e w (spells.sizeof_expr t is m) = refl
unary_assignable h e w (spells.sizeof_name t l r is isl m isr) = refl

assign_span : (a b : Measured) (u v : List Token) (t : Token) → UnaryWords a u → ExpressionWord b v →
    span_of (u ++ t ∷ v) ≡ join_spans a.tree.span b.tree.span
assign_span a b u v t l m =
    span_join begins begins u t v (starts_unary a.height a.tree u l) (starts_expression b.height b.tree v m)
    ∙ ap (λ k. join_spans k (span_of v)) (sym (unary_span a.height a.tree u l))
    ∙ ap (join_spans a.tree.span) (sym (expression_span b.height b.tree v m))

assign_made : (a : Measured) (c : Option AssignOperator × Measured) (w u : List Token) → UnaryWords a w →
    Then (Word pick_assign) (λ _. ExpressionWord) c u → ExpressionWord (assign_of a c) (w ++ u)
assign_made a c w u l (join {a = o} {b = b} {v = v} (one_word_of {x = t} e) m) =
    subst (λ k. Expression (suc (max a.height b.height)) (expr k (node.Assign o a.tree b.tree)) (w ++ t ∷ v)) (assign_span a b w v t l m)
    (spells.assignment t l (assign_is (word_of t) o e) m)

expression_into : (v : Measured) (w : List Token) → Perhaps ConditionalWord Allowed v w → ExpressionWord v w
expression_into v w (alone l) = spells.conditional l
expression_into v w (followed {a = a} {w = x} {u = u} l m) =
    subst (λ v. ExpressionWord v (x ++ u)) m.part.is (assign_made a m.part.source x u (unary_of a.height a.tree x l m.may) m.part.word)

expression_out : (h : ℕ) (e : Expr) (w : List Token) → Expression h e w → Perhaps ConditionalWord Allowed (measured e h) w
expression_out h e w (spells.conditional c) = alone c
expression_out h e w (spells.assignment {h = i} {k = k} {o = o} {a = a} {b = b} {u = u} {v = v} t l is m) = followed
    (spells.binary (unary_tier 10 i a u l)) (record {
      may = unary_assignable i a u l;
      part = record {
        source = (o, measured b k);
        is = ap (λ p. measured (expr p (node.Assign o a b)) (suc (max i k))) (sym (assign_span (measured a i) (measured b k) u v t l m));
        word = join (one_word_of (assign_found (word_of t) o is)) m;
      };
    })

assign_example : (a : Measured) (t : Token) (o : Option (Option AssignOperator)) → pick_assign t ≡ o → is_some o ≡ true →
    assignable a ≡ true → Begins (Allowed a) (t ∷ [])
assign_example a t None e h may = cc
assign_example a t (Some o) e h may = record {
  value = assign_of a (o, example);
  more = example_token ∷ [];
  whole = record { may = may; part = record { source = (o, example); is = refl; word = join (one_word_of e) example_expression } };
}

-- no operator of assignment goes on behind a conditional expression
assign_apart : (a : Measured) (t : Token) (o : Option (Option AssignOperator)) → pick_assign t ≡ o → is_some o ≡ true →
    conditional_on a t ≡ false
unfolding operator_word
assign_apart a t None e h = cc
assign_apart a t (Some o) e h = ap conditional_word (assign_is (word_of t) o e) ∙ apart o
  where
    apart : (o : Option AssignOperator) → conditional_word (assign_number o) ≡ false
    apart None = refl
    apart (Some assign.Add) = refl
    apart (Some assign.Subtract) = refl
    apart (Some assign.Multiply) = refl
    apart (Some assign.Divide) = refl
    apart (Some assign.Remainder) = refl
    apart (Some assign.ShiftLeft) = refl
    apart (Some assign.ShiftRight) = refl
    apart (Some assign.BitAnd) = refl
    apart (Some assign.BitXor) = refl
    apart (Some assign.BitOr) = refl

module _ (d : ℕ) (below : Expressions) (good : 0 < d → GoodExpressions (d - 1) below) where
  assigned_good : (a : Measured) → MayFollow (Low d) assignable (has_room d) a →
      Good (assigned d below a) (Allowed a) (Low d) (has_word assign_word) expression_on
  unfolding assigned
  assigned_good a may =
      let room : a.height < d = below_is a.height d may.has_room in
      good_as (Allowed a) (Low d) (has_word assign_word)
      (makes_good (assign_of a) (Assigned a) (Low d) expression_on
      (thens_good (λ _. below.expression) (λ _. ExpressionWord) (λ _. Low (d - 1)) begins (λ _. expression_on)
      (word_good pick_assign (record { token = token_of (lexeme.Punct (punctuator_number mark.Equal)); value = None; is = refl }))
      (λ _ _. (good (omega arith)).expression) (λ _. expression_begins) (λ a x e. refl))
      (λ c w m. record { source = c; is = refl; word = m }) (λ b w m. m)
      (λ c w m fits. omega (arith, fits.1)) (λ c w m fits. (tt, omega (arith, fits))) (λ c x e. e))
      (λ b w m. record { may = may.is_allowed; part = m }) (λ b w m. m.part) (λ b w m low. low) (λ b w m low. low) (λ x e. e)

  may_assign : (a b : Measured) (u : List Token) → Allowed a b u → Low d b → MayFollow (Low d) assignable (has_room d) a
  may_assign a b u m low =
      let high : suc (max a.height m.part.source.1.height) ≡ b.height = ap (λ v. v.height) m.part.is in
      record { fits = omega arith; is_allowed = m.may; has_room = is_below a.height d (omega arith) }

  no_assign : (t : Token) → among assign_words t ≡ false → has_word assign_word t ≡ false
  no_assign t h = not_true (has_word assign_word t) (λ k. let one = assign_listed (word_of t) k in cc)
    where
      not_true : (b : Bool) → (b ≡ true → false ≡ true) → b ≡ false
      not_true true h = sym (h refl)
      not_true false h = refl

  pub assignment_good : Good (conditional d below) ConditionalWord (Low d) begins conditional_on →
      Good (assignment d below) ExpressionWord (Low d) begins expression_on
  unfolding assignment
  assignment_good g = good_as ExpressionWord (Low d) begins
      (optional_good (has_word assign_word) assignable (has_room d) (assigned d below) Allowed expression_on g assigned_good
      (λ a x may e. assign_example a x (pick_assign x) refl e may) may_assign
      (λ a x e. assign_apart a x (pick_assign x) refl e)
      (λ a x e. let b = both_false (conditional_on a x) (among assign_words x) e in (b.0, no_assign x b.1, e)))
      expression_into (λ v w m. expression_out v.height v.tree w m) (λ v w m low. low) (λ v w m low. low) (λ x e. e)
