-- The parser of expressions reads their language.
use Rattle.std.specs.Prelude.{◌≡◌, ℕ, zero, suc, ◌-◌, ◌<◌, ◌≤◌, max, true, false, List, [], ◌∷◌, ◌++◌, Option, Some, None, is_some, refl}
use Rattle.std.proofs.Common.{sym, ◌∙◌, ap, subst, arith}
use Rattle.c_ast.specs.Seen.{Seen as Token}
use Rattle.c_ast.specs.declared.token.Lexeme.TheVariants as lexeme
use Rattle.c_ast.specs.declared.expr.Expr.{Expr}
use Rattle.c_ast.specs.declared.expr.Node.TheVariants as node
use Rattle.c_ast.specs.Tree.{expr}
use Rattle.c_ast.specs.declared.operator.BinaryOperator.{BinaryOperator}
use Rattle.c_ast.specs.declared.operator.BinaryOperator.TheVariants as operator
use Rattle.c_ast.specs.Words.{punctuator_number}
use Rattle.c_ast.specs.Operators.{binary_punctuator}
use Rattle.c_grammar.specs.Words.{word_of, punctuator, span_of}
use Rattle.c_grammar.specs.Operators.{looseness}
use Rattle.c_grammar.specs.Expressions as spells
use Rattle.c_grammar.specs.Expressions.{Binary}
use Rattle.c_parse_base.specs.Reading.Good.{Language, Begins, Good}
use Rattle.c_parse_base.specs.Reading.Languages.{Word, word_of as one_word_of, Then, join, Chain, once, again, Made}
use Rattle.c_parse_base.specs.Laws.Parts.{Has, word_good, thens_good, makes_good}
use Rattle.c_parse_base.specs.Laws.ChainLaws.{MayTurn, chain_good}
use Rattle.c_parse_base.specs.Reading.Words.{token_of, one_word, among}
use Rattle.c_parse_base.specs.Laws.WordGood.{good_as, good_on}
use Rattle.c_parse_base.specs.Reading.Spans.{join_spans}
use Rattle.c_parse_base.specs.Laws.SpanLaws.{span_join}
use Rattle.c_parse_expr.specs.declared.measured.Measured.{Measured}
use Rattle.c_parse_expr.specs.Reading.Nodes.{binary_of}
use Rattle.c_parse_expr.specs.Reading.Operators.{operator_word, pick_binary, up_to}
use Rattle.c_parse_expr.specs.Laws.OperatorLaws.{picked_is, is_picked, stops_at, apart_at}
use Rattle.c_parse_base.specs.Laws.WordListLaws.{both_false, or_false}
use Rattle.c_parse_base.specs.Laws.Depths.{below_is, is_below}
use Rattle.c_parse_expr.specs.Reading.Expressions as parser
use Rattle.c_parse_expr.specs.Reading.Expressions.{Expressions, has_room, operation, tier}
use Rattle.c_parse_expr.specs.Reading.Levels.{ConditionalWord, conditional_on, Low, BinaryWords, begins, goes_on, goes_on_word}
use Rattle.c_parse_expr.specs.Reading.Levels.{operand_words, GoodExpressions, measured, example, example_token}
use Rattle.c_parse_expr.specs.Laws.LevelLaws.{starts_binary, binary_span, example_binary, binary_begins}
use Rattle.c_parse_expr.specs.Laws.ChoiceLaws.{conditional_good, assignment_good}
use Rattle.c_parse_expr.specs.Laws.SizeofLaws.{GoodOperands}
use Rattle.c_parse_expr.specs.Laws.OperandLaws.{unary_good, operand_good, layer_operands}

-- ---- the tiers

-- an operator of a tier and its right operand, behind the left operand
abbrev pub Operation : ℕ → Measured → Language Token Measured
Operation n a = Made (binary_of a) (Then (Word (pick_binary (suc n))) (λ _. BinaryWords n))

operation_made : (n : ℕ) (a : Measured) (w : List Token) (c : BinaryOperator × Measured) (u : List Token) → BinaryWords (suc n) a w →
    Then (Word (pick_binary (suc n))) (λ _. BinaryWords n) c u → BinaryWords (suc n) (binary_of a c) (w ++ u)
operation_made n a w c u m (join {a = o} {b = b} {v = v} (one_word_of {x = t} e) r) =
    subst (λ s. Binary (suc n) (suc (max a.height b.height)) (expr s (node.Binary o a.tree b.tree)) (w ++ t ∷ v))
    (span_join begins begins w t v (starts_binary (suc n) a.height a.tree w m) (starts_binary n b.height b.tree v r)
    ∙ ap (λ s. join_spans s (span_of v)) (sym (binary_span (suc n) a.height a.tree w m))
    ∙ ap (λ s. join_spans a.tree.span s) (sym (binary_span n b.height b.tree v r)))
    (spells.operation t m (picked_is (suc n) t o e) r)

tier_into : (n : ℕ) (v : Measured) (w : List Token) → Chain (BinaryWords n) (Operation n) v w → BinaryWords (suc n) v w
tier_into n v w (once m) = spells.tighter m
tier_into n v w (again {a = a} {w = w'} {u = u} c m) =
    subst (λ v. BinaryWords (suc n) v (w' ++ u)) m.is (operation_made n a w' m.source u (tier_into n a w' c) m.word)

tier_out : (n h : ℕ) (e : Expr) (w : List Token) → Binary (suc n) h e w → Chain (BinaryWords n) (Operation n) (measured e h) w
tier_out n h e w (spells.tighter b) = once b
tier_out n h e w (spells.operation {h = i} {k = j} {o = o} {a = a} {b = b} {u = u} {v = v} t l op r) = again (tier_out n i a u l) (record {
  source = (o, measured b j);
  word = join (one_word_of (is_picked (suc n) t o op)) r;
  is = ap (λ s. measured (expr s (node.Binary o a b)) (suc (max i j)))
      (ap (λ s. join_spans s b.span) (binary_span (suc n) i a u l) ∙ ap (λ s. join_spans (span_of u) s) (binary_span n j b v r)
      ∙ sym (span_join begins begins u t v (starts_binary (suc n) i a u l) (starts_binary n j b v r)));
})

binary_example : (n : ℕ) (a : Measured) (t : Token) (o : Option BinaryOperator) → pick_binary (suc n) t ≡ o → is_some o ≡ true →
    Begins (Operation n a) (t ∷ [])
binary_example n a t None e h = cc
binary_example n a t (Some o) e h = record {
  value = binary_of a (o, example);
  more = example_token ∷ [];
  whole = record { source = (o, example); is = refl; word = join (one_word_of e) (example_binary n) };
}

-- no operator goes on behind an operand
operand_apart : (o : BinaryOperator) → one_word operand_words (punctuator (binary_punctuator o)) ≡ false
operand_apart operator.Multiply = refl
operand_apart operator.Divide = refl
operand_apart operator.Remainder = refl
operand_apart operator.Add = refl
operand_apart operator.Subtract = refl
operand_apart operator.ShiftLeft = refl
operand_apart operator.ShiftRight = refl
operand_apart operator.Less = refl
operand_apart operator.Greater = refl
operand_apart operator.LessEqual = refl
operand_apart operator.GreaterEqual = refl
operand_apart operator.Equal = refl
operand_apart operator.NotEqual = refl
operand_apart operator.BitAnd = refl
operand_apart operator.BitXor = refl
operand_apart operator.BitOr = refl
operand_apart operator.And = refl
operand_apart operator.Or = refl

-- an operator of a tier does not go on behind an expression of a tighter one
operator_apart : (n : ℕ) (t : Token) (o : Option BinaryOperator) → pick_binary (suc n) t ≡ o → is_some o ≡ true →
    goes_on_word n (word_of t) ≡ false
operator_apart n t None e h = cc
operator_apart n t (Some o) e h =
    or_false (among operand_words t) (up_to n (operator_word (word_of t)))
    (ap (one_word operand_words) (picked_is (suc n) t o e).1 ∙ operand_apart o) (apart_at n t (ap is_some e))

tier_stops : (n : ℕ) (t : Token) → goes_on_word (suc n) (word_of t) ≡ false →
    (goes_on_word n (word_of t) ≡ false) × (is_some (pick_binary (suc n) t) ≡ false)
tier_stops n t h =
    let b = both_false (among operand_words t) (up_to (suc n) (operator_word (word_of t))) h in
    let s = stops_at n t b.1 in
    (or_false (among operand_words t) (up_to n (operator_word (word_of t))) b.0 s.0, s.1)

-- an operator of each tier
tier_has : (n : ℕ) (o : BinaryOperator) → looseness o ≡ suc n → Has (pick_binary (suc n))
tier_has n o e = record {
  token = token_of (lexeme.Punct (punctuator_number (binary_punctuator o)));
  value = o;
  is = is_picked (suc n) (token_of (lexeme.Punct (punctuator_number (binary_punctuator o)))) o (e, refl);
}

has_operator : (n : ℕ) → n < 10 → Has (pick_binary (suc n))
has_operator zero h = tier_has 0 operator.Multiply refl
has_operator (suc zero) h = tier_has 1 operator.Add refl
has_operator (suc (suc zero)) h = tier_has 2 operator.ShiftLeft refl
has_operator (suc (suc (suc zero))) h = tier_has 3 operator.Less refl
has_operator (suc (suc (suc (suc zero)))) h = tier_has 4 operator.Equal refl
has_operator (suc (suc (suc (suc (suc zero))))) h = tier_has 5 operator.BitAnd refl
has_operator (suc (suc (suc (suc (suc (suc zero)))))) h = tier_has 6 operator.BitXor refl
has_operator (suc (suc (suc (suc (suc (suc (suc zero))))))) h = tier_has 7 operator.BitOr refl
has_operator (suc (suc (suc (suc (suc (suc (suc (suc zero)))))))) h = tier_has 8 operator.And refl
has_operator (suc (suc (suc (suc (suc (suc (suc (suc (suc zero))))))))) h = tier_has 9 operator.Or refl
has_operator (suc (suc (suc (suc (suc (suc (suc (suc (suc (suc n)))))))))) h = absurd (omega arith)

module _ (d : ℕ) (below : Expressions) (good : 0 < d → GoodExpressions (d - 1) below) where
  may_operate : (n : ℕ) (a b : Measured) (u : List Token) → Operation n a b u → Low d b → MayTurn (Low d) (has_room d) a
  may_operate n a b u m low =
      let high : suc (max a.height m.source.1.height) ≡ b.height = ap (λ v. v.height) m.is in
      record { fits = omega arith; has_room = is_below a.height d (omega arith) }

  pub operation_good : (n : ℕ) → n < 10 → (a : Measured) → MayTurn (Low d) (has_room d) a →
      Good (operation d below n a) (Operation n a) (Low d) (λ t. is_some (pick_binary (suc n) t)) (goes_on n)
  unfolding operation
  operation_good n small a may =
      let room : a.height < d = below_is a.height d may.has_room in
      makes_good (binary_of a) (Operation n a) (Low d) (goes_on n)
      (thens_good (λ _. below.binary n) (λ _. BinaryWords n) (λ _. Low (d - 1)) begins (λ _. goes_on n)
      (word_good (pick_binary (suc n)) (has_operator n small)) (λ _ _. (good (omega arith)).binary n (omega arith))
      (λ _. binary_begins n) (λ o x e. refl))
      (λ c w m. record { source = c; is = refl; word = m }) (λ b w m. m)
      (λ c w m fits. omega (arith, fits.1)) (λ c w m fits. (tt, omega (arith, fits))) (λ c x e. e)

module _ (d : ℕ) (below : Expressions) (good : 0 < d → GoodExpressions (d - 1) below) (operands : 0 < d → GoodOperands (d - 1) below) where
  tier_zero : Good (tier d below 0) (BinaryWords 0) (Low d) begins (λ _ t. among operand_words t)
  unfolding tier
  tier_zero = operand_good d below good operands

  tier_good : (n : ℕ) → n ≤ 10 → Good (tier d below n) (BinaryWords n) (Low d) begins (goes_on n)
  unfolding tier
  tier_good zero small = good_on (goes_on 0) tier_zero (λ a x
      h. (both_false (among operand_words x) (up_to 0 (operator_word (word_of x))) h).0)
  tier_good (suc n) small = good_as (BinaryWords (suc n)) (Low d) begins
      (chain_good (λ t. is_some (pick_binary (suc n) t)) (has_room d) (operation d below n) (Operation n)
      (operation_good d below good n (omega arith)) (goes_on (suc n)) (tier_good n (omega arith))
      (λ a x h. binary_example n a x (pick_binary (suc n) x) refl h) (may_operate d below good n)
      (λ a x h. operator_apart n x (pick_binary (suc n) x) refl h) (λ a x h. tier_stops n x h))
      (tier_into n) (λ v w b. tier_out n v.height v.tree w b) (λ v w c low. low) (λ v w c low. low) (λ x h. h)

  conditional_tier : Good (parser.conditional d below) ConditionalWord (Low d) begins conditional_on
  conditional_tier = conditional_good d below good (tier_good 10 (omega arith))

  pub layer_good : GoodExpressions d (parser.layer d below)
  layer_good = record {
    expression = assignment_good d below good conditional_tier;
    conditional = conditional_tier;
    unary = unary_good d below good operands;
    operand = tier_zero;
    binary = tier_good;
  }

-- the parsers of a level read the language
record GoodLevel (d : ℕ) (e : Expressions) : Type 0 where
  expressions : GoodExpressions d e
  operands : GoodOperands d e

level_good : (d : ℕ) (below : Expressions) → (0 < d → GoodLevel (d - 1) below) → GoodLevel d (parser.layer d below)
level_good d below good = record {
  expressions = layer_good d below (λ h. (good h).expressions) (λ h. (good h).operands);
  operands = layer_operands d below (λ h. (good h).expressions) (λ h. (good h).operands);
}

level_at : (d : ℕ) → GoodLevel d (parser.at d)
unfolding parser.under
level_at zero = level_good 0 (parser.under 0) (λ h. absurd (omega arith))
level_at (suc d) = level_good (suc d) (parser.at d) (λ h. let same : d ≡ suc d - 1 = omega arith in
    subst (λ k. GoodLevel k (parser.at d)) same (level_at d))

-- the parsers of each level read the language
pub good_at : (d : ℕ) → GoodExpressions d (parser.at d)
good_at d = (level_at d).expressions

level_under : (d : ℕ) → 0 < d → GoodLevel (d - 1) (parser.under d)
unfolding parser.under
level_under zero h = absurd (omega arith)
level_under (suc d) h = let same : d ≡ suc d - 1 = omega arith in subst (λ k. GoodLevel k (parser.at d)) same (level_at d)

-- the parsers of the level below, where there is one
pub under_good : (d : ℕ) → 0 < d → GoodExpressions (d - 1) (parser.under d)
under_good d h = (level_under d h).expressions
