-- What stands before an operand is read.
use Rattle.std.specs.Prelude.{◌≡◌, ℕ, suc, ◌-◌, ◌<◌, ◌==◌, Bool, true, false, ◌||◌, if◌then◌else◌, List, [], ◌∷◌, Option, Some, None}
use Rattle.std.specs.Prelude.{is_some, refl}
use Rattle.std.proofs.Common.{sym, ◌∙◌, ap, subst, arith}
use Rattle.c_ast.specs.declared.token.Span.{Span}
use Rattle.c_ast.specs.Seen.{Seen as Token}
use Rattle.c_ast.specs.declared.token.Lexeme.TheVariants as lexeme
use Rattle.c_ast.specs.declared.expr.Expr.{Expr}
use Rattle.c_ast.specs.declared.expr.Node.TheVariants as node
use Rattle.c_ast.specs.Tree.{expr}
use Rattle.c_ast.specs.Words.{punctuator_number}
use Rattle.c_ast.specs.Operators.{unary_punctuator, step_punctuator}
use Rattle.c_ast.specs.declared.operator.Step.{Step}
use Rattle.c_ast.specs.declared.operator.Step.TheVariants as step
use Rattle.c_ast.specs.declared.operator.UnaryOperator.{UnaryOperator}
use Rattle.c_ast.specs.declared.operator.UnaryOperator.TheVariants as operator
use Rattle.c_ast.specs.declared.punctuator.Punctuator.TheVariants as mark
use Rattle.c_grammar.specs.Words.{word_of, punctuator, span_of}
use Rattle.c_grammar.specs.Operators.{UnaryWord, StepWord, Before, step_side}
use Rattle.c_grammar.specs.Expressions as spells
use Rattle.c_grammar.specs.Expressions.{Unary, Cast, Binary}
use Rattle.c_parse_base.specs.Reading.Answer.{word}
use Rattle.c_parse_base.specs.Reading.Good.{Language, Begins, StartsIn, Good}
use Rattle.c_parse_base.specs.Reading.Languages.{Word, word_of as one_word_of, Then, join, Always, nothing, Made}
use Rattle.c_parse_base.specs.Laws.Parts.{word_good, thens_good, makes_good}
use Rattle.c_parse_base.specs.Reading.Words.{place_of, token_of, one_word, among, apart_from}
use Rattle.c_parse_base.specs.Laws.WordGood.{good_as, equal_is}
use Rattle.c_parse_expr.specs.declared.measured.Measured.{Measured}
use Rattle.c_parse_expr.specs.Reading.Nodes.{step_of, unary_of}
use Rattle.c_parse_base.specs.Laws.WordListLaws.{apart_words}
use Rattle.c_parse_base.specs.Laws.Depths.{below_is, is_below}
use Rattle.c_parse_expr.specs.Reading.Expressions.{Expressions, room, placed, step_word, unary_word, pick_placed, has_word, step_words}
use Rattle.c_parse_expr.specs.Reading.Expressions.{unary_words, stepped, operated}
use Rattle.c_parse_expr.specs.Reading.Levels.{Low, UnaryWords, BinaryWords, operand_words, begins, GoodExpressions, measured, example}
use Rattle.c_parse_expr.specs.Reading.Levels.{example_token}
use Rattle.c_parse_expr.specs.Laws.LevelLaws.{starts_unary, starts_cast, unary_span, cast_span, span_before, reach, example_unary}
use Rattle.c_parse_expr.specs.Laws.LevelLaws.{binary_begins}

-- ---- which words they are

pub chosen : {A : Type 0} (w v : ℕ) (a : A) (rest : Option A) (list : List ℕ) → (is_some rest ≡ true → one_word list w ≡ true) →
    (x : Bool) → (w == v) ≡ x → is_some (if x then Some a else rest) ≡ true → (x || one_word list w) ≡ true
chosen w v a rest list later true e h = refl
chosen w v a rest list later false e h = later h

pub step_listed : (w : ℕ) → is_some (step_word w) ≡ true → one_word step_words w ≡ true
step_listed w = chosen w (punctuator mark.PlusPlus) step.PreIncrement _ (punctuator mark.MinusMinus ∷ [])
    (chosen w (punctuator mark.MinusMinus) step.PreDecrement None [] (λ h. cc) (w == punctuator mark.MinusMinus) refl)
    (w == punctuator mark.PlusPlus) refl

pub unary_listed : (w : ℕ) → is_some (unary_word w) ≡ true → one_word unary_words w ≡ true
unary_listed w = chosen w (punctuator mark.Ampersand) operator.AddressOf _
    (punctuator mark.Star ∷ punctuator mark.Plus ∷ punctuator mark.Minus ∷ punctuator mark.Tilde ∷ punctuator mark.Exclamation ∷ [])
    (chosen w (punctuator mark.Star) operator.Dereference _ (punctuator mark.Plus ∷ punctuator mark.Minus ∷ punctuator
    mark.Tilde ∷ punctuator mark.Exclamation ∷ [])
    (chosen w (punctuator mark.Plus) operator.Plus _ (punctuator mark.Minus ∷ punctuator mark.Tilde ∷ punctuator mark.Exclamation ∷ [])
    (chosen w (punctuator mark.Minus) operator.Minus _ (punctuator mark.Tilde ∷ punctuator mark.Exclamation ∷ [])
    (chosen w (punctuator mark.Tilde) operator.Complement _ (punctuator mark.Exclamation ∷ [])
    (chosen w (punctuator mark.Exclamation) operator.Not None []
    (λ h. cc) (w == punctuator mark.Exclamation) refl) (w == punctuator
    mark.Tilde) refl) (w == punctuator mark.Minus) refl) (w == punctuator mark.Plus) refl) (w == punctuator mark.Star) refl)
    (w == punctuator mark.Ampersand) refl

pub chosen_is : {A : Type 0} (f : A → ℕ) (w v : ℕ) (a : A) (rest : Option A) → f a ≡ v → ((b : A) → rest ≡ Some b → w ≡ f b) →
    (x : Bool) → (w == v) ≡ x → (b : A) → (if x then Some a else rest) ≡ Some b → w ≡ f b
chosen_is f w v a rest at later true e b h = let same : a ≡ b = cc in equal_is w v e ∙ sym at ∙ ap f same
chosen_is f w v a rest at later false e b h = later b h

abbrev operator_mark : UnaryOperator → ℕ
operator_mark o = punctuator (unary_punctuator o)

abbrev step_mark : Step → ℕ
step_mark s = punctuator (step_punctuator s)

unary_is : (w : ℕ) (o : UnaryOperator) → unary_word w ≡ Some o → w ≡ operator_mark o
unary_is w = chosen_is operator_mark w (punctuator mark.Ampersand) operator.AddressOf _ refl
    (chosen_is operator_mark w (punctuator mark.Star) operator.Dereference _ refl
    (chosen_is operator_mark w (punctuator mark.Plus) operator.Plus _ refl
    (chosen_is operator_mark w (punctuator mark.Minus) operator.Minus _ refl
    (chosen_is operator_mark w (punctuator mark.Tilde) operator.Complement _ refl
    (chosen_is operator_mark w (punctuator mark.Exclamation) operator.Not None refl (λ b h. cc) (w == punctuator mark.Exclamation) refl)
    (w == punctuator mark.Tilde) refl) (w == punctuator mark.Minus) refl) (w == punctuator mark.Plus) refl) (w == punctuator mark.Star)
    refl) (w == punctuator mark.Ampersand) refl

unary_found : (w : ℕ) (o : UnaryOperator) → w ≡ operator_mark o → unary_word w ≡ Some o
unary_found w operator.AddressOf e = ap unary_word e
unary_found w operator.Dereference e = ap unary_word e
unary_found w operator.Plus e = ap unary_word e
unary_found w operator.Minus e = ap unary_word e
unary_found w operator.Complement e = ap unary_word e
unary_found w operator.Not e = ap unary_word e

step_chosen : (w : ℕ) (s : Step) (x : Bool) → (w == punctuator mark.PlusPlus) ≡ x → (y : Bool) → (w == punctuator mark.MinusMinus) ≡ y →
    (if x then Some step.PreIncrement else (if y then Some step.PreDecrement else None)) ≡ Some s →
    (step_side s ≡ Before) × (w ≡ step_mark s)
step_chosen w s true h y k e = let same : step.PreIncrement ≡ s = cc in
    subst (λ s. (step_side s ≡ Before) × (w ≡ step_mark s)) same (refl, equal_is w (punctuator mark.PlusPlus) h)
step_chosen w s false h true k e = let same : step.PreDecrement ≡ s = cc in
    subst (λ s. (step_side s ≡ Before) × (w ≡ step_mark s)) same (refl, equal_is w (punctuator mark.MinusMinus) k)
step_chosen w s false h false k e = cc

step_is : (t : Token) (s : Step) → step_word (word_of t) ≡ Some s → StepWord Before s t
step_is t s e = step_chosen (word_of t) s (word_of t == punctuator mark.PlusPlus) refl (word_of t == punctuator mark.MinusMinus) refl e

step_found : (t : Token) (s : Step) → StepWord Before s t → step_word (word_of t) ≡ Some s
step_found t step.PreIncrement h = ap step_word h.1
step_found t step.PreDecrement h = ap step_word h.1
step_found t step.PostIncrement h = let bad = h.0 in cc
step_found t step.PostDecrement h = let bad = h.0 in cc

-- ---- one token, with its place

placed_is : {A : Type 0} (place : Span) (o : Option A) (c : A × Span) → placed place o ≡ Some c → (o ≡ Some c.0) × (c.1 ≡ place)
placed_is place None c e = cc
placed_is {A} place (Some a) c e = let same : (a, place) ≡ c = cc in
    (ap (λ (c : A × Span). Some c.0) same, ap (λ (c : A × Span). c.1) (sym same))

placed_some : {A : Type 0} (place : Span) (o : Option A) → is_some (placed place o) ≡ true → is_some o ≡ true
placed_some place None h = h
placed_some place (Some a) h = refl

placed_good : {A : Type 0} (f : ℕ → Option A) (w : ℕ) (t : Token) (a : A) → word_of t ≡ w → f w ≡ Some a →
    Good (word (pick_placed f)) (Word (pick_placed f)) Always (has_word f) nothing
placed_good f w t a e h = good_as (Word (pick_placed f)) Always (has_word f)
    (word_good (pick_placed f) (record {
      token = t;
      value = (a, place_of t);
      is = ap (λ w. placed (place_of t) (f w)) e
          ∙ ap (placed (place_of t)) h;
    }))
    (λ a w m. m) (λ a w m. m) (λ a w m k. k) (λ a w m k. k) (λ x k. placed_some (place_of x) (f (word_of x)) k)

step_good : Good (word (pick_placed step_word)) (Word (pick_placed step_word)) Always (has_word step_word) nothing
step_good = placed_good step_word (punctuator mark.PlusPlus)
    (token_of (lexeme.Punct (punctuator_number mark.PlusPlus))) step.PreIncrement refl refl

operator_good : Good (word (pick_placed unary_word)) (Word (pick_placed unary_word)) Always (has_word unary_word) nothing
operator_good = placed_good unary_word (punctuator mark.Star)
    (token_of (lexeme.Punct (punctuator_number mark.Star))) operator.Dereference refl refl

-- ---- the languages

abbrev pub Stepped : Language Token Measured
Stepped = Made step_of (Then (Word (pick_placed step_word)) (λ _. UnaryWords))

abbrev pub Operated : Language Token Measured
Operated = Made unary_of (Then (Word (pick_placed unary_word)) (λ _. BinaryWords 0))

-- an operand
pub cast_of_operand : (h : ℕ) (e : Expr) (w : List Token) → Binary 0 h e w → Cast h e w
cast_of_operand h e w (spells.operand c) = c

pub before_span : (t : Token) (a : Measured) (u : List Token) → UnaryWords a u → span_of (t ∷ u) ≡ reach t.start a.tree.span.end
before_span t a u m = span_before begins t u (starts_unary a.height a.tree u m)
    ∙ ap (λ (s : Span). reach t.start s.end) (sym (unary_span a.height a.tree u m))

pub stepped_made : (c : (Step × Span) × Measured) (w : List Token) → Then (Word (pick_placed step_word)) (λ _. UnaryWords) c w →
    UnaryWords (step_of c) w
stepped_made c w (join {a = s} {b = a} {v = u} (one_word_of {x = t} e) m) =
    let p = placed_is (place_of t) (step_word (word_of t)) s e in
    subst (λ k. Unary (suc a.height) (expr k (node.Step s.0 a.tree)) (t ∷ u))
    (before_span t a u m ∙ ap (λ (k : Span). reach k.start a.tree.span.end) (sym p.1)) (spells.step_before t (step_is t s.0 p.0) m)

pub operated_made : (c : (UnaryOperator × Span) × Measured) (w : List Token) →
    Then (Word (pick_placed unary_word)) (λ _. BinaryWords 0) c w → UnaryWords (unary_of c) w
operated_made c w (join {a = o} {b = a} {v = u} (one_word_of {x = t} e) m) =
    let p = placed_is (place_of t) (unary_word (word_of t)) o e in
    let q = cast_of_operand a.height a.tree u m in
    subst (λ k. Unary (suc a.height) (expr k (node.Unary o.0 a.tree)) (t ∷ u))
    (span_before begins t u (starts_cast a.height a.tree u q)
    ∙ ap (λ (s : Span). reach t.start s.end) (sym (cast_span a.height a.tree u q))
    ∙ ap (λ (k : Span). reach k.start a.tree.span.end) (sym p.1))
    (spells.operated t (unary_is (word_of t) o.0 p.0) q)

-- `++` or `--` and its operand
pub stepped_out : (h : ℕ) (e : Expr) (s : Step) (t : Token) (u : List Token) → StepWord Before s t → Unary h e u →
    Stepped (step_of ((s, place_of t), measured e h)) (t ∷ u)
stepped_out h e s t u is m = record {
  source = ((s, place_of t), measured e h);
  is = refl;
  word = join (one_word_of (ap (placed (place_of t)) (step_found t s is))) m;
}

-- an operator and its operand
pub operated_out : (h : ℕ) (e : Expr) (o : UnaryOperator) (t : Token) (u : List Token) → UnaryWord o t → Cast h e u →
    Operated (unary_of ((o, place_of t), measured e h)) (t ∷ u)
operated_out h e o t u is m =
    record {
      source = ((o, place_of t), measured e h);
      is = refl;
      word = join (one_word_of (ap (placed (place_of t)) (unary_found (word_of t) o is))) (spells.operand m);
    }

pub unary_begin : Begins UnaryWords []
unary_begin = record { value = example; more = example_token ∷ []; whole = example_unary }

pub begins_with : {A B : Type 0} (f : ℕ → Option A) (make : (A × Span) × Measured → B) (M : Language Token Measured) (t : Token)
    (o : Option A) → f (word_of t) ≡ o → is_some o ≡ true → Begins M [] →
    Begins (Made make (Then (Word (pick_placed f)) (λ _. M))) (t ∷ [])
begins_with f make M t None e h b = cc
begins_with f make M t (Some a) e h b = record {
  value = make ((a, place_of t), b.value);
  more = b.more;
  whole = record { source = ((a, place_of t), b.value); is = refl; word = join (one_word_of (ap (placed (place_of t)) e)) b.whole };
}

pub starts_with : {A : Type 0} (f : ℕ → Option A) (M : Language Token Measured) (c : (A × Span) × Measured) (w : List Token) →
    Then (Word (pick_placed f)) (λ _. M) c w → StartsIn (has_word f) w
starts_with f M c w (join {v = u} (one_word_of {x = t} e) m) =
    record { head = t; tail = u; parts = refl; is_first = placed_some (place_of t) (f (word_of t)) (ap is_some e) }

-- a word that has a value is in no list that is apart from the list of these words
pub apart_if : {A : Type 0} (f : ℕ → Option A) (vs ws : List ℕ) → ((w : ℕ) → is_some (f w) ≡ true → one_word vs w ≡ true) →
    apart_from ws vs ≡ true →
    (x : Token) → among ws x ≡ true → has_word f x ≡ false
apart_if f vs ws listed h x e = not_true (has_word f x) (λ k. let no_more = apart_words ws vs h (word_of x) e in
    let one = listed (word_of x) k in cc)
  where
    not_true : (b : Bool) → (b ≡ true → false ≡ true) → b ≡ false
    not_true true h = sym (h refl)
    not_true false h = refl

-- ---- the parsers

module _ (d : ℕ) (below : Expressions) (good : 0 < d → GoodExpressions (d - 1) below) where
  pub stepped_good : room d ≡ true → Good (stepped d below) Stepped (Low d) (has_word step_word) (λ _ t. among operand_words t)
  unfolding stepped
  stepped_good r =
      let deep : 0 < d = below_is 0 d r in
      makes_good step_of Stepped (Low d) (λ _ t. among operand_words t)
      (thens_good (λ _. below.unary) (λ _. UnaryWords) (λ _. Low (d - 1)) begins (λ _ _ t. among operand_words t)
      step_good (λ _ _. (good deep).unary) (λ _. unary_begin) (λ a x e. refl))
      (λ c w m. record { source = c; is = refl; word = m }) (λ b w m. m)
      (λ c w m fits. omega (arith, fits.1)) (λ c w m fits. (tt, omega (arith, fits))) (λ a x e. e)

  pub operated_good : room d ≡ true → Good (operated d below) Operated (Low d) (has_word unary_word) (λ _ t. among operand_words t)
  unfolding operated
  operated_good r =
      let deep : 0 < d = below_is 0 d r in
      makes_good unary_of Operated (Low d) (λ _ t. among operand_words t)
      (thens_good (λ _. below.binary 0) (λ _. BinaryWords 0) (λ _. Low (d - 1)) begins (λ _ _ t. among operand_words t)
      operator_good (λ _ _. operand_good deep) (λ _. binary_begins 0) (λ a x e. refl))
      (λ c w m. record { source = c; is = refl; word = m }) (λ b w m. m)
      (λ c w m fits. omega (arith, fits.1)) (λ c w m fits. (tt, omega (arith, fits))) (λ a x e. e)
    where
      operand_good : 0 < d → Good (below.binary 0) (BinaryWords 0) (Low (d - 1)) begins (λ _ t. among operand_words t)
      operand_good h = (good h).operand

  pub low_stepped : (v : Measured) (w : List Token) → Stepped v w → Low d v → room d ≡ true
  low_stepped v w m low = is_below 0 d (omega (arith, ap (λ v. v.height) m.is))

  pub low_operated : (v : Measured) (w : List Token) → Operated v w → Low d v → room d ≡ true
  low_operated v w m low = is_below 0 d (omega (arith, ap (λ v. v.height) m.is))
