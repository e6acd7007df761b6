-- What follows an operand is read.
use Rattle.std.specs.Prelude.{◌≡◌, ℕ, suc, ◌-◌, ◌<◌, ◌==◌, max, Bool, true, false, ◌||◌, if◌then◌else◌, List, [], ◌∷◌, ◌++◌, Option, Some}
use Rattle.std.specs.Prelude.{None, is_some, refl}
use Rattle.std.proofs.Common.{sym, ◌∙◌, ap, subst, arith, inl, inr}
use Rattle.c_ast.specs.declared.token.Span.{Span}
use Rattle.c_ast.specs.Seen.{Seen as Token}
use Rattle.c_ast.specs.declared.expr.Expr.{Expr}
use Rattle.c_ast.specs.declared.expr.Node.TheVariants as node
use Rattle.c_ast.specs.declared.operator.Step.{Step}
use Rattle.c_ast.specs.declared.operator.Step.TheVariants as step
use Rattle.c_ast.specs.Tree.{expr}
use Rattle.c_ast.specs.declared.punctuator.Punctuator.TheVariants as mark
use Rattle.c_grammar.specs.Words.{word_of, punctuator, span_of, end_of, last_end}
use Rattle.c_grammar.specs.Expressions as spells
use Rattle.c_grammar.specs.Expressions.{Postfix}
use Rattle.c_parse_base.specs.declared.words.Named.{Named}
use Rattle.c_parse_base.specs.Reading.Answer.{thens, makes, word}
use Rattle.c_parse_base.specs.Reading.Good.{Language, Begins, StartsIn, Good}
use Rattle.c_parse_base.specs.Reading.Languages.{Word, word_of as one_word_of, Then, join, Either, Always, nothing, Made}
use Rattle.c_parse_base.specs.Laws.Parts.{thens_good, makes_good, either_good}
use Rattle.c_parse_base.specs.Laws.ChainLaws.{MayTurn, chain_good}
use Rattle.c_parse_base.specs.Reading.Words.{is, punct, name, pick_name, place_of, Spot, spot, one_word, among}
use Rattle.c_parse_base.specs.Laws.WordGood.{good_as, punct_good, punct_begins, spot_begins, equal_is}
use Rattle.c_parse_base.specs.Laws.SpanLaws.{last_end_append}
use Rattle.c_parse_expr.specs.declared.measured.Measured.{Measured}
use Rattle.c_parse_expr.specs.declared.suffix.Arguments.{Arguments}
use Rattle.c_parse_expr.specs.declared.suffix.Suffix.{Suffix}
use Rattle.c_parse_expr.specs.declared.suffix.Suffix.TheVariants as suffix
use Rattle.c_parse_expr.specs.Reading.Nodes.{one_argument, more_arguments, no_arguments, applied}
use Rattle.c_parse_base.specs.Laws.WordListLaws.{is_at, is_not_first, apart_words, within_words, both_false, or_false}
use Rattle.c_parse_base.specs.Laws.Depths.{below_is}
use Rattle.c_parse_expr.specs.Reading.Expressions.{Expressions, has_room, further, arguments, called, indexed, behind, apply, pick_step}
use Rattle.c_parse_expr.specs.Reading.Expressions.{suffix_words, begins_suffix}
use Rattle.c_parse_expr.specs.Reading.Levels.{Low, PostfixWord, ExpressionWord, begin_words, opens, begins, expression_on}
use Rattle.c_parse_expr.specs.Reading.Levels.{GoodExpressions, example, example_token}
use Rattle.c_parse_expr.specs.Laws.LevelLaws.{closes_all, starts_postfix, postfix_span, span_behind, reach, example_expression}
use Rattle.c_parse_expr.specs.Laws.LevelLaws.{expression_begins}
use Rattle.c_parse_expr.specs.Laws.PrimaryLaws.{text_behind}
use Rattle.c_parse_expr.specs.Laws.MarkedLaws.{Marked, Parts, marked_parts, marked_starts, marked_begins, marked_good}
use Rattle.c_parse_expr.specs.Laws.ArgumentLaws.{ArgumentsWord, LowArguments, comma, One, Further, arguments_into, listed, arguments_out}
use Rattle.c_parse_expr.specs.Laws.ArgumentLaws.{argument_on, comma_none, close_none, bracket_none}
use Rattle.c_parse_expr.specs.Laws.StepLaws.{named_kind, ShortWord, IsStep, step_is, LowSuffix, steps_list, arrows_list, short_list}
use Rattle.c_parse_expr.specs.Laws.StepLaws.{named_begins, short_good}

-- ---- calls and indices

abbrev pub IndexedWord : Language Token Suffix
IndexedWord = Made (λ (c : Measured × Span). suffix.Index c.0 c.1) (Then ExpressionWord (λ _. Spot (punctuator mark.RightBracket)))

abbrev pub EmptyCall : Language Token Suffix
EmptyCall = Made (suffix.Call no_arguments) (Spot (punctuator mark.RightParen))

abbrev pub FullCall : Language Token Suffix
FullCall = Made (λ (c : Arguments × Span). suffix.Call c.0 c.1) (Then ArgumentsWord (λ _. Spot (punctuator mark.RightParen)))

abbrev pub CalledWord : Language Token Suffix
CalledWord = Either EmptyCall FullCall

abbrev pub SuffixWord : Language Token Suffix
SuffixWord = Either (Marked mark.LeftBracket IndexedWord) (Either (Marked mark.LeftParen CalledWord) ShortWord)

abbrev called_list : List ℕ
called_list = punctuator mark.RightParen ∷ begin_words

abbrev calls_list : List ℕ
calls_list = punctuator mark.LeftParen ∷ short_list

indexed_begin : Begins IndexedWord []
indexed_begin =
    let b = punct_begins mark.RightBracket in
    record {
      value = suffix.Index example b.value;
      more = (example_token ∷ []) ++ b.more;
      whole = record { source = (example, b.value); is = refl; word = join (example_expression) b.whole };
    }

called_begin : Begins CalledWord []
called_begin =
    let b = punct_begins mark.RightParen in
    record { value = suffix.Call no_arguments b.value; more = b.more; whole = inl (record { source = b.value; is = refl; word = b.whole }) }

empty_starts : (s : Suffix) (w : List Token) → EmptyCall s w → StartsIn (is (punctuator mark.RightParen)) w
empty_starts s w m = (punct_good mark.RightParen).starts m.source w m.word

empty_begins : (t : Token) → is (punctuator mark.RightParen) t ≡ true → Begins EmptyCall (t ∷ [])
empty_begins t e = record {
  value = suffix.Call no_arguments (place_of t);
  more = [];
  whole = record { source = place_of t; is = refl; word = spot t (equal_is (word_of t) (punctuator mark.RightParen) e) };
}

-- ---- an operand with what follows it

pub applied_span : (a : Measured) (w : List Token) (t : Token) (v : List Token) (end : ℕ) → PostfixWord a w → last_end t v ≡ end →
    span_of (w ++ t ∷ v) ≡ reach a.tree.span.start end
applied_span a w t v end p e =
    span_behind opens w t v end (starts_postfix a.height a.tree w p) e
    ∙ ap (λ s. reach s.start end) (sym (postfix_span a.height a.tree w p))

index_made : (a : Measured) (c : Measured × Span) (w u : List Token) (l : Token) → PostfixWord a w →
    word_of l ≡ punctuator mark.LeftBracket →
    Then ExpressionWord (λ _. Spot (punctuator mark.RightBracket)) c u → PostfixWord (applied a (suffix.Index c.0 c.1)) (w ++ l ∷ u)
index_made a c w u l p isl (join {a = i} {u = v} m (spot r isr)) =
    subst (λ s. Postfix (suc (max a.height i.height)) (expr s (node.Index a.tree i.tree)) (w ++ (l ∷ v ++ r ∷ [])))
    (applied_span a w l (v ++ r ∷ []) (end_of r) p (last_end_append l v r [])) (spells.index l r p isl m isr)

call_made : (a : Measured) (c : Arguments × Span) (w u : List Token) (l : Token) → PostfixWord a w → word_of l ≡ punctuator mark.LeftParen →
    Then ArgumentsWord (λ _. Spot (punctuator mark.RightParen)) c u → PostfixWord (applied a (suffix.Call c.0 c.1)) (w ++ l ∷ u)
call_made a c w u l p isl (join {a = b} {u = v} m (spot r isr)) =
    subst (λ s. Postfix (suc (max a.height b.height)) (expr s (node.Call a.tree b.trees)) (w ++ (l ∷ v ++ r ∷ [])))
    (applied_span a w l (v ++ r ∷ []) (end_of r) p (last_end_append l v r [])) (spells.call l r p isl (spells.arguments m) isr)

empty_made : (a : Measured) (q : Span) (w u : List Token) (l : Token) → PostfixWord a w → word_of l ≡ punctuator mark.LeftParen →
    Spot (punctuator mark.RightParen) q u → PostfixWord (applied a (suffix.Call no_arguments q)) (w ++ l ∷ u)
empty_made a q w u l p isl (spot r isr) =
    subst (λ s. Postfix (suc (max a.height 0)) (expr s (node.Call a.tree [])) (w ++ (l ∷ r ∷ [])))
    (applied_span a w l (r ∷ []) (end_of r) p refl) (spells.call l r p isl spells.no_argument isr)

pub same_height : (h : ℕ) → suc h ≡ suc (max h 0)
same_height h = omega arith

member_made : (a : Measured) (c : Span × Named) (w u : List Token) → PostfixWord a w →
    Then (Spot (punctuator mark.Dot)) (λ _. Word pick_name) c u → PostfixWord (applied a (suffix.Member c.1)) (w ++ u)
member_made a c w u p (join (spot d isd) (one_word_of {x = t} {a = n} e)) =
    let k = named_kind (place_of t) t.kind n e in
    subst (λ h. Postfix h (expr (reach a.tree.span.start n.place.end) (node.Member a.tree n.name)) (w ++ d ∷ t ∷ [])) (same_height a.height)
    (subst (λ s. Postfix (suc a.height) (expr s (node.Member a.tree n.name)) (w ++ d ∷ t ∷ []))
    (applied_span a w d (t ∷ []) n.place.end p (ap (λ (s : Span). s.end) (sym k.1))) (spells.member d t p isd k.0))

arrow_made : (a : Measured) (c : Span × Named) (w u : List Token) → PostfixWord a w →
    Then (Spot (punctuator mark.Arrow)) (λ _. Word pick_name) c u → PostfixWord (applied a (suffix.Arrow c.1)) (w ++ u)
arrow_made a c w u p (join (spot d isd) (one_word_of {x = t} {a = n} e)) =
    let k = named_kind (place_of t) t.kind n e in
    subst (λ h. Postfix h (expr (reach a.tree.span.start n.place.end) (node.Arrow a.tree n.name)) (w ++ d ∷ t ∷ [])) (same_height a.height)
    (subst (λ s. Postfix (suc a.height) (expr s (node.Arrow a.tree n.name)) (w ++ d ∷ t ∷ []))
    (applied_span a w d (t ∷ []) n.place.end p (ap (λ (s : Span). s.end) (sym k.1))) (spells.arrow d t p isd k.0))

step_made : (a : Measured) (s : Suffix) (w u : List Token) → PostfixWord a w → Word pick_step s u → PostfixWord (applied a s) (w ++ u)
step_made a s w u p (one_word_of {x = t} e) =
    let i : IsStep t s = step_is t s (is (punctuator mark.PlusPlus) t) refl (is (punctuator mark.MinusMinus) t) refl e in
    subst (λ s. PostfixWord (applied a s) (w ++ t ∷ [])) i.is_suffix
    (subst (λ h. Postfix h (expr (reach a.tree.span.start (end_of t)) (node.Step i.step a.tree)) (w ++ t ∷ [])) (same_height a.height)
    (subst (λ s. Postfix (suc a.height) (expr s (node.Step i.step a.tree)) (w ++ t ∷ [])) (applied_span a w t [] (end_of t) p refl)
    (spells.step_behind t p i.word)))

called_made : (a : Measured) (s : Suffix) (w u : List Token) (l : Token) → PostfixWord a w → word_of l ≡ punctuator mark.LeftParen →
    CalledWord s u →
    PostfixWord (applied a s) (w ++ l ∷ u)
called_made a s w u l p isl (inl m) = subst (λ s. PostfixWord (applied a s) (w ++ l ∷ u)) m.is (empty_made a m.source w u l p isl m.word)
called_made a s w u l p isl (inr m) = subst (λ s. PostfixWord (applied a s) (w ++ l ∷ u)) m.is (call_made a m.source w u l p isl m.word)

pub suffix_made : (a : Measured) (s : Suffix) (w u : List Token) → PostfixWord a w → SuffixWord s u → PostfixWord (applied a s) (w ++ u)
suffix_made a s w u p (inl m) =
    let q : Parts mark.LeftBracket IndexedWord s u = marked_parts mark.LeftBracket IndexedWord s u m in
    subst (λ u. PostfixWord (applied a s) (w ++ u)) (sym q.parts)
    (subst (λ s. PostfixWord (applied a s) (w ++ q.token ∷ q.rest)) q.word.is
    (index_made a q.word.source w q.rest q.token p q.is_mark q.word.word))
suffix_made a s w u p (inr (inl m)) =
    let q : Parts mark.LeftParen CalledWord s u = marked_parts mark.LeftParen CalledWord s u m in
    subst (λ u. PostfixWord (applied a s) (w ++ u)) (sym q.parts) (called_made a s w q.rest q.token p q.is_mark q.word)
suffix_made a s w u p (inr (inr (inl m))) = subst (λ s. PostfixWord (applied a s) (w ++ u)) m.is (member_made a m.source w u p m.word)
suffix_made a s w u p (inr (inr (inr (inl m)))) = subst (λ s. PostfixWord (applied a s) (w ++ u)) m.is (arrow_made a m.source w u p m.word)
suffix_made a s w u p (inr (inr (inr (inr m)))) = step_made a s w u p m

-- what follows an operand, as a new operand
abbrev pub Applied : Measured → Language Token Measured
Applied a = Made (applied a) SuffixWord

pub call_out : (k : ℕ) (es : List Expr) (v : List Token) (r : Token) → spells.Arguments k es v → word_of r ≡ punctuator mark.RightParen →
    CalledWord (suffix.Call (listed es k) (place_of r)) (v ++ r ∷ [])
call_out k es v r spells.no_argument isr = inl (record { source = place_of r; is = refl; word = spot r isr })
call_out k es v r (spells.arguments m) isr = inr (record { source = (listed es k, place_of r); is = refl; word = join m (spot r isr) })

-- ---- the parsers

module _ (d : ℕ) (below : Expressions) (good : 0 < d → GoodExpressions (d - 1) below) where
  pub further_good : 0 < d → (a : Arguments) → LowArguments (d - 1) a →
      Good (further d below a) (Further a) (LowArguments (d - 1)) comma (λ _ t. expression_on example t)
  unfolding further
  further_good h a low = makes_good (λ c. more_arguments a c.1) (Further a) (LowArguments (d - 1)) (λ _ t. expression_on example t)
      (thens_good (λ _. below.expression) (λ _. ExpressionWord) (λ _. Low (d - 1)) begins (λ _. expression_on)
      (punct_good mark.Comma) (λ _ _. (good h).expression) (λ _. expression_begins) (λ a x e. refl))
      (λ c w m. record { source = c; is = refl; word = m }) (λ b w m. m)
      (λ c w m fits. omega (arith, fits.1)) (λ c w m fits. (tt, omega (arith, fits))) (λ a x e. e)

  further_begins : (a : Arguments) (t : Token) → comma t ≡ true → Begins (Further a) (t ∷ [])
  further_begins a t e =
      let c = spot_begins (punctuator mark.Comma) (λ _. ExpressionWord) t e (expression_begins) in
      record { value = more_arguments a c.value.1; more = c.more; whole = record { source = c.value; is = refl; word = c.whole } }

  pub arguments_good : 0 < d → Good (arguments d below) ArgumentsWord (LowArguments (d - 1)) begins argument_on
  unfolding arguments
  arguments_good h = good_as ArgumentsWord (LowArguments (d - 1)) begins
      (chain_good comma (λ _. true) (further d below) Further (λ a may. further_good h a may.fits) argument_on
      (makes_good one_argument One (LowArguments (d - 1)) (λ _ t. expression_on example t) (good h).expression
      (λ c w m. record { source = c; is = refl; word = m }) (λ b w m. m) (λ c w m fits. fits) (λ c w m fits. fits) (λ a x e. e))
      further_begins (λ a b u m low. record { fits = omega (arith, ap (λ (v : Arguments). v.height) m.is); has_room = refl })
      (λ a x e. closes_all example (punctuator mark.Comma) x refl comma_none refl refl e)
      (λ a x e. both_false (expression_on example x) (comma x) e))
      arguments_into (λ a w m. arguments_out a.height a.trees w m) (λ a w m low. low) (λ a w m low. low) (λ x e. e)

  full_good : 0 < d → Good (makes (λ c. suffix.Call c.0 c.1) (thens (arguments d below) (λ _. punct mark.RightParen))) FullCall
      (LowSuffix d) begins nothing
  full_good h = makes_good (λ c. suffix.Call c.0 c.1) FullCall (LowSuffix d) nothing
      (thens_good (λ _. punct mark.RightParen) (λ _. Spot (punctuator mark.RightParen)) (λ _. Always) (is (punctuator mark.RightParen))
      (λ _. nothing)
      (arguments_good h) (λ _ _. punct_good mark.RightParen) (λ _. punct_begins mark.RightParen)
      (λ a x e. or_false (expression_on example x) (comma x)
      (closes_all example (punctuator mark.RightParen) x refl close_none refl refl e)
      (is_at (λ w. w == punctuator mark.Comma) (punctuator mark.RightParen) x e)))
      (λ c w m. record { source = c; is = refl; word = m }) (λ b w m. m)
      (λ c w m fits. omega (arith, fits.0)) (λ c w m fits. (omega (arith, fits), tt)) (λ a x e. refl)

  empty_good : 0 < d → Good (makes (suffix.Call no_arguments) (punct mark.RightParen)) EmptyCall (LowSuffix d)
      (is (punctuator mark.RightParen)) nothing
  empty_good h = makes_good (suffix.Call no_arguments) EmptyCall (LowSuffix d) nothing (punct_good mark.RightParen)
      (λ c w m. record { source = c; is = refl; word = m }) (λ b w m. m) (λ c w m fits. h) (λ c w m fits. tt) (λ a x e. refl)

  called_good : 0 < d → Good (called d below) CalledWord (LowSuffix d) (among called_list) nothing
  unfolding called
  called_good h = either_good (is (punctuator mark.RightParen)) true (among called_list) (λ r. empty_good h) (full_good h)
      empty_begins (λ a w l f. refl) empty_starts
      (λ x e. is_not_first (punctuator mark.RightParen) (word_of x)
      (apart_words begin_words (punctuator mark.RightParen ∷ []) refl (word_of x) e))
      (λ x e. is_at (one_word called_list) (punctuator mark.RightParen) x e)
      (λ x e. within_words begin_words called_list refl (word_of x) e)

  indexed_good : 0 < d → Good (indexed d below) IndexedWord (LowSuffix d) begins nothing
  unfolding indexed
  indexed_good h = makes_good (λ c. suffix.Index c.0 c.1) IndexedWord (LowSuffix d) nothing
      (thens_good (λ _. punct mark.RightBracket) (λ _. Spot (punctuator mark.RightBracket)) (λ _. Always)
      (is (punctuator mark.RightBracket)) (λ _. nothing)
      (good h).expression (λ _ _. punct_good mark.RightBracket) (λ _. punct_begins mark.RightBracket)
      (λ a x e. closes_all a (punctuator mark.RightBracket) x refl bracket_none refl refl e))
      (λ c w m. record { source = c; is = refl; word = m }) (λ b w m. m)
      (λ c w m fits. omega (arith, fits.0)) (λ c w m fits. (omega (arith, fits), tt)) (λ a x e. refl)

  behind_good : 0 < d → Good (behind d below) SuffixWord (LowSuffix d) begins_suffix nothing
  unfolding behind
  behind_good h =
      either_good (is (punctuator mark.LeftBracket)) true begins_suffix (λ r. marked_good mark.LeftBracket (indexed_good h) indexed_begin)
      (either_good (is (punctuator mark.LeftParen)) true (among calls_list)
      (λ r. marked_good mark.LeftParen (called_good h) called_begin) (short_good d h)
      (λ x e. marked_begins mark.LeftParen CalledWord x e called_begin) (λ a w l f. refl) (marked_starts mark.LeftParen CalledWord)
      (λ x e. is_not_first (punctuator mark.LeftParen) (word_of x)
      (apart_words short_list (punctuator mark.LeftParen ∷ []) refl (word_of x) e))
      (λ x e. is_at (one_word calls_list) (punctuator mark.LeftParen) x e) (λ x e. within_words short_list calls_list refl (word_of x) e))
      (λ x e. marked_begins mark.LeftBracket IndexedWord x e indexed_begin) (λ a w l f. refl) (marked_starts mark.LeftBracket IndexedWord)
      (λ x e. is_not_first (punctuator mark.LeftBracket) (word_of x)
      (apart_words calls_list (punctuator mark.LeftBracket ∷ []) refl (word_of x) e))
      (λ x e. is_at (one_word suffix_words) (punctuator mark.LeftBracket) x e)
      (λ x e. within_words calls_list suffix_words refl (word_of x) e)

  pub apply_good : (a : Measured) → MayTurn (Low d) (has_room d) a → Good (apply d below a) (Applied a) (Low d) begins_suffix text_behind
  unfolding apply
  apply_good a may =
      let room : a.height < d = below_is a.height d may.has_room in
      makes_good (applied a) (Applied a) (Low d) text_behind (behind_good (omega arith))
      (λ c w m. record { source = c; is = refl; word = m }) (λ b w m. m)
      (λ c w m fits. omega (arith, fits)) (λ c w m fits. omega (arith, fits)) (λ c x e. refl)

  pub suffix_begins : (a : Measured) (t : Token) → begins_suffix t ≡ true → Begins (Applied a) (t ∷ [])
  suffix_begins a t e = made_begins t (begins_of t e)
    where
      made_begins : (t : Token) → Begins SuffixWord (t ∷ []) → Begins (Applied a) (t ∷ [])
      made_begins t b = record { value = applied a b.value; more = b.more; whole = record { source = b.value; is = refl; word = b.whole } }

      steps_of : (t : Token) (o : Option Suffix) → pick_step t ≡ o → (among steps_list t ≡ true → is_some o ≡ true) →
          among steps_list t ≡ true → Begins SuffixWord (t ∷ [])
      steps_of t None e h k = let no_step = h k in cc
      steps_of t (Some s) e h k = record { value = s; more = []; whole = inr (inr (inr (inr (one_word_of e)))) }

      is_step : (t : Token) → among steps_list t ≡ true → is_some (pick_step t) ≡ true
      is_step t h = picks_one (is (punctuator mark.PlusPlus) t) (is (punctuator mark.MinusMinus) t) h
        where
          picks_one : (x y : Bool) → (x || (y || false)) ≡ true →
              is_some (if x then Some (suffix.Step step.PostIncrement (place_of t))
              else (if y then Some (suffix.Step step.PostDecrement (place_of t)) else None)) ≡ true
          picks_one true y h = refl
          picks_one false true h = refl
          picks_one false false h = cc

      by_arrow : (t : Token) (x : Bool) → is (punctuator mark.Arrow) t ≡ x → (x || among steps_list t) ≡ true → Begins SuffixWord (t ∷ [])
      by_arrow t true e h = let b = named_begins mark.Arrow suffix.Arrow t e in
          record { value = b.value; more = b.more; whole = inr (inr (inr (inl b.whole))) }
      by_arrow t false e h = steps_of t (pick_step t) refl (is_step t) h

      by_dot : (t : Token) (x : Bool) → is (punctuator mark.Dot) t ≡ x → (x || among arrows_list t) ≡ true → Begins SuffixWord (t ∷ [])
      by_dot t true e h = let b = named_begins mark.Dot suffix.Member t e in
          record { value = b.value; more = b.more; whole = inr (inr (inl b.whole)) }
      by_dot t false e h = by_arrow t (is (punctuator mark.Arrow) t) refl h

      by_paren : (t : Token) (x : Bool) → is (punctuator mark.LeftParen) t ≡ x → (x || among short_list t) ≡ true →
          Begins SuffixWord (t ∷ [])
      by_paren t true e h = let b = marked_begins mark.LeftParen CalledWord t e called_begin in
          record { value = b.value; more = b.more; whole = inr (inl b.whole) }
      by_paren t false e h = by_dot t (is (punctuator mark.Dot) t) refl h

      by_bracket : (t : Token) (x : Bool) → is (punctuator mark.LeftBracket) t ≡ x → (x || among calls_list t) ≡ true →
          Begins SuffixWord (t ∷ [])
      by_bracket t true e h = let b = marked_begins mark.LeftBracket IndexedWord t e indexed_begin in
          record { value = b.value; more = b.more; whole = inl b.whole }
      by_bracket t false e h = by_paren t (is (punctuator mark.LeftParen) t) refl h

      begins_of : (t : Token) → begins_suffix t ≡ true → Begins SuffixWord (t ∷ [])
      begins_of t e = by_bracket t (is (punctuator mark.LeftBracket) t) refl e
