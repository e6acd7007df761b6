-- The parser of initializers reads their language.
use Rattle.std.specs.Prelude.{◌≡◌, ℕ, zero, suc, ◌<◌, ◌-◌, ◌==◌, ◌||◌, Bool, true, false, List, [], ◌∷◌, ◌++◌, None, refl}
use Rattle.std.proofs.Common.{sym, ◌∙◌, ap, subst, append_assoc, arith, inl, inr}
use Rattle.c_ast.specs.declared.token.Span.{Span}
use Rattle.c_ast.specs.Seen.{Seen as Token}
use Rattle.c_ast.specs.declared.declaration.Init.{Init}
use Rattle.c_ast.specs.declared.declaration.Init.TheVariants as init
use Rattle.c_ast.specs.declared.punctuator.Punctuator.TheVariants as mark
use Rattle.c_grammar.specs.Words.{IsPunct, punctuator, span_of, word_of, end_of}
use Rattle.c_grammar.specs.Objects as grammar
use Rattle.c_grammar.specs.Objects.{Initial}
use Rattle.c_parse_base.specs.Reading.Answer.{thens, makes}
use Rattle.c_parse_base.specs.Reading.Good.{Language, Begins, StartsIn, Good}
use Rattle.c_parse_base.specs.Reading.Languages.{Then, join, Either, Always, nothing, Made}
use Rattle.c_parse_base.specs.Laws.Parts.{thens_good, makes_good, either_good}
use Rattle.c_parse_base.specs.Laws.SpanLaws.{span_between}
use Rattle.c_parse_base.specs.Reading.Words.{is, punct, place_of, Spot, spot, one_word}
use Rattle.c_parse_base.specs.Laws.WordGood.{good_as, good_on, punct_good, punct_begins, spot_starts, spot_begins}
use Rattle.c_parse_expr.specs.declared.measured.Measured.{Measured}
use Rattle.c_parse_expr.specs.Reading.Operators.{operator_word}
use Rattle.c_parse_base.specs.Laws.WordListLaws.{apart_words, is_at, is_not_first, or_left, or_right, or_false}
use Rattle.c_parse_base.specs.Laws.Depths.{below_is, is_below}
use Rattle.c_parse_expr.specs.Reading.Expressions.{at}
use Rattle.c_parse_expr.specs.Reading.Levels.{ExpressionWord, begin_words, begins, expression_on, measured, example, example_token}
use Rattle.c_parse_expr.specs.Laws.LevelLaws.{closes_all, expression_span, example_expression}
use Rattle.c_parse_expr.specs.Laws.ExpressionLaws.{good_at}
use Rattle.c_parse_expr.specs.Laws.BeginLaws.{expression_begins_at}
use Rattle.c_parse_decl.specs.declared.initializers.init_read.InitRead.{InitRead}
use Rattle.c_parse_decl.specs.declared.initializers.list_read.ListRead.{ListRead}
use Rattle.c_parse_decl.specs.Reading.Initializers.{Reader, Low, InitialWord, begins_initial, initial_on, value_of, one_item, list_of}
use Rattle.c_parse_decl.specs.Reading.Initializers.{room, closed, layer, under, initial}
use Rattle.c_parse_decl.specs.Laws.Initializers.ListLaws.{ItemsBy, ItemsWord, list_by, items_good, initials_high}

-- ---- lists in braces

-- initial { "," initial } [ "," ] "}", behind a "{" at this place
abbrev Closed : Span → Language Token InitRead
Closed l = Made (list_of l) (Then ItemsWord (λ _. Spot (punctuator mark.RightBrace)))

-- "{" initial { "," initial } [ "," ] "}"
abbrev Braced : Language Token InitRead
Braced = Made (λ (c : Span × InitRead). c.1) (Then (Spot (punctuator mark.LeftBrace)) Closed)

abbrev Value : Language Token InitRead
Value = Made value_of ExpressionWord

abbrev listed : List Init → ℕ → Bool → ListRead
listed is h comma = record { inits = is; height = h; comma = comma }

abbrev init_read : Init → ℕ → ℕ → InitRead
init_read i h end = record { init = i; height = h; end = end }

spelled_so : (h : ℕ) (is : List Init) (l : Token) (v : List Token) (r : Token) (w : List Token) → w ≡ l ∷ v ++ r ∷ [] →
    Initial (suc h) (init.List is (span_of w)) w →
    InitialWord (init_read (init.List is (record { start = l.start; end = end_of r })) h (end_of r)) (l ∷ v ++ r ∷ [])
spelled_so h is l v r w same m = record {
  initial = subst (λ s. Initial (suc h) (init.List is s) (l ∷ v ++ r ∷ [])) (span_between l v r)
      (subst (λ w. Initial (suc h) (init.List is (span_of w)) w) same m);
  end = ap (λ (s : Span). s.end) (sym (span_between l v r));
}

comma_between : (l : Token) (v : List Token) (c r : Token) → l ∷ v ++ c ∷ r ∷ [] ≡ l ∷ (v ++ c ∷ []) ++ r ∷ []
comma_between l v c r = ap (λ w. l ∷ w) (sym (append_assoc v (c ∷ []) (r ∷ [])))

braced_by : (x : Bool) (a : ListRead) (l : Token) (v : List Token) (r : Token) → IsPunct mark.LeftBrace l → IsPunct mark.RightBrace r →
    ItemsBy x a v →
    InitialWord (list_of (place_of l) (a, place_of r)) (l ∷ v ++ r ∷ [])
braced_by false a l v r isl isr m = spelled_so a.height a.inits l v r (l ∷ v ++ r ∷ []) refl (grammar.braces l r isl m isr)
braced_by true a l v r isl isr m = subst (λ v. InitialWord (list_of (place_of l) (a, place_of r)) (l ∷ v ++ r ∷ [])) (sym m.parts)
    (spelled_so a.height a.inits l (m.list ++ m.comma ∷ []) r (l ∷ m.list ++ m.comma ∷ r ∷ []) (comma_between l m.list m.comma r)
    (grammar.braces_comma l m.comma r isl m.initials m.is_comma isr))

closed_made : (l : Token) (c : ListRead × Span) (u : List Token) → IsPunct mark.LeftBrace l →
    Then ItemsWord (λ _. Spot (punctuator mark.RightBrace)) c u → InitialWord (list_of (place_of l) c) (l ∷ u)
closed_made l c u is (join {a = a} {u = v} m (spot r isr)) = braced_by a.comma a l v r is isr m

braced_joined : (c : Span × InitRead) (w : List Token) → Then (Spot (punctuator mark.LeftBrace)) Closed c w → InitialWord c.1 w
braced_joined c w (join {b = v} {v = u} (spot l is) m) = subst (λ v. InitialWord v (l ∷ u)) m.is (closed_made l m.source u is m.word)

value_made : (a : Measured) (w : List Token) → ExpressionWord a w → InitialWord (value_of a) w
value_made a w m = record { initial = grammar.value m; end = ap (λ (s : Span). s.end) (expression_span a.height a.tree w m) }

initial_into : (v : InitRead) (w : List Token) → Either Braced Value v w → InitialWord v w
initial_into v w (inl m) = subst (λ v. InitialWord v w) m.is (braced_joined m.source w m.word)
initial_into v w (inr m) = subst (λ v. InitialWord v w) m.is (value_made m.source w m.word)

braced_out : (x : Bool) (h : ℕ) (is : List Init) (l : Token) (v : List Token) (r : Token) (w : List Token) (end : ℕ) →
    IsPunct mark.LeftBrace l → IsPunct mark.RightBrace r →
    w ≡ l ∷ v ++ r ∷ [] → ItemsBy x (listed is h x) v → end ≡ (span_of w).end → Braced (init_read (init.List is (span_of w)) h end) w
braced_out x h is l v r w end isl isr same m e = subst (λ end. Braced (init_read (init.List is (span_of w)) h end) w) (sym e)
    (subst (λ w. Braced (init_read (init.List is (span_of w)) h (span_of w).end) w) (sym same) (record {
      source = (place_of l, init_read (init.List is (span_of (l ∷ v ++ r ∷ []))) h (span_of (l ∷ v ++ r ∷ [])).end);
      is = refl;
      word = join (spot l isl) (record {
        source = (listed is h x, place_of r);
        is = ap (λ (s : Span). init_read (init.List is s) h s.end) (sym (span_between l v r));
        word = join m (spot r isr);
      });
    }))

initial_out : (h : ℕ) (i : Init) (end : ℕ) (w : List Token) → Initial (suc h) i w → end ≡ (span_of w).end →
    Either Braced Value (init_read i h end) w
initial_out h i end w (grammar.value {e = a} m) e = inr (record {
  source = measured a h;
  is = ap (init_read (init.One a) h) (ap (λ (s : Span). s.end) (expression_span h a w m) ∙ sym e);
  word = m;
})
initial_out h i end w (grammar.braces {is = is} {v = v} l r isl m isr) e = inl (braced_out false h is l v r w end isl isr refl m e)
initial_out h i end w (grammar.braces_comma {is = is} {v = v} l c r isl m isc isr) e =
    inl (braced_out true h is l (v ++ c ∷ []) r w end isl isr (comma_between l v c r)
    (record { list = v; comma = c; parts = refl; is_comma = isc; initials = m }) e)

-- ---- what can always be written, and how words begin

closed_begins : (l : Span) → Begins (Closed l) []
closed_begins l =
    let b = punct_begins mark.RightBrace in
    record {
      value = list_of l (one_item (value_of example), b.value);
      more = (example_token ∷ []) ++ b.more;
      whole = record {
        source = (one_item (value_of example), b.value);
        is = refl;
        word = join (grammar.initial (grammar.value example_expression)) b.whole;
      };
    }

braced_begins : (t : Token) → is (punctuator mark.LeftBrace) t ≡ true → Begins Braced (t ∷ [])
braced_begins t e =
    let b = spot_begins (punctuator mark.LeftBrace) Closed t e (closed_begins (place_of t)) in
    record { value = b.value.1; more = b.more; whole = record { source = b.value; is = refl; word = b.whole } }

braced_starts : (v : InitRead) (w : List Token) → Braced v w → StartsIn (is (punctuator mark.LeftBrace)) w
braced_starts v w m = spot_starts (punctuator mark.LeftBrace) Closed m.source w m.word

items_high : (x : Bool) (a : ListRead) (w : List Token) → ItemsBy x a w → 0 < a.height
items_high false a w m = initials_high a.height a.inits w m
items_high true a w m = initials_high a.height a.inits m.list m.initials

closed_high : (c : ListRead × Span) (w : List Token) → Then ItemsWord (λ _. Spot (punctuator mark.RightBrace)) c w → 0 < c.0.height
closed_high c w (join {a = a} {u = u} m s) = items_high a.comma a u m

braced_high : (c : Span × InitRead) (w : List Token) → Then (Spot (punctuator mark.LeftBrace)) Closed c w → 0 < c.1.height
braced_high c w (join {v = u} (spot l is) m) = let high : 0 < m.source.0.height = closed_high m.source u m.word in
    omega (arith, ap (λ (v : InitRead). v.height) m.is)

braced_needs : (d : ℕ) (v : InitRead) (w : List Token) → Braced v w → Low d v → room d ≡ true
braced_needs d v w m low = is_below 0 d (omega (arith, braced_high m.source w m.word, ap (λ (v : InitRead). v.height) m.is))

-- ---- the parser

brace_none : operator_word (punctuator mark.RightBrace) ≡ None
unfolding operator_word
brace_none = refl

brace_ends : (x : Bool) (t : Token) → is (punctuator mark.RightBrace) t ≡ true → list_by x t ≡ false
brace_ends true t e = is_at (λ w. (w == punctuator mark.LeftBrace) || one_word begin_words w) (punctuator mark.RightBrace) t e
brace_ends false t e = or_false (expression_on example t) (is (punctuator mark.Comma) t)
    (closes_all example (punctuator mark.RightBrace) t refl brace_none refl refl e)
    (is_at (λ w. w == punctuator mark.Comma) (punctuator mark.RightBrace) t e)

module _ (d : ℕ) (below : Reader) (good : 0 < d → Good below InitialWord (Low (d - 1)) begins_initial initial_on) where
  closed_good : 0 < d → (l : Span) → Good (closed below l) (Closed l) (Low d) begins_initial nothing
  unfolding closed
  closed_good h l = makes_good (list_of l) (Closed l) (Low d) nothing
      (thens_good (λ _. punct mark.RightBrace) (λ _. Spot (punctuator mark.RightBrace)) (λ _. Always) (is (punctuator mark.RightBrace))
      (λ _. nothing)
      (items_good d h (good h)) (λ _ _. punct_good mark.RightBrace) (λ _. punct_begins mark.RightBrace) (λ a x e. brace_ends a.comma x e))
      (λ c w m. record { source = c; is = refl; word = m }) (λ b w m. m) (λ c w m fits. fits.0) (λ c w m fits. (fits, tt)) (λ a x e. refl)

  braced_good : room d ≡ true → Good (makes (λ c. c.1) (thens (punct mark.LeftBrace) (closed below))) Braced (Low d)
      (is (punctuator mark.LeftBrace)) nothing
  braced_good r = makes_good (λ c. c.1) Braced (Low d) nothing
      (thens_good (closed below) Closed (λ _. Low d) begins_initial (λ _. nothing)
      (punct_good mark.LeftBrace) (λ l _. closed_good (below_is 0 d r) l) closed_begins (λ a x e. refl))
      (λ c w m. record { source = c; is = refl; word = m }) (λ b w m. m) (λ c w m fits. fits.1) (λ c w m fits. (tt, fits)) (λ a x e. refl)

  value_good : Good (makes value_of (at d).expression) Value (Low d) begins initial_on
  value_good = makes_good value_of Value (Low d) initial_on (good_at d).expression
      (λ c w m. record { source = c; is = refl; word = m }) (λ b w m. m) (λ c w m fits. fits) (λ c w m fits. fits) (λ a x e. e)

  layer_good : Good (layer d below) InitialWord (Low d) begins_initial initial_on
  layer_good = good_as InitialWord (Low d) begins_initial
      (either_good (is (punctuator mark.LeftBrace)) (room d) begins_initial
      (λ r. good_on initial_on (braced_good r) (λ a x h. refl)) value_good
      braced_begins (braced_needs d) braced_starts
      (λ x e. is_not_first (punctuator mark.LeftBrace) (word_of x)
      (apart_words begin_words (punctuator mark.LeftBrace ∷ []) refl (word_of x) e))
      (λ x e. or_left (is (punctuator mark.LeftBrace) x) (begins x) e) (λ x e. or_right (is (punctuator mark.LeftBrace) x) (begins x) e))
      initial_into (λ v w m. initial_out v.height v.init v.end w m.initial m.end) (λ v w m low. low) (λ v w m low. low) (λ x e. e)

-- the parsers of each level read the language
pub initial_good : (d : ℕ) → Good (initial d) InitialWord (Low d) begins_initial initial_on
unfolding initial under
initial_good zero = layer_good 0 (under 0) (λ h. absurd (omega arith))
initial_good (suc d) = layer_good (suc d) (initial d) (λ h. let same : d ≡ suc d - 1 = omega arith in
    subst (λ k. Good (initial d) InitialWord (Low k) begins_initial initial_on) same (initial_good d))

-- the parser of the level below, where there is one
pub under_good : (d : ℕ) → 0 < d → Good (under d) InitialWord (Low (d - 1)) begins_initial initial_on
unfolding initial under
under_good zero h = absurd (omega arith)
under_good (suc d) h = let same : d ≡ suc d - 1 = omega arith in
    subst (λ k. Good (initial d) InitialWord (Low k) begins_initial initial_on) same (initial_good d)
