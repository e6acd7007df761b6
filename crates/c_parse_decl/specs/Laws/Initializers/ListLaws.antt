-- The initializers of a list are read.
use Rattle.std.specs.Prelude.{◌≡◌, ℕ, suc, ◌<◌, ◌≤◌, ◌-◌, ◌||◌, Bool, true, false, max, List, [], ◌∷◌, ◌++◌, None, refl}
use Rattle.std.proofs.Common.{sym, ap, subst, append_assoc, arith}
use Rattle.c_ast.specs.declared.token.Span.{Span}
use Rattle.c_ast.specs.Seen.{Seen as Token}
use Rattle.c_ast.specs.declared.declaration.Init.{Init}
use Rattle.c_ast.specs.declared.punctuator.Punctuator.TheVariants as mark
use Rattle.c_grammar.specs.Words.{IsPunct, punctuator, span_of}
use Rattle.c_grammar.specs.Objects as grammar
use Rattle.c_grammar.specs.Objects.{Initial, Initials}
use Rattle.c_parse_base.specs.Reading.Good.{Language, Good}
use Rattle.c_parse_base.specs.Reading.Languages.{Chain, once, again, Made}
use Rattle.c_parse_base.specs.Laws.Parts.{makes_good}
use Rattle.c_parse_base.specs.Reading.Words.{is, place_of, Spot, spot}
use Rattle.c_parse_base.specs.Laws.WordGood.{good_as, punct_good}
use Rattle.c_parse_expr.specs.Reading.Operators.{operator_word}
use Rattle.c_parse_base.specs.Laws.WordListLaws.{both_false}
use Rattle.c_parse_expr.specs.Reading.Levels.{expression_on, example}
use Rattle.c_parse_expr.specs.Laws.LevelLaws.{closes_all}
use Rattle.c_parse_decl.specs.declared.initializers.init_read.InitRead.{InitRead}
use Rattle.c_parse_decl.specs.declared.initializers.list_read.ListRead.{ListRead}
use Rattle.c_parse_decl.specs.Reading.Initializers.{Reader, Low, InitialWord, begins_initial, initial_on, one_item, more_items}
use Rattle.c_parse_decl.specs.Reading.Initializers.{comma_behind, goes_on_by, list_goes_on, turn_by, turn, items}
use Rattle.c_parse_base.specs.Laws.ChainLaws.{chain_by_good}

-- initializers with a comma behind them
pub record WithComma (a : ListRead) (w : List Token) : Type 0 where
  pub list : List Token
  pub comma : Token
  pub parts : w ≡ list ++ comma ∷ []
  pub is_comma : IsPunct mark.Comma comma
  pub initials : Initials a.height a.inits list

abbrev pub ItemsBy : Bool → ListRead → List Token → Type 0
ItemsBy true a w = WithComma a w
ItemsBy false a w = Initials a.height a.inits w

-- initial { "," initial } [ "," ]
abbrev pub ItemsWord : Language Token ListRead
ItemsWord a w = ItemsBy a.comma a w

abbrev pub LowList : ℕ → ListRead → Type 0
LowList d a = a.height ≤ d

abbrev One : Language Token ListRead
One = Made one_item InitialWord

abbrev pub TurnBy : Bool → ListRead → Language Token ListRead
TurnBy true a = Made (more_items a) InitialWord
TurnBy false a = Made (λ (p : Span). comma_behind a) (Spot (punctuator mark.Comma))

abbrev pub Turn : ListRead → Language Token ListRead
Turn a = TurnBy a.comma a

abbrev listed : List Init → ℕ → Bool → ListRead
listed is h comma = record { inits = is; height = h; comma = comma }

-- ---- into the grammar

item_made : (a : ListRead) (b : InitRead) (w u : List Token) → WithComma a w → InitialWord b u →
    Initials (max a.height (suc b.height)) (a.inits ++ b.init ∷ []) (w ++ u)
item_made a b w u m i =
    subst (λ w. Initials (max a.height (suc b.height)) (a.inits ++ b.init ∷ []) (w ++ u)) (sym m.parts)
    (subst (λ w. Initials (max a.height (suc b.height)) (a.inits ++ b.init ∷ []) w) (sym (append_assoc m.list (m.comma ∷ []) u))
    (grammar.more_initial m.comma m.initials m.is_comma i.initial))

comma_made : (a : ListRead) (p : Span) (w u : List Token) → Initials a.height a.inits w → Spot (punctuator mark.Comma) p u →
    WithComma (comma_behind a) (w ++ u)
comma_made a p w u m (spot c is) = record { list = w; comma = c; parts = refl; is_comma = is; initials = m }

turn_into : (x : Bool) (a b : ListRead) (w u : List Token) → ItemsBy x a w → TurnBy x a b u → ItemsWord b (w ++ u)
turn_into true a b w u m t = subst (λ b. ItemsWord b (w ++ u)) t.is (item_made a t.source w u m t.word)
turn_into false a b w u m t = subst (λ b. ItemsWord b (w ++ u)) t.is (comma_made a t.source w u m t.word)

items_into : (a : ListRead) (w : List Token) → Chain One Turn a w → ItemsWord a w
items_into a w (once m) = subst (λ a. ItemsWord a w) m.is (grammar.initial m.word.initial)
items_into a w (again {a = b} {w = v} {u = u} c m) = turn_into b.comma b a v u (items_into b v c) m

-- ---- and back

-- an initializer as it is read
abbrev pub read_of : Init → ℕ → List Token → InitRead
read_of i h w = record { init = i; height = h; end = (span_of w).end }

-- an initializer has one level at least
pub record Counted (k : ℕ) (i : Init) (w : List Token) : Type 0 where
  pub height : ℕ
  pub is : suc height ≡ k
  pub word : InitialWord (read_of i height w) w

pub counted : (k : ℕ) (i : Init) (w : List Token) → Initial k i w → Counted k i w
counted k i w (grammar.value {h = h} m) = record { height = h; is = refl; word = record { initial = grammar.value m; end = refl } }
counted k i w (grammar.braces {h = h} l r isl m isr) = record {
  height = h;
  is = refl;
  word = record { initial = grammar.braces l r isl m isr; end = refl };
}
counted k i w (grammar.braces_comma {h = h} l c r isl m isc isr) =
    record { height = h; is = refl; word = record { initial = grammar.braces_comma l c r isl m isc isr; end = refl } }

items_of : (h : ℕ) (is : List Init) (w : List Token) → Initials h is w → Chain One Turn (listed is h false) w
items_of h is w (grammar.initial {i = i} m) =
    let c = counted h i w m in
    once (record { source = read_of i c.height w; is = ap (λ h. listed (i ∷ []) h false) c.is; word = c.word })
items_of h is w (grammar.more_initial {h = n} {k = k} {is = js} {i = i} {u = u} {v = v} c l isc m) =
    let d = counted k i v m in
    subst (λ w. Chain One Turn (listed (js ++ i ∷ []) (max n k) false) w) (append_assoc u (c ∷ []) v)
    (again {a = listed js n true} (again (items_of n js u l) (record { source = place_of c; is = refl; word = spot c isc }))
    (record { source = read_of i d.height v; is = ap (λ k. listed (js ++ i ∷ []) (max n k) false) d.is; word = d.word }))

items_out : (x : Bool) (h : ℕ) (is : List Init) (w : List Token) → ItemsBy x (listed is h x) w → Chain One Turn (listed is h x) w
items_out false h is w m = items_of h is w m
items_out true h is w m =
    subst (λ w. Chain One Turn (listed is h true) w) (sym m.parts)
    (again (items_of h is m.list m.initials) (record { source = place_of m.comma; is = refl; word = spot m.comma m.is_comma }))

pub initials_high : (h : ℕ) (is : List Init) (w : List Token) → Initials h is w → 0 < h
initials_high h is w (grammar.initial {i = i} m) = let c = counted h i w m in omega (arith, c.is)
initials_high h is w (grammar.more_initial {h = n} {k = k} {is = js} {u = u} c l isc m) = let low : 0 < n = initials_high n js u l in
    omega arith

-- ---- the parser

pub comma_none : operator_word (punctuator mark.Comma) ≡ None
unfolding operator_word
comma_none = refl

-- a comma does not go on behind an expression
pub comma_ends : (t : Token) → is (punctuator mark.Comma) t ≡ true → expression_on example t ≡ false
comma_ends t e = closes_all example (punctuator mark.Comma) t refl comma_none refl refl e

-- the tokens that go on behind a part of a list
abbrev pub part_by : Bool → Token → Bool
part_by true t = false
part_by false t = expression_on example t

abbrev pub part_on : ListRead → Token → Bool
part_on a = part_by a.comma

-- the tokens that go on behind a list
abbrev pub list_by : Bool → Token → Bool
list_by true t = begins_initial t
list_by false t = expression_on example t || is (punctuator mark.Comma) t

abbrev pub list_on : ListRead → Token → Bool
list_on a = list_by a.comma

part_apart : (x : Bool) (t : Token) → goes_on_by x t ≡ true → part_by x t ≡ false
part_apart true t e = refl
part_apart false t e = comma_ends t e

list_ends : (x : Bool) (t : Token) → list_by x t ≡ false → (part_by x t ≡ false) × (goes_on_by x t ≡ false)
list_ends true t e = (refl, e)
list_ends false t e = both_false (expression_on example t) (is (punctuator mark.Comma) t) e

turn_back : (d : ℕ) (x : Bool) (a b : ListRead) (u : List Token) → TurnBy x a b u → LowList d b → LowList d a
turn_back d true a b u m low = omega (arith, ap (λ (v : ListRead). v.height) m.is)
turn_back d false a b u m low = omega (arith, ap (λ (v : ListRead). v.height) m.is)

module _ (d : ℕ) (some_level : 0 < d) {below : Reader} (good : Good below InitialWord (Low (d - 1)) begins_initial initial_on) where
  turn_good_by : (x : Bool) (a : ListRead) → LowList d a → Good (turn_by below x a) (TurnBy x a) (LowList d) (goes_on_by x) part_on
  unfolding turn_by
  turn_good_by true a low = makes_good (more_items a) (Made (more_items a) InitialWord) (LowList d) part_on good
      (λ c w m. record { source = c; is = refl; word = m }) (λ b w m. m) (λ c w m fits. omega arith) (λ c w m fits. omega arith)
      (λ c x e. e)
  turn_good_by false a low = makes_good (λ (p : Span). comma_behind a)
      (Made (λ (p : Span). comma_behind a) (Spot (punctuator mark.Comma))) (LowList d) part_on (punct_good mark.Comma)
      (λ c w m. record { source = c; is = refl; word = m }) (λ b w m. m) (λ c w m fits. low) (λ c w m fits. tt) (λ c x e. refl)

  pub turn_good : (a : ListRead) → LowList d a → Good (turn below a) (Turn a) (LowList d) (list_goes_on a) part_on
  turn_good a low = turn_good_by a.comma a low

  pub items_good : Good (items below) ItemsWord (LowList d) begins_initial list_on
  unfolding items
  items_good = good_as ItemsWord (LowList d) begins_initial
      (chain_by_good list_goes_on (λ _. true) (turn below) Turn (λ a may. turn_good a may.fits) list_on
      (makes_good one_item One (LowList d) part_on good
      (λ c w m. record { source = c; is = refl; word = m }) (λ b w m. m) (λ c w m fits. omega arith) (λ c w m fits. omega arith)
      (λ c x e. e))
      (λ a x e full. cc) (λ a b u m low. record { fits = turn_back d a.comma a b u m low; has_room = refl })
      (λ a x e. part_apart a.comma x e) (λ a x e. list_ends a.comma x e))
      items_into (λ a w m. items_out a.comma a.height a.inits w m) (λ a w m low. low) (λ a w m low. low) (λ x e. e)
