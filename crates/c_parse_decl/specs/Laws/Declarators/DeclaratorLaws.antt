-- Declarators are read.
use Rattle.std.specs.Prelude.{◌≡◌, ℕ, suc, ◌<◌, true, nat_lt, List, [], ◌∷◌, ◌++◌, Option, refl}
use Rattle.std.proofs.Common.{sym, subst, append_assoc, arith}
use Rattle.c_ast.specs.Seen.{Seen as Token}
use Rattle.c_ast.specs.declared.expr.CType.{CType}
use Rattle.c_ast.specs.declared.expr.Expr.{Expr}
use Rattle.c_ast.specs.declared.punctuator.Punctuator.TheVariants as mark
use Rattle.c_grammar.specs.Words.{IsName, span_of, punctuator}
use Rattle.c_grammar.specs.Types.{Stars}
use Rattle.c_grammar.specs.Declarators as grammar
use Rattle.c_grammar.specs.Declarators.{arrays, Brackets, Declarator}
use Rattle.c_parse_base.specs.Reading.Good.{Begins, Good}
use Rattle.c_parse_base.specs.Reading.Languages.{Perhaps, alone, followed}
use Rattle.c_parse_base.specs.Laws.OptionalLaws.{MayFollow, optional_good}
use Rattle.c_parse_base.specs.Reading.Spans.{join_spans}
use Rattle.c_parse_base.specs.Laws.SpanLaws.{span_append}
use Rattle.c_parse_base.specs.Reading.Words.{is}
use Rattle.c_parse_base.specs.Laws.WordGood.{good_as}
use Rattle.c_parse_base.specs.Laws.Depths.{below_is, is_below}
use Rattle.c_parse_decl.specs.declared.declarators.declared.Declared.{Declared}
use Rattle.c_parse_decl.specs.Reading.Declarators.{Low, StarredWord, starred_name, BracketedWord, brackets_behind, DeclaratorWord}
use Rattle.c_parse_decl.specs.Reading.Declarators.{begins_declarator, goes_on_declarator, bracketed, declarator}
use Rattle.c_parse_decl.specs.Laws.Declarators.StarredLaws.{starred_good, starred_begins_at}
use Rattle.c_parse_decl.specs.Laws.Declarators.BracketLaws.{bracketed_good, bracketed_begins_at, bracketed_high, not_empty}

-- stars and a name, and perhaps brackets behind them
abbrev Parts : CType → Declared → List Token → Type 0
Parts base = Perhaps (StarredWord base) BracketedWord

declared_span : (base : CType) (a v : Declared) (u w : List Token) → StarredWord base a u → BracketedWord a v w →
    span_of (u ++ w) ≡ join_spans (span_of u) (span_of w)
declared_span base a v u w s b =
    span_append begins_declarator (is (punctuator mark.LeftBracket)) u w ((starred_good 0 base).starts a u s)
    ((bracketed_good (suc a.height) a (omega arith)).starts v w b)

declarator_lone : (base : CType) (v : Declared) (w : List Token) → StarredWord base v w → DeclaratorWord base v w
unfolding arrays
declarator_lone base v w (starred_name t s e) = record { declarator = grammar.declarator t s e grammar.no_bracket; span = refl }

declarator_both : (base : CType) (a v : Declared) (u w : List Token) → StarredWord base a u → BracketedWord a v w →
    span_of (u ++ w) ≡ join_spans (span_of u) (span_of w) → DeclaratorWord base v (u ++ w)
declarator_both base a v u w (starred_name {n = n} {ty = ty} {name = name} {u = x} t s e)
    (brackets_behind {h = h} {lengths = lengths} b some) span = record {
      declarator = subst (λ w. Declarator base h name (arrays ty lengths) w) (sym (append_assoc x (t ∷ []) w)) (grammar.declarator t s e b);
      span = sym span;
    }

declarator_into : (base : CType) (v : Declared) (w : List Token) → Parts base v w → DeclaratorWord base v w
declarator_into base v w (alone s) = declarator_lone base v w s
declarator_into base v w (followed {a = a} {w = x} {u = u} s b) = declarator_both base a v x u s b (declared_span base a v x u s b)

abbrev declared : List ℕ → CType → ℕ → List Token → Declared
declared name ty height w = record { name = name; ty = ty; height = height; span = span_of w }

-- brackets behind stars and a name
behind_out : (base : CType) (a : Declared) (name : List ℕ) (ty : CType) (h : ℕ) (u w : List Token) → StarredWord base a u →
    BracketedWord a (record { name = name; ty = ty; height = h; span = join_spans (span_of u) (span_of w) }) w →
    Parts base (declared name ty h (u ++ w)) (u ++ w)
behind_out base a name ty h u w s b =
    subst (λ p. Parts base (record { name = name; ty = ty; height = h; span = p }) (u ++ w))
    (sym (declared_span base a (record { name = name; ty = ty; height = h; span = join_spans (span_of u) (span_of w) }) u w s b))
    (followed s b)

brackets_out : (base to : CType) (n h : ℕ) (name : List ℕ) (trees : List (Option Expr)) (u v : List Token) (t : Token) →
    Stars base n to u → IsName name t → Brackets n h trees v →
    Parts base (declared name (arrays to trees) h (u ++ t ∷ v)) (u ++ t ∷ v)
unfolding arrays
brackets_out base to n h name trees u v t s e grammar.no_bracket = alone (starred_name t s e)
brackets_out base to n h name trees u v t s e (grammar.bracket {lengths = before} {size = size} l r b isl m isr) =
    subst (λ w. Parts base (declared name (arrays to trees) h w) w) (append_assoc u (t ∷ []) v)
    (behind_out base (declared name to n (u ++ t ∷ [])) name (arrays to trees) h (u ++ t ∷ []) v (starred_name t s e)
    (brackets_behind (grammar.bracket l r b isl m isr) (not_empty before size)))

parts_out : (base : CType) (h : ℕ) (name : List ℕ) (ty : CType) (w : List Token) → Declarator base h name ty w →
    Parts base (declared name ty h w) w
parts_out base h name ty w (grammar.declarator {n = n} {ty = to} {lengths = trees} {u = u} {v = v} t s e b) = brackets_out base to n h
    name trees u v t s e b

declarator_out : (base : CType) (v : Declared) (w : List Token) → DeclaratorWord base v w → Parts base v w
declarator_out base v w m =
    subst (λ p. Parts base (record { name = v.name; ty = v.ty; height = v.height; span = p }) w) (sym m.span)
    (parts_out base v.height v.name v.ty w m.declarator)

may_bracket : (d : ℕ) (a b : Declared) (w : List Token) → BracketedWord a b w → Low d b →
    MayFollow (Low d) (λ _. true) (λ a. nat_lt a.height d) a
may_bracket d a b w m low =
    let high : a.height < b.height = bracketed_high a b w m in
    record { fits = omega arith; is_allowed = refl; has_room = is_below a.height d (omega arith) }

-- declarators are read
pub declarator_good : (d : ℕ) (base : CType) → Good (declarator d base) (DeclaratorWord base) (Low d) begins_declarator goes_on_declarator
unfolding declarator
declarator_good d base = good_as (DeclaratorWord base) (Low d) begins_declarator
    (optional_good (is (punctuator mark.LeftBracket)) (λ _. true) (λ a. nat_lt a.height d) (bracketed d) BracketedWord goes_on_declarator
    (starred_good d base) (λ a may. bracketed_good d a (below_is a.height d may.has_room))
    (λ a x _ h. bracketed_begins_at a x h) (may_bracket d) (λ a x h. refl) (λ a x h. (refl, h, h)))
    (declarator_into base) (declarator_out base) (λ v w m low. low) (λ v w m low. low) (λ x h. h)

-- each first token begins some declarator
pub declarator_begins_at : (base : CType) (t : Token) → begins_declarator t ≡ true → Begins (DeclaratorWord base) (t ∷ [])
declarator_begins_at base t h =
    let b = starred_begins_at base t h in
    record { value = b.value; more = b.more; whole = declarator_lone base b.value (t ∷ b.more) b.whole }
