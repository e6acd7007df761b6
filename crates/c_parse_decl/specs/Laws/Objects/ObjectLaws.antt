-- Objects with their initializers are read.
use Rattle.std.specs.Prelude.{◌≡◌, ℕ, suc, ◌<◌, ◌≤◌, ◌-◌, ◌==◌, ◌||◌, max, Bool, true, false, List, [], ◌∷◌, ◌++◌, Some, None, refl}
use Rattle.std.proofs.Common.{sym, ◌∙◌, ap, subst, arith}
use Rattle.c_ast.specs.declared.token.Span.{Span}
use Rattle.c_ast.specs.Seen.{Seen as Token}
use Rattle.c_ast.specs.declared.expr.CType.{CType}
use Rattle.c_ast.specs.declared.declaration.Decl.{Decl}
use Rattle.c_ast.specs.declared.declaration.Init.{Init}
use Rattle.c_ast.specs.declared.punctuator.Punctuator.TheVariants as mark
use Rattle.c_grammar.specs.Words.{IsPunct, punctuator, span_of}
use Rattle.c_grammar.specs.Objects as grammar
use Rattle.c_grammar.specs.Objects.{Object}
use Rattle.c_grammar.specs.Declarators.{Declarator}
use Rattle.c_parse_base.specs.Reading.Good.{Language, Begins, Good}
use Rattle.c_parse_base.specs.Reading.Languages.{Then, join, Perhaps, alone, followed, Made}
use Rattle.c_parse_base.specs.Laws.Parts.{thens_good, makes_good}
use Rattle.c_parse_base.specs.Laws.OptionalLaws.{MayFollow, optional_good}
use Rattle.c_parse_base.specs.Laws.SpanLaws.{span_join}
use Rattle.c_parse_base.specs.Reading.Words.{is, place_of, Spot, spot}
use Rattle.c_parse_base.specs.Laws.WordGood.{good_as, punct_good, spot_begins}
use Rattle.c_parse_base.specs.Laws.WordListLaws.{is_at, both_false}
use Rattle.c_parse_base.specs.Laws.Depths.{below_is, is_below}
use Rattle.c_parse_expr.specs.Reading.Levels.{expression_on, example}
use Rattle.c_parse_decl.specs.declared.declarators.declared.Declared.{Declared}
use Rattle.c_parse_decl.specs.Reading.Declarators.{DeclaratorWord, begins_declarator}
use Rattle.c_parse_decl.specs.declared.initializers.init_read.InitRead.{InitRead}
use Rattle.c_parse_decl.specs.Reading.Initializers as initializers
use Rattle.c_parse_decl.specs.Reading.Initializers.{InitialWord, begins_initial, initial_on, initial}
use Rattle.c_parse_decl.specs.Laws.Declarators.DeclaratorLaws.{declarator_good}
use Rattle.c_parse_decl.specs.Laws.Initializers.InitialLaws.{initial_good}
use Rattle.c_parse_decl.specs.Laws.Initializers.ListLaws.{counted}
use Rattle.c_parse_decl.specs.declared.objects.objects_read.ObjectRead.{ObjectRead}
use Rattle.c_parse_decl.specs.Reading.Objects.{ObjectWord, ValueWord, plain_of, valued, equal, room, free, value, object}

abbrev pub LowObject : ℕ → ObjectRead → Type 0
LowObject d a = a.height ≤ d

abbrev pub object_read : Decl → ℕ → ObjectRead
object_read decl h = record { decl = decl; height = h }

abbrev pub declared : List ℕ → CType → ℕ → Span → Declared
declared name ty h s = record { name = name; ty = ty; height = h; span = s }

abbrev Plain : CType → Language Token ObjectRead
Plain base = Made plain_of (DeclaratorWord base)

-- ---- into the grammar and back

pub plain_made : (base : CType) (a : Declared) (w : List Token) → DeclaratorWord base a w → ObjectWord base (plain_of a) w
plain_made base a w m = subst (λ s. Object base a.height (record { name = a.name; ty = a.ty; init = None; span = s }) w) (sym m.span)
    (grammar.plain m.declarator)

value_span : (base : CType) (a : Declared) (i : InitRead) (u : List Token) (t : Token) (x : List Token) → DeclaratorWord base a u →
    InitialWord i x →
    span_of (u ++ t ∷ x) ≡ record { start = a.span.start; end = i.end }
value_span base a i u t x l m =
    span_join begins_declarator begins_initial u t x ((declarator_good 0 base).starts a u l) ((initial_good 0).starts i x m)
    ∙ ap (λ (s : Span). record { start = s.start; end = (span_of x).end }) (sym l.span)
    ∙ ap (λ e. record { start = a.span.start; end = e }) (sym m.end)

pub value_made : (base : CType) (a : Declared) (c : Span × InitRead) (u v : List Token) → DeclaratorWord base a u →
    Then (Spot (punctuator mark.Equal)) (λ _. InitialWord) c v →
    ObjectWord base (valued (plain_of a) c.1) (u ++ v)
value_made base a c u v l (join {b = i} {v = x} (spot t isq) m) =
    subst (λ s. Object base (max a.height (suc (suc i.height))) (record { name = a.name; ty = a.ty; init = Some i.init; span = s })
    (u ++ t ∷ x))
    (value_span base a i u t x l m) (grammar.initialised t l.declarator isq m.initial)

object_into : (base : CType) (v : ObjectRead) (w : List Token) → Perhaps (Plain base) ValueWord v w → ObjectWord base v w
object_into base v w (alone m) = subst (λ v. ObjectWord base v w) m.is (plain_made base m.source w m.word)
object_into base v w (followed {a = b} {w = u} {u = x} l m) =
    subst (λ v. ObjectWord base v (u ++ x)) (ap (λ b. valued b m.source.1) l.is ∙ m.is)
    (value_made base l.source m.source u x l.word m.word)

-- what stands behind a declarator in an object that has an initializer
pub value_out : (base : CType) (h k : ℕ) (name : List ℕ) (ty : CType) (i : Init) (u v : List Token) (t : Token) →
    Declarator base h name ty u → IsPunct mark.Equal t → grammar.Initial k i v →
    ValueWord (plain_of (declared name ty h (span_of u))) (object_read
    (record { name = name; ty = ty; init = Some i; span = span_of (u ++ t ∷ v) }) (max h (suc k))) (t ∷ v)
value_out base h k name ty i u v t m isq n =
    let c = counted k i v n in
    let read : InitRead = record { init = i; height = c.height; end = (span_of v).end } in
    record {
      source = (place_of t, read);
      is = ap (λ k. object_read (record {
        name = name;
        ty = ty;
        init = Some i;
        span = record { start = (span_of u).start; end = (span_of v).end };
      }) (max h (suc k))) c.is
          ∙ ap (λ s. object_read (record { name = name; ty = ty; init = Some i; span = s }) (max h (suc k)))
          (sym (value_span base (declared name ty h (span_of u)) read u t v (record { declarator = m; span = refl }) c.word));
      word = join (spot t isq) c.word;
    }

object_out : (base : CType) (h : ℕ) (decl : Decl) (w : List Token) → Object base h decl w →
    Perhaps (Plain base) ValueWord (object_read decl h) w
object_out base h decl w (grammar.plain {name = name} {ty = ty} m) = alone
    (record { source = declared name ty h (span_of w); is = refl; word = record { declarator = m; span = refl } })
object_out base h decl w (grammar.initialised {h = j} {k = k} {name = name} {ty = ty} {i = i} {u = u} {v = v} t m isq n) =
    followed (record { source = declared name ty j (span_of u); is = refl; word = record { declarator = m; span = refl } })
    (value_out base j k name ty i u v t m isq n)

-- ---- the parser

pub initial_begins : Begins InitialWord []
initial_begins = let s = (initial_good 0).some in record { value = s.value; more = s.more; whole = s.whole }

pub value_begins : (a : ObjectRead) (t : Token) → equal t ≡ true → Begins (ValueWord a) (t ∷ [])
value_begins a t e =
    let b = spot_begins (punctuator mark.Equal) (λ _. InitialWord) t e initial_begins in
    record { value = valued a b.value.1; more = b.more; whole = record { source = b.value; is = refl; word = b.whole } }

-- an initializer takes two levels
pub value_high : (a b : ObjectRead) (u : List Token) → ValueWord a b u → (a.height ≤ b.height) × (1 < b.height)
value_high a b u m = (omega (arith, ap (λ (v : ObjectRead). v.height) m.is), omega (arith, ap (λ (v : ObjectRead). v.height) m.is))

-- the tokens that go on behind an initializer
abbrev pub value_on : ObjectRead → Token → Bool
value_on a t = expression_on example t

-- the tokens that go on behind an object
abbrev pub goes_on : Token → Bool
goes_on t = is (punctuator mark.LeftBracket) t || (equal t || expression_on example t)

abbrev pub object_on : ObjectRead → Token → Bool
object_on a t = goes_on t

object_ends : (t : Token) → goes_on t ≡ false → (is (punctuator mark.LeftBracket) t ≡ false) × (equal t ≡ false) ×
    (expression_on example t ≡ false)
object_ends t h =
    let b = both_false (is (punctuator mark.LeftBracket) t) (equal t || expression_on example t) h in
    let c = both_false (equal t) (expression_on example t) b.1 in
    (b.0, c.0, c.1)

pub value_good : (d : ℕ) (a : ObjectRead) → a.height ≤ d → 1 < d → Good (value d a) (ValueWord a) (LowObject d) equal value_on
unfolding value
value_good d a low high = makes_good (λ c. valued a c.1) (ValueWord a) (LowObject d) value_on
    (thens_good (λ _. initial (d - 2)) (λ _. InitialWord) (λ _. initializers.Low (d - 2)) begins_initial (λ _. initial_on)
    (punct_good mark.Equal) (λ _ _. initial_good (d - 2)) (λ _. initial_begins) (λ a x e. refl))
    (λ c w m. record { source = c; is = refl; word = m }) (λ b w m. m)
    (λ c w m fits. omega (arith, fits.1)) (λ c w m fits. (tt, omega (arith, fits))) (λ c x e. e)

may_value : (d : ℕ) (a b : ObjectRead) (u : List Token) → ValueWord a b u → LowObject d b → MayFollow (LowObject d) free (λ _. room d) a
may_value d a b u m low =
    let high = value_high a b u m in
    record { fits = omega (arith, high.0); is_allowed = refl; has_room = is_below 1 d (omega (arith, high.1)) }

pub object_good : (d : ℕ) (base : CType) → Good (object d base) (ObjectWord base) (LowObject d) begins_declarator object_on
unfolding object
object_good d base = good_as (ObjectWord base) (LowObject d) begins_declarator
    (optional_good equal free (λ _. room d) (value d) ValueWord object_on
    (makes_good plain_of (Plain base) (LowObject d) (λ _ t. is (punctuator mark.LeftBracket) t) (declarator_good d base)
    (λ c w m. record { source = c; is = refl; word = m }) (λ b w m. m) (λ c w m fits. fits) (λ c w m fits. fits) (λ c x e. e))
    (λ a may. value_good d a may.fits (below_is 1 d may.has_room)) (λ a x y e. value_begins a x e) (may_value d)
    (λ a x e. is_at (λ w. w == punctuator mark.LeftBracket) (punctuator mark.Equal) x e) (λ a x e. object_ends x e))
    (object_into base) (λ v w m. object_out base v.height v.decl w m) (λ v w m low. low) (λ v w m low. low) (λ x e. e)

pub object_begins : (base : CType) → Begins (ObjectWord base) []
object_begins base = let s = (object_good 0 base).some in record { value = s.value; more = s.more; whole = s.whole }
