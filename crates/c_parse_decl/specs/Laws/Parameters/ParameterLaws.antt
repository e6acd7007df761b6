-- The parser of one parameter reads its language: a type, perhaps a name, perhaps brackets (ISO C11 6.7.6.3).
use Rattle.std.specs.Prelude.{◌≡◌, ℕ, suc, Bool, true, false, ◌==◌, ◌||◌, List, [], ◌∷◌, ◌++◌, Option, None, is_some, refl}
use Rattle.std.proofs.Common.{sym, ◌∙◌, ap, subst, append_assoc, append-nil, arith}
use Rattle.c_ast.specs.declared.token.Span.{Span}
use Rattle.c_ast.specs.Seen.{Seen as Token}
use Rattle.c_ast.specs.declared.expr.CType.{CType}
use Rattle.c_ast.specs.declared.expr.Expr.{Expr}
use Rattle.c_ast.specs.declared.declaration.Decl.{Decl}
use Rattle.c_ast.specs.declared.keyword.Keyword.TheVariants as key
use Rattle.c_ast.specs.declared.punctuator.Punctuator.TheVariants as mark
use Rattle.c_grammar.specs.Words.{word_of, keyword, punctuator, a_name, span_of}
use Rattle.c_grammar.specs.Types.{TypeName, type_name}
use Rattle.c_grammar.specs.Declarators.{arrays, Brackets, no_bracket, bracket as more_brackets}
use Rattle.c_grammar.specs.Parameters as grammar
use Rattle.c_grammar.specs.Parameters.{Parameter, ParameterName}
use Rattle.c_parse_base.specs.declared.words.Named.{Named}
use Rattle.c_parse_base.specs.Reading.Good.{Language, Begins, StartsIn, Good}
use Rattle.c_parse_base.specs.Reading.Languages.{Perhaps, alone, followed, Made, Always, nothing}
use Rattle.c_parse_base.specs.Reading.Spans.{join_spans, Starting}
use Rattle.c_parse_base.specs.Reading.Words.{place_of, Naming, naming}
use Rattle.c_parse_base.specs.Reading.TypeWords.{size_at}
use Rattle.c_parse_base.specs.Reading.TypeNames.{begins_type}
use Rattle.c_parse_base.specs.declared.type_read.TypeRead.{TypeRead}
use Rattle.c_parse_base.specs.Laws.Parts.{makes_good}
use Rattle.c_parse_base.specs.Laws.OptionalLaws.{optional_good}
use Rattle.c_parse_base.specs.Laws.SpanLaws.{span_append}
use Rattle.c_parse_base.specs.Laws.StartingLaws.{starting_good}
use Rattle.c_parse_base.specs.Laws.WordGood.{good_as}
use Rattle.c_parse_base.specs.Laws.TypeNameLaws.{TypeWord, type_good}
use Rattle.c_parse_base.specs.Laws.NameLaws.{name_word, name_good, name_begins_at}
use Rattle.c_parse_base.specs.Laws.WordListLaws.{is_at, both_false}
use Rattle.c_parse_base.specs.Laws.Depths.{below_is, is_below}
use Rattle.c_parse_expr.specs.Laws.TypeBegins.{type_begins_at}
use Rattle.c_parse_decl.specs.declared.declarators.declared.Declared.{Declared}
use Rattle.c_parse_decl.specs.Reading.Declarators as declarators
use Rattle.c_parse_decl.specs.Reading.Declarators.{BracketedWord, brackets_behind, bracketed}
use Rattle.c_parse_decl.specs.Laws.Declarators.BracketLaws.{bracketed_good, bracketed_begins_at, bracketed_high, not_empty}
use Rattle.c_parse_decl.specs.Reading.Parameters.{always, has_room, bracket, is_name, unnamed, named, typed, name_behind, nameable}
use Rattle.c_parse_decl.specs.Reading.Parameters.{parameter, decl_of}

-- ---- the languages

abbrev TypedWord : Language Token Declared
TypedWord = Made unnamed (Starting TypeWord)

abbrev NameBehind : Declared → Language Token Declared
NameBehind a = Made (named a) Naming

abbrev Nameable : Language Token Declared
Nameable = Perhaps TypedWord NameBehind

abbrev Parts : Language Token Declared
Parts = Perhaps Nameable BracketedWord

-- one parameter, as the grammar has it
abbrev pub ParameterWord : Language Token Declared
ParameterWord a w = Parameter a.height (decl_of a) w

abbrev pub LowOne : ℕ → Declared → Type 0
LowOne = declarators.Low

-- the words that go on behind a type name
abbrev type_word_on : ℕ → Bool
type_word_on w = (is_some (size_at w) || (w == keyword key.Int)) || (w == punctuator mark.Star)

-- the words that go on behind a parameter
abbrev pub parameter_word_on : ℕ → Bool
parameter_word_on w = (w == punctuator mark.LeftBracket) || ((w == a_name) || type_word_on w)

abbrev type_on : Token → Bool
type_on t = type_word_on (word_of t)

abbrev pub parameter_on : Token → Bool
parameter_on t = parameter_word_on (word_of t)

-- ---- the parsers of the parts

name_off : type_word_on a_name ≡ false
unfolding size_at
name_off = refl

bracket_off : ((punctuator mark.LeftBracket == a_name) || type_word_on (punctuator mark.LeftBracket)) ≡ false
unfolding size_at
bracket_off = refl

typed_good : (d : ℕ) → Good (typed d) TypedWord (LowOne d) begins_type (λ _. type_on)
unfolding typed
typed_good d = makes_good unnamed TypedWord (LowOne d) (λ _. type_on) (starting_good (type_good d))
    (λ c w m. record { source = c; is = refl; word = m }) (λ b w m. m) (λ c w m fits. fits) (λ c w m fits. fits) (λ c x h. h)

name_behind_good : (d : ℕ) (a : Declared) → LowOne d a → Good (name_behind a) (NameBehind a) (LowOne d) is_name nothing
unfolding name_behind
name_behind_good d a low = makes_good (named a) (NameBehind a) (LowOne d) nothing
    (good_as Naming Always is_name name_good (λ a w m. m) (λ a w m. m) (λ a w m h. h) (λ a w m h. h)
    (λ x h. ap (λ w. w == a_name) (name_word x h)))
    (λ c w m. record { source = c; is = refl; word = m }) (λ b w m. m) (λ c w m fits. low) (λ c w m fits. tt) (λ c x h. refl)

name_at : (a : Declared) (t : Token) → is_name t ≡ true → Begins (NameBehind a) (t ∷ [])
name_at a t e = let b = name_begins_at t e in record {
  value = named a b.value;
  more = b.more;
  whole = record { source = b.value; is = refl; word = b.whole };
}

nameable_good : (d : ℕ) → Good (nameable d) Nameable (LowOne d) begins_type (λ _ t. is_name t || type_on t)
unfolding nameable
nameable_good d = optional_good is_name always always name_behind NameBehind (λ _ t. is_name t || type_on t) (typed_good d)
    (λ a may. name_behind_good d a may.fits) (λ a x h e. name_at a x e)
    (λ a b u m low. record { fits = omega (arith, ap (λ (b : Declared). b.height) m.is); is_allowed = refl; has_room = refl })
    (λ a x e. is_at type_word_on a_name x e ∙ name_off)
    (λ a x e. let n = both_false (is_name x) (type_on x) e in (n.1, n.0, refl))

parts_good : (d : ℕ) → Good (parameter d) Parts (LowOne d) begins_type (λ _. parameter_on)
unfolding parameter
parts_good d = optional_good bracket always (has_room d) (bracketed d) BracketedWord (λ _. parameter_on) (nameable_good d)
    (λ a may. bracketed_good d a (below_is a.height d may.has_room)) (λ a x h e. bracketed_begins_at a x e)
    (λ a b u m low. let high = bracketed_high a b u m in
    record { fits = omega arith; is_allowed = refl; has_room = is_below a.height d (omega arith) })
    (λ a x e. is_at (λ w. (w == a_name) || type_word_on w) (punctuator mark.LeftBracket) x e ∙ bracket_off)
    (λ a x e. let n = both_false (bracket x) (is_name x || type_on x) e in (n.1, n.0, n.0))

-- ---- into the grammar

-- a type, and perhaps a name
record Unbracketed (a : Declared) (w : List Token) : Type 0 where
  type_part : List Token
  name_part : List Token
  parts : w ≡ type_part ++ name_part
  type : TypeName a.height a.ty type_part
  name : ParameterName a.name name_part
  span : a.span ≡ span_of w

abbrev anything : Token → Bool
anything t = true

one_token : (t : Token) → StartsIn anything (t ∷ [])
one_token t = record { head = t; tail = []; parts = refl; is_first = refl }

type_starts : (n : ℕ) (ty : CType) (w : List Token) → TypeName n ty w → StartsIn begins_type w
type_starts n ty w m = (type_good 0).starts (record { ty = ty; height = n; end = (span_of w).end }) w (record { name = m; end = refl })

type_span : (c : ℕ × TypeRead) (w : List Token) → Starting TypeWord c w → (unnamed c).span ≡ span_of w
type_span c w s = ap (λ start. record { start = start; end = c.1.end }) s.start
    ∙ ap (λ end. record { start = (span_of w).start; end = end }) s.word.end

unnamed_into : (c : ℕ × TypeRead) (w : List Token) → Starting TypeWord c w → Unbracketed (unnamed c) w
unnamed_into c w s = record {
  type_part = w;
  name_part = [];
  parts = sym (append-nil w);
  type = s.word.name;
  name = grammar.unnamed;
  span = type_span c w s;
}

named_into : (c : ℕ × TypeRead) (n : Named) (w u : List Token) → Starting TypeWord c w → Naming n u →
    Unbracketed (named (unnamed c) n) (w ++ u)
named_into c n w u s (naming t e) = record {
  type_part = w;
  name_part = t ∷ [];
  parts = refl;
  type = s.word.name;
  name = grammar.named t e;
  span = ap (λ s. join_spans s (place_of t)) (type_span c w s)
      ∙ sym (span_append begins_type anything w (t ∷ []) (type_starts c.1.height c.1.ty w s.word.name) (one_token t));
}

nameable_into : (a : Declared) (w : List Token) → Nameable a w → Unbracketed a w
nameable_into a w (alone m) = subst (λ a. Unbracketed a w) m.is (unnamed_into m.source w m.word)
nameable_into a w (followed {a = b} {w = x} {u = u} m k) =
    subst (λ a. Unbracketed a (x ++ u)) (ap (λ b. named b k.source) m.is ∙ k.is)
    (named_into m.source k.source x u m.word k.word)

abbrev parameter_of : List ℕ → CType → Span → Decl
parameter_of name ty span = record { name = name; ty = ty; init = None; span = span }

-- brackets, if there are any, behind a type and a name
brackets_into : (a : Declared) (h : ℕ) (lengths : List (Option Expr)) (w u : List Token) → Unbracketed a w → Brackets a.height h lengths u →
    Parameter h (parameter_of a.name (arrays a.ty lengths) (span_of (w ++ u))) (w ++ u)
brackets_into a h lengths w u m b =
    subst (λ w. Parameter h (parameter_of a.name (arrays a.ty lengths) (span_of (w ++ u))) (w ++ u)) (sym m.parts)
    (go a.ty a.height m.type_part m.type b)
  where
    go : (ty : CType) (n : ℕ) (x : List Token) → TypeName n ty x → Brackets n h lengths u →
        Parameter h (parameter_of a.name (arrays ty lengths) (span_of ((x ++ m.name_part) ++ u))) ((x ++ m.name_part) ++ u)
    go ty n x (type_name {u = y} {v = z} bs ss) b =
        subst (λ w. Parameter h (parameter_of a.name (arrays ty lengths) (span_of w)) w)
        (sym (ap (λ w. w ++ u) (append_assoc y z m.name_part) ∙ append_assoc y (z ++ m.name_part) u
        ∙ ap (λ w. y ++ w) (append_assoc z m.name_part u)))
        (grammar.parameter bs ss m.name b)

unbracketed_into : (a : Declared) (w : List Token) → Unbracketed a w → ParameterWord a w
unfolding arrays
unbracketed_into a w m =
    subst (λ s. Parameter a.height (parameter_of a.name a.ty s) w) (sym m.span)
    (subst (λ w. Parameter a.height (parameter_of a.name a.ty (span_of w)) w) (append-nil w)
    (brackets_into a a.height [] w [] m no_bracket))

bracketed_into : (a b : Declared) (w u : List Token) → Unbracketed a w → StartsIn begins_type w → StartsIn bracket u →
    BracketedWord a b u → ParameterWord b (w ++ u)
bracketed_into a b w u m s r (brackets_behind {h = h} {lengths = lengths} br ne) =
    subst (λ s. Parameter h (parameter_of a.name (arrays a.ty lengths) s) (w ++ u))
    (span_append begins_type bracket w u s r ∙ ap (λ s. join_spans s (span_of u)) (sym m.span))
    (brackets_into a h lengths w u m br)

bracket_starts : (a b : Declared) (u : List Token) → BracketedWord a b u → StartsIn bracket u
bracket_starts a b u k = (bracketed_good (suc a.height) a (omega arith)).starts b u k

parameter_into : (a : Declared) (w : List Token) → Parts a w → ParameterWord a w
parameter_into a w (alone m) = unbracketed_into a w (nameable_into a w m)
parameter_into a w (followed {a = b} {w = x} {u = u} m k) =
    bracketed_into b a x u (nameable_into b x m) ((nameable_good 0).starts b x m) (bracket_starts b a u k) k

-- ---- and back

abbrev declared : List ℕ → CType → ℕ → Span → Declared
declared name ty height span = record { name = name; ty = ty; height = height; span = span }

typed_out : (n : ℕ) (ty : CType) (w : List Token) → TypeName n ty w → TypedWord (declared [] ty n (span_of w)) w
typed_out n ty w m = record {
  source = ((span_of w).start, record { ty = ty; height = n; end = (span_of w).end });
  is = refl;
  word = record { word = record { name = m; end = refl }; start = refl };
}

-- a name, if there is one, behind a type
name_out : (n : ℕ) (ty : CType) (name : List ℕ) (w u : List Token) → TypeName n ty w → ParameterName name u →
    Nameable (declared name ty n (span_of (w ++ u))) (w ++ u)
name_out n ty name w u m grammar.unnamed =
    subst (λ w. Nameable (declared [] ty n (span_of w)) w) (sym (append-nil w)) (alone (typed_out n ty w m))
name_out n ty name w u m (grammar.named t e) =
    subst (λ s. Nameable (declared name ty n s) (w ++ t ∷ []))
    (sym (span_append begins_type anything w (t ∷ []) (type_starts n ty w m) (one_token t)))
    (followed (typed_out n ty w m) (record { source = record { name = name; place = place_of t }; is = refl; word = naming t e }))

bracketed_out : (name : List ℕ) (ty to : CType) (n h : ℕ) (w u : List Token) → Nameable (declared name ty n (span_of w)) w →
    BracketedWord (declared name ty n (span_of w)) (declared name to h (join_spans (span_of w) (span_of u))) u →
    Parts (declared name to h (span_of (w ++ u))) (w ++ u)
bracketed_out name ty to n h w u m k =
    subst (λ s. Parts (declared name to h s) (w ++ u))
    (sym (span_append begins_type bracket w u ((nameable_good 0).starts (declared name ty n (span_of w)) w m)
    (bracket_starts (declared name ty n (span_of w)) (declared name to h (join_spans (span_of w) (span_of u))) u k)))
    (followed m k)

-- brackets, if there are any, behind them
brackets_out : (name : List ℕ) (ty : CType) (n h : ℕ) (lengths : List (Option Expr)) (w u : List Token) →
    Nameable (declared name ty n (span_of w)) w → Brackets n h lengths u →
    Parts (declared name (arrays ty lengths) h (span_of (w ++ u))) (w ++ u)
unfolding arrays
brackets_out name ty n h lengths w u m no_bracket = subst (λ w. Parts (declared name ty n (span_of w)) w) (sym (append-nil w)) (alone m)
brackets_out name ty n h lengths w u m (more_brackets {lengths = before} {size = size} l r b isl k isr) =
    bracketed_out name ty (arrays ty lengths) n h w u m (brackets_behind (more_brackets l r b isl k isr) (not_empty before size))

-- a declaration of so many levels
abbrev pub declared_of : ℕ → Decl → Declared
declared_of h d = declared d.name d.ty h d.span

parameter_back : (h : ℕ) (d : Decl) (w : List Token) → Parameter h d w → Parts (declared_of h d) w
parameter_back h d w (grammar.parameter {n = n} {ty = ty} {name = name} {lengths = lengths} {u = u} {v = v} {w = x} {x = y} bs ss nm br) =
    subst (λ w. Parts (declared name (arrays ty lengths) h (span_of w)) w) (append_assoc (u ++ v) x y ∙ append_assoc u v (x ++ y))
    (brackets_out name ty n h lengths ((u ++ v) ++ x) y (name_out n ty name (u ++ v) x (type_name bs ss) nm) br)

-- a parameter has no initialiser
pub parameter_decl : (h : ℕ) (d : Decl) (w : List Token) → Parameter h d w → decl_of (declared_of h d) ≡ d
parameter_decl h d w (grammar.parameter bs ss nm br) = refl

-- ---- a parameter is read

pub parameter_good : (d : ℕ) → Good (parameter d) ParameterWord (LowOne d) begins_type (λ _. parameter_on)
parameter_good d = good_as ParameterWord (LowOne d) begins_type (parts_good d) parameter_into
    (λ a w m. parameter_back a.height (decl_of a) w m) (λ v w m h. h) (λ v w m h. h) (λ x h. h)

-- some parameter begins with each token that begins a type
pub parameter_begins_at : (t : Token) → begins_type t ≡ true → Begins ParameterWord (t ∷ [])
parameter_begins_at t e =
    let b = type_begins_at t e in
    let a : Declared = unnamed ((span_of ((t ∷ []) ++ b.more)).start, b.value) in
    record {
      value = a;
      more = b.more;
      whole = parameter_into a ((t ∷ []) ++ b.more)
          (alone (alone (record {
            source = ((span_of ((t ∷ []) ++ b.more)).start, b.value);
            is = refl;
            word = record { word = b.whole; start = refl };
          })));
    }
