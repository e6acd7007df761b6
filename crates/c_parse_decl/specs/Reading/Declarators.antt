-- Declarators, and how they are read (ISO C11 6.7.6).
use Rattle.std.specs.Prelude.{◌≡◌, ◌≢◌, ℕ, suc, ◌≤◌, ◌-◌, ◌+◌, max, Bool, true, nat_lt, List, [], ◌∷◌, ◌++◌, Option, Some, None}
use Rattle.c_ast.specs.declared.token.Span.{Span}
use Rattle.c_ast.specs.Seen.{Seen as Token}
use Rattle.c_ast.specs.declared.expr.Expr.{Expr}
use Rattle.c_ast.specs.declared.expr.CType.{CType}
use Rattle.c_ast.specs.declared.punctuator.Punctuator.TheVariants as mark
use Rattle.c_grammar.specs.Words.{IsName, span_of, punctuator, a_name}
use Rattle.c_grammar.specs.Types.{Stars}
use Rattle.c_grammar.specs.Declarators.{arrays, Brackets, Declarator}
use Rattle.c_parse_base.specs.declared.words.Named.{Named}
use Rattle.c_parse_base.specs.Reading.Answer.{Parser, thens, makes, either, chain, optional}
use Rattle.c_parse_base.specs.Reading.Words.{is, punct, name, among}
use Rattle.c_parse_base.specs.Reading.Spans.{starting, join_spans}
use Rattle.c_parse_base.specs.declared.type_read.TypeRead.{TypeRead}
use Rattle.c_parse_base.specs.Reading.TypeNames.{stars}
use Rattle.c_parse_expr.specs.declared.measured.Measured.{Measured}
use Rattle.c_parse_expr.specs.Reading.Levels.{begins}
use Rattle.c_parse_expr.specs.Reading.Expressions.{at}
use Rattle.c_parse_decl.specs.declared.declarators.declared.Declared.{Declared}
use Rattle.c_parse_decl.specs.declared.declarators.lengths.Lengths.{Lengths}

abbrev pub Reader : Type 0
Reader = Parser Token Declared

-- the type has at most so many levels
abbrev pub Low : ℕ → Declared → Type 0
Low d v = v.height ≤ d

-- stars NAME
pub data StarredWord (base : CType) : Declared → List Token → Type 0 where
  starred_name : {n : ℕ} {ty : CType} {name : List ℕ} {u : List Token} (t : Token) → Stars base n ty u → IsName name t →
      StarredWord base (record { name = name; ty = ty; height = n; span = span_of (u ++ t ∷ []) }) (u ++ t ∷ [])

-- one or more pairs of brackets behind what was declared so far
pub data BracketedWord (a : Declared) : Declared → List Token → Type 0 where
  brackets_behind : {h : ℕ} {lengths : List (Option Expr)} {w : List Token} → Brackets a.height h lengths w → lengths ≢ [] →
      BracketedWord a (record { name = a.name; ty = arrays a.ty lengths; height = h; span = join_spans a.span (span_of w) }) w

-- a whole declarator
pub record DeclaratorWord (base : CType) (v : Declared) (w : List Token) : Type 0 where
  pub declarator : Declarator base v.height v.name v.ty w
  pub span : v.span ≡ span_of w

-- the tokens with which a declarator begins: a name or a star
abbrev pub begins_declarator : Token → Bool
begins_declarator = among (a_name ∷ punctuator mark.Star ∷ [])

-- a further pair of brackets goes on behind a declarator
abbrev pub goes_on_declarator : Declared → Token → Bool
goes_on_declarator v t = is (punctuator mark.LeftBracket) t

-- ---- stars and a name

-- a base as a type without stars
abbrev pub plain : CType → TypeRead
plain base = record { ty = base; height = 0; end = 0 }

-- stars if there are any, and a name
unfoldable pub typed_name : ℕ → CType → Parser Token (TypeRead × Named)
typed_name d base = either (is (punctuator mark.Star)) (nat_lt 0 d) (thens (stars d (plain base)) (λ _. name))
    (makes (λ n. (plain base, n)) name)

-- what is declared by tokens that begin at this byte
abbrev pub named_of : ℕ × (TypeRead × Named) → Declared
named_of c = record { name = c.1.1.name; ty = c.1.0.ty; height = c.1.0.height; span = record { start = c.0; end = c.1.1.place.end } }

unfoldable pub starred : ℕ → CType → Reader
starred d base = makes named_of (starting (typed_name d base))

-- ---- pairs of brackets

-- before the first pair
abbrev pub no_lengths : Declared → Lengths
no_lengths a = record { trees = []; level = a.height; height = a.height; end = a.span.end }

abbrev pub tree_of : Option Measured → Option Expr
tree_of None = None
tree_of (Some m) = Some m.tree

-- how many levels a length has below its brackets
abbrev pub levels_of : Option Measured → ℕ
levels_of None = 0
levels_of (Some m) = suc m.height

-- with one more pair, whose length and last token these are
abbrev pub more_lengths : Lengths → Option Measured × Span → Lengths
more_lengths b c = record {
  trees = b.trees ++ tree_of c.0 ∷ [];
  level = suc b.level;
  height = max b.height (suc b.level + levels_of c.0);
  end = c.1.end;
}

-- what was declared so far, with all lengths
abbrev pub arrays_of : Declared → Lengths → Declared
arrays_of a b = record { name = a.name; ty = arrays a.ty b.trees; height = b.height; span = record { start = a.span.start; end = b.end } }

-- "]", behind a "["
unfoldable pub unsized : Parser Token (Option Measured × Span)
unsized = makes (λ r. (None, r)) (punct mark.RightBracket)

module _ (d : ℕ) where
  -- cond "]", behind a "[" of this level
  unfoldable pub sized : ℕ → Parser Token (Option Measured × Span)
  sized level = makes (λ c. (Some c.0, c.1)) (thens (at (d - suc level)).conditional (λ _. punct mark.RightBracket))

  -- [ cond ] "]"
  unfoldable pub size : ℕ → Parser Token (Option Measured × Span)
  size level = either begins (nat_lt level d) (sized level) unsized

  -- "[" [ cond ] "]", behind other pairs
  unfoldable pub pair : Lengths → Parser Token Lengths
  pair b = makes (λ c. more_lengths b c.1) (thens (punct mark.LeftBracket) (λ _. size (suc b.level)))

  -- a further pair is one level below the one before
  abbrev pub has_room : Lengths → Bool
  has_room b = nat_lt b.level d

  -- one or more pairs
  unfoldable pub pairs : Lengths → Parser Token Lengths
  pairs b = chain (is (punctuator mark.LeftBracket)) has_room (pair b) pair

unfoldable pub bracketed : ℕ → Declared → Reader
bracketed d a = makes (arrays_of a) (pairs d (no_lengths a))

-- ---- both

unfoldable pub declarator : ℕ → CType → Reader
declarator d base = optional (is (punctuator mark.LeftBracket)) (λ _. true) (λ a. nat_lt a.height d) (starred d base) (bracketed d)
