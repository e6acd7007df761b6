-- How declarators are spelled: a name among what its type adds to the base (ISO C11 6.7.6).
use Rattle.std.specs.Prelude.{ℕ, suc, ◌+◌, max, List, [], ◌∷◌, ◌++◌, length, Option, Some, None}
use Rattle.c_ast.specs.Seen.{Seen as Token}
use Rattle.c_ast.specs.declared.expr.CType.{CType}
use Rattle.c_ast.specs.declared.expr.CType.TheVariants as type
use Rattle.c_ast.specs.declared.expr.Expr.{Expr}
use Rattle.c_ast.specs.declared.punctuator.Punctuator.TheVariants as mark
use Rattle.c_grammar.specs.Words.{IsPunct, IsName}
use Rattle.c_grammar.specs.Types.{Stars}
use Rattle.c_grammar.specs.Expressions.{Conditional}

-- the array of arrays with these lengths, of which the first belongs to the whole (6.7.6.2 paragraph 3)
unfoldable pub arrays : CType → List (Option Expr) → CType
arrays element [] = element
arrays element (length ∷ lengths) = type.Array (arrays element lengths) length

-- [ cond ], and how many levels it has below its `[ ]` (6.7.6.2)
pub data Length : ℕ → Option Expr → List Token → Type 0 where
  no_length : Length 0 None []
  length_of : {h : ℕ} {e : Expr} {w : List Token} → Conditional h e w → Length (suc h) (Some e) w

-- { "[" [ cond ] "]" }: the lengths in their order (6.7.6.2). Each `[ ]` is a level below the one before, and the first below the `*` of
-- the type,
-- of which there are so many above. The number says how many levels the type has in all below the declaration that has it.
pub data Brackets (above : ℕ) : ℕ → List (Option Expr) → List Token → Type 0 where
  no_bracket : Brackets above above [] []
  bracket : {h k : ℕ} {lengths : List (Option Expr)} {size : Option Expr} {u v : List Token} (l r : Token) →
      Brackets above h lengths u → IsPunct mark.LeftBracket l → Length k size v → IsPunct mark.RightBracket r →
      Brackets above (max h (suc (above + length lengths) + k)) (lengths ++ size ∷ []) (u ++ (l ∷ v ++ r ∷ []))

-- declr = stars NAME { "[" [ cond ] "]" }: the name, its type over the base, and how many levels that has below the declaration (6.7.6)
pub data Declarator (base : CType) : ℕ → List ℕ → CType → List Token → Type 0 where
  declarator : {n h : ℕ} {ty : CType} {name : List ℕ} {lengths : List (Option Expr)} {u v : List Token} (t : Token) →
      Stars base n ty u → IsName name t → Brackets n h lengths v →
      Declarator base h name (arrays ty lengths) (u ++ t ∷ v)
