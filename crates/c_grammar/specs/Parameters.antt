-- How parameters are spelled (ISO C11 6.7.6.3).
use Rattle.std.specs.Prelude.{◌≡◌, ◌≢◌, ℕ, suc, max, List, [], ◌∷◌, ◌++◌, Option, None, All}
use Rattle.c_ast.specs.Seen.{Seen as Token}
use Rattle.c_ast.specs.declared.expr.CType.{CType}
use Rattle.c_ast.specs.declared.expr.CType.TheVariants as type
use Rattle.c_ast.specs.declared.expr.Expr.{Expr}
use Rattle.c_ast.specs.declared.declaration.Decl.{Decl}
use Rattle.c_ast.specs.declared.punctuator.Punctuator.TheVariants as mark
use Rattle.c_grammar.specs.Words.{IsPunct, IsName, span_of}
use Rattle.c_grammar.specs.Types.{Base, Stars}
use Rattle.c_grammar.specs.Declarators.{arrays, Brackets}

-- [ NAME ]: the empty name where it is left out (6.7.6)
pub data ParameterName : List ℕ → List Token → Type 0 where
  unnamed : ParameterName [] []
  named : {name : List ℕ} (t : Token) → IsName name t → ParameterName name (t ∷ [])

-- param = base stars [ NAME ] { "[" [ cond ] "]" } (6.7.6.3)
pub data Parameter : ℕ → Decl → List Token → Type 0 where
  parameter : {n h : ℕ} {base ty : CType} {name : List ℕ} {lengths : List (Option Expr)} {u v w x : List Token} →
      Base base u → Stars base n ty v → ParameterName name w → Brackets n h lengths x →
      Parameter h (record { name = name; ty = arrays ty lengths; init = None; span = span_of (u ++ (v ++ (w ++ x))) })
      (u ++ (v ++ (w ++ x)))

-- param { "," param } (6.7.6.3)
pub data ParameterList : ℕ → List Decl → List Token → Type 0 where
  one_parameter : {h : ℕ} {d : Decl} {w : List Token} → Parameter h d w → ParameterList h (d ∷ []) w
  more_parameter : {h k : ℕ} {ds : List Decl} {d : Decl} {u v : List Token} (c : Token) → ParameterList h ds u → IsPunct mark.Comma c →
      Parameter k d v →
      ParameterList (max h k) (ds ++ d ∷ []) (u ++ c ∷ v)

-- one parameter alone, of type void and without a name: the word `void`, as a name has a byte at least (6.7.6.3 paragraph 10)
pub data OneVoid : List Decl → Type 0 where
  one_void : (d : Decl) → d.name ≡ [] → d.ty ≡ type.Void → OneVoid (d ∷ [])

-- params = "(" [ "void" ] ")" | "(" param { "," param } ")": how many levels the parameters have, none where there are none. A list
-- of one `void` says that there are none (6.7.6.3 paragraph 10).
pub data Parameters : ℕ → List Decl → List Token → Type 0 where
  no_word : (l r : Token) → IsPunct mark.LeftParen l → IsPunct mark.RightParen r → Parameters 0 [] (l ∷ r ∷ [])
  void : {h : ℕ} {ds : List Decl} {v : List Token} (l r : Token) →
      IsPunct mark.LeftParen l → ParameterList h ds v → OneVoid ds → IsPunct mark.RightParen r →
      Parameters 0 [] (l ∷ v ++ r ∷ [])
  parameters : {h : ℕ} {ds : List Decl} {v : List Token} (l r : Token) →
      IsPunct mark.LeftParen l → ParameterList h ds v → ¬ OneVoid ds → IsPunct mark.RightParen r →
      Parameters (suc h) ds (l ∷ v ++ r ∷ [])

-- all parameters have names, as those of a definition do (6.9.1 paragraph 5)
abbrev pub AllNamed : List Decl → Type 0
AllNamed = All (λ d. d.name ≢ [])
