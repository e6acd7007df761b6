-- How objects are declared and initialised (ISO C11 6.7, 6.7.9).
use Rattle.std.specs.Prelude.{ℕ, suc, max, List, [], ◌∷◌, ◌++◌, Some, None}
use Rattle.c_ast.specs.Seen.{Seen as Token}
use Rattle.c_ast.specs.declared.expr.CType.{CType}
use Rattle.c_ast.specs.declared.expr.Expr.{Expr}
use Rattle.c_ast.specs.declared.declaration.Init.{Init}
use Rattle.c_ast.specs.declared.declaration.Init.TheVariants as init
use Rattle.c_ast.specs.declared.declaration.Decl.{Decl}
use Rattle.c_ast.specs.declared.punctuator.Punctuator.TheVariants as mark
use Rattle.c_grammar.specs.Words.{IsPunct, span_of}
use Rattle.c_grammar.specs.Types.{Base}
use Rattle.c_grammar.specs.Expressions.{Expression}
use Rattle.c_grammar.specs.Declarators.{Declarator}

mutual
  -- initial = assign | "{" initial { "," initial } [ "," ] "}" (6.7.9)
  pub data Initial : ℕ → Init → List Token → Type 0 where
    value : {h : ℕ} {e : Expr} {w : List Token} → Expression h e w → Initial (suc h) (init.One e) w
    braces : {h : ℕ} {is : List Init} {v : List Token} (l r : Token) → IsPunct mark.LeftBrace l → Initials h is v →
        IsPunct mark.RightBrace r →
        Initial (suc h) (init.List is (span_of (l ∷ v ++ r ∷ []))) (l ∷ v ++ r ∷ [])
    braces_comma : {h : ℕ} {is : List Init} {v : List Token} (l c r : Token) → IsPunct mark.LeftBrace l → Initials h is v →
        IsPunct mark.Comma c → IsPunct mark.RightBrace r →
        Initial (suc h) (init.List is (span_of (l ∷ v ++ c ∷ r ∷ []))) (l ∷ v ++ c ∷ r ∷ [])

  -- initial { "," initial } (6.7.9)
  pub data Initials : ℕ → List Init → List Token → Type 0 where
    initial : {h : ℕ} {i : Init} {w : List Token} → Initial h i w → Initials h (i ∷ []) w
    more_initial : {h k : ℕ} {is : List Init} {i : Init} {u v : List Token} (c : Token) → Initials h is u → IsPunct mark.Comma c →
        Initial k i v →
        Initials (max h k) (is ++ i ∷ []) (u ++ c ∷ v)

-- init = declr [ "=" initial ]: the span is that of all of it (6.7)
pub data Object (base : CType) : ℕ → Decl → List Token → Type 0 where
  plain : {h : ℕ} {name : List ℕ} {ty : CType} {w : List Token} → Declarator base h name ty w →
      Object base h (record { name = name; ty = ty; init = None; span = span_of w }) w
  initialised : {h k : ℕ} {name : List ℕ} {ty : CType} {i : Init} {u v : List Token} (t : Token) → Declarator base h name ty u →
      IsPunct mark.Equal t → Initial k i v →
      Object base (max h (suc k)) (record { name = name; ty = ty; init = Some i; span = span_of (u ++ t ∷ v) }) (u ++ t ∷ v)

-- inits = init { "," init }: all of one level, that of their declaration (6.7)
pub data Objects (base : CType) : ℕ → List Decl → List Token → Type 0 where
  object : {h : ℕ} {d : Decl} {w : List Token} → Object base h d w → Objects base h (d ∷ []) w
  more_object : {h k : ℕ} {ds : List Decl} {d : Decl} {u v : List Token} (c : Token) → Objects base h ds u → IsPunct mark.Comma c →
      Object base k d v →
      Objects base (max h k) (ds ++ d ∷ []) (u ++ c ∷ v)

-- local = base inits ";" (6.7, 6.8.2)
pub data Local : ℕ → List Decl → List Token → Type 0 where
  local : {h : ℕ} {base : CType} {ds : List Decl} {u v : List Token} (s : Token) → Base base u → Objects base h ds v →
      IsPunct mark.Semicolon s →
      Local h ds (u ++ (v ++ s ∷ []))
