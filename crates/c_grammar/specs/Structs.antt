-- How structs are declared (ISO C11 6.7.2.1).
use Rattle.std.specs.Prelude.{ℕ, suc, max, List, [], ◌∷◌, ◌++◌, Some, None}
use Rattle.c_ast.specs.Seen.{Seen as Token}
use Rattle.c_ast.specs.declared.expr.CType.{CType}
use Rattle.c_ast.specs.declared.declaration.Decl.{Decl}
use Rattle.c_ast.specs.declared.declaration.StructDecl.{StructDecl}
use Rattle.c_ast.specs.declared.keyword.Keyword.TheVariants as key
use Rattle.c_ast.specs.declared.punctuator.Punctuator.TheVariants as mark
use Rattle.c_grammar.specs.Words.{IsKeyword, IsPunct, IsName, span_of}
use Rattle.c_grammar.specs.Types.{Base}
use Rattle.c_grammar.specs.Declarators.{Declarator}

-- declr { "," declr }: each declares a member, whose span is that of its declarator (6.7.2.1)
pub data Declarators (base : CType) : ℕ → List Decl → List Token → Type 0 where
  first : {h : ℕ} {name : List ℕ} {ty : CType} {w : List Token} → Declarator base h name ty w →
      Declarators base h (record { name = name; ty = ty; init = None; span = span_of w } ∷ []) w
  further : {h k : ℕ} {ds : List Decl} {name : List ℕ} {ty : CType} {u v : List Token} (c : Token) →
      Declarators base h ds u → IsPunct mark.Comma c → Declarator base k name ty v →
      Declarators base (max h k) (ds ++ record { name = name; ty = ty; init = None; span = span_of v } ∷ []) (u ++ c ∷ v)

-- member = base declr { "," declr } ";" (6.7.2.1)
pub data Member : ℕ → List Decl → List Token → Type 0 where
  member : {h : ℕ} {base : CType} {ds : List Decl} {u v : List Token} (s : Token) → Base base u → Declarators base h ds v →
      IsPunct mark.Semicolon s →
      Member h ds (u ++ (v ++ s ∷ []))

-- member { member } (6.7.2.1)
pub data Members : ℕ → List Decl → List Token → Type 0 where
  members : {h : ℕ} {ds : List Decl} {w : List Token} → Member h ds w → Members h ds w
  more_members : {h k : ℕ} {ds es : List Decl} {u v : List Token} → Members h ds u → Member k es v → Members (max h k) (ds ++ es) (u ++ v)

-- "struct" NAME: a tag without a body (6.7.2.3)
pub data Tag : StructDecl → List Token → Type 0 where
  tag : {name : List ℕ} (s t : Token) → IsKeyword key.Struct s → IsName name t →
      Tag (record { name = name; members = None; span = span_of (s ∷ t ∷ []) }) (s ∷ t ∷ [])

-- "struct" NAME body, body = "{" member { member } "}" (6.7.2.1)
pub data Structure : ℕ → StructDecl → List Token → Type 0 where
  structure : {h : ℕ} {name : List ℕ} {ds : List Decl} {v : List Token} (s t l r : Token) →
      IsKeyword key.Struct s → IsName name t → IsPunct mark.LeftBrace l → Members h ds v → IsPunct mark.RightBrace r →
      Structure (suc h) (record { name = name; members = Some ds; span = span_of (s ∷ t ∷ l ∷ v ++ r ∷ []) }) (s ∷ t ∷ l ∷ v ++ r ∷ [])
