-- How the parts of a translation unit are spelled (ISO C11 6.9), by how many levels they have.
use Rattle.std.specs.Prelude.{◌≡◌, ℕ, suc, max, List, [], ◌∷◌, ◌++◌, Some, None}
use Rattle.c_ast.specs.Seen.{Seen as Token}
use Rattle.c_ast.specs.declared.token.Lexeme.TheVariants as lexeme
use Rattle.c_ast.specs.declared.expr.CType.{CType}
use Rattle.c_ast.specs.declared.expr.CType.TheVariants as type
use Rattle.c_ast.specs.declared.declaration.Decl.{Decl}
use Rattle.c_ast.specs.declared.declaration.Storage.{Storage}
use Rattle.c_ast.specs.declared.declaration.Storage.TheVariants as storage
use Rattle.c_ast.specs.declared.declaration.StructDecl.{StructDecl}
use Rattle.c_ast.specs.declared.statement.Stmt.{Stmt}
use Rattle.c_ast.specs.declared.program.Function.{Function}
use Rattle.c_ast.specs.declared.program.External.{External}
use Rattle.c_ast.specs.declared.program.External.TheVariants as external
use Rattle.c_ast.specs.declared.keyword.Keyword.TheVariants as key
use Rattle.c_ast.specs.declared.punctuator.Punctuator.TheVariants as mark
use Rattle.c_grammar.specs.Words.{IsKeyword, IsPunct, IsName, span_of}
use Rattle.c_grammar.specs.Types.{Base, Stars}
use Rattle.c_grammar.specs.Objects.{Objects}
use Rattle.c_grammar.specs.Structs.{Tag, Structure}
use Rattle.c_grammar.specs.Parameters.{Parameters, AllNamed}
use Rattle.c_grammar.specs.Statements.{Outside, Block}

-- storage = [ "static" | "extern" ] (6.7.1)
pub data StorageClass : Storage → List Token → Type 0 where
  no_storage : StorageClass storage.None []
  static_word : (t : Token) → IsKeyword key.Static t → StorageClass storage.Static (t ∷ [])
  extern_word : (t : Token) → IsKeyword key.Extern t → StorageClass storage.Extern (t ∷ [])

-- head = base | "struct" NAME body: a struct with a body stands as an item of its own before what it heads (6.7.2)
pub data Head : ℕ → List External → CType → List Token → Type 0 where
  plain : {base : CType} {w : List Token} → Base base w → Head 0 [] base w
  with_body : {h : ℕ} {d : StructDecl} {w : List Token} → Structure h d w → Head (suc h) (external.Struct d ∷ []) (type.Struct d.name) w

-- storage head stars NAME params: the items before the function, and the function as far as its head says it (6.7.6.3)
pub data FunctionHead : ℕ → List External → Function → List Token → Type 0 where
  function_head : {n i j : ℕ} {c : Storage} {before : List External} {base ty : CType} {name : List ℕ} {ds : List Decl}
      {u v w x : List Token} (t : Token) →
      StorageClass c u → Head n before base v → Stars base i ty w → IsName name t → Parameters j ds x →
      FunctionHead (max n (suc (max i j))) before
      (record { storage = c; name = name; result = ty; params = ds; body = None; span = span_of (u ++ (v ++ (w ++ t ∷ x))) })
      (u ++ (v ++ (w ++ t ∷ x)))

-- external = INCLUDE | "struct" NAME [ body ] ";" | storage head inits ";"
--          | storage head stars NAME params ( ";" | block )
-- (6.7, 6.9, 6.9.1, 6.10.2): a struct declaration, a declaration of objects, a function's head and a function's body are each the first
-- level
pub data ExternalDeclaration : ℕ → List External → List Token → Type 0 where
  include : (t : Token) → t.kind ≡ lexeme.Include → ExternalDeclaration 0 (external.Include ∷ []) (t ∷ [])
  tag : {d : StructDecl} {w : List Token} (z : Token) → Tag d w → IsPunct mark.Semicolon z →
      ExternalDeclaration 1 (external.Struct d ∷ []) (w ++ z ∷ [])
  structure : {h : ℕ} {d : StructDecl} {w : List Token} (z : Token) → Structure h d w → IsPunct mark.Semicolon z →
      ExternalDeclaration (suc h) (external.Struct d ∷ []) (w ++ z ∷ [])
  objects : {n h : ℕ} {c : Storage} {before : List External} {base : CType} {ds : List Decl} {u v w : List Token} (z : Token) →
      StorageClass c u → Head n before base v → Objects base h ds w → IsPunct mark.Semicolon z →
      ExternalDeclaration (max n (suc h)) (before ++ external.Objects c ds ∷ []) (u ++ (v ++ (w ++ z ∷ [])))
  declaration : {n : ℕ} {before : List External} {f : Function} {w : List Token} (z : Token) → FunctionHead n before f w →
      IsPunct mark.Semicolon z →
      ExternalDeclaration n (before ++ external.Function (record f { span = span_of (w ++ z ∷ []) }) ∷ []) (w ++ z ∷ [])
  definition : {n k : ℕ} {before : List External} {f : Function} {s : Stmt} {w v : List Token} →
      FunctionHead n before f w → AllNamed f.params → Block Outside k s v →
      ExternalDeclaration (max n (suc k)) (before ++ external.Function (record f { body = Some s; span = span_of (w ++ v) }) ∷ []) (w ++ v)

-- unit = { external } (6.9)
pub data TranslationUnit : ℕ → List External → List Token → Type 0 where
  no_external : TranslationUnit 0 [] []
  more_external : {n k : ℕ} {is js : List External} {u v : List Token} → TranslationUnit n is u → ExternalDeclaration k js v →
      TranslationUnit (max n k) (is ++ js) (u ++ v)
