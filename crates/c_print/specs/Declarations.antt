-- The lexemes that spell declarations (ISO C11 6.7). No comma stands behind the last initialiser of a list. A function without
-- parameters has the word `void`.
use Rattle.std.specs.Prelude.{ℕ, List, [], ◌∷◌, ◌++◌, map, flat_map, Option, Some, None}
use Rattle.c_ast.specs.declared.token.Lexeme.{Lexeme}
use Rattle.c_ast.specs.declared.token.Lexeme.TheVariants as lexeme
use Rattle.c_ast.specs.declared.declaration.Init.{Init}
use Rattle.c_ast.specs.declared.declaration.Init.TheOpen.{Init-F}
use Rattle.c_ast.specs.declared.declaration.Init.TheFolds.{fold-Init}
use Rattle.c_ast.specs.declared.declaration.Decl.{Decl}
use Rattle.c_ast.specs.declared.declaration.StructDecl.{StructDecl}
use Rattle.c_ast.specs.declared.declaration.Storage.{Storage}
use Rattle.c_ast.specs.declared.declaration.Storage.TheVariants as storage
use Rattle.c_ast.specs.declared.keyword.Keyword.TheVariants as key
use Rattle.c_ast.specs.declared.punctuator.Punctuator.TheVariants as mark
use Rattle.c_print.specs.Words.{word, punct, with_commas}
use Rattle.c_print.specs.Expressions.{TypeParts, lexemes_of, parts_of}

-- an initialiser, whose inner ones are given by their own lexemes
abbrev pub init_step : Init-F (List Lexeme) → List Lexeme
init_step (Init-F.One e) = lexemes_of e
init_step (Init-F.List is span) = punct mark.LeftBrace ∷ with_commas is ++ punct mark.RightBrace ∷ []

abbrev pub init_of : Init → List Lexeme
init_of = fold-Init (List Lexeme) init_step

-- `= initialiser`, where there is one
abbrev pub equal_init : Option Init → List Lexeme
equal_init None = []
equal_init (Some i) = punct mark.Equal ∷ init_of i

-- a name among the stars and the brackets of its type
abbrev pub among : TypeParts → List Lexeme → List Lexeme
among t name = t.stars ++ (name ++ t.brackets)

abbrev pub declarator_of : Decl → List Lexeme
declarator_of d = among (parts_of d.ty) (lexeme.Name d.name ∷ [])

-- an object's declarator and its initialiser
abbrev pub object_of : Decl → List Lexeme
object_of d = declarator_of d ++ equal_init d.init

-- what the types of a declaration's objects stand on, which is the same for all
abbrev pub base_of : List Decl → List Lexeme
base_of [] = []
base_of (d ∷ ds) = (parts_of d.ty).base

-- a declaration of objects
abbrev pub objects_of : List Decl → List Lexeme
objects_of ds = base_of ds ++ (with_commas (map object_of ds) ++ punct mark.Semicolon ∷ [])

-- a member of a struct as a declaration of its own
abbrev pub member_of : Decl → List Lexeme
member_of d = (parts_of d.ty).base ++ (declarator_of d ++ punct mark.Semicolon ∷ [])

-- a parameter may have no name
abbrev pub parameter_name : List ℕ → List Lexeme
parameter_name [] = []
parameter_name (b ∷ bs) = lexeme.Name (b ∷ bs) ∷ []

abbrev pub parameter_of : Decl → List Lexeme
parameter_of d = (parts_of d.ty).base ++ among (parts_of d.ty) (parameter_name d.name)

abbrev pub parameter_words : List Decl → List Lexeme
parameter_words [] = word key.Void ∷ []
parameter_words (d ∷ ds) = with_commas (map parameter_of (d ∷ ds))

-- the parameters of a function in their parentheses
abbrev pub parameters_of : List Decl → List Lexeme
parameters_of ds = punct mark.LeftParen ∷ parameter_words ds ++ punct mark.RightParen ∷ []

abbrev pub body_of : Option (List Decl) → List Lexeme
body_of None = []
body_of (Some ds) = punct mark.LeftBrace ∷ flat_map member_of ds ++ punct mark.RightBrace ∷ []

-- a struct with its tag, and its body where it has one
abbrev pub struct_of : StructDecl → List Lexeme
struct_of d = word key.Struct ∷ lexeme.Name d.name ∷ body_of d.members

abbrev pub storage_of : Storage → List Lexeme
storage_of storage.None = []
storage_of storage.Static = word key.Static ∷ []
storage_of storage.Extern = word key.Extern ∷ []
