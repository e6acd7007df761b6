-- The lexemes that spell a program (ISO C11 6.9). A struct with a body is a declaration of its own, also where it heads the item behind it.
use Rattle.std.specs.Prelude.{List, [], ◌∷◌, ◌++◌, flat_map, Option, Some, None}
use Rattle.c_ast.specs.declared.token.Lexeme.{Lexeme}
use Rattle.c_ast.specs.declared.token.Lexeme.TheVariants as lexeme
use Rattle.c_ast.specs.declared.statement.Stmt.{Stmt}
use Rattle.c_ast.specs.declared.program.Program.{Program}
use Rattle.c_ast.specs.declared.program.Function.{Function}
use Rattle.c_ast.specs.declared.program.External.{External}
use Rattle.c_ast.specs.declared.program.External.TheVariants as external
use Rattle.c_ast.specs.declared.punctuator.Punctuator.TheVariants as mark
use Rattle.c_print.specs.Words.{punct}
use Rattle.c_print.specs.Expressions.{parts_of}
use Rattle.c_print.specs.Declarations.{objects_of, parameters_of, struct_of, storage_of}
use Rattle.c_print.specs.Statements.{stmt_of}

-- a function without its body
abbrev pub head_of : Function → List Lexeme
head_of f = storage_of f.storage ++ ((parts_of f.result).base ++ ((parts_of f.result).stars ++ lexeme.Name f.name ∷ parameters_of f.params))

abbrev pub function_body : Option Stmt → List Lexeme
function_body None = punct mark.Semicolon ∷ []
function_body (Some s) = stmt_of s

abbrev pub external_of : External → List Lexeme
external_of external.Include = lexeme.Include ∷ []
external_of (external.Struct d) = struct_of d ++ punct mark.Semicolon ∷ []
external_of (external.Objects c ds) = storage_of c ++ objects_of ds
external_of (external.Function f) = head_of f ++ function_body f.body

-- the lexemes of a program
abbrev pub lexemes_of_program : Program → List Lexeme
lexemes_of_program p = flat_map external_of p.items
