-- Worked statements and a function's declaration.
use Rattle.std.specs.Prelude.{List, [], ◌∷◌, ◌++◌, Some, None, codes, refl}
use Rattle.c_ast.specs.Tree.{expr}
use Rattle.c_ast.specs.Seen.{Seen as Token}
use Rattle.c_ast.specs.declared.int_type.IntType.TheVariants as integer
use Rattle.c_ast.specs.declared.expr.CType.TheVariants as type
use Rattle.c_ast.specs.declared.expr.Expr.{Expr}
use Rattle.c_ast.specs.declared.expr.Node.TheVariants as node
use Rattle.c_ast.specs.declared.declaration.Decl.{Decl}
use Rattle.c_ast.specs.declared.declaration.Init.TheVariants as init
use Rattle.c_ast.specs.declared.declaration.Storage.TheVariants as storage
use Rattle.c_ast.specs.declared.statement.Stmt.TheVariants as stmt
use Rattle.c_ast.specs.declared.program.Program.{Program}
use Rattle.c_ast.specs.declared.program.Function.{Function}
use Rattle.c_ast.specs.declared.program.External.TheVariants as external
use Rattle.c_ast.specs.declared.keyword.Keyword.TheVariants as key
use Rattle.c_ast.specs.declared.punctuator.Punctuator.TheVariants as mark
use Rattle.c_grammar.specs.Types.{word, char, int, long, words, Stars, star}
use Rattle.c_grammar.specs.Types as types
use Rattle.c_grammar.specs.Expressions.{number, variable}
use Rattle.c_grammar.specs.Declarators.{arrays, no_bracket, bracket, no_length, declarator}
use Rattle.c_grammar.specs.Objects.{Local, local, value, object, initialised}
use Rattle.c_grammar.specs.Statements.{Statement, Outside, Open, Closed, expression, empty, if_then, if_else, for_loop, break_word}
use Rattle.c_grammar.specs.Statements.{left_out, first_local}
use Rattle.c_grammar.specs.Parameters.{OneVoid, unnamed, named, parameter, one_parameter, more_parameter, Parameters, parameters}
use Rattle.c_grammar.specs.Externals.{FunctionHead, function_head, static_word, plain, declaration, no_external, more_external}
use Rattle.c_grammar.specs.Externals.{TranslationUnit}
use Rattle.c_grammar.proofs.Examples.{key_at, mark_at, name_at, digit_at, span}
use Rattle.c_grammar.proofs.MainExample.{expression_of}

-- for(int i=0;;)break; has 3 levels below it: the local declaration, its initial, and the initial's expression
abbrev counter : Decl
counter = record {
  name = codes "i";
  ty = type.Int integer.Int;
  init = Some (init.One (expr (span 10 11) (node.Constant 0 integer.Int)));
  span = span 8 11;
}

abbrev local_tokens : List Token
local_tokens = key_at key.Int 4 ∷ name_at (codes "i") 8 ∷ mark_at mark.Equal 9 ∷ digit_at 0 10 ∷ mark_at mark.Semicolon 11 ∷ []

local_spelled : Local 2 (counter ∷ []) local_tokens
unfolding arrays
local_spelled =
    local (mark_at mark.Semicolon 11) (words int (word (key_at key.Int 4) refl types.Keywords.none))
    (object (initialised (mark_at mark.Equal 9) (declarator (name_at (codes "i") 8) types.Stars.none refl no_bracket) refl
    (value (expression_of (number (digit_at 0 10) refl))))) refl

for_with_a_local : Statement Outside Closed 3 (stmt.For (counter ∷ []) None None None (stmt.Break (span 14 20)))
    (key_at key.For 0 ∷ mark_at mark.LeftParen 3 ∷ local_tokens ++
    (mark_at mark.Semicolon 12 ∷ mark_at mark.RightParen 13 ∷ key_at key.Break 14 ∷ mark_at mark.Semicolon 19 ∷ []))
for_with_a_local =
    for_loop (key_at key.For 0) (mark_at mark.LeftParen 3) (mark_at mark.Semicolon 12) (mark_at mark.RightParen 13) refl refl
    (first_local local_spelled) left_out refl left_out refl (break_word (key_at key.Break 14) (mark_at mark.Semicolon 19) refl refl)

-- if(a)if(b);else c; is an `if` without `else`, round one that has it
abbrev a_expr : Expr
a_expr = expr (span 3 4) (node.Variable (codes "a"))

abbrev b_expr : Expr
b_expr = expr (span 8 9) (node.Variable (codes "b"))

abbrev c_expr : Expr
c_expr = expr (span 16 17) (node.Variable (codes "c"))

abbrev inner_tokens : List Token
inner_tokens =
    key_at key.If 5 ∷ mark_at mark.LeftParen 7 ∷ name_at (codes "b") 8 ∷ mark_at mark.RightParen 9 ∷ mark_at mark.Semicolon 10 ∷
    key_at key.Else 11 ∷ name_at (codes "c") 16 ∷ mark_at mark.Semicolon 17 ∷ []

inner_spelled : Statement Outside Closed 2 (stmt.If b_expr stmt.Empty (Some (stmt.Expr c_expr))) inner_tokens
inner_spelled =
    if_else (key_at key.If 5) (mark_at mark.LeftParen 7) (mark_at mark.RightParen 9) (key_at key.Else 11) refl refl
    (expression_of (variable (name_at (codes "b") 8) refl)) refl (empty (mark_at mark.Semicolon 10) refl) refl
    (expression (mark_at mark.Semicolon 17) (expression_of (variable (name_at (codes "c") 16) refl)) refl)

nearest_if : Statement Outside Open 3 (stmt.If a_expr (stmt.If b_expr stmt.Empty (Some (stmt.Expr c_expr))) None)
    (key_at key.If 0 ∷ mark_at mark.LeftParen 2 ∷ name_at (codes "a") 3 ∷ mark_at mark.RightParen 4 ∷ inner_tokens)
nearest_if =
    if_then (key_at key.If 0) (mark_at mark.LeftParen 2) (mark_at mark.RightParen 4) refl refl
    (expression_of (variable (name_at (codes "a") 3) refl)) refl inner_spelled

-- static long*f(char*s[],int); has depth 4: the head is level 1, its parameters 2, and in the type of the first `*` is 3 and `[ ]` is 4
abbrev the_parameters : List Decl
the_parameters =
    record { name = codes "s"; ty = type.Array (type.Pointer (type.Int integer.Char)) None; init = None; span = span 14 22 } ∷
    record { name = []; ty = type.Int integer.Int; init = None; span = span 23 26 } ∷ []

abbrev parameter_tokens : List Token
parameter_tokens =
    mark_at mark.LeftParen 13 ∷ key_at key.Char 14 ∷ mark_at mark.Star 18 ∷ name_at (codes "s") 19 ∷ mark_at mark.LeftBracket 20 ∷
    mark_at mark.RightBracket 21 ∷ mark_at mark.Comma 22 ∷ key_at key.Int 23 ∷ mark_at mark.RightParen 26 ∷ []

two_parameters : (d e : Decl) → ¬ OneVoid (d ∷ e ∷ [])
two_parameters d e h = elim h [ ]

parameters_spelled : Parameters 3 the_parameters parameter_tokens
unfolding arrays
parameters_spelled =
    parameters (mark_at mark.LeftParen 13) (mark_at mark.RightParen 26) refl
    (more_parameter (mark_at mark.Comma 22)
    (one_parameter
    (parameter (words char (word (key_at key.Char 14) refl types.Keywords.none)) (star (mark_at mark.Star 18) types.Stars.none refl)
    (named (name_at (codes "s") 19) refl) (bracket (mark_at mark.LeftBracket 20)
    (mark_at mark.RightBracket 21) no_bracket refl no_length refl)))
    refl
    (parameter (words int (word (key_at key.Int 23) refl types.Keywords.none)) types.Stars.none unnamed no_bracket))
    (λ h. two_parameters _ _ h) refl

abbrev the_function : Function
the_function = record {
  storage = storage.Static;
  name = codes "f";
  result = type.Pointer (type.Int integer.Long);
  params = the_parameters;
  body = None;
  span = span 0 27;
}

abbrev head_tokens : List Token
head_tokens = key_at key.Static 0 ∷ key_at key.Long 7 ∷ mark_at mark.Star 11 ∷ name_at (codes "f") 12 ∷ parameter_tokens

head_spelled : FunctionHead 4 [] the_function head_tokens
head_spelled =
    function_head (name_at (codes "f") 12) (static_word (key_at key.Static 0) refl)
    (plain (words long (word (key_at key.Long 7) refl types.Keywords.none)))
    (star (mark_at mark.Star 11) types.Stars.none refl) refl parameters_spelled

abbrev program : Program
program = record { items = external.Function (record the_function { span = span 0 28 }) ∷ [] }

declared : TranslationUnit 4 program.items (head_tokens ++ mark_at mark.Semicolon 27 ∷ [])
declared = more_external no_external (declaration (mark_at mark.Semicolon 27) head_spelled refl)
