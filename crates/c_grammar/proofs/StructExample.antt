-- The program `struct p{int x,*y[2];}a={1,{2,},};` has depth 5, twice. The struct declaration is level 1, its member 2, `*` 3, `[ ]` 4
-- and the length 5.
-- The object declaration is level 1, its initial 2, each initial in the braces 3, the one in the inner braces 4, and its expression 5.
use Rattle.std.specs.Prelude.{List, [], ◌∷◌, ◌++◌, Some, None, codes, refl}
use Rattle.c_ast.specs.Tree.{expr}
use Rattle.c_ast.specs.Seen.{Seen as Token}
use Rattle.c_ast.specs.declared.int_type.IntType.TheVariants as integer
use Rattle.c_ast.specs.declared.expr.CType.{CType}
use Rattle.c_ast.specs.declared.expr.CType.TheVariants as type
use Rattle.c_ast.specs.declared.expr.Node.TheVariants as node
use Rattle.c_ast.specs.declared.declaration.Decl.{Decl}
use Rattle.c_ast.specs.declared.declaration.Init.{Init}
use Rattle.c_ast.specs.declared.declaration.Init.TheVariants as init
use Rattle.c_ast.specs.declared.declaration.Storage.TheVariants as storage
use Rattle.c_ast.specs.declared.declaration.StructDecl.{StructDecl}
use Rattle.c_ast.specs.declared.program.Program.{Program}
use Rattle.c_ast.specs.declared.program.External.TheVariants as external
use Rattle.c_ast.specs.declared.keyword.Keyword.TheVariants as key
use Rattle.c_ast.specs.declared.punctuator.Punctuator.TheVariants as mark
use Rattle.c_grammar.specs.Types.{word, int, words, Stars, star}
use Rattle.c_grammar.specs.Types as types
use Rattle.c_grammar.specs.Expressions.{Conditional, binary, tighter, operand, unary, postfix, primary, number}
use Rattle.c_grammar.specs.Declarators.{arrays, Brackets, no_bracket, bracket, length_of, Declarator, declarator}
use Rattle.c_grammar.specs.Objects.{Initial, value, braces_comma, initial, more_initial, Object, initialised, object}
use Rattle.c_grammar.specs.Structs.{first, further, Member, member, members, Structure, structure}
use Rattle.c_grammar.specs.Externals.{no_storage, with_body, objects, no_external, more_external, TranslationUnit}
use Rattle.c_grammar.proofs.Examples.{key_at, mark_at, name_at, digit_at, span}
use Rattle.c_grammar.proofs.MainExample.{expression_of}

abbrev int_type : CType
int_type = type.Int integer.Int

abbrev pointers : CType
pointers = type.Array (type.Pointer int_type) (Some (expr (span 18 19) (node.Constant 2 integer.Int)))

abbrev members_tokens : List Token
members_tokens =
    key_at key.Int 9 ∷ name_at (codes "x") 13 ∷ mark_at mark.Comma 14 ∷ mark_at mark.Star 15 ∷ name_at (codes "y") 16 ∷
    mark_at mark.LeftBracket 17 ∷ digit_at 2 18 ∷ mark_at mark.RightBracket 19 ∷ mark_at mark.Semicolon 20 ∷ []

abbrev struct_tokens : List Token
struct_tokens = key_at key.Struct 0 ∷ name_at (codes "p") 7 ∷ mark_at mark.LeftBrace 8 ∷ members_tokens ++ mark_at mark.RightBrace 21 ∷ []

abbrev initial_tokens : List Token
initial_tokens =
    mark_at mark.LeftBrace 24 ∷ digit_at 1 25 ∷ mark_at mark.Comma 26 ∷ mark_at mark.LeftBrace 27 ∷ digit_at 2 28 ∷ mark_at mark.Comma 29 ∷
    mark_at mark.RightBrace 30 ∷ mark_at mark.Comma 31 ∷ mark_at mark.RightBrace 32 ∷ []

abbrev object_tokens : List Token
object_tokens = name_at (codes "a") 22 ∷ mark_at mark.Equal 23 ∷ initial_tokens

abbrev the_members : List Decl
the_members =
    record { name = codes "x"; ty = int_type; init = None; span = span 13 14 } ∷
    record { name = codes "y"; ty = pointers; init = None; span = span 15 20 } ∷ []

abbrev the_struct : StructDecl
the_struct = record { name = codes "p"; members = Some the_members; span = span 0 22 }

abbrev inner : Init
inner = init.List (init.One (expr (span 28 29) (node.Constant 2 integer.Int)) ∷ []) (span 27 31)

abbrev outer : Init
outer = init.List (init.One (expr (span 25 26) (node.Constant 1 integer.Int)) ∷ inner ∷ []) (span 24 33)

abbrev the_object : Decl
the_object = record { name = codes "a"; ty = type.Struct (codes "p"); init = Some outer; span = span 22 33 }

abbrev program : Program
program = record { items = external.Struct the_struct ∷ external.Objects storage.None (the_object ∷ []) ∷ [] }

length_spelled : Conditional 0 (expr (span 18 19) (node.Constant 2 integer.Int)) (digit_at 2 18 ∷ [])
length_spelled = binary (tighter (tighter (tighter (tighter (tighter
    (tighter (tighter (tighter (tighter (tighter (operand (unary (postfix (primary (number (digit_at 2 18) refl)))))))))))))))

brackets_spelled : Brackets 1 3 (Some (expr (span 18 19) (node.Constant 2 integer.Int)) ∷ [])
    (mark_at mark.LeftBracket 17 ∷ digit_at 2 18 ∷ mark_at mark.RightBracket 19 ∷ [])
brackets_spelled = bracket (mark_at mark.LeftBracket 17) (mark_at mark.RightBracket 19) no_bracket refl (length_of length_spelled) refl

y_spelled : Declarator int_type 3 (codes "y") pointers
    (mark_at mark.Star 15 ∷ name_at (codes "y") 16 ∷ mark_at mark.LeftBracket 17 ∷ digit_at 2 18 ∷ mark_at mark.RightBracket 19 ∷ [])
unfolding arrays
y_spelled = declarator (name_at (codes "y") 16) (star (mark_at mark.Star 15) types.Stars.none refl) refl brackets_spelled

x_spelled : Declarator int_type 0 (codes "x") int_type (name_at (codes "x") 13 ∷ [])
unfolding arrays
x_spelled = declarator (name_at (codes "x") 13) types.Stars.none refl no_bracket

member_spelled : Member 3 the_members members_tokens
member_spelled =
    member (mark_at mark.Semicolon 20) (words int (word (key_at key.Int 9) refl types.Keywords.none))
    (further (mark_at mark.Comma 14) (first x_spelled) refl y_spelled) refl

struct_spelled : Structure 4 the_struct struct_tokens
struct_spelled =
    structure (key_at key.Struct 0) (name_at (codes "p") 7) (mark_at mark.LeftBrace 8) (mark_at mark.RightBrace 21) refl refl refl
    (members member_spelled) refl

inner_spelled : Initial 2 inner (mark_at mark.LeftBrace 27 ∷ digit_at 2 28 ∷ mark_at mark.Comma 29 ∷ mark_at mark.RightBrace 30 ∷ [])
inner_spelled =
    braces_comma (mark_at mark.LeftBrace 27) (mark_at mark.Comma 29) (mark_at mark.RightBrace 30) refl
    (initial (value (expression_of (number (digit_at 2 28) refl)))) refl refl

outer_spelled : Initial 3 outer initial_tokens
outer_spelled =
    braces_comma (mark_at mark.LeftBrace 24) (mark_at mark.Comma 31) (mark_at mark.RightBrace 32) refl
    (more_initial (mark_at mark.Comma 26) (initial (value (expression_of (number (digit_at 1 25) refl)))) refl inner_spelled) refl refl

object_spelled : Object (type.Struct (codes "p")) 4 the_object object_tokens
unfolding arrays
object_spelled =
    initialised (mark_at mark.Equal 23) (declarator (name_at (codes "a") 22) types.Stars.none refl no_bracket) refl outer_spelled

struct_and_object : TranslationUnit 5 program.items (struct_tokens ++ (object_tokens ++ mark_at mark.Semicolon 33 ∷ []))
struct_and_object =
    more_external no_external
    (objects (mark_at mark.Semicolon 33) no_storage (with_body struct_spelled) (object object_spelled) refl)
