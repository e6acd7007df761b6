-- The program `int main(void){return 1;}` has depth 3: the body is level 1, the statement 2 and the expression 3.
use Rattle.std.specs.Prelude.{ℕ, List, [], ◌∷◌, ◌++◌, Some, None, codes, refl}
use Rattle.std.proofs.Common.{arith}
use Rattle.c_ast.specs.Tree.{expr}
use Rattle.c_ast.specs.Seen.{Seen as Token}
use Rattle.c_ast.specs.declared.expr.Expr.{Expr}
use Rattle.c_ast.specs.declared.int_type.IntType.TheVariants as integer
use Rattle.c_ast.specs.declared.expr.CType.TheVariants as type
use Rattle.c_ast.specs.declared.expr.Node.TheVariants as node
use Rattle.c_ast.specs.declared.declaration.Storage.TheVariants as storage
use Rattle.c_ast.specs.declared.statement.Stmt.{Stmt}
use Rattle.c_ast.specs.declared.statement.Stmt.TheVariants as stmt
use Rattle.c_ast.specs.declared.statement.Item.TheVariants as item
use Rattle.c_ast.specs.declared.program.Program.{Program}
use Rattle.c_ast.specs.declared.program.Function.{Function}
use Rattle.c_ast.specs.declared.program.External.TheVariants as external
use Rattle.c_ast.specs.declared.keyword.Keyword.TheVariants as key
use Rattle.c_ast.specs.declared.punctuator.Punctuator.TheVariants as mark
use Rattle.c_grammar.specs.Types.{word, none, int, words, Stars}
use Rattle.c_grammar.specs.Types as types
use Rattle.c_grammar.specs.Expressions.{Expression, conditional, binary, tighter, operand, unary, postfix, primary, number, Primary}
use Rattle.c_grammar.specs.Statements.{Block, Outside, no_item, more_item, statement, return_word, written, block}
use Rattle.c_grammar.specs.Laws.VoidLaws.{void_word}
use Rattle.c_grammar.specs.Externals.{FunctionHead, function_head, no_storage, plain, definition, no_external, more_external}
use Rattle.c_grammar.specs.Externals.{TranslationUnit}
use Rattle.c_grammar.proofs.Examples.{key_at, mark_at, name_at, digit_at, span}

abbrev pub head_tokens : List Token
head_tokens = key_at key.Int 0 ∷ name_at (codes "main") 4 ∷ mark_at mark.LeftParen 8 ∷ key_at key.Void 9 ∷ mark_at mark.RightParen 13 ∷ []

abbrev body_tokens : List Token
body_tokens = mark_at mark.LeftBrace 14 ∷ key_at key.Return 15 ∷ digit_at 1 22 ∷ mark_at mark.Semicolon 23 ∷ mark_at mark.RightBrace 24 ∷ []

abbrev pub main_head : Function
main_head = record {
  storage = storage.None;
  name = codes "main";
  result = type.Int integer.Int;
  params = [];
  body = None;
  span = span 0 14;
}

abbrev body : Stmt
body = stmt.Block (item.Stmt (stmt.Return (Some (expr (span 22 23) (node.Constant 1 integer.Int))) (span 15 24)) ∷ [])

abbrev program : Program
program = record { items = external.Function (record main_head { body = Some body; span = span 0 25 }) ∷ [] }

-- a primary is an expression
pub expression_of : {h : ℕ} {e : Expr} {w : List Token} → Primary h e w → Expression h e w
expression_of p = conditional (binary (tighter (tighter (tighter
    (tighter (tighter (tighter (tighter (tighter (tighter (tighter (operand (unary (postfix (primary p)))))))))))))))

pub head_spelled : FunctionHead 1 [] main_head head_tokens
head_spelled =
    function_head (name_at (codes "main") 4) no_storage (plain (words int (word (key_at key.Int 0) refl none))) types.Stars.none refl
    (void_word (mark_at mark.LeftParen 8) (key_at key.Void 9) (mark_at mark.RightParen 13) refl refl refl)

body_spelled : Block Outside 2 body body_tokens
body_spelled =
    block (mark_at mark.LeftBrace 14) (mark_at mark.RightBrace 24) refl
    (more_item no_item (statement (return_word (key_at key.Return 15) (mark_at mark.Semicolon 23) refl
    (written (expression_of (number (digit_at 1 22) refl))) refl))) refl

main_spelled : TranslationUnit 3 program.items (head_tokens ++ body_tokens)
main_spelled = more_external no_external (definition head_spelled (λ k d lt. absurd (omega arith)) body_spelled)
