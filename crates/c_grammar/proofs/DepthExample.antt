-- Pairs of parentheses round the 1 of `int main(void){return 1;}` add a level each: 197 make depth 200, and 198 make 201.
use Rattle.std.specs.Prelude.{◌≡◌, ℕ, zero, suc, ◌+◌, max, List, [], ◌∷◌, ◌++◌, Some, refl}
use Rattle.std.proofs.Common.{subst, arith}
use Rattle.c_ast.specs.Seen.{Seen as Token}
use Rattle.c_ast.specs.declared.int_type.IntType.TheVariants as integer
use Rattle.c_ast.specs.declared.expr.Expr.{Expr}
use Rattle.c_ast.specs.declared.expr.Node.TheVariants as node
use Rattle.c_ast.specs.declared.statement.Stmt.{Stmt}
use Rattle.c_ast.specs.declared.statement.Stmt.TheVariants as stmt
use Rattle.c_ast.specs.declared.statement.Item.TheVariants as item
use Rattle.c_ast.specs.declared.program.Program.{Program}
use Rattle.c_ast.specs.declared.program.External.TheVariants as external
use Rattle.c_ast.specs.declared.keyword.Keyword.TheVariants as key
use Rattle.c_ast.specs.declared.punctuator.Punctuator.TheVariants as mark
use Rattle.c_grammar.specs.Words.{span_of}
use Rattle.c_grammar.specs.Expressions.{spelled, Primary, number, paren}
use Rattle.c_grammar.specs.Statements.{Block, Outside, no_item, more_item, statement, return_word, written, block}
use Rattle.c_grammar.specs.Externals.{definition, no_external, more_external, TranslationUnit}
use Rattle.c_grammar.proofs.Examples.{key_at, mark_at, digit_at}
use Rattle.c_grammar.proofs.MainExample.{expression_of, head_tokens, main_head, head_spelled}

-- so many pairs round a 1, from this byte on
nested_tokens : ℕ → ℕ → List Token
nested_tokens zero at = digit_at 1 at ∷ []
nested_tokens (suc n) at = mark_at mark.LeftParen at ∷ nested_tokens n (suc at) ++ mark_at mark.RightParen (at + n + n + 2) ∷ []

nested : ℕ → ℕ → Expr
nested zero at = spelled (nested_tokens zero at) (node.Constant 1 integer.Int)
nested (suc n) at = spelled (nested_tokens (suc n) at) (node.Paren (nested n (suc at)))

nested_spelled : (n at : ℕ) → Primary n (nested n at) (nested_tokens n at)
unfolding nested_tokens nested
nested_spelled zero at = number (digit_at 1 at) refl
nested_spelled (suc n) at =
    paren (mark_at mark.LeftParen at) (mark_at mark.RightParen (at + n + n + 2)) refl (expression_of (nested_spelled n (suc at))) refl

-- { return ((1)); } with so many pairs, from byte 14 on
return_tokens : ℕ → List Token
return_tokens n = key_at key.Return 15 ∷ nested_tokens n 22 ++ mark_at mark.Semicolon (n + n + 23) ∷ []

body_tokens : ℕ → List Token
body_tokens n = mark_at mark.LeftBrace 14 ∷ return_tokens n ++ mark_at mark.RightBrace (n + n + 24) ∷ []

body : ℕ → Stmt
body n = stmt.Block (item.Stmt (stmt.Return (Some (nested n 22)) (span_of (return_tokens n))) ∷ [])

body_spelled : (n : ℕ) → Block Outside (max 0 (suc (suc n))) (body n) (body_tokens n)
unfolding return_tokens body_tokens body
body_spelled n =
    block (mark_at mark.LeftBrace 14) (mark_at mark.RightBrace (n + n + 24)) refl
    (more_item no_item (statement (return_word (key_at key.Return 15) (mark_at mark.Semicolon (n + n + 23)) refl
    (written (expression_of (nested_spelled n 22))) refl))) refl

tokens : ℕ → List Token
tokens n = head_tokens ++ body_tokens n

program : ℕ → Program
program n = record {
  items = external.Function (record main_head {
    body = Some (body n);
    span = span_of (head_tokens ++ body_tokens n);
  }) ∷ [];
}

pairs_spelled : (n : ℕ) → TranslationUnit (3 + n) (program n).items (tokens n)
unfolding tokens program
pairs_spelled n =
    let depth : max 0 (max 1 (suc (max 0 (suc (suc n))))) ≡ 3 + n = omega arith in
    subst (λ d. TranslationUnit d (program n).items (tokens n)) depth
    (more_external no_external (definition head_spelled (λ k d lt. absurd (omega arith)) (body_spelled n)))

three_pairs : TranslationUnit 6 (program 3).items (tokens 3)
three_pairs = pairs_spelled 3

deepest : TranslationUnit 200 (program 197).items (tokens 197)
deepest = pairs_spelled 197

too_deep : TranslationUnit 201 (program 198).items (tokens 198)
too_deep = pairs_spelled 198
