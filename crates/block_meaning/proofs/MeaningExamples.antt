-- What small programs mean, computed. None reads memory: a size does not compute by itself.
use Rattle.std.proofs.Common.{◌≡◌, refl, ℕ, List, [], ◌∷◌, None}
use Rattle.std.specs.Prelude.{codes}
use Rattle.c_ast.specs.declared.operator.BinaryOperator.TheVariants as binary
use Rattle.c_type_base.specs.Laws.Opened.{given_types, given_typed}
use Rattle.c_type_base.specs.declared.expr.TExpr.{TExpr}
use Rattle.c_type_base.specs.declared.expr.TNode.TheVariants as node
use Rattle.c_type_base.specs.declared.expr.Callee.TheVariants as callee
use Rattle.c_type_base.specs.declared.statement.TItem.{TItem}
use Rattle.c_type_base.specs.declared.statement.TItem.TheVariants as item
use Rattle.c_type_base.specs.declared.statement.TStmt.TheVariants as stmt
use Rattle.block_meaning.proofs.Trees.{span, int_at, constant, returns, function_with, file_of, program_of}
use Rattle.block_meaning.specs.Meaning.{run_program, end_of, state_of, Done, Stopped}
use Rattle.block_meaning.specs.Running.{Program, Divide, More, Deep}

-- int main(void){ .. } in a frame of 32 bytes
abbrev main_of : List TItem → Program
main_of items = program_of (file_of (function_with (codes "main") items ∷ [])) (32 ∷ [])

-- ---- return 42;

abbrev answer : Program
answer = main_of (returns (constant 22 24 42) ∷ [])

-- two units: that of the call, and that of the constant
answer_is_42 : end_of (run_program 9 answer [] 2) ≡ Done 42
unfolding given_typed
answer_is_42 = refl

answer_wants_two_units : end_of (run_program 9 answer [] 1) ≡ Stopped More
unfolding given_typed
answer_wants_two_units = refl

nothing_runs_without_work : end_of (run_program 9 answer [] 0) ≡ Stopped More
nothing_runs_without_work = refl

-- ---- return 1/0;

abbrev quotient : Program
quotient = main_of (returns (int_at 22 25 (node.Binary binary.Divide (constant 22 23 1) (constant 24 25 0))) ∷ [])

quotient_is_told : end_of (run_program 9 quotient [] 9) ≡ Stopped Divide
unfolding given_typed given_types
quotient_is_told = refl

-- the operator spends its unit before it divides
quotient_wants_four_units : end_of (run_program 9 quotient [] 3) ≡ Stopped More
unfolding given_typed given_types
quotient_wants_four_units = refl

-- ---- return 0&&1/0;

abbrev both_sides : Program
both_sides = main_of (returns (int_at 22 28 (node.Binary binary.And (constant 22 23 0)
    (int_at 25 28 (node.Binary binary.Divide (constant 25 26 1) (constant 27 28 0))))) ∷ [])

-- three units: the call, the 0, and the `&&`
the_left_side_decides : end_of (run_program 9 both_sides [] 3) ≡ Done 0
unfolding given_typed given_types
the_left_side_decides = refl

-- ---- for(;;)putchar(65);

abbrev puts : ℕ → TExpr
puts n = int_at 0 0 (node.Call callee.Putchar (constant 0 0 n ∷ []))

abbrev letters : Program
letters = main_of (item.Stmt (stmt.For [] None None None (stmt.Expr (puts 65))) ∷ [])

-- the call of `main` spends a unit, and each turn three
ten_units_give_three_letters : (state_of (run_program 20 letters [] 10)).output ≡ 65 ∷ 65 ∷ 65 ∷ []
unfolding given_typed given_types
ten_units_give_three_letters = refl

the_loop_does_not_end : end_of (run_program 20 letters [] 10) ≡ Stopped More
unfolding given_typed given_types
the_loop_does_not_end = refl

-- ---- while(1){putchar(getchar());break;} and the end without `return`

abbrev echo : Program
echo = main_of (item.Stmt (stmt.While (constant 0 0 1) (stmt.Block (
    item.Stmt (stmt.Expr (int_at 0 0 (node.Call callee.Putchar (int_at 0 0 (node.Call callee.Getchar []) ∷ [])))) ∷
    item.Stmt (stmt.Break (span 0 0)) ∷ []))) ∷ [])

echo_puts_a_byte : (state_of (run_program 20 echo (7 ∷ 8 ∷ []) 99)).output ≡ 7 ∷ []
unfolding given_typed given_types
echo_puts_a_byte = refl

echo_leaves_a_byte : (state_of (run_program 20 echo (7 ∷ 8 ∷ []) 99)).input ≡ 8 ∷ []
unfolding given_typed given_types
echo_leaves_a_byte = refl

echo_gives_0 : end_of (run_program 20 echo (7 ∷ 8 ∷ []) 99) ≡ Done 0
unfolding given_typed given_types
echo_gives_0 = refl

-- -1 modulo 256
at_the_end_echo_puts_255 : (state_of (run_program 20 echo [] 99)).output ≡ 255 ∷ []
unfolding given_typed given_types
at_the_end_echo_puts_255 = refl

-- ---- int f(void){return f();} int main(void){return f();}

abbrev endless : Program
endless = program_of (file_of (
    function_with (codes "f") (returns (int_at 16 19 (node.Call (callee.Function 0) [])) ∷ []) ∷
    function_with (codes "main") (returns (int_at 0 0 (node.Call (callee.Function 0) [])) ∷ []) ∷ [])) (400 ∷ 32 ∷ [])

-- 32 and twice 400 bytes fit into 1,024, and thrice 400 do not
the_third_call_is_deep : end_of (run_program 20 endless [] 99) ≡ Stopped Deep
unfolding given_typed given_types
the_third_call_is_deep = refl

-- each of the four calls spends a unit before it is judged
four_calls_spend_four_units : end_of (run_program 20 endless [] 3) ≡ Stopped More
unfolding given_typed given_types
four_calls_spend_four_units = refl
