-- The code of loops (this project's own): one jump to the test, and then one for each turn, which pays for the unit of work of the next.
use Rattle.std.specs.Prelude.{ℕ, ◌+◌, [], ◌∷◌, Option, Some, None}
use Rattle.a64_code.specs.declared.instr.Instr.TheVariants.{Nop}
use Rattle.a64_code.specs.declared.instr.Reg.{Reg}
use Rattle.frame_layout.specs.declared.frame.Frame.{Frame}
use Rattle.sym_code.specs.declared.item.SymItem.TheVariants as item
use Rattle.gen_base.specs.Code.{Code, only, plain, in_turn, labelled}
use Rattle.gen_stmt.specs.Scopes.{Range, widened, leave}
use Rattle.gen_stmt.specs.declared.around.Around.{Around as GivenAround}

-- where the values of statements come
abbrev pub result : Reg
result = record { 0 = 9 }

-- what stands round a statement: the labels of its loop, and the locals of the scopes that are open in the loop's body
abbrev pub Around : Type 0
Around = GivenAround

-- in a scope more
abbrev pub inside : Around → Range → Around
inside around r = record around { opened = Some (widened around.opened r) }

-- the code of a statement
abbrev pub Emits : Type 0
Emits = Around → Code

-- in a loop with these labels
abbrev pub in_loop : ℕ → ℕ → Around
in_loop broke continued = record { broke = broke; continued = continued; opened = None }

-- scopes are left by a jump
abbrev pub jump_out : Frame → Option Range → ℕ → Code
jump_out f opened label = in_turn (leave f opened ∷ only (item.Jump label) ∷ [])

-- back to the body where the condition holds; a loop without one always goes back
abbrev pub back_to : ℕ → Option Code → Code
back_to body None = only (item.Jump body)
back_to body (Some condition) = in_turn (condition ∷ only (item.JumpIfNotZero result body) ∷ [])

-- Labels of a loop: where its next turn begins, its body, behind it, and the test, where that is not where the turn begins.
abbrev pub while_code : Code → Emits → Code
while_code condition body = labelled (λ l. in_turn (
    only (item.Jump l) ∷ only (item.Label (l + 1)) ∷ body (in_loop (l + 2) l) ∷
    only (item.Label l) ∷ back_to (l + 1) (Some condition) ∷ only (item.Label (l + 2)) ∷ []))

abbrev pub do_code : Emits → Code → Code
do_code body condition = labelled (λ l. in_turn (
    plain (Nop ∷ []) ∷ only (item.Label (l + 1)) ∷ body (in_loop (l + 2) l) ∷
    only (item.Label l) ∷ back_to (l + 1) (Some condition) ∷ only (item.Label (l + 2)) ∷ []))

abbrev pub for_code : Option Code → Code → Emits → Code
for_code condition next body = labelled (λ l. in_turn (
    only (item.Jump (l + 3)) ∷ only (item.Label (l + 1)) ∷ body (in_loop (l + 2) l) ∷
    only (item.Label l) ∷ next ∷ only (item.Label (l + 3)) ∷ back_to (l + 1) condition ∷ only (item.Label (l + 2)) ∷ []))
