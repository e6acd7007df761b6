-- What more work changes of a program: nothing where it ends, and else it goes on from where the work was used up.
use Rattle.std.proofs.Common.{◌≡◌, ◌≢◌, refl, sym, subst, ap, ◌∙◌, leb, ℕ, zero, suc, ◌+◌, arith, List, []}
use Rattle.std.proofs.Common.{◌∷◌, take}
use Rattle.std.specs.Prelude.{codes}
use Rattle.c_type_base.specs.declared.statement.TItem.TheOpen.{TStmt-F}
use Rattle.c_type_base.specs.declared.statement.TStmt.{out-TStmt}
use Rattle.c_type_base.specs.declared.typed.TFunction.{TFunction}
use Rattle.c_type_base.specs.declared.typed.LocalInfo.{LocalInfo}
use Rattle.block_meaning.specs.Laws.Bound.Meaning.{larger_bound, whole_meaning}
use Rattle.block_meaning.specs.Laws.Steady.{Begins, begins-itself, output_after, Grown, Steady, steady-gives}
use Rattle.block_meaning.specs.Laws.Steady.{steady-deep, steady-stuck, steady-with_blocks, steady-then, steady-unit}
use Rattle.block_meaning.specs.Laws.Steady.{steady-choice, steady-some}
use Rattle.block_meaning.specs.Linkage.{Definition, AnObject, AFunction, defined}
use Rattle.block_meaning.specs.Linkage.{function_named}
use Rattle.block_meaning.specs.Locals.{latest}
use Rattle.block_meaning.specs.Meaning.{open_bytes, new_call, with_arguments, body_node, body_of, call_of, calls_at, frame_bytes}
use Rattle.block_meaning.specs.Meaning.{outside_of_calls, call_main, before, run_program, Stopped, Outcome, outcome_of, Meaning}
use Rattle.block_meaning.specs.Running.{Function, More, Result, Goes, Stops, Program, Context}
use Rattle.block_meaning.specs.Statements.{StmtLayer, StmtParts, declared}
use Rattle.block_meaning.specs.declared.value.Value.{Value}
use Rattle.block_meaning.specs.Laws.MoreWork.Expressions.{SteadyCalls}
use Rattle.block_meaning.specs.Laws.MoreWork.Locals.{new_block_steady, new_locals_steady}
use Rattle.block_meaning.specs.Laws.MoreWork.Statements.{SteadyStmts, items_steady, statements_steady}

arguments_steady : (here : Context) (k : ℕ) (ls : List LocalInfo) (vs : List Value) → Steady (with_arguments here k ls vs)
arguments_steady here k [] [] = steady-gives here
arguments_steady here k (l ∷ ls) (v ∷ vs) = steady-then (steady-some (latest here.open_calls) (λ c. new_block_steady here k _))
    (λ inner. arguments_steady inner (k + 1) ls vs)
arguments_steady here k _ _ = steady-stuck

body_node_steady : {s : StmtParts} → SteadyStmts s → (here : Context) (body : StmtLayer) → Steady (body_node s here body)
body_node_steady of here (TStmt-F.Block is) = steady-then (new_locals_steady here (declared is)) (λ inner. items_steady of inner is)
body_node_steady of here _ = steady-stuck

body_steady : {s : StmtParts} → SteadyStmts s → (f : TFunction) (vs : List Value) (here : Context) → Steady (body_of s f vs here)
body_steady of f vs here = steady-then (arguments_steady here 0 (take f.params f.locals) vs) (λ ready.
    steady-then (body_node_steady of ready (out-TStmt f.body)) (λ flow.
    steady-then (steady-some (latest here.open_calls) (λ c. steady-with_blocks _)) (λ _. steady-gives _)))

new_call_steady : (here : Context) (f : Function) (place : ℕ) → Steady (new_call here f place)
new_call_steady here f place = record { puts = λ now. begins-itself now.output; grows = λ more now. refl }

call_of_steady : {s : StmtParts} → SteadyStmts s → (here : Context) (f : Function) (vs : List Value) (g : TFunction) (bytes : ℕ) →
    Steady (call_of s here f vs g bytes)
call_of_steady of here f vs g bytes = steady-choice (leb (open_bytes here.open_calls + bytes) here.program.stack)
    (steady-then (new_call_steady here f (open_bytes here.open_calls + bytes)) (λ inner. body_steady of g vs inner)) steady-deep

pub calls_steady : (bound : ℕ) → SteadyCalls (calls_at bound)
calls_steady zero here f vs = steady-stuck
calls_steady (suc bound) here f vs = steady-some (function_named here.program.units f) (λ g.
    steady-some (frame_bytes here.program f) (λ bytes.
    call_of_steady (statements_steady (calls_steady bound) bound) here f vs g bytes))

main_steady : (bound : ℕ) (program : Program) (d : Definition) → Steady (call_main bound program d)
main_steady bound program (AnObject unit number) = steady-stuck
main_steady bound program (AFunction f) = steady-unit (calls_steady bound (outside_of_calls program) f [])

-- the run with so much more work
pub grown_run : (bound : ℕ) (program : Program) (input : List ℕ) (work more : ℕ) →
    Grown more (run_program bound program input work) (run_program bound program input (work + more))
grown_run bound program input work more =
    (steady-some (defined program.units (codes "main")) (main_steady bound program)).grows more (before program input work)

-- where a program ends, more work changes nothing; else it puts what it put, and maybe more
abbrev pub GrownOutcome : Outcome → Outcome → Type 0
GrownOutcome o p = ((o.end ≢ Stopped More) → p ≡ o) × Begins o.output p.output

begins_after : {xs : List ℕ} (s : Result Value) → Begins xs (output_after s) → Begins xs (outcome_of s).output
begins_after (Goes v now) begins = begins
begins_after (Stops why now) begins = begins

grown_outcome : (more : ℕ) (r s : Result Value) → Grown more r s → GrownOutcome (outcome_of r) (outcome_of s)
grown_outcome more (Goes v now) s grown =
    let same : outcome_of s ≡ outcome_of (Goes v now) = ap outcome_of grown in
    ((λ ends. same), subst (λ o. Begins now.output o.output) (sym same) (begins-itself now.output))
grown_outcome more (Stops More now) s grown = ((λ ends. absurd (ends refl)), begins_after s grown)
grown_outcome more (Stops why now) s grown =
    let same : outcome_of s ≡ outcome_of (Stops why now) = ap outcome_of grown in
    ((λ ends. same), subst (λ o. Begins now.output o.output) (sym same) (begins-itself now.output))

-- both at one bound
meanings_grown : {program : Program} {input : List ℕ} {work : ℕ} {first second : Outcome} (more : ℕ) →
    Meaning program input work first → Meaning program input (work + more) second → GrownOutcome first second
meanings_grown {program = program} {input = input} {work = work} {first = first} {second = second} more m n =
    let bound : ℕ = n.bound + m.bound in
    let before_is : outcome_of (run_program bound program input work) ≡ first =
    ap outcome_of (larger_bound n.bound m.bound program input work (whole_meaning m)) ∙ sym m.is in
    let bounds : m.bound + n.bound ≡ bound = omega arith in
    let after_is : outcome_of (run_program bound program input (work + more)) ≡ second =
    ap (λ k. outcome_of (run_program k program input (work + more))) (sym bounds)
    ∙ ap outcome_of (larger_bound m.bound n.bound program input (work + more) (whole_meaning n)) ∙ sym n.is in
    subst (λ o. GrownOutcome o second) before_is (subst (λ o. GrownOutcome (outcome_of (run_program bound program input work)) o) after_is
    (grown_outcome more (run_program bound program input work) (run_program bound program input (work + more))
    (grown_run bound program input work more)))

-- more work changes no end but the one for want of work
pub ends_with_more_work : {program : Program} {input : List ℕ} {work : ℕ} {first second : Outcome} (more : ℕ) →
    Meaning program input work first → Meaning program input (work + more) second → first.end ≢ Stopped More → second ≡ first
ends_with_more_work more m n ends = (meanings_grown more m n).0 ends

-- and what was put with less work comes first
pub puts_with_more_work : {program : Program} {input : List ℕ} {work : ℕ} {first second : Outcome} (more : ℕ) →
    Meaning program input work first → Meaning program input (work + more) second → Begins first.output second.output
puts_with_more_work more m n = (meanings_grown more m n).1
