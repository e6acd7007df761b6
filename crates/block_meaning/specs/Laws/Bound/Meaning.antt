-- A larger bound leaves each call that is not stuck as it is, so a program with its input and work has one meaning.
use Rattle.std.proofs.Common.{◌≡◌, ◌≢◌, refl, sym, subst, ap, ◌∙◌, leb, ℕ, zero, suc, ◌+◌, arith, List, []}
use Rattle.std.proofs.Common.{take, add_comm}
use Rattle.std.specs.Prelude.{codes}
use Rattle.block_meaning.specs.Locals.{new_locals}
use Rattle.block_meaning.specs.Laws.Settled.{IsWhole, Settles, settles-itself, settles-stuck, settles-then, settles-unit, settles-choice}
use Rattle.block_meaning.specs.Laws.Settled.{settles-some}
use Rattle.block_meaning.specs.Linkage.{Definition, AnObject, AFunction, defined, function_named}
use Rattle.block_meaning.specs.Meaning.{open_bytes, new_call, with_arguments, body_node, body_of, call_of, calls_at, frame_bytes}
use Rattle.block_meaning.specs.Meaning.{outside_of_calls, call_main, before, run_program, end_of, Stopped, Outcome, outcome_of, Meaning}
use Rattle.block_meaning.specs.Statements.{StmtLayer, StmtParts, declared}
use Rattle.c_type_base.specs.declared.statement.TItem.TheOpen.{TStmt-F}
use Rattle.c_type_base.specs.declared.statement.TStmt.{out-TStmt}
use Rattle.c_type_base.specs.declared.typed.TFunction.{TFunction}
use Rattle.block_meaning.specs.Running.{Function, Program, Result, Goes, Stops, Stuck, Context}
use Rattle.block_meaning.specs.declared.value.Value.{Value}
use Rattle.block_meaning.specs.Laws.Bound.Expressions.{CallsSettle}
use Rattle.block_meaning.specs.Laws.Bound.Statements.{StmtsSettle, items_settle, statements_settle}

node_settles : {s t : StmtParts} → StmtsSettle s t → (here : Context) (body : StmtLayer) →
    Settles (body_node s here body) (body_node t here body)
node_settles of here (TStmt-F.Block is) = settles-then (settles-itself (new_locals here (declared is))) (λ inner. items_settle of inner is)
node_settles of here _ = settles-itself _

body_settles : {s t : StmtParts} → StmtsSettle s t → (f : TFunction) (vs : List Value) (here : Context) →
    Settles (body_of s f vs here) (body_of t f vs here)
body_settles of f vs here = settles-then (settles-itself (with_arguments here 0 (take f.params f.locals) vs)) (λ ready.
    settles-then (node_settles of ready (out-TStmt f.body)) (λ flow. settles-itself _))

call_of_settles : {s t : StmtParts} → StmtsSettle s t → (here : Context) (f : Function) (vs : List Value) (g : TFunction) (bytes : ℕ) →
    Settles (call_of s here f vs g bytes) (call_of t here f vs g bytes)
call_of_settles of here f vs g bytes = settles-choice (leb (open_bytes here.open_calls + bytes) here.program.stack)
    (settles-then (settles-itself (new_call here f (open_bytes here.open_calls + bytes))) (λ inner. body_settles of g vs inner))
    (settles-itself _)

-- a larger bound
pub calls_settle : (bound : ℕ) → CallsSettle (calls_at bound) (calls_at (suc bound))
calls_settle zero here f vs = settles-stuck _
calls_settle (suc bound) here f vs = settles-some (function_named here.program.units f) (λ g.
    settles-some (frame_bytes here.program f) (λ bytes.
    call_of_settles (statements_settle (calls_settle bound) bound) here f vs g bytes))

main_settles : (bound : ℕ) (program : Program) (d : Definition) → Settles (call_main bound program d) (call_main (suc bound) program d)
main_settles bound program (AnObject unit number) = settles-itself _
main_settles bound program (AFunction f) = settles-unit (calls_settle bound (outside_of_calls program) f [])

one_larger : (bound : ℕ) (program : Program) (input : List ℕ) (work : ℕ) → IsWhole (run_program bound program input work) →
    run_program (suc bound) program input work ≡ run_program bound program input work
one_larger bound program input work whole =
    (settles-some (defined program.units (codes "main")) (main_settles bound program)).same (before program input work) whole

-- a run that is not stuck is that of each larger bound
pub larger_bound : (more bound : ℕ) (program : Program) (input : List ℕ) (work : ℕ) → IsWhole (run_program bound program input work) →
    run_program (more + bound) program input work ≡ run_program bound program input work
larger_bound zero bound program input work whole =
    let same : 0 + bound ≡ bound = omega arith in ap (λ k. run_program k program input work) same
larger_bound (suc more) bound program input work whole =
    let below = larger_bound more bound program input work whole in
    let next : suc more + bound ≡ suc (more + bound) = omega arith in
    ap (λ k. run_program k program input work) next
    ∙ one_larger (more + bound) program input work (subst IsWhole (sym below) whole) ∙ below

pub whole_result : (r : Result Value) → end_of r ≢ Stopped Stuck → IsWhole r
whole_result (Goes v now) ends = tt
whole_result (Stops Stuck now) ends = absurd (ends refl)
whole_result (Stops _ now) ends = tt

pub whole_meaning : {program : Program} {input : List ℕ} {work : ℕ} {outcome : Outcome} → (m : Meaning program input work outcome) →
    IsWhole (run_program m.bound program input work)
whole_meaning {program = program} {input = input} {work = work} m =
    whole_result (run_program m.bound program input work) (λ is. m.suffices (ap (λ o. o.end) m.is ∙ is))

-- a program with its input and work has one meaning
pub one_meaning : {program : Program} {input : List ℕ} {work : ℕ} {first second : Outcome} → Meaning program input work first →
    Meaning program input work second → first ≡ second
one_meaning {program = program} {input = input} {work = work} m n =
    m.is ∙ ap outcome_of (sym (larger_bound n.bound m.bound program input work (whole_meaning m))
    ∙ ap (λ k. run_program k program input work) (add_comm n.bound m.bound)
    ∙ larger_bound m.bound n.bound program input work (whole_meaning n)) ∙ sym n.is
