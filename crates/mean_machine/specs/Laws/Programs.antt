-- The machine computes calls and so whole programs: where a program has a meaning, it leads from where it begins to that.
use Rattle.std.proofs.Common.{◌≡◌, ℕ, zero, suc, ◌+◌, leb, List, [], ◌∷◌, ◌++◌, take, length}
use Rattle.std.specs.Prelude.{codes}
use Rattle.c_type_base.specs.declared.ty.Ty.{Ty}
use Rattle.c_type_base.specs.declared.statement.TItem.TheOpen.{TStmt-F}
use Rattle.c_type_base.specs.declared.statement.TStmt.{out-TStmt}
use Rattle.c_type_base.specs.declared.typed.TFunction.{TFunction}
use Rattle.block_meaning.specs.Laws.Bound.Meaning.{whole_meaning}
use Rattle.block_meaning.specs.Laws.Settled.{IsWhole}
use Rattle.block_meaning.specs.Linkage.{Definition, AnObject, AFunction, defined, function_named}
use Rattle.block_meaning.specs.Locals.{latest, new_locals}
use Rattle.block_meaning.specs.Meaning.{frame_bytes, open_bytes, inside, new_call, with_arguments, end_call, result_of, body_node, body_of}
use Rattle.block_meaning.specs.Meaning.{calls_at, outside_of_calls, call_main, before, run_program, Outcome, outcome_of, Meaning}
use Rattle.block_meaning.specs.Running.{Function, Call, Program, Context, State, Result, Deep, Run, gives, and_then}
use Rattle.block_meaning.specs.Running.{with_blocks, with_some}
use Rattle.block_meaning.specs.Statements.{StmtLayer, Flow, StmtParts, declared, items, statements_at}
use Rattle.block_meaning.specs.declared.value.Value.{Value}
use Rattle.mean_machine.specs.Frames.{Called, Frame, OnFlow}
use Rattle.mean_machine.specs.Going.{go_by, by, value}
use Rattle.mean_machine.specs.Execution.{entered_body, entered_call, start_body}
use Rattle.mean_machine.specs.Steps.{begin_with, begin}
use Rattle.mean_machine.specs.Laws.Computes.{Leads, Computes, computes-by, computes-stuck, computes-next, computes-then, computes-unit}
use Rattle.mean_machine.specs.Laws.Computes.{computes-some, computes-choice, computes-with, computes-grouped}
use Rattle.mean_machine.specs.Laws.Evaluation.{CallsCompute}
use Rattle.mean_machine.specs.Laws.Execution.{StmtsCompute, items_compute, statements_compute}

-- what follows the body of a call
abbrev leaves_call : Call → Ty → Flow → Run Value
leaves_call c t f = and_then (with_blocks (end_call c.number)) (λ u. gives (result_of t f))

body_computes : {s : StmtParts} → StmtsCompute s → (here : Context) (k : List Frame) (c : Call) (t : Ty) (ready : Context)
    (body : StmtLayer) → Computes (and_then (body_node s ready body) (leaves_call c t))
    (by (entered_body c ready body) (start_body here k t)) (value here k)
body_computes {s = s} of here k c t ready (TStmt-F.Block is) =
    computes-grouped (new_locals ready (declared is)) (λ inner. items s inner is) (leaves_call c t)
    (computes-with (new_locals ready (declared is)) _ (start_body here k t) (λ inner.
    computes-then (items_compute of inner (OnFlow (Called here c t) ∷ k) is) (λ f. computes-next (
    computes-then (computes-by (with_blocks (end_call c.number)) (λ u. value here k (result_of t f)))
    (λ u. computes-by (gives (result_of t f)) (value here k))))))
body_computes of here k c t ready _ = computes-stuck _ _

inside_computes : {s : StmtParts} → StmtsCompute s → (here : Context) (k : List Frame) (vs : List Value) (g : TFunction) (c : Call) →
    Computes (body_of s g vs (inside here c)) (by (entered_call vs g (inside here c) c) (start_body here k g.result)) (value here k)
inside_computes of here k vs g c =
    computes-with (with_arguments (inside here c) 0 (take g.params g.locals) vs) _ (start_body here k g.result)
    (λ ready. body_computes of here k c g.result ready (out-TStmt g.body))

abbrev the_call : Function → ℕ → State → Call
the_call f place now = record { number = length now.calls; function = f; place = place }

new_computes : {s : StmtParts} → StmtsCompute s → (here : Context) (k : List Frame) (f : Function) (vs : List Value) (g : TFunction)
    (place : ℕ) → Computes (and_then (new_call here f place) (body_of s g vs))
    (by (and_then (new_call here f place) (λ there. with_some (latest there.open_calls) (entered_call vs g there)))
    (start_body here k g.result)) (value here k)
new_computes of here k f vs g place = record {
  leads = λ now whole. (inside_computes of here k vs g (the_call f place now)).leads
      (record now { calls = now.calls ++ the_call f place now ∷ [] }) whole;
}

-- how functions are called, with any bound
pub calls_compute : (bound : ℕ) → CallsCompute (calls_at bound)
calls_compute zero here f vs k = computes-stuck _ _
calls_compute (suc bound) here f vs k =
    let of : StmtsCompute (statements_at (calls_at bound) bound) = statements_compute (calls_compute bound) bound in
    computes-some (function_named here.program.units f) gives _ (λ g.
    computes-some (frame_bytes here.program f) gives _ (λ bytes.
    computes-choice (leb (open_bytes here.open_calls + bytes) here.program.stack) Deep _ (start_body here k g.result)
    (new_computes of here k f vs g (open_bytes here.open_calls + bytes))))

-- ---- whole programs

-- what is left when a program has ended
abbrev pub last : Program → Result Value → Rattle.mean_machine.specs.Frames.Machine
last program r = go_by r (value (outside_of_calls program) [])

main_computes : (bound : ℕ) (program : Program) (d : Definition) →
    Computes (call_main bound program d) (begin_with program d) (value (outside_of_calls program) [])
main_computes bound program (AnObject unit number) = computes-stuck _ _
main_computes bound program (AFunction f) = computes-unit (calls_compute bound (outside_of_calls program) f [] [])

-- the machine leads to what a program's run gives
pub run_leads : (bound : ℕ) (program : Program) (input : List ℕ) (work : ℕ) → IsWhole (run_program bound program input work) →
    Leads (begin program (before program input work)) (last program (run_program bound program input work))
run_leads bound program input work whole = (computes-some (defined program.units (codes "main")) gives (begin_with program)
    (main_computes bound program)).leads (before program input work) whole

-- what a program means, as the machine's run to its end
pub record Reached (program : Program) (input : List ℕ) (work : ℕ) (outcome : Outcome) : Type 0 where
  pub result : Result Value
  pub leads : Leads (begin program (before program input work)) (last program result)
  pub is : outcome ≡ outcome_of result

pub meaning_reached : {program : Program} {input : List ℕ} {work : ℕ} {outcome : Outcome} → Meaning program input work outcome →
    Reached program input work outcome
meaning_reached {program = program} {input = input} {work = work} m = record {
  result = run_program m.bound program input work;
  leads = run_leads m.bound program input work (whole_meaning m);
  is = m.is;
}
