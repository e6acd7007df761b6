-- A program in order has a meaning, whatever its input and its work are: the definition's own bound is never too small for ever.
use Rattle.std.proofs.Common.{◌≡◌, ◌≢◌, refl, sym, ap, ℕ, ◌+◌, arith, List, [], take, length, map}
use Rattle.std.proofs.Common.{None}
use Rattle.std.proofs.lemmas.List.Elements.{All-nil}
use Rattle.c_type_base.specs.declared.typed.TFunction.{TFunction}
use Rattle.block_meaning.specs.Laws.Progress.Calls.{all-needs, calls-safe}
use Rattle.block_meaning.specs.Laws.Progress.Fits.{Fits, ValueWithin}
use Rattle.block_meaning.specs.Laws.Progress.Linked.{all_blocks}
use Rattle.block_meaning.specs.Laws.Progress.Opening.{opening-count, opening-within}
use Rattle.block_meaning.specs.Laws.Progress.Safe.{Kept, Ends, Safe, safe-some, safe-unit}
use Rattle.block_meaning.specs.Laws.Bound.Meaning.{one_meaning}
use Rattle.block_meaning.specs.Laws.Settled.{IsWhole}
use Rattle.block_meaning.specs.Linkage.{AFunction, parameter_types, type_of_local}
use Rattle.block_meaning.specs.Meaning.{call_main, before, run_program, Stopped, end_of, Outcome, outcome_of, Meaning}
use Rattle.block_meaning.specs.ProgramsInOrder.{InOrder}
use Rattle.block_meaning.specs.Running.{Program, State, Result, Goes, Stops, Stuck}
use Rattle.block_meaning.specs.declared.value.Value.{Value}

main_safe : {program : Program} (in_order : InOrder program) (work : ℕ) →
    let main = in_order.main in
    Safe (all_blocks program.units) work (call_main ((all-needs program in_order).depth + work) program (AFunction main.name))
    (Fits main.function.result)
main_safe {program = program} in_order work =
    let main = in_order.main in
    let needs = all-needs program in_order in
    let calls = calls-safe in_order needs (needs.depth + work) work (omega arith) in
    let none : parameter_types main.function ≡ [] = no_parameters main.function main.without_parameters in
    safe-unit (λ v less. calls.safe less (omega arith) 0 [] (λ k. None) main.name main.function main.function_is []
    (record { within = All-nil (ValueWithin (all_blocks program.units)); as_many = sym (ap length none) }))
  where
    no_parameters : (f : TFunction) → f.params ≡ 0 → parameter_types f ≡ []
    no_parameters f is = ap (λ k. map type_of_local (take k f.locals)) is

whole_end : (P : ℕ → Value → Type 0) (now : State) (r : Result Value) → Ends P now r → IsWhole r
whole_end P now (Goes v later) ends = tt
whole_end P now (Stops why later) ends = ends

-- a program in order is not stuck with a bound of the levels that it needs and its work
pub never-stuck : {program : Program} (in_order : InOrder program) (input : List ℕ) (work : ℕ) →
    IsWhole (run_program ((all-needs program in_order).depth + work) program input work)
never-stuck {program = program} in_order input work =
    let main = in_order.main in
    let start = before program input work in
    let bound : ℕ = (all-needs program in_order).depth + work in
    let count = opening-count program.units in
    let kept : Kept (all_blocks program.units) work start =
    record {
      blocks = omega (arith, count);
      work = omega arith;
      within = opening-within program.units (λ unit u is. (in_order.files unit u is).objects);
    } in
    let safe = safe-some (call_main bound program) (AFunction main.name) main.defined_is (main_safe in_order work) in
    whole_end (Fits main.function.result) start (run_program bound program input work) (safe.ends start kept)

is_no_stop : (r : Result Value) → IsWhole r → end_of r ≢ Stopped Stuck
is_no_stop (Goes v now) whole = λ is. absurd cc
is_no_stop (Stops Stuck now) whole = absurd whole
is_no_stop (Stops _ now) whole = λ is. absurd cc

-- one outcome is the meaning, and no other
pub record HasMeaning (program : Program) (input : List ℕ) (work : ℕ) : Type 0 where
  pub outcome : Outcome
  pub means : Meaning program input work outcome
  pub only : (other : Outcome) → Meaning program input work other → other ≡ outcome

pub has_meaning : {program : Program} → InOrder program → (input : List ℕ) (work : ℕ) → HasMeaning program input work
has_meaning {program = program} in_order input work =
    let bound : ℕ = (all-needs program in_order).depth + work in
    let r = run_program bound program input work in
    let means : Meaning program input work (outcome_of r) =
    record { bound = bound; is = refl; suffices = is_no_stop r (never-stuck in_order input work) } in
    record { outcome = outcome_of r; means = means; only = λ other meaning. one_meaning meaning means }
