-- From what a program means to what its run keeps from the first step on.
use Rattle.std.proofs.Common.{◌≡◌, ◌<◌, ◌≤◌, refl, sym, subst, ap, ◌∙◌, arith, append-nil, ℕ, List, []}
use Rattle.std.proofs.Common.{Option, Some, Result, Ok, Err}
use Rattle.block_meaning.specs.Laws.Bound.Meaning.{whole_meaning}
use Rattle.block_meaning.specs.Meaning.{Meaning, Outcome, outcome_of, run_program, before}
use Rattle.block_meaning.specs.Running.{Program}
use Rattle.mean_machine.specs.Laws.Programs.{run_leads}
use Rattle.mean_machine.specs.Steps.{begin}
use Rattle.mean_run.specs.Processes.{Moves}
use Rattle.mean_expressions.specs.declared.frames.Control.{Control}
use Rattle.mean_effects.specs.declared.now.Ending.{Ending}
use Rattle.mean_run.specs.declared.process.Process.{Process}
use Rattle.mean_program.specs.Answers.{PutPart, MeanGives}
use Rattle.mean_program.specs.Held.{Aim, TurnGives}
use Rattle.mean_program.specs.Laws.Turns.{after, turn-moves}
use Rattle.mean_program.specs.declared.end.MeanEnd.{MeanEnd}
use Rattle.mean_program.specs.declared.end.MeanFault.{MeanFault}
use Rattle.mean_program.specs.declared.turn.Turn.{Turn}
use Rattle.mean_program.specs.declared.turn.Turn.TheVariants.{Goes, Ends}
use Rattle.mean_program.proofs.Turning.{held_part}
use Rattle.mt_outside.specs.Told.{Rose}

-- what a program's run is to give
abbrev pub aim_of : {program : Program} {input : List ℕ} {work : ℕ} {o : Outcome} → Meaning program input work o → List ℕ → Aim
aim_of {program = program} {input = input} {work = work} m taken = record {
  program = program;
  result = run_program m.bound program input work;
  whole = whole_meaning m;
  before = taken;
}

-- before the first step nothing was put
pub nothing_put : (taken : List ℕ) (o : Outcome) (output : Option (List ℕ)) → output ≡ Some taken → PutPart taken o output
nothing_put taken o output is = record {
  part = [];
  put = is ∙ ap Some (sym (append-nil taken));
  begins = record { rest = o.output; is = refl };
}

-- the code went as the machine does from where it begins
pub begun_gives : {program : Program} {input : List ℕ} {work : ℕ} {o : Outcome} (m : Meaning program input work o) (taken : List ℕ)
    (p : Process) (r : Result Control Ending) (source sink : Option (List ℕ)) → source ≡ Some input → sink ≡ Some taken →
    Moves p (before program input work) r (begin program (before program input work)) →
    TurnGives (aim_of m taken) p (after r) source sink
begun_gives {program = program} {input = input} {work = work} m taken p r source sink left put moves =
    turn-moves (aim_of m taken) p r (begin program (before program input work)) (before program input work) source sink
    (run_leads m.bound program input work (whole_meaning m)) left (put ∙ ap Some (sym (append-nil taken)))
    (record { rest = (outcome_of (run_program m.bound program input work)).output; is = refl }) moves.told

-- what a run gives is what the program means
pub means_so : {program : Program} {input : List ℕ} {work : ℕ} {o : Outcome} (m : Meaning program input work o) (taken : List ℕ)
    (end : Result MeanEnd MeanFault) (source sink : Option (List ℕ)) →
    MeanGives taken (outcome_of (run_program m.bound program input work)) end source sink → MeanGives taken o end source sink
means_so m taken end source sink gives = subst (λ o. MeanGives taken o end source sink) (sym m.is) gives

-- what was put until a run is given up
part_of : (before : List ℕ) (o : Outcome) (end : Result MeanEnd MeanFault) (input output : Option (List ℕ)) →
    MeanGives before o end input output → PutPart before o output
part_of before o (Ok e) input output gives =
    record { part = o.output; put = gives.1.put; begins = record { rest = []; is = sym (append-nil o.output) } }
part_of before o (Err fault) input output gives = gives

pub turn_part : (aim : Aim) (p : Process) (t : Turn) (input output : Option (List ℕ)) → TurnGives aim p t input output →
    PutPart aim.before (outcome_of aim.result) output
turn_part aim p (Goes c) input output holds = held_part aim p c input output holds
turn_part aim p (Ends end) input output gives = part_of aim.before (outcome_of aim.result) end input output gives

-- a count that never fell before it rose
pub rises : {a b d : ℕ} → a ≤ b → Rose b d → Rose a d
rises {a = a} {b = b} {d = d} kept rose below = let more : b < d = rose below in omega arith
