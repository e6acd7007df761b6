-- An example: a comparison that branches over a move, taken and passed; so X0 is at least 10.
use Rattle.std.specs.Prelude.{◌≡◌, ◌+◌, ◌^◌, ◌<◌, nat_le, true, false, List, [], ◌∷◌, ◌++◌, refl}
use Rattle.std.proofs.Common.{arith}
use Rattle.a64_code.specs.declared.instr.Instr.{Instr}
use Rattle.a64_code.specs.declared.instr.Instr.TheVariants.{Movz}
use Rattle.a64_code.specs.State.{State}
use Rattle.a64_laws.specs.Forms.{x0, next, puts_register, puts_flags, puts_pc}
use Rattle.a64_laws.specs.Branches.{Forward}
use Rattle.a64_laws.specs.Relations.{HigherOrSame}
use Rattle.a64_laws.specs.Runs.{Runs}
use Rattle.a64_laws.specs.Sequences.{WithNumber, comparison_branch}
use Rattle.a64_laws.specs.Laws.Comparisons.{comparison-taken, comparison-passed}
use Rattle.a64_laws.specs.Laws.Results.{constant_moved}
use Rattle.a64_laws.specs.Laws.Runs.{RunsFrom-front, Runs-one, Runs-append}

abbrev compares : List Instr
compares = comparison_branch HigherOrSame true (WithNumber 10) x0 (Forward 2)

abbrev moves : List Instr
moves = Movz true 0 10 x0 ∷ []

-- 10 and more stays
stays : (s : State) → s.register 0 < 2 ^ 64 → s.pc + 12 < 2 ^ 64 → nat_le 10 (s.register 0) ≡ true →
    (t : State) × Runs (compares ++ moves) 2 s t × (t.register 0 ≡ s.register 0)
unfolding puts_flags puts_pc
stays s fits pc more = (
  _,
  record {
    steps = RunsFrom-front compares moves s.pc 2 s _ (comparison-taken HigherOrSame true (WithNumber 10) x0 (Forward 2) s (omega arith)
        (omega arith) fits (omega (arith, pc)) (omega arith, omega (arith, pc)) more);
    pc = omega arith;
  },
  refl,
)

-- less becomes 10
raised : (s : State) → s.register 0 < 2 ^ 64 → s.pc + 12 < 2 ^ 64 → nat_le 10 (s.register 0) ≡ false →
    (t : State) × Runs (compares ++ moves) 3 s t × (t.register 0 ≡ 10)
unfolding next puts_register puts_flags
raised s fits pc less = (
  _,
  Runs-append (comparison-passed HigherOrSame true (WithNumber 10) x0 (Forward 2) s (omega arith) (omega arith) fits
      (omega (arith, pc)) less)
      (Runs-one (constant_moved 10 x0 _ (omega arith)) refl (omega (arith, pc))),
  refl,
)
