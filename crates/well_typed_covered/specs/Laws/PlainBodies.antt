-- A body without what has no code yet: all its expressions are covered (this project's own).
use Rattle.std.specs.Prelude.{◌≡◌, Bool, true, false, not, ◌||◌, Some}
use Rattle.c_type_base.specs.declared.typed.TFunction.{TFunction}
use Rattle.block_meaning.specs.Linkage.{function_named}
use Rattle.block_meaning.specs.Running as running
use Rattle.well_typed_order.specs.WellTypedPrograms.{WellTypedProgram}
use Rattle.code_follows.specs.Covered.{covered}
use Rattle.well_typed_covered.specs.CoveredBodies.{covered_if_plain}
use Rattle.well_typed_covered.specs.Everywhere.{each_in}
use Rattle.well_typed_covered.specs.Laws.Everywhere.{each-follows}
use Rattle.well_typed_covered.specs.Laws.Programs.{ConstantsFit, program-covered}
use Rattle.well_typed_covered.specs.Plain.{is_plain}

by_test : (plain covers : Bool) → (not plain || covers) ≡ true → plain ≡ true → covers ≡ true
by_test true covers or is = or
by_test false covers or is = absurd cc

-- Each expression in the body of a well-typed program's function is covered, if all are plain, and the constants of the texts fit.
pub program-plain-covered : (program : running.Program) (well : WellTypedProgram program) → ConstantsFit program well →
    (name : running.Function) (f : TFunction) → function_named program.units name ≡ Some f → each_in is_plain f.body ≡ true →
    each_in covered f.body ≡ true
program-plain-covered program well fits name f there plain =
    each-follows covered_if_plain is_plain covered (λ e. by_test (is_plain e) (covered e)) f.body
    (program-covered program well fits name f there) plain
