-- The frames of the functions of a text's program, as lines and as numbers of bytes, and why another text has none (this project's own).
use Rattle.std.specs.Prelude.{◌≡◌, ◌⊎◌, ℕ, List}
use Rattle.c_ast.specs.declared.program.Program.{Program}
use Rattle.c_type_base.specs.declared.typed.Typed.{Typed}
use Rattle.c_types.specs.WellTyped.{WellTyped}
use Rattle.frame_plan.specs.Refusal.{HasText, HasSizes, HasNoText, place_of}
use Rattle.frame_plan.specs.declared.refusal.PlanRefusal.{PlanRefusal}
use Rattle.mt_compile.specs.Refused.{number_of}
use Rattle.mt_compile.specs.Source.{SpelledBy}
use Rattle.mt_compile.specs.Typed.{IsTyped, TypeRefuses}
use Rattle.mt_compile.specs.declared.refused.Refused.{Refused}
use Rattle.mt_compile.specs.declared.refusal.CompileRefusal.{CompileRefusal}
use Rattle.mt_compile.specs.declared.refusal.CompileRefusal.TheVariants.{Plan, NoMemory}

-- the text has a typed program, and these are the lines that tell the frames of its functions
pub record HasPlan (text lines : List ℕ) : Type 0 where
  pub typed : Typed
  pub is : IsTyped text typed
  pub lines_are : HasText typed lines

-- The text spells a program that keeps the rules on types, with these types, and with functions whose frames have so many bytes.
pub record HasFile (text : List ℕ) (program : Program) (typed : Typed) (sizes : List ℕ) : Type 0 where
  pub spelled : SpelledBy text program
  pub well : WellTyped program typed
  pub sizes_are : HasSizes typed sizes

-- The text has neither such lines nor such sizes: it has no typed program, or one with too many functions or a frame that is too large.
pub data PlanRefuses (text : List ℕ) : CompileRefusal → ℕ → Type 0 where
  not_typed : {refusal : CompileRefusal} {byte : ℕ} → TypeRefuses text refusal byte → PlanRefuses text refusal byte
  unplanned : (typed : Typed) (fault : PlanRefusal) → IsTyped text typed → HasNoText typed fault →
      PlanRefuses text (Plan fault) (place_of fault)

-- the text is refused with this number, at this byte
abbrev pub IsPlanRefused : List ℕ → ℕ → ℕ → Type 0
IsPlanRefused text number byte = (refusal : CompileRefusal) × (number_of refusal ≡ number) × PlanRefuses text refusal byte

-- memory is wanting, or the text is refused so
abbrev pub IsPlanCause : List ℕ → Refused CompileRefusal → Type 0
IsPlanCause text refused = (refused.refusal ≡ NoMemory) ⊎ PlanRefuses text refused.refusal refused.place
