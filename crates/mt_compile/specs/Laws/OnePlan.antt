-- A text has one typed program, or one refusal, and not both; and so it is for the lines that tell its frames.
use Rattle.std.proofs.Common.{◌≡◌, ℕ, List, ap}
use Rattle.c_ast.specs.declared.program.Program.{Program}
use Rattle.c_ast.specs.declared.token.Span.{Span}
use Rattle.c_type_base.specs.declared.typed.Typed.{Typed}
use Rattle.c_type_expr.specs.declared.fault.Fault.{Fault}
use Rattle.c_types.specs.Refusal.{refusal_of}
use Rattle.c_types.specs.WellTyped.{WellTyped, FirstBroken}
use Rattle.c_types.specs.Laws.WellTypedLaws.{one_typed, one_first_broken, not_both}
use Rattle.frame_plan.specs.Refusal.{HasText, HasNoText, place_of}
use Rattle.frame_plan.specs.Laws.OneText.{one_text, one_fault, no_fault, sized_text}
use Rattle.frame_plan.specs.Lines.{lines}
use Rattle.frame_plan.specs.declared.refusal.PlanRefusal.{PlanRefusal}
use Rattle.mt_compile.specs.declared.refusal.CompileRefusal.{CompileRefusal}
use Rattle.mt_compile.specs.declared.refusal.CompileRefusal.TheVariants.{Types, Plan}
use Rattle.mt_compile.specs.Refused.{ReadRefuses}
use Rattle.mt_compile.specs.Typed.{IsTyped, TypeRefuses, not_read, broken}
use Rattle.mt_compile.specs.Planned.{HasFile, HasPlan, PlanRefuses, not_typed, unplanned}
use Rattle.mt_compile.specs.Source.{SpelledBy}
use Rattle.mt_compile.specs.Laws.OneRefusal.{AreOne, reading}
use Rattle.mt_compile.specs.Laws.OneWay.{OneWay, GoesOn, Stops, at_first, behind, in_turn, led_by}

-- ---- the types of a program, or the rule that it breaks first

data TypesStop (program : Program) : CompileRefusal → ℕ → Type 0 where
  breaks : (number : ℕ) (span : Span) → FirstBroken program number span → TypesStop program (Types (refusal_of number span)) span.start

types_once : (program : Program) (r s : CompileRefusal) (p q : ℕ) → TypesStop program r p → TypesStop program s q → (r ≡ s) × (p ≡ q)
types_once program _ _ _ _ (breaks m s first) (breaks n t second) =
    let same = one_first_broken program m n s t first second in
    (ap (λ (f : Fault). Types (refusal_of f.number f.span)) same, ap (λ (f : Fault). f.span.start) same)

types_never : (program : Program) (typed : Typed) (r : CompileRefusal) (p : ℕ) → WellTyped program typed → TypesStop program r p → ⊥
types_never program typed _ _ well (breaks number span first) = not_both program typed number span well first

typing : (program : Program) → OneWay (WellTyped program) (TypesStop program)
typing program = record { gives_one = one_typed program; refuses_one = types_once program; never_both = types_never program }

abbrev TypedGives : List ℕ → Typed → Type 0
TypedGives text = GoesOn (SpelledBy text) WellTyped

abbrev TypedStops : List ℕ → CompileRefusal → ℕ → Type 0
TypedStops text = Stops (SpelledBy text) (ReadRefuses text) TypesStop

is_given : {text : List ℕ} {typed : Typed} → IsTyped text typed → TypedGives text typed
is_given is = record { between = is.program; first = is.spelled; second = is.well }

is_stopped : {text : List ℕ} {refusal : CompileRefusal} {byte : ℕ} → TypeRefuses text refusal byte → TypedStops text refusal byte
is_stopped (not_read refuses) = at_first refuses
is_stopped (broken program number span spelled first) = behind program spelled (breaks number span first)

-- A text has one typed program, or one refusal, and not both.
pub typed_way : (text : List ℕ) → OneWay (IsTyped text) (TypeRefuses text)
typed_way text =
    led_by (in_turn (SpelledBy text) (ReadRefuses text) WellTyped TypesStop (reading text) typing) (λ typed is. is_given is)
    (λ refusal byte refuses. is_stopped refuses)

-- ---- the lines of a typed program, or why it has none

data LinesStop (typed : Typed) : CompileRefusal → ℕ → Type 0 where
  stops : (fault : PlanRefusal) → HasNoText typed fault → LinesStop typed (Plan fault) (place_of fault)

lines_once : (typed : Typed) (r s : CompileRefusal) (p q : ℕ) → LinesStop typed r p → LinesStop typed s q → (r ≡ s) × (p ≡ q)
lines_once typed _ _ _ _ (stops fault first) (stops other second) =
    let same = one_fault typed fault other first second in
    (ap Plan same, ap place_of same)

lines_never : (typed : Typed) (lines : List ℕ) (r : CompileRefusal) (p : ℕ) → HasText typed lines → LinesStop typed r p → ⊥
lines_never typed lines _ _ has (stops fault none) = no_fault typed lines fault has none

planning : (typed : Typed) → OneWay (HasText typed) (LinesStop typed)
planning typed = record { gives_one = one_text typed; refuses_one = lines_once typed; never_both = lines_never typed }

abbrev PlanGives : List ℕ → List ℕ → Type 0
PlanGives text = GoesOn (IsTyped text) HasText

abbrev PlanStops : List ℕ → CompileRefusal → ℕ → Type 0
PlanStops text = Stops (IsTyped text) (TypeRefuses text) LinesStop

plan_given : {text lines : List ℕ} → HasPlan text lines → PlanGives text lines
plan_given has = record { between = has.typed; first = has.is; second = has.lines_are }

plan_stopped : {text : List ℕ} {refusal : CompileRefusal} {byte : ℕ} → PlanRefuses text refusal byte → PlanStops text refusal byte
plan_stopped (not_typed refuses) = at_first refuses
plan_stopped (unplanned typed fault is none) = behind typed is (stops fault none)

-- A text has the lines of one plan, or one refusal, and not both.
pub plan_way : (text : List ℕ) → OneWay (HasPlan text) (PlanRefuses text)
plan_way text =
    led_by (in_turn (IsTyped text) (TypeRefuses text) HasText LinesStop (typed_way text) planning) (λ lines has. plan_given has)
    (λ refusal byte refuses. plan_stopped refuses)

-- ---- the laws of plans

-- the lines of a text's plan are one text
pub one_plan : {text lines other : List ℕ} → HasPlan text lines → HasPlan text other → lines ≡ other
one_plan {text} {lines} {other} first second = (plan_way text).gives_one lines other first second

-- two refusals of one text are the same, at the same byte
pub one_plan_refusal : {text : List ℕ} {refusal other : CompileRefusal} {byte place : ℕ} → PlanRefuses text refusal byte →
    PlanRefuses text other place → AreOne refusal other byte place
one_plan_refusal {text} {refusal} {other} {byte} {place} first second =
    let one = (plan_way text).refuses_one refusal other byte place first second in
    record { same = one.0; there = one.1 }

-- and no text has both
pub no_plan : {text lines : List ℕ} {refusal : CompileRefusal} {byte : ℕ} → HasPlan text lines → PlanRefuses text refusal byte → ⊥
no_plan {text} {lines} {refusal} {byte} has refuses = (plan_way text).never_both lines refusal byte has refuses

-- ---- the laws of typed files

-- a text that has a typed file has a plan
pub file_plan : {text : List ℕ} {program : Program} {typed : Typed} {sizes : List ℕ} → HasFile text program typed sizes →
    HasPlan text (lines typed)
file_plan {program = program} {typed = typed} {sizes = sizes} has = record {
  typed = typed;
  is = record { program = program; spelled = has.spelled; well = has.well };
  lines_are = sized_text typed sizes has.sizes_are;
}

-- so it has no refusal
pub no_file : {text : List ℕ} {program : Program} {typed : Typed} {sizes : List ℕ} {refusal : CompileRefusal} {byte : ℕ} →
    HasFile text program typed sizes → PlanRefuses text refusal byte → ⊥
no_file has refuses = no_plan (file_plan has) refuses

-- a text has one program
pub one_program : {text : List ℕ} {program other : Program} → SpelledBy text program → SpelledBy text other → program ≡ other
one_program {text} {program} {other} first second = (reading text).gives_one program other first second
