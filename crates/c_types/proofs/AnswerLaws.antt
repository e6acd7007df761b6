-- The answer of a walk over the whole program.
use Rattle.std.proofs.Common.{◌≡◌, refl, sym, ◌∙◌, ap, subst, inl, inr, List, Some, None}
use Rattle.std.specs.Prelude.{Ok, Err}
use Rattle.c_ast.specs.declared.program.Program.{Program}
use Rattle.c_type_base.specs.declared.typed.ExternInfo.{ExternInfo}
use Rattle.c_type_base.specs.declared.typed.GlobalInfo.{GlobalInfo}
use Rattle.c_type_base.specs.declared.typed.TFunction.{TFunction}
use Rattle.c_type_base.specs.declared.typed.Typed.{Typed}
use Rattle.c_type_expr.specs.declared.fault.Fault.{Fault}
use Rattle.c_type_expr.specs.declared.walk.Walk.{Walk}
use Rattle.c_type_expr.specs.Environment.{Env}
use Rattle.c_type_expr.specs.Laws.LeastLaws.{found_first, found_none}
use Rattle.c_types.specs.declared.file_walk.FileWalk.{FileWalk}
use Rattle.c_types.specs.declared.refusal.TypeRefusal.{TypeRefusal}
use Rattle.c_types.specs.declared.refusal.TypeRefusal.TheVariants as refusal
use Rattle.c_types.specs.Files.{FileNames, file_names}
use Rattle.c_types.specs.Ordered.{globals_by, functions_by, externs_by}
use Rattle.c_types.specs.Recalled.{Recalls}
use Rattle.c_types.specs.Redeclarations.{Declared}
use Rattle.c_types.specs.Refusal.{refusal_of, IsAnswer}
use Rattle.c_types.specs.Standing.{Stands, FileStands}
use Rattle.c_types.specs.Starting.{first_walk}
use Rattle.c_types.specs.Units.{Judgement, start, judged, typed_by}
use Rattle.c_types.specs.WellTyped.{WellTyped, FirstBroken}
use Rattle.c_types.specs.Laws.WellTypedLaws.{not_both, one_typed, one_first_broken}

pub start_stands : Stands first_walk start
start_stands = record { env_is = refl; texts_are = refl; locals_are = refl; first_is = refl }

pub answer_none : (program : Program) → IsAnswer program (Err refusal.NoMemory)
answer_none program = record {
  typed = tt;
  refused = inl refl;
  all = λ typed well. refl;
  first_broken = λ number span first. inr refl;
}

refused_by : (program : Program) (f : Fault) → FirstBroken program f.number f.span → IsAnswer program (Err (refusal_of f.number f.span))
refused_by program f first = record {
  typed = tt;
  refused = inr (record { number = f.number; span = f.span; first = first; is = refl });
  all = λ typed well. absurd (not_both program typed f.number f.span well first);
  first_broken = λ number span other. inl (ap (λ (g : Fault). refusal_of g.number g.span)
      (one_first_broken program f.number number f.span span first other));
}

pub answer_broken : (program : Program) (w : Walk) (f : Fault) (r : TypeRefusal) → w.first ≡ Some f → Stands w (judged program) →
    r ≡ refusal_of f.number f.span → IsAnswer program (Err r)
answer_broken program w f r is stands refused =
    subst (λ x. IsAnswer program (Err x)) (sym refused)
    (refused_by program f (found_first (judged program).faults f (sym stands.first_is ∙ is)))

typed_as : (program : Program) (typed : Typed) → WellTyped program typed → IsAnswer program (Ok typed)
typed_as program typed well = record {
  typed = well;
  refused = tt;
  all = λ other same. one_typed program typed other well same;
  first_broken = λ number span first. absurd (not_both program typed number span well first);
}

pub answer_typed : (program : Program) (w : Walk) (typed : Typed) → w.first ≡ None → Stands w (judged program) →
    typed ≡ typed_by (file_names program) (judged program) → IsAnswer program (Ok typed)
answer_typed program w typed none stands is =
    typed_as program typed (record { kept = found_none (judged program).faults (sym stands.first_is ∙ none); typed_is = is })

-- ---- what was found, in order

pub typed_made : (names : FileNames) (f : FileWalk) (gs : List GlobalInfo) (fs : List TFunction) (es : List ExternInfo) →
    gs ≡ globals_by names.globals f.globals → fs ≡ functions_by names.functions f.functions →
    ((ds : List Declared) → Recalls f.declared ds → es ≡ externs_by names.externs ds) → (j : Judgement) → FileStands f j →
    record { structs = f.walk.structs; globals = gs; functions = fs; externs = es; texts = f.walk.texts } ≡ typed_by names j
typed_made names f gs fs es globals functions externs j stands = λ i. record {
  structs = ap (λ (e : Env). e.structs) stands.walk_stands.env_is i;
  globals = (globals ∙ ap (globals_by names.globals) stands.globals_are) i;
  functions = (functions ∙ ap (functions_by names.functions) stands.functions_are) i;
  externs = externs j.declared stands.recalls i;
  texts = stands.walk_stands.texts_are i;
}
