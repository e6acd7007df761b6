-- A program is well typed, or has a first rule that is broken, and never both; it is one typed program at most, and one rule is broken
-- first.
use Rattle.std.proofs.Common.{◌≡◌, refl, sym, ◌∙◌, subst, ℕ, List, [], ◌∷◌}
use Rattle.c_ast.specs.declared.token.Span.{Span}
use Rattle.c_ast.specs.declared.program.Program.{Program}
use Rattle.c_type_base.specs.declared.typed.Typed.{Typed}
use Rattle.c_type_expr.specs.declared.fault.Fault.{Fault}
use Rattle.c_type_expr.specs.Faults.{fault, IsFirst}
use Rattle.c_types.specs.Files.{file_names}
use Rattle.c_types.specs.Units.{judged, typed_by}
use Rattle.c_types.specs.WellTyped.{WellTyped, FirstBroken}
use Rattle.c_type_expr.specs.Laws.FirstLaws.{one_first, no_first, some_first}

-- a program with its types, or the first rule that it breaks
pub data Verdict (program : Program) : Type 0 where
  well_typed : (typed : Typed) → WellTyped program typed → Verdict program
  broken_first : (number : ℕ) (span : Span) → FirstBroken program number span → Verdict program

by_faults : (program : Program) (fs : List Fault) → (judged program).faults ≡ fs → Verdict program
by_faults program [] is = well_typed (typed_by (file_names program) (judged program)) (record { kept = is; typed_is = refl })
by_faults program (f ∷ fs) is =
    let first = some_first f fs in
    broken_first first.0.number first.0.span (subst (λ fs. IsFirst fs first.0) (sym is) first.1)

-- each program has one of the two
pub verdict : (program : Program) → Verdict program
verdict program = by_faults program (judged program).faults refl

-- and none has both
pub not_both : (program : Program) (typed : Typed) (number : ℕ) (span : Span) → WellTyped program typed →
    FirstBroken program number span → ⊥
not_both program typed number span well first =
    no_first (fault number span) (subst (λ fs. IsFirst fs (fault number span)) well.kept first)

pub one_typed : (program : Program) (s t : Typed) → WellTyped program s → WellTyped program t → s ≡ t
one_typed program s t a b = a.typed_is ∙ sym b.typed_is

-- the number and the span of the first broken rule, as one fault
pub one_first_broken : (program : Program) (m n : ℕ) (s t : Span) → FirstBroken program m s → FirstBroken program n t →
    fault m s ≡ fault n t
one_first_broken program m n s t a b = one_first (judged program).faults (fault m s) (fault n t) a b
