-- Why a text is not compiled, has no types and has no plan: the want of memory, what its parts say, or a rule of its own.
use Rattle.std.proofs.Common.{◌≡◌, ◌⊎◌, ℕ, List, Bool, true, false, inl, inr, refl, sym, subst}
use Rattle.std.specs.Prelude.{nat_eq, if◌then◌else◌}
use Rattle.c_ast.specs.declared.program.Program.{Program}
use Rattle.c_ast.specs.declared.token.Span.{Span}
use Rattle.c_type_base.specs.declared.typed.Typed.{Typed}
use Rattle.c_types.specs.Refusal.{IsCause as IsTypesCause, refusal_of}
use Rattle.c_types.specs.declared.refusal.TypeRefusal.{TypeRefusal}
use Rattle.frame_plan.specs.Refusal.{HasNoText, many, large}
use Rattle.frame_plan.specs.declared.refusal.PlanRefusal.{PlanRefusal}
use Rattle.frame_plan.specs.declared.refusal.PlanRefusal.TheVariants as plan
use Rattle.mt_compile.specs.Causes.{of_types, of_plan}
use Rattle.mt_compile.specs.declared.refused.Refused.{Refused}
use Rattle.mt_compile.specs.declared.refusal.CompileRefusal.{CompileRefusal}
use Rattle.mt_compile.specs.declared.refusal.CompileRefusal.TheVariants.{Types}
use Rattle.mt_compile.specs.Refused.{IsReadCause, IsCause, unread}
use Rattle.mt_compile.specs.Typed.{IsTyped, IsTypeCause, not_read, broken}
use Rattle.mt_compile.specs.Planned.{IsPlanCause, not_typed, unplanned}
use Rattle.mt_compile.specs.Source.{SpelledBy}

-- ---- what the parts say

pub compile_unread : (text : List ℕ) (refused : Refused CompileRefusal) → IsReadCause text refused → IsCause text refused
compile_unread text refused (inl wanting) = inl wanting
compile_unread text refused (inr refuses) = inr (unread refuses)

pub types_unread : (text : List ℕ) (refused : Refused CompileRefusal) → IsReadCause text refused → IsTypeCause text refused
types_unread text refused (inl wanting) = inl wanting
types_unread text refused (inr refuses) = inr (not_read refuses)

pub plan_untyped : (text : List ℕ) (refused : Refused CompileRefusal) → IsTypeCause text refused → IsPlanCause text refused
plan_untyped text refused (inl wanting) = inl wanting
plan_untyped text refused (inr refuses) = inr (not_typed refuses)

-- ---- the rule that is broken first

-- the refusal of a rule is told with the start of this span
record IsTold (span : Span) (r : TypeRefusal) : Type 0 where
  is : of_types r ≡ record { refusal = Types r; place = span.start }

one_of : (span : Span) (test : Bool) (r s : TypeRefusal) → IsTold span r → IsTold span s → IsTold span (if test then r else s)
one_of span true r s first second = first
one_of span false r s first second = second

told : (number : ℕ) (span : Span) → IsTold span (refusal_of number span)
told number span =
    one_of span (nat_eq number 9) _ _ (record { is = refl })
    (one_of span (nat_eq number 10) _ _ (record { is = refl })
    (one_of span (nat_eq number 11) _ _ (record { is = refl })
    (one_of span (nat_eq number 12) _ _ (record { is = refl })
    (one_of span (nat_eq number 13) _ _ (record { is = refl })
    (one_of span (nat_eq number 14) _ _ (record { is = refl })
    (one_of span (nat_eq number 15) _ _ (record { is = refl })
    (one_of span (nat_eq number 16) _ _ (record { is = refl })
    (one_of span (nat_eq number 17) _ _ (record { is = refl })
    (one_of span (nat_eq number 18) _ _ (record { is = refl }) (record { is = refl }))))))))))

pub types_cause : (text : List ℕ) (program : Program) (refusal : TypeRefusal) → SpelledBy text program → IsTypesCause program refusal →
    IsTypeCause text (of_types refusal)
types_cause text program refusal spelled (inl wanting) = subst (λ r. IsTypeCause text (of_types r)) (sym wanting) (inl refl)
types_cause text program refusal spelled (inr names) =
    subst (λ r. IsTypeCause text (of_types r)) (sym names.is)
    (subst (λ (refused : Refused CompileRefusal). IsTypeCause text refused) (sym (told names.number names.span).is)
    (inr (broken program names.number names.span spelled names.first)))

-- ---- too many functions, or a frame that is too large

pub plan_cause : (text : List ℕ) (typed : Typed) (refusal : PlanRefusal) → IsTyped text typed →
    (refusal ≡ plan.NoMemory) ⊎ HasNoText typed refusal → IsPlanCause text (of_plan refusal)
plan_cause text typed refusal is (inl wanting) = subst (λ r. IsPlanCause text (of_plan r)) (sym wanting) (inl refl)
plan_cause text typed _ is (inr (many more)) = inr (unplanned typed _ is (many more))
plan_cause text typed _ is (inr (large f few first)) = inr (unplanned typed _ is (large f few first))
