-- The answers of the command `plan`, from their causes.
use Rattle.std.proofs.Common.{◌≡◌, ◌⊎◌, ℕ, List, Some, refl, sym, ap, ◌∙◌, subst, inl, inr}
use Rattle.mt_outside.specs.Told.{Rose}
use Rattle.mt_compile.specs.Planned.{HasPlan, PlanRefuses, IsPlanRefused}
use Rattle.mt_compile.specs.Refused.{number_of}
use Rattle.mt_compile.specs.Laws.OnePlan.{one_plan, one_plan_refusal, no_plan}
use Rattle.mt_compile.specs.declared.refusal.CompileRefusal.{CompileRefusal}
use Rattle.mt_compile.specs.declared.refusal.CompileRefusal.TheVariants.{NoMemory as SourceNoMemory}
use Rattle.mt_pipeline.specs.Plan.{CauseOfPlan, put, put_failed, refused, unread, no_memory, Plans}
use Rattle.mt_answers.specs.Put.{Output, PutsAll, with_output, IsPut, all, part}
use Rattle.mt_answers.specs.Counted.{UncountedReads}
use Rattle.mt_answers.specs.Answer.{IsAnswerTo, ended_of}
use Rattle.mt_answers.specs.Read.{CauseOfNoBytes}
use Rattle.mt_answers.specs.Refusals.{answer_to_source}
use Rattle.mt_answers.specs.declared.answer.Answer.{Answer}
use Rattle.mt_answers.specs.Seen.{FilesSeen, MayHold, bytes_of, ReadFailed, SameFiles}
use Rattle.mt_answers.specs.Status.{ends}
use Rattle.mt_answers.specs.declared.ended.Ended.{Ended}
use Rattle.mt_answers.specs.declared.ended.Why.TheVariants.{Done, Refused, NoMemory, Usage}
use Rattle.mt_answers.specs.Laws.SameBytes.{same_bytes, not_unread}
use Rattle.mt_answers.specs.Laws.Answering.{answered, unread_not_usage}

-- a text that is refused is refused so
plan_same : (bytes : List ℕ) (number at byte : ℕ) (refusal : CompileRefusal) → IsPlanRefused bytes number at →
    PlanRefuses bytes refusal byte → ends (Refused 0 (number_of refusal) byte) ≡ ends (Refused 0 number at)
plan_same bytes number at byte refusal is refuses =
    let one = one_plan_refusal refuses is.2 in
    let same : number_of refusal ≡ number = ap number_of one.same ∙ is.1 in
    λ i. ends (Refused 0 (same i) (one.there i))

module _ {K : Type 0} (file : List ℕ) (before after : FilesSeen) (out now : Output K) where
  plan_prints : {ended : Ended} → CauseOfPlan file (with_output before out) (with_output after now) ended → (bytes lines : List ℕ) →
      bytes_of before file ≡ Some bytes → HasPlan bytes lines →
      ¬ ReadFailed before after → ¬ Rose out.faults now.faults → ((ended ≡ ends Done) × PutsAll lines out now) ⊎ (ended ≡ ends NoMemory)
  plan_prints (put read found may has puts) bytes lines holds is no_read no_put =
      let same : read ≡ bytes = same_bytes before file bytes read holds may in
      inl (refl, subst (λ t. PutsAll t out now) (one_plan (subst (λ b. HasPlan b found) same has) is) puts)
  plan_prints (put_failed read found may has puts) bytes lines holds is no_read no_put = absurd (no_put puts.failed)
  plan_prints (refused read refusal byte may refuses silent) bytes lines holds is no_read no_put =
      absurd (no_plan is (subst (λ b. PlanRefuses b refusal byte) (same_bytes before file bytes read holds may) refuses))
  plan_prints (unread cause silent) bytes lines holds is no_read no_put =
      absurd (not_unread 0 file bytes before after cause holds no_read)
  plan_prints (no_memory silent) bytes lines holds is no_read no_put = inr refl

  plan_refuses : {ended : Ended} → CauseOfPlan file (with_output before out) (with_output after now) ended →
      (bytes : List ℕ) (number at : ℕ) → bytes_of before file ≡ Some bytes → IsPlanRefused bytes number at →
      ¬ ReadFailed before after → (ended ≡ ends (Refused 0 number at)) ⊎ (ended ≡ ends NoMemory)
  plan_refuses (put read found may has puts) bytes number at holds is no_read =
      absurd (no_plan (subst (λ b. HasPlan b found) (same_bytes before file bytes read holds may) has) is.2)
  plan_refuses (put_failed read found may has puts) bytes number at holds is no_read =
      absurd (no_plan (subst (λ b. HasPlan b found) (same_bytes before file bytes read holds may) has) is.2)
  plan_refuses (refused read refusal byte may refuses silent) bytes number at holds is no_read =
      inl (plan_same bytes number at byte refusal is
      (subst (λ b. PlanRefuses b refusal byte) (same_bytes before file bytes read holds may) refuses))
  plan_refuses (unread cause silent) bytes number at holds is no_read =
      absurd (not_unread 0 file bytes before after cause holds no_read)
  plan_refuses (no_memory silent) bytes number at holds is no_read = inr refl

  -- A cause is the whole of the answer.
  pub plan_answers : (ended : Ended) → CauseOfPlan file (with_output before out) (with_output after now) ended → SameFiles before after →
      UncountedReads before after ended.why → Plans file (with_output before out) (with_output after now) ended
  plan_answers ended cause files counts = record {
    prints = λ bytes lines holds is no_read no_put. plan_prints cause bytes lines holds is no_read no_put;
    refuses = λ bytes number byte holds is no_read. plan_refuses cause bytes number byte holds is no_read;
    cause = cause;
    files = files;
    counts = counts;
  }

  pub plan_not_usage : {ended : Ended} → CauseOfPlan file (with_output before out) (with_output after now) ended → ended.why ≡ Usage → ⊥
  plan_not_usage (put read found may has puts) e = cc
  plan_not_usage (put_failed read found may has puts) e = cc
  plan_not_usage (refused read refusal byte may refuses silent) e = cc
  plan_not_usage (unread cause silent) e = unread_not_usage 0 file before after cause e
  plan_not_usage (no_memory silent) e = cc

  -- it was not read, or memory was wanting
  pub plan_unread : (answer : Answer) → IsAnswerTo (CauseOfNoBytes 0 file before after) answer → now ≡ out →
      CauseOfPlan file (with_output before out) (with_output after now) (ended_of answer)
  plan_unread answer cause silent =
      answered (CauseOfPlan file (with_output before out) (with_output after now)) (CauseOfNoBytes 0 file before after) answer cause
      (no_memory silent) (λ why not. unread not silent)

  pub plan_put : (bytes lines : List ℕ) (answer : Answer) → MayHold before file bytes → HasPlan bytes lines → IsPut lines out now answer →
      CauseOfPlan file (with_output before out) (with_output after now) (ended_of answer)
  plan_put bytes lines _ may has (all puts) = put bytes lines may has puts
  plan_put bytes lines _ may has (part puts) = put_failed bytes lines may has puts

  -- a refusal is the want of memory, or that of the text
  pub plan_refused : (bytes : List ℕ) (refusal : CompileRefusal) (place : ℕ) → MayHold before file bytes → now ≡ out →
      (refusal ≡ SourceNoMemory) ⊎ PlanRefuses bytes refusal place →
      CauseOfPlan file (with_output before out) (with_output after now) (ended_of (answer_to_source 0 refusal place))
  plan_refused bytes refusal place may silent (inl wanting) =
      subst (λ r. CauseOfPlan file (with_output before out) (with_output after now) (ended_of (answer_to_source 0 r place))) (sym wanting)
      (no_memory silent)
  plan_refused bytes SourceNoMemory place may silent (inr refuses) = no_memory silent
  plan_refused bytes refusal place may silent (inr refuses) = refused bytes refusal place may refuses silent
