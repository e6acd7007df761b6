-- The answers of the command `link`, from their causes.
use Rattle.std.proofs.Common.{◌≡◌, ◌⊎◌, ℕ, List, refl, ap, inl, inr}
use Rattle.elf_obj.specs.Object.{Object}
use Rattle.mt_answers.specs.Counted.{Uncounted}
use Rattle.mt_answers.specs.Laws.Answering.{stop_not_usage}
use Rattle.mt_answers.specs.Seen.{FilesSeen, IsTold, ReadFailed, WriteFailed}
use Rattle.mt_answers.specs.Status.{ends}
use Rattle.mt_answers.specs.declared.ended.Ended.{Ended}
use Rattle.mt_answers.specs.declared.ended.Why.{Why}
use Rattle.mt_answers.specs.declared.ended.Why.TheVariants.{Done, NoMemory, Usage}
use Rattle.mt_link.specs.Link.{CauseOfLink, written, write_failed, unlinked, no_memory, WritesLinked, AreObjects, AreAccepted}
use Rattle.mt_link.specs.Link.{RefusesObject, bad_object, object_step, NotLinked, no_object, no_image}
use Rattle.mt_link.specs.Laws.OneLinked.{accepted_or_not, linked_or_not, one_reason}

object_not_usage : (number : ℕ) (bytes : List ℕ) (why : Why) → RefusesObject number bytes why → why ≡ Usage → ⊥
object_not_usage number bytes _ (bad_object refusal fault) is = cc

unlinked_not_usage : (files : List (List ℕ)) (before after : FilesSeen) (why : Why) → NotLinked files before after why → why ≡ Usage → ⊥
unlinked_not_usage files before after why (no_object stops) is =
    stop_not_usage object_step before after (λ number bytes w refuses. object_not_usage number bytes w refuses) 0 files why stops is
unlinked_not_usage files before after _ (no_image objects refusal are fault) is = cc

module _ (files : List (List ℕ)) (out : List ℕ) (before after : FilesSeen) where
  link_done : {ended : Ended} → CauseOfLink files out before after ended → (objects : List Object) → IsTold before →
      AreObjects before files objects → AreAccepted objects → ¬ ReadFailed before after → ¬ WriteFailed before after →
      (ended ≡ ends Done) ⊎ (ended ≡ ends NoMemory)
  link_done (written image bytes is file writes) objects told are accepted reads no_fault = inl refl
  link_done (write_failed image is rose others) objects told are accepted reads no_fault = absurd (no_fault rose)
  link_done (unlinked {why} not same) objects told are accepted reads no_fault =
      absurd (accepted_or_not files before after told reads objects why are accepted not)
  link_done (no_memory same) objects told are accepted reads no_fault = inr refl

  link_refuses : {ended : Ended} → CauseOfLink files out before after ended → (why : Why) → IsTold before →
      NotLinked files before after why → ¬ ReadFailed before after → (ended ≡ ends why) ⊎ (ended ≡ ends NoMemory)
  link_refuses (written image bytes is file writes) why told not reads =
      absurd (linked_or_not files before after told reads image why is not)
  link_refuses (write_failed image is rose others) why told not reads =
      absurd (linked_or_not files before after told reads image why is not)
  link_refuses (unlinked {why = first} fault same) why told not reads =
      inl (ap ends (one_reason files before after told reads first why fault not))
  link_refuses (no_memory same) why told not reads = inr refl

  -- A cause is the whole of the answer.
  pub link_answers : (ended : Ended) → CauseOfLink files out before after ended → Uncounted before after ended.why →
      WritesLinked files out before after ended
  link_answers ended cause counts = record {
    links = λ objects told are accepted reads writes. link_done cause objects told are accepted reads writes;
    refuses = λ why told not reads. link_refuses cause why told not reads;
    cause = cause;
    counts = counts;
  }

  pub link_not_usage : {ended : Ended} → CauseOfLink files out before after ended → ended.why ≡ Usage → ⊥
  link_not_usage (written image bytes is file writes) e = cc
  link_not_usage (write_failed image is rose others) e = cc
  link_not_usage (unlinked {why} not same) e = unlinked_not_usage files before after why not e
  link_not_usage (no_memory same) e = cc
