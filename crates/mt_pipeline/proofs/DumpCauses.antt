-- The answers of the command `dump`, from their causes.
use Rattle.std.proofs.Common.{◌≡◌, ◌⊎◌, ℕ, List, Some, refl, sym, ap, subst, inl, inr}
use Rattle.mt_outside.specs.Told.{Rose}
use Rattle.memtag_dump.specs.Lines.{HasText}
use Rattle.memtag_dump.specs.Refusal.{HasNoText, number_of, place_of}
use Rattle.memtag_dump.specs.Laws.OneText.{one_text, one_fault, no_fault}
use Rattle.memtag_dump.specs.declared.refusal.DumpRefusal.{DumpRefusal}
use Rattle.memtag_dump.specs.declared.refusal.DumpRefusal.TheVariants.{NoMemory as DumpNoMemory}
use Rattle.mt_pipeline.specs.Dump.{CauseOfDump, put, put_failed, refused, unread, no_memory, Dumps}
use Rattle.mt_answers.specs.Put.{Output, PutsAll, with_output, IsPut, all, part}
use Rattle.mt_answers.specs.Counted.{UncountedReads}
use Rattle.mt_answers.specs.Answer.{IsAnswerTo, ended_of}
use Rattle.mt_answers.specs.Read.{CauseOfNoBytes}
use Rattle.mt_pipeline.specs.Undumped.{answer_to_dump}
use Rattle.mt_answers.specs.declared.answer.Answer.{Answer}
use Rattle.mt_answers.specs.Seen.{FilesSeen, MayHold, bytes_of, ReadFailed, SameFiles}
use Rattle.mt_answers.specs.Status.{ends}
use Rattle.mt_answers.specs.declared.ended.Ended.{Ended}
use Rattle.mt_answers.specs.declared.ended.Why.TheVariants.{Done, BadImage, NoMemory, Usage}
use Rattle.mt_answers.specs.Laws.SameBytes.{same_bytes, not_unread}
use Rattle.mt_answers.specs.Laws.Answering.{answered, unread_not_usage}

module _ {K : Type 0} (file : List ℕ) (before after : FilesSeen) (out now : Output K) where
  dump_prints : {ended : Ended} → CauseOfDump file (with_output before out) (with_output after now) ended → (bytes text : List ℕ) →
      bytes_of before file ≡ Some bytes → HasText bytes text →
      ¬ ReadFailed before after → ¬ Rose out.faults now.faults → ((ended ≡ ends Done) × PutsAll text out now) ⊎ (ended ≡ ends NoMemory)
  dump_prints (put read found may has puts) bytes text holds is no_read no_put =
      let same : read ≡ bytes = same_bytes before file bytes read holds may in
      inl (refl, subst (λ t. PutsAll t out now) (one_text bytes found text (subst (λ b. HasText b found) same has) is) puts)
  dump_prints (put_failed read found may has puts) bytes text holds is no_read no_put = absurd (no_put puts.failed)
  dump_prints (refused read fault may none silent) bytes text holds is no_read no_put =
      absurd (no_fault bytes text fault is (subst (λ b. HasNoText b fault) (same_bytes before file bytes read holds may) none))
  dump_prints (unread cause silent) bytes text holds is no_read no_put =
      absurd (not_unread 0 file bytes before after cause holds no_read)
  dump_prints (no_memory silent) bytes text holds is no_read no_put = inr refl

  dump_refuses : {ended : Ended} → CauseOfDump file (with_output before out) (with_output after now) ended
      → (bytes : List ℕ) (fault : DumpRefusal) →
      bytes_of before file ≡ Some bytes →
      HasNoText bytes fault → ¬ ReadFailed before after → (ended ≡ ends (BadImage 0 (number_of fault) (place_of fault))) ⊎
      (ended ≡ ends NoMemory)
  dump_refuses (put read found may has puts) bytes fault holds is no_read =
      absurd (no_fault bytes found fault (subst (λ b. HasText b found) (same_bytes before file bytes read holds may) has) is)
  dump_refuses (put_failed read found may has puts) bytes fault holds is no_read =
      absurd (no_fault bytes found fault (subst (λ b. HasText b found) (same_bytes before file bytes read holds may) has) is)
  dump_refuses (refused read first may none silent) bytes fault holds is no_read =
      let same : first ≡ fault = one_fault bytes first fault (subst (λ b. HasNoText b first)
      (same_bytes before file bytes read holds may) none) is in
      inl (ap (λ f. ends (BadImage 0 (number_of f) (place_of f))) same)
  dump_refuses (unread cause silent) bytes fault holds is no_read = absurd (not_unread 0 file bytes before after cause holds no_read)
  dump_refuses (no_memory silent) bytes fault holds is no_read = inr refl

  -- A cause is the whole of the answer.
  pub dump_answers : (ended : Ended) → CauseOfDump file (with_output before out) (with_output after now) ended → SameFiles before after →
      UncountedReads before after ended.why →
      Dumps file (with_output before out) (with_output after now) ended
  dump_answers ended cause files counts = record {
    prints = λ bytes text holds is no_read no_put. dump_prints cause bytes text holds is no_read no_put;
    refuses = λ bytes fault holds is no_read. dump_refuses cause bytes fault holds is no_read;
    cause = cause;
    files = files;
    counts = counts;
  }

  pub dump_not_usage : {ended : Ended} → CauseOfDump file (with_output before out) (with_output after now) ended → ended.why ≡ Usage → ⊥
  dump_not_usage (put read found may has puts) e = cc
  dump_not_usage (put_failed read found may has puts) e = cc
  dump_not_usage (refused read fault may none silent) e = cc
  dump_not_usage (unread cause silent) e = unread_not_usage 0 file before after cause e
  dump_not_usage (no_memory silent) e = cc

  -- it was not read, or memory was wanting
  pub dump_unread : (answer : Answer) → IsAnswerTo (CauseOfNoBytes 0 file before after) answer → now ≡ out →
      CauseOfDump file (with_output before out) (with_output after now) (ended_of answer)
  dump_unread answer cause silent =
      answered (CauseOfDump file (with_output before out) (with_output after now)) (CauseOfNoBytes 0 file before after) answer cause
      (no_memory silent) (λ why not. unread not silent)

  pub dump_put : (bytes text : List ℕ) (answer : Answer) → MayHold before file bytes → HasText bytes text → IsPut text out now answer →
      CauseOfDump file (with_output before out) (with_output after now) (ended_of answer)
  dump_put bytes text _ may has (all puts) = put bytes text may has puts
  dump_put bytes text _ may has (part puts) = put_failed bytes text may has puts

  -- a refusal is the want of memory, or that of a file that has no text
  pub dump_refused : (bytes : List ℕ) (refusal : DumpRefusal) → MayHold before file bytes → now ≡ out →
      (refusal ≡ DumpNoMemory) ⊎ HasNoText bytes refusal →
      CauseOfDump file (with_output before out) (with_output after now) (ended_of (answer_to_dump refusal))
  dump_refused bytes refusal may silent (inl wanting) =
      subst (λ r. CauseOfDump file (with_output before out) (with_output after now) (ended_of (answer_to_dump r))) (sym wanting)
      (no_memory silent)
  dump_refused bytes DumpNoMemory may silent (inr none) = no_memory silent
  dump_refused bytes refusal may silent (inr none) = refused bytes refusal may none silent
