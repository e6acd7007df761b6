-- What answers say of their causes, and that no file that gave nothing is answered by usage.
use Rattle.std.proofs.Common.{◌≡◌, ℕ, suc, List, sym, subst, inl, inr}
use Rattle.mt_answers.specs.Answer.{IsAnswerTo, ended_of}
use Rattle.mt_answers.specs.Each.{Step, StopsAt, Stops, unread, refused, here, later, file_number}
use Rattle.mt_answers.specs.Read.{CauseOfNoBytes, absent, failed}
use Rattle.mt_answers.specs.Seen.{FilesSeen}
use Rattle.mt_answers.specs.Status.{ends}
use Rattle.mt_answers.specs.declared.answer.Answer.{Answer}
use Rattle.mt_answers.specs.declared.ended.Ended.{Ended}
use Rattle.mt_answers.specs.declared.ended.Why.{Why}
use Rattle.mt_answers.specs.declared.ended.Why.TheVariants.{NoMemory, Usage}

-- ---- causes

-- an answer to one cause is an answer to what it leads to
pub because : {Cause Other : Why → Type 0} {answer : Answer} → ((why : Why) → Cause why → Other why) → IsAnswerTo Cause answer →
    IsAnswerTo Other answer
because leads (inl wanting) = inl wanting
because leads (inr (why, is, cause)) = inr (why, is, leads why cause)

-- what is said of the want of memory and of each cause is said of the answer
pub answered : (P : Ended → Type 0) (Cause : Why → Type 0) (answer : Answer) → IsAnswerTo Cause answer → P (ends NoMemory) →
    ((why : Why) → Cause why → P (ends why)) → P (ended_of answer)
answered P Cause answer (inl wanting) memory each = subst (λ a. P (ended_of a)) (sym wanting) memory
answered P Cause answer (inr (why, is, cause)) memory each = subst P (sym is) (each why cause)

-- ---- files that gave nothing

-- a file that was not read is no usage
pub unread_not_usage : (number : ℕ) (file : List ℕ) (before after : FilesSeen) {why : Why} → CauseOfNoBytes number file before after why →
    why ≡ Usage → ⊥
unread_not_usage number file before after (absent none) is = cc
unread_not_usage number file before after (failed rose) is = cc

-- nor is one of which nothing was made, where no refusal is one
stop_at_not_usage : {B : Type 0} (step : Step B) (before after : FilesSeen) →
    ((number : ℕ) (bytes : List ℕ) (why : Why) → step.Refuses number bytes why → why ≡ Usage → ⊥) →
    (number : ℕ) (file : List ℕ) (why : Why) → StopsAt step number file before after why → why ≡ Usage → ⊥
stop_at_not_usage step before after never number file why (unread cause) is = unread_not_usage number file before after cause is
stop_at_not_usage step before after never number file why (refused bytes holds refuses) is = never number bytes why refuses is

pub stop_not_usage : {B : Type 0} (step : Step B) (before after : FilesSeen) →
    ((number : ℕ) (bytes : List ℕ) (why : Why) → step.Refuses number bytes why → why ≡ Usage → ⊥) →
    (n : ℕ) (files : List (List ℕ)) (why : Why) → Stops step before after n files why → why ≡ Usage → ⊥
stop_not_usage step before after never n _ why (here {file} stops) is =
    stop_at_not_usage step before after never (file_number n) file why stops is
stop_not_usage step before after never n _ why (later {files} made one stops) is =
    stop_not_usage step before after never (suc n) files why stops is
