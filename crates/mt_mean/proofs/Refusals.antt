-- What is answered to the refusal of a source.
use Rattle.std.proofs.Common.{◌≡◌, ◌⊎◌, ℕ, List, refl, inl, inr}
use Rattle.mt_answers.specs.Answer.{IsAnswerTo, ended_of}
use Rattle.mt_answers.specs.Counted.{IsReadFault}
use Rattle.mt_answers.specs.Refusals.{answer_to_source}
use Rattle.mt_compile.specs.Planned.{PlanRefuses}
use Rattle.mt_compile.specs.declared.refusal.CompileRefusal.{CompileRefusal}
use Rattle.mt_compile.specs.declared.refusal.CompileRefusal.TheVariants as compile
use Rattle.mt_mean.specs.Sources.{RefusesFile, source}

pub source_answer : (number : ℕ) (text : List ℕ) (refusal : CompileRefusal) (place : ℕ) →
    (refusal ≡ compile.NoMemory) ⊎ PlanRefuses text refusal place →
    IsAnswerTo (RefusesFile number text) (answer_to_source number refusal place)
source_answer number text compile.NoMemory place cause = inl refl
source_answer number text refusal place (inr refuses) = inr (_, refl, source refuses)
source_answer number text refusal place (inl none) = cc

-- it is no fault of a read
pub source_not_read : (number : ℕ) (refusal : CompileRefusal) (place : ℕ) →
    ¬ IsReadFault (ended_of (answer_to_source number refusal place)).why
source_not_read number compile.NoMemory place = λ fault. fault
source_not_read number refusal place = λ fault. fault
