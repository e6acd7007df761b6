use Rattle.std.proofs.Common.{◌≡◌, ℕ, List, IfSome, IfNone, Some, map, subst}
use Rattle.std.proofs.lemmas.Result.{IfOk-weaker}
use Rattle.std.specs.String.{string_bytes}
use Rattle.mt_words.specs.Held.{given_is}
use Rattle.mt_words.specs.Reading.{IsRead, given_by}
use Rattle.mt_words.proofs.Clauses.{formed_job, no_job, some_job}
use Rattle.mt_words.proofs.words.job_of.Goals as goal

pub returns-in-Some-clause-some : goal.returns-in-Some-clause-some
returns-in-Some-clause-some c =
    let words : List (List ℕ) = map string_bytes c.args.words.now in
    let read : IsRead words = subst (λ found. IfSome found (λ _. IsRead words)) c.in-Some.is c.in_ok-read.ensures.read in
    let is : given_is c.in-Some.given ≡ given_by words =
    subst (λ found. IfSome found (λ given. given_is given ≡ given_by words)) c.in-Some.is c.in_ok-read.ensures.given in
    IfOk-weaker c.asked.result _ _ (λ found finds. some_job words _ found read is finds) c.asked.ensures

pub returns-in-Some-clause-none : goal.returns-in-Some-clause-none
returns-in-Some-clause-none c =
    let words : List (List ℕ) = map string_bytes c.args.words.now in
    let is : given_is c.in-Some.given ≡ given_by words =
    subst (λ found. IfSome found (λ given. given_is given ≡ given_by words)) c.in-Some.is c.in_ok-read.ensures.given in
    IfOk-weaker c.asked.result _ _ (λ found finds. no_job words _ found is finds) c.asked.ensures

pub returns-in-Some-clause-formed : goal.returns-in-Some-clause-formed
returns-in-Some-clause-formed c = IfOk-weaker c.asked.result _ _ (λ found finds. formed_job _ found finds) c.asked.ensures

pub returns-in-None-clause-none : goal.returns-in-None-clause-none
returns-in-None-clause-none c job has =
    let words : List (List ℕ) = map string_bytes c.args.words.now in
    let fault : ¬ IsRead words = subst (λ found. IfNone found (¬ IsRead words)) c.in-None.is c.in_ok-read.ensures.fault in
    fault has.read
