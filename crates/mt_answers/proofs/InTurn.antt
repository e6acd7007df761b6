-- The loop over the files of a job: what is made of those that were read, and where it stops.
use Rattle.std.proofs.Common.{◌≡◌, ◌<◌, ℕ, zero, suc, ◌+◌, List, [], ◌∷◌, ◌++◌, length, get_or, take, drop, true, false}
use Rattle.std.proofs.Common.{Result, IfErr, Ok, Err}
use Rattle.std.proofs.Common.{refl, sym, ap, ◌∙◌, subst, inl, inr, arith}
use Rattle.std.specs.Prelude.{if◌then◌else◌}
use Rattle.std.specs.Result.{is_ok, is_err}
use Rattle.std.proofs.lemmas.Bool.{true≢false}
use Rattle.std.specs.Borrow.{Bor}
use Rattle.std.proofs.lemmas.List.{map_more, take-append-drop, drop_more, length-map, length-take-le, map-append}
use Rattle.mt_answers.specs.Answer.{IsAnswerTo}
use Rattle.mt_answers.specs.Each.{Step, IsMadeOf, AreMadeOf, StopsAt, Stops, unread, refused, here, later, file_number, names_of}
use Rattle.mt_answers.specs.Read.{CauseOfNoBytes}
use Rattle.mt_answers.specs.Seen.{FilesSeen, MayHold}
use Rattle.mt_answers.specs.declared.answer.Answer.{Answer}
use Rattle.mt_answers.specs.declared.ended.Why.{Why}

-- an answer to one cause is an answer to what it leads to
pub because : {Cause Other : Why → Type 0} {answer : Answer} → ((why : Why) → Cause why → Other why) → IsAnswerTo Cause answer →
    IsAnswerTo Other answer
because leads (inl wanting) = inl wanting
because leads (inr (why, is, cause)) = inr (why, is, leads why cause)

-- what was told and counted of the files is what it was
pub same_seen : (before after : FilesSeen) → after.told ≡ before.told → after.read_faults ≡ before.read_faults →
    after.write_faults ≡ before.write_faults → after ≡ before
same_seen before after told reads writes = λ i. record { told = told i; read_faults = reads i; write_faults = writes i }

-- an item of a list is one, whatever else stands in its place behind the end
inside : {A : Type 0} (xs : List A) (i : ℕ) (d e : A) → i < length xs → get_or xs i d ≡ get_or xs i e
inside [] i d e within = absurd (omega (arith, within))
inside (x ∷ xs) zero d e within = refl
inside (x ∷ xs) (suc i) d e within = inside xs i d e (omega (arith, within))

-- a push that did not fail has pushed
pub pushed : {A B C : Type 0} (pushing : Result A B) (all more new : List C) → new ≡ (if is_ok pushing then more else all) →
    is_err pushing ≡ false → new ≡ more
pushed (Ok x) all more new items none = items
pushed (Err x) all more new items none = absurd (true≢false none)

module _ {B : Type 0} (step : Step B) where
  pub unread_stops : (number : ℕ) (file : List ℕ) (before after : FilesSeen) (answer : Answer) →
      IsAnswerTo (CauseOfNoBytes number file before after) answer → IsAnswerTo (StopsAt step number file before after) answer
  unread_stops number file before after answer cause = because {answer = answer} (λ why c. unread c) cause

  pub refused_stops : (number : ℕ) (file bytes : List ℕ) (before after : FilesSeen) (made : Result B Answer) →
      MayHold before file bytes → IfErr made (IsAnswerTo (step.Refuses number bytes)) →
      IfErr made (IsAnswerTo (StopsAt step number file before after))
  refused_stops number file bytes before after (Ok made) holds cause = cause
  refused_stops number file bytes before after (Err answer) holds cause =
      because {answer = answer} (λ why c. refused bytes holds c) cause

  made_more : (seen : FilesSeen) (files : List (List ℕ)) (made : List B) (file : List ℕ) (one : B) → AreMadeOf step seen files made →
      IsMadeOf step seen file one → AreMadeOf step seen (files ++ file ∷ []) (made ++ one ∷ [])
  made_more seen [] [] file one all last = (last, tt)
  made_more seen [] (m ∷ ms) file one all last = absurd all
  made_more seen (f ∷ fs) [] file one all last = absurd all
  made_more seen (f ∷ fs) (m ∷ ms) file one all last = (all.0, made_more seen fs ms file one all.1 last)

  behind : (before after : FilesSeen) (n k : ℕ) (front back : List (List ℕ)) (made : List B) (file : List ℕ) (why : Why) →
      k ≡ n + length front → AreMadeOf step before front made → StopsAt step (file_number k) file before after why →
      Stops step before after n (front ++ file ∷ back) why
  behind before after n k [] back made file why at all stops =
      let same : k ≡ n = omega (arith, at) in
      here (subst (λ m. StopsAt step (file_number m) file before after why) same stops)
  behind before after n k (f ∷ front) back [] file why at all stops = absurd all
  behind before after n k (f ∷ front) back (m ∷ ms) file why at all stops =
      later m all.0 (behind before after (suc n) k front back ms file why (omega (arith, at)) all.1 stops)

  -- something was made of one more
  made_so_far : (seen : FilesSeen) (names : List (Bor (List ℕ))) (i : ℕ) (other : Bor (List ℕ)) (made all : List B) (one : B) →
      i < length names → all ≡ made ++ one ∷ [] →
      AreMadeOf step seen (names_of (take i names)) made → IsMadeOf step seen (get_or names i other).now one →
      AreMadeOf step seen (names_of (take (i + 1) names)) all
  made_so_far seen names i other made all one within more so_far last =
      let name : Bor (List ℕ) = get_or names i other in
      let is : name ≡ get_or names i name = inside names i other name within in
      let front : names_of (take (i + 1) names) ≡ names_of (take i names) ++ name.now ∷ [] =
      map_more (λ n. n.now) names i name within ∙ ap (λ n. names_of (take i names) ++ n.now ∷ []) (sym is) in
      subst (λ fs. AreMadeOf step seen fs all) (sym front)
      (subst (λ ms. AreMadeOf step seen (names_of (take i names) ++ name.now ∷ []) ms) (sym more)
      (made_more seen (names_of (take i names)) made name.now one so_far last))

  -- nothing was made of the one that comes now
  stops_here : (before after : FilesSeen) (names : List (Bor (List ℕ))) (i : ℕ) (other : Bor (List ℕ)) (made : List B)
      (answer : Answer) → i < length names → AreMadeOf step before (names_of (take i names)) made →
      IsAnswerTo (StopsAt step (file_number i) (get_or names i other).now before after) answer →
      IsAnswerTo (Stops step before after 0 (names_of names)) answer
  stops_here before after names i other made answer within so_far cause =
      let name : Bor (List ℕ) = get_or names i other in
      let is : name ≡ get_or names i name = inside names i other name within in
      let rest : drop i names ≡ name ∷ drop (i + 1) names = drop_more names i name within ∙ ap (λ n. n ∷ drop (i + 1) names) (sym is) in
      let parts : names_of names ≡ names_of (take i names) ++ name.now ∷ names_of (drop (i + 1) names) =
      ap names_of (sym (take-append-drop i names) ∙ ap (λ r. take i names ++ r) rest)
      ∙ map-append (λ n. n.now) (take i names) (name ∷ drop (i + 1) names) in
      let size : length (names_of (take i names)) ≡ i =
      length-map (take i names) (λ n. n.now) ∙ length-take-le i names (omega (arith, within)) in
      subst (λ fs. IsAnswerTo (Stops step before after 0 fs) answer) (sym parts)
      (because {answer = answer} (λ why stops. behind before after 0 i (names_of (take i names)) (names_of (drop (i + 1) names))
      made name.now why (omega (arith, size)) so_far stops) cause)

  -- the same, where the files outside are as they were at first
  pub made_now : (seen found : FilesSeen) → found ≡ seen → (names : List (Bor (List ℕ))) (i : ℕ) (other : Bor (List ℕ))
      (made all : List B) (one : B) → i < length names → all ≡ made ++ one ∷ [] → AreMadeOf step seen (names_of (take i names)) made →
      IsMadeOf step found (get_or names i other).now one → AreMadeOf step seen (names_of (take (i + 1) names)) all
  made_now seen found same names i other made all one within more so_far last =
      made_so_far seen names i other made all one within more so_far
      (subst (λ s. IsMadeOf step s (get_or names i other).now one) same last)

  pub stops_now : (before found after : FilesSeen) → found ≡ before → (names : List (Bor (List ℕ))) (i : ℕ) (other : Bor (List ℕ))
      (number : ℕ) → number ≡ file_number i → (made : List B) (answer : Answer) → i < length names →
      AreMadeOf step before (names_of (take i names)) made →
      IsAnswerTo (StopsAt step number (get_or names i other).now found after) answer →
      IsAnswerTo (Stops step before after 0 (names_of names)) answer
  stops_now before found after same names i other number is made answer within so_far cause =
      stops_here before after names i other made answer within so_far
      (subst (λ n. IsAnswerTo (StopsAt step n (get_or names i other).now before after) answer) is
      (subst (λ s. IsAnswerTo (StopsAt step number (get_or names i other).now s after) answer) same cause))
