-- Files that are read in turn give one list of things, or stop for one reason, and not both, where each of them does and no read failed.
use Rattle.std.proofs.Common.{◌≡◌, ℕ, suc, ◌+◌, List, [], ◌∷◌, ◌++◌, Option, Some, None, IfSome, refl, sym, ap, ◌∙◌, subst}
use Rattle.std.proofs.lemmas.Option.{same_Some, none-some}
use Rattle.std.specs.Prelude.{map}
use Rattle.mt_outside.specs.Files.{Contents}
use Rattle.mt_answers.specs.Each.{Step, Hold, IsMadeOf, AreMadeOf, StopsAt, Stops, unread, refused, here, later, file_number, viewed}
use Rattle.mt_answers.specs.Read.{CauseOfNoBytes, absent, failed}
use Rattle.mt_answers.specs.Seen.{FilesSeen, IsTold, MayHold, ReadFailed}
use Rattle.mt_answers.specs.declared.ended.Why.{Why}

-- ---- what files tell

told_same : (told : Option Contents) (file bytes other : List ℕ) → (contents : Contents) → told ≡ Some contents →
    IfSome told (λ files. files file ≡ Some bytes) → IfSome told (λ files. files file ≡ Some other) → bytes ≡ other
told_same None file bytes other contents tells first second = absurd (none-some contents tells)
told_same (Some files) file bytes other contents tells first second = same_Some _ _ (sym first ∙ second)

told_none : (told : Option Contents) (file bytes : List ℕ) → (contents : Contents) → told ≡ Some contents →
    IfSome told (λ files. files file ≡ Some bytes) → IfSome told (λ files. files file ≡ None) → ⊥
told_none None file bytes contents tells first second = none-some contents tells
told_none (Some files) file bytes contents tells first second = none-some bytes (sym second ∙ first)

-- where the files are told, a file holds one list of bytes
pub one_held : (seen : FilesSeen) (file bytes other : List ℕ) → IsTold seen → MayHold seen file bytes → MayHold seen file other →
    bytes ≡ other
one_held seen file bytes other told first second = told_same seen.told file bytes other told.contents told.is first second

-- and is not absent
pub not_absent : (number : ℕ) (file bytes : List ℕ) (before after : FilesSeen) (why : Why) → IsTold before → MayHold before file bytes →
    ¬ ReadFailed before after → CauseOfNoBytes number file before after why → ⊥
not_absent number file bytes before after _ told holds no_fault (absent none) =
    told_none before.told file bytes told.contents told.is holds none
not_absent number file bytes before after _ told holds no_fault (failed rose) = no_fault rose

-- files hold one list of texts
pub one_hold : (seen : FilesSeen) (files texts others : List (List ℕ)) → IsTold seen → Hold seen files texts → Hold seen files others →
    texts ≡ others
one_hold seen [] [] [] told first second = refl
one_hold seen [] [] (o ∷ os) told first second = absurd second
one_hold seen [] (t ∷ ts) others told first second = absurd first
one_hold seen (f ∷ fs) [] others told first second = absurd first
one_hold seen (f ∷ fs) (t ∷ ts) [] told first second = absurd second
one_hold seen (f ∷ fs) (t ∷ ts) (o ∷ os) told first second =
    ap (λ x. x ∷ ts) (one_held seen f t o told first.0 second.0) ∙ ap (λ xs. o ∷ xs) (one_hold seen fs ts os told first.1 second.1)

-- a file that is not read is not read for one reason
pub one_unread : (number : ℕ) (file : List ℕ) (before after : FilesSeen) (why other : Why) → ¬ ReadFailed before after →
    CauseOfNoBytes number file before after why → CauseOfNoBytes number file before after other → why ≡ other
one_unread number file before after _ _ no_fault (absent none) (absent also) = refl
one_unread number file before after _ _ no_fault (absent none) (failed rose) = absurd (no_fault rose)
one_unread number file before after _ _ no_fault (failed rose) second = absurd (no_fault rose)

-- ---- one step

-- of the same bytes the step makes one thing, or refuses them for one reason, and not both
pub record GoesOneWay {B : Type 0} (step : Step B) : Type 0 where
  pub makes_one : (bytes : List ℕ) (made other : B) → step.Makes bytes made → step.Makes bytes other → made ≡ other
  pub refuses_one : (number : ℕ) (bytes : List ℕ) (why other : Why) → step.Refuses number bytes why → step.Refuses number bytes other →
      why ≡ other
  pub never_both : (number : ℕ) (bytes : List ℕ) (made : B) (why : Why) → step.Makes bytes made → step.Refuses number bytes why → ⊥

module _ {B : Type 0} (step : Step B) (before after : FilesSeen) (way : GoesOneWay step) (told : IsTold before)
    (no_fault : ¬ ReadFailed before after) where
  one_made : (file : List ℕ) (made other : B) → IsMadeOf step before file made → IsMadeOf step before file other → made ≡ other
  one_made file made other first second =
      way.makes_one second.bytes made other
      (subst (λ b. step.Makes b made) (one_held before file first.bytes second.bytes told first.holds second.holds) first.makes)
      second.makes

  made_stops : (number : ℕ) (file : List ℕ) (made : B) (why : Why) → IsMadeOf step before file made →
      StopsAt step number file before after why → ⊥
  made_stops number file made why is (unread cause) = not_absent number file is.bytes before after why told is.holds no_fault cause
  made_stops number file made why is (refused bytes holds refuses) =
      way.never_both number bytes made why
      (subst (λ b. step.Makes b made) (one_held before file is.bytes bytes told is.holds holds) is.makes) refuses

  one_reason : (number : ℕ) (file : List ℕ) (why other : Why) → StopsAt step number file before after why →
      StopsAt step number file before after other → why ≡ other
  one_reason number file why other (unread cause) (unread also) = one_unread number file before after why other no_fault cause also
  one_reason number file why other (unread cause) (refused bytes holds refuses) =
      absurd (not_absent number file bytes before after why told holds no_fault cause)
  one_reason number file why other (refused bytes holds refuses) (unread cause) =
      absurd (not_absent number file bytes before after other told holds no_fault cause)
  one_reason number file why other (refused bytes holds refuses) (refused more also last) =
      way.refuses_one number more why other
      (subst (λ b. step.Refuses number b why) (one_held before file bytes more told holds also) refuses) last

  -- ---- the files in turn

  pub one_each : (files : List (List ℕ)) (made other : List B) → AreMadeOf step before files made → AreMadeOf step before files other →
      made ≡ other
  one_each [] [] [] first second = refl
  one_each [] [] (o ∷ os) first second = absurd second
  one_each [] (m ∷ ms) other first second = absurd first
  one_each (f ∷ fs) [] other first second = absurd first
  one_each (f ∷ fs) (m ∷ ms) [] first second = absurd second
  one_each (f ∷ fs) (m ∷ ms) (o ∷ os) first second =
      let same : m ≡ o = one_made f m o first.0 second.0 in
      let rest : ms ≡ os = one_each fs ms os first.1 second.1 in
      ap (λ x. x ∷ ms) same ∙ ap (λ xs. o ∷ xs) rest

  pub never_stops : (n : ℕ) (files : List (List ℕ)) (made : List B) (why : Why) → AreMadeOf step before files made →
      Stops step before after n files why → ⊥
  never_stops n _ [] why all (here stops) = absurd all
  never_stops n _ [] why all (later one is stops) = absurd all
  never_stops n _ (m ∷ ms) why all (here {file} stops) = made_stops (file_number n) file m why all.0 stops
  never_stops n _ (m ∷ ms) why all (later {files} one is stops) = never_stops (suc n) files ms why all.1 stops

  pub one_stop : (n : ℕ) (files : List (List ℕ)) (why other : Why) → Stops step before after n files why →
      Stops step before after n files other → why ≡ other
  one_stop n _ why other (here {file} stops) (here also) = one_reason (file_number n) file why other stops also
  one_stop n _ why other (here {file} stops) (later one is also) = absurd (made_stops (file_number n) file one why is stops)
  one_stop n _ why other (later {file} one is stops) (here also) = absurd (made_stops (file_number n) file one other is also)
  one_stop n _ why other (later {files} one is stops) (later more too also) = one_stop (suc n) files why other stops also

-- ---- the same as the program holds it

module _ {A B : Type 0} (view : A → B) (step : Step B) (before after : FilesSeen) where
  seen_one : (file : List ℕ) (held : A) → IsMadeOf (viewed view step) before file held → IsMadeOf step before file (view held)
  seen_one file held is = record { bytes = is.bytes; holds = is.holds; makes = is.makes }

  pub seen_made : (files : List (List ℕ)) (held : List A) → AreMadeOf (viewed view step) before files held →
      AreMadeOf step before files (map view held)
  seen_made [] [] all = tt
  seen_made [] (h ∷ hs) all = absurd all
  seen_made (f ∷ fs) [] all = absurd all
  seen_made (f ∷ fs) (h ∷ hs) all = (seen_one f h all.0, seen_made fs hs all.1)

  seen_at : (number : ℕ) (file : List ℕ) (why : Why) → StopsAt (viewed view step) number file before after why →
      StopsAt step number file before after why
  seen_at number file why (unread cause) = unread cause
  seen_at number file why (refused bytes holds refuses) = refused bytes holds refuses

  pub seen_stop : (n : ℕ) (files : List (List ℕ)) (why : Why) → Stops (viewed view step) before after n files why →
      Stops step before after n files why
  seen_stop n _ why (here {file} stops) = here (seen_at (file_number n) file why stops)
  seen_stop n _ why (later {file} {files} held is stops) = later (view held) (seen_one file held is) (seen_stop (suc n) files why stops)
