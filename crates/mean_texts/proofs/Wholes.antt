-- The clauses of `mean_texts`, from what its parts answer.
use Rattle.std.proofs.Common.{◌≡◌, ◌⊎◌, refl, sym, subst, inl, inr, ℕ, List, Option, Some, Result, Ok, Err}
use Rattle.std.specs.Prelude.{IfOk, IfErr, MatchResult}
use Rattle.block_meaning.specs.Meaning.{Meaning, Outcome}
use Rattle.mean_link.specs.LinkFault.{AreLinked}
use Rattle.mean_link.specs.Names.{names_in}
use Rattle.mean_program.specs.declared.end.MeanEnd.{MeanEnd}
use Rattle.mean_program.specs.declared.end.MeanFault.{MeanFault}
use Rattle.mean_start.specs.Files.{frames_in}
use Rattle.mean_texts.specs.Answers.{TextsGive, IsCause, IsLate}
use Rattle.mean_texts.specs.Laws.Causes.{IsFilesCause}
use Rattle.mean_texts.specs.Laws.Linked.{together-mean}
use Rattle.mean_texts.specs.Laws.OneMeaning.{never_refused, one_refusal, one_files}
use Rattle.mean_texts.specs.Refusal.{AreRefused, source, unlinked}
use Rattle.mean_texts.specs.Texts.{AreFilesOf, AreTogether, TextsMean, HaveMeaning, names_of, program_of}
use Rattle.mean_texts.specs.declared.files.Files.{Files}
use Rattle.mean_texts.specs.declared.refusal.MeanRefusal.{MeanRefusal}
use Rattle.mean_texts.specs.declared.refusal.MeanRefusal.TheVariants.{Compile, Link, Fault, NoMemory}
use Rattle.mean_texts.proofs.Runs.{put_nothing, Refuses}

abbrev Answer : Type 0
Answer = Result MeanEnd MeanRefusal

-- memory was wanting, or the texts are refused
abbrev pub IsEarly : List (List ℕ) → MeanRefusal → Type 0
IsEarly texts r = (r ≡ NoMemory) ⊎ AreRefused texts r

-- ---- before the link

pub early_gives : (texts : List (List ℕ)) (r : MeanRefusal) (before : List ℕ) (o : Outcome) (input output : Option (List ℕ)) →
    IsEarly texts r → AreTogether texts → output ≡ Some before → TextsGive before o (Err r) input output
early_gives texts r before o input output (inl wanting) together same =
    subst (λ r. TextsGive before o (Err r) input output) (sym wanting) (put_nothing before o output same)
early_gives texts r before o input output (inr refused) together same = absurd (never_refused texts r together refused)

pub early_cause : (texts : List (List ℕ)) (r : MeanRefusal) → IsEarly texts r → IsCause texts r
early_cause texts r (inl wanting) = subst (IsCause texts) (sym wanting) tt
early_cause texts _ (inr (byte, source front back trees units frames parts files refuses)) =
    (byte, source front back trees units frames parts files refuses)
early_cause texts _ (inr (byte, unlinked trees units frames files fault)) = (byte, unlinked trees units frames files fault)

pub early_late : (texts : List (List ℕ)) (r : MeanRefusal) → IsEarly texts r → AreTogether texts → IsLate r
early_late texts r (inl wanting) together = subst IsLate (sym wanting) tt
early_late texts r (inr refused) together = absurd (never_refused texts r together refused)

pub early_refuses : (texts : List (List ℕ)) (r other : MeanRefusal) → IsEarly texts r → AreRefused texts other →
    (r ≡ other) ⊎ (r ≡ NoMemory)
early_refuses texts r other (inl wanting) refused = inr wanting
early_refuses texts r other (inr first) refused = inl (one_refusal texts r other first refused)

pub no_early_fault : (texts : List (List ℕ)) (r : MeanRefusal) (f : MeanFault) → IsEarly texts r → Refuses r ≡ Refuses (Fault f) → ⊥
no_early_fault texts r f (inl wanting) is = let both : NoMemory ≡ Fault f = cc in cc
no_early_fault texts _ f (inr (byte, source front back trees units frames parts files refuses)) is = cc
no_early_fault texts _ f (inr (byte, unlinked trees units frames files fault)) is = cc

-- ---- from the link on

module _ (texts : List (List ℕ)) (files : Files) (held : AreFilesOf texts files) where
  together_of : AreLinked (names_of files) → AreTogether texts
  together_of linked =
      record { trees = files.trees; units = files.units; frames = frames_in files.frames; files = held; linked = linked }

  linked_of : AreTogether texts → AreLinked (names_of files)
  linked_of together =
      let same = one_files texts together.trees files.trees together.units files.units together.frames (frames_in files.frames)
      together.files held in
      subst AreLinked (λ i. names_in (same.trees_same i) (same.units_same i)) together.linked

  pub run_gives : (stack work : ℕ) (input : List ℕ) (before : List ℕ) (o : Outcome) (r : Answer) (left output : Option (List ℕ)) →
      (AreLinked (names_of files) → Meaning (program_of files.units (frames_in files.frames) stack) input work o →
      TextsGive before o r left output) → TextsMean texts stack input work o → TextsGive before o r left output
  run_gives stack work input before o r left output gives means =
      let together = means.together in
      let same = one_files texts together.trees files.trees together.units files.units together.frames (frames_in files.frames)
      together.files held in
      gives (linked_of together)
      (subst (λ units. Meaning (program_of units (frames_in files.frames) stack) input work o) same.units_same
      (subst (λ frames. Meaning (program_of together.units frames stack) input work o) same.frames_same means.means))

  pub run_means : (stack work : ℕ) (r : Answer) → IfOk r (λ _. AreLinked (names_of files)) →
      IfOk r (λ _. (input : List ℕ) → HaveMeaning texts stack input work)
  run_means stack work (Ok e) linked = λ input. together-mean texts stack input work (together_of linked)
  run_means stack work (Err e) linked = linked

  cause_of : (e : MeanRefusal) → IsFilesCause (names_of files) e → IsCause texts e
  cause_of NoMemory cause = tt
  cause_of (Fault f) cause = together_of cause
  cause_of (Link e) cause = (0, unlinked files.trees files.units (frames_in files.frames) held cause)
  cause_of (Compile n e) cause = absurd cause

  pub run_cause : (r : Answer) → IfErr r (IsFilesCause (names_of files)) → IfErr r (IsCause texts)
  run_cause (Ok e) cause = cause
  run_cause (Err e) cause = cause_of e cause

  late_of : (e : MeanRefusal) → IsFilesCause (names_of files) e → AreTogether texts → IsLate e
  late_of NoMemory cause together = tt
  late_of (Fault f) cause together = tt
  late_of (Link e) cause together =
      absurd (never_refused texts (Link e) together (0, unlinked files.trees files.units (frames_in files.frames) held cause))
  late_of (Compile n e) cause together = absurd cause

  pub run_late : (r : Answer) → IfErr r (IsFilesCause (names_of files)) → AreTogether texts → IfErr r IsLate
  run_late (Ok e) cause together = cause
  run_late (Err e) cause together = late_of e cause together

  refuses_of : (e other : MeanRefusal) → IsFilesCause (names_of files) e → AreRefused texts other → (e ≡ other) ⊎ (e ≡ NoMemory)
  refuses_of NoMemory other cause refused = inr refl
  refuses_of (Fault f) other cause refused = absurd (never_refused texts other (together_of cause) refused)
  refuses_of (Link e) other cause refused =
      inl (one_refusal texts (Link e) other (0, unlinked files.trees files.units (frames_in files.frames) held cause) refused)
  refuses_of (Compile n e) other cause refused = absurd cause

  pub run_refuses : (r : Answer) (other : MeanRefusal) → IfOk r (λ _. AreLinked (names_of files)) →
      IfErr r (IsFilesCause (names_of files)) → AreRefused texts other →
      MatchResult r (λ _. ⊥) (λ found. (found ≡ other) ⊎ (found ≡ NoMemory))
  run_refuses (Ok e) other linked cause refused = never_refused texts other (together_of linked) refused
  run_refuses (Err e) other linked cause refused = refuses_of e other cause refused

  pub not_linked : (other : MeanRefusal) → AreRefused texts other → AreLinked (names_of files) → ⊥
  not_linked other refused linked = never_refused texts other (together_of linked) refused
