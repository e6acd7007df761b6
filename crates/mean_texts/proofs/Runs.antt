-- The clauses of `mean_files`, from what the link and the run answer.
use Rattle.std.proofs.Common.{◌≡◌, refl, sym, ap, subst, ◌∙◌, inl, inr, ℕ, List, [], append-nil, Option, Some, Result, Err}
use Rattle.block_meaning.specs.Meaning.{Outcome}
use Rattle.linker.specs.declared.refusal.LinkRefusal.{LinkRefusal}
use Rattle.linker.specs.declared.refusal.LinkRefusal.TheVariants as link
use Rattle.mean_link.specs.LinkFault.{AreLinked, IsLinkCause, too_many, repeated, no_main, missing}
use Rattle.mean_link.specs.Laws.OneAnswer.{no_fault}
use Rattle.mean_link.specs.declared.names.FileNames.{FileNames}
use Rattle.mean_program.specs.Answers.{MeanGives, PutPart}
use Rattle.mean_program.specs.declared.end.MeanEnd.{MeanEnd}
use Rattle.mean_program.specs.declared.end.MeanFault.{MeanFault}
use Rattle.mean_program.specs.declared.end.MeanFault.TheVariants as fault
use Rattle.mean_texts.specs.Answers.{TextsGive}
use Rattle.mean_texts.specs.Laws.Causes.{IsFilesCause}
use Rattle.mean_texts.specs.Refusal.{of_link, of_fault}
use Rattle.mean_texts.specs.declared.refusal.MeanRefusal.{MeanRefusal}
use Rattle.mean_texts.specs.declared.refusal.MeanRefusal.TheVariants.{Fault}

-- answers that refuse
abbrev pub Refuses : MeanRefusal → Result MeanEnd MeanRefusal
Refuses r = Err r

abbrev pub Fails : MeanFault → Result MeanEnd MeanFault
Fails f = Err f

-- nothing was put
pub put_nothing : (before : List ℕ) (o : Outcome) (output : Option (List ℕ)) → output ≡ Some before → PutPart before o output
put_nothing before o output same = record {
  part = [];
  put = same ∙ ap Some (sym (append-nil before));
  begins = record { rest = o.output; is = refl };
}

-- ---- names that are not linked

pub link_cause : (files : List FileNames) (r : LinkRefusal) → IsLinkCause files r → IsFilesCause files (of_link r)
link_cause files r (inl wanting) = subst (λ r. IsFilesCause files (of_link r)) (sym wanting) tt
link_cause files _ (inr (too_many h)) = too_many h
link_cause files _ (inr (repeated h i)) = repeated h i
link_cause files _ (inr (no_main h i j)) = no_main h i j
link_cause files _ (inr (missing h i j k)) = missing h i j k

pub link_gives : (files : List FileNames) (r : LinkRefusal) (before : List ℕ) (o : Outcome) (input output : Option (List ℕ)) →
    IsLinkCause files r → AreLinked files → output ≡ Some before → TextsGive before o (Err (of_link r)) input output
link_gives files r before o input output (inl wanting) linked same =
    subst (λ r. TextsGive before o (Err (of_link r)) input output) (sym wanting) (put_nothing before o output same)
link_gives files r before o input output (inr fault) linked same = absurd (no_fault files r linked fault)

pub no_link_fault : (r : LinkRefusal) (f : MeanFault) → Refuses (of_link r) ≡ Refuses (Fault f) → ⊥
no_link_fault link.NoMemory f is = cc
no_link_fault (link.TooManyObjects n) f is = cc
no_link_fault (link.Duplicate n) f is = cc
no_link_fault link.NoMain f is = cc
no_link_fault (link.Undefined n) f is = cc
no_link_fault (link.ImageTooLarge n) f is = cc

-- ---- a run that failed

pub fault_cause : (files : List FileNames) (f : MeanFault) → AreLinked files → IsFilesCause files (of_fault f)
fault_cause files fault.NoMemory linked = tt
fault_cause files fault.InputFault linked = linked
fault_cause files fault.OutputFault linked = linked

pub fault_gives : (before : List ℕ) (o : Outcome) (f : MeanFault) (input output : Option (List ℕ)) →
    MeanGives before o (Err f) input output → TextsGive before o (Err (of_fault f)) input output
fault_gives before o fault.NoMemory input output gives = gives
fault_gives before o fault.InputFault input output gives = gives
fault_gives before o fault.OutputFault input output gives = gives

pub is_input_fault : (f : MeanFault) → Refuses (of_fault f) ≡ Refuses (Fault fault.InputFault) →
    Fails f ≡ Fails fault.InputFault
is_input_fault fault.NoMemory is = absurd cc
is_input_fault fault.InputFault is = refl
is_input_fault fault.OutputFault is = absurd cc

pub is_output_fault : (f : MeanFault) → Refuses (of_fault f) ≡ Refuses (Fault fault.OutputFault) →
    Fails f ≡ Fails fault.OutputFault
is_output_fault fault.NoMemory is = absurd cc
is_output_fault fault.InputFault is = absurd cc
is_output_fault fault.OutputFault is = refl
