-- Bytes run or do not, and where they do not, it is for one cause.
use Rattle.std.proofs.Common.{◌≡◌, ◌⊎◌, ℕ, List, sym, ap, subst, inl, inr}
use Rattle.elf_image.specs.Image.{Image}
use Rattle.elf_image.specs.Ranges.{IsFileOf}
use Rattle.elf_image.specs.Laws.OneAnswer.{not_both, one_fault}
use Rattle.elf_image.specs.Laws.OneImage.{one_image}
use Rattle.tag_startup.specs.Starts.{Starts, StartFault}
use Rattle.tag_startup.specs.Laws.OneStart.{starts_not_refused, one_start_fault}
use Rattle.mt_answers.specs.declared.refusal.RunRefusal.{RunRefusal}
use Rattle.mt_answers.specs.declared.refusal.RunRefusal.TheVariants.{Image as BadImage, Start, NoMemory}
use Rattle.mt_pipeline.specs.RunFile.{RefusesRun, no_image, no_start}

-- an image that starts runs
pub no_refusal : (bytes : List ℕ) (image : Image) (cause : RunRefusal) → IsFileOf image bytes → Starts image →
    RefusesRun bytes cause → ⊥
no_refusal bytes image _ is starts (no_image fault has) = not_both image bytes fault is has
no_refusal bytes image _ is starts (no_start other fault also has) =
    starts_not_refused image fault starts (subst (λ i. StartFault i fault) (sym (one_image image other bytes is also)) has)

pub one_cause : (bytes : List ℕ) (cause other : RunRefusal) → RefusesRun bytes cause → RefusesRun bytes other → cause ≡ other
one_cause bytes _ _ (no_image fault has) (no_image last also) = ap BadImage (one_fault bytes fault last has also)
one_cause bytes _ _ (no_image fault has) (no_start image first is faulty) = absurd (not_both image bytes fault is has)
one_cause bytes _ _ (no_start image first is faulty) (no_image fault has) = absurd (not_both image bytes fault is has)
one_cause bytes _ _ (no_start image first is faulty) (no_start other last also wrong) =
    ap Start (one_start_fault image first last faulty (subst (λ i. StartFault i last) (sym (one_image image other bytes is also)) wrong))

-- so bytes that are refused for a cause are refused for any that they have
pub refused_once : (bytes : List ℕ) (refusal cause : RunRefusal) → (refusal ≡ NoMemory) ⊎ RefusesRun bytes refusal →
    RefusesRun bytes cause → (refusal ≡ cause) ⊎ (refusal ≡ NoMemory)
refused_once bytes refusal cause (inl wanting) has = inr wanting
refused_once bytes refusal cause (inr first) has = inl (one_cause bytes refusal cause first has)
