-- The file of the function that runs, and its texts.
use Rattle.std.proofs.Common.{◌≡◌, ap, subst, ◌∙◌, ℕ, List, Some, slice_get}
use Rattle.block_meaning.specs.Locals.{text_of, text_at}
use Rattle.block_meaning.specs.Running.{Context}
use Rattle.mean_start.specs.Files.{IsFile, IsFileAt}
use Rattle.mean_start.specs.declared.file.File.{File}
use Rattle.mean_effects.specs.Shown.{IsHere}
use Rattle.mean_effects.specs.declared.here.Here.{Here}

pub file-there : {h : Here} {here : Context} {file : File} → IsHere h here → slice_get h.files.now h.unit ≡ Some file →
    IsFile file here.program here.unit
file-there {h = h} {here = here} {file = file} of_here is_file = subst (λ unit. IsFile file here.program unit) of_here.unit
    (subst (λ x. IsFileAt x here.program h.unit) is_file (of_here.program.each h.unit))

pub text-there : (here : Context) {file : File} {text : List ℕ} (number : ℕ) → IsFile file here.program here.unit →
    slice_get file.typed.now.texts number ≡ Some text → text_at here number ≡ Some text
text-there here number is is_text = ap (λ u. text_of u number) is.typed ∙ is_text
