-- Numbers of blocks of what a file names.
use Rattle.std.proofs.Common.{◌≡◌, sym, subst, ap, ◌∙◌, ℕ, Option, None, Some, SomeIff, IfSome, option_copied, slice_get}
use Rattle.std.specs.Borrow.{Bor}
use Rattle.block_meaning.specs.Running.{Context}
use Rattle.mean_start.specs.declared.file.File.{File}
use Rattle.mean_start.specs.Files.{IsFile}
use Rattle.mean_start.specs.Laws.Looking.{file_of}
use Rattle.mean_effects.specs.declared.here.Here.{Here}
use Rattle.mean_effects.specs.Shown.{IsHere}

-- the file of the function that runs
pub file_here : {h : Here} {here : Context} → IsHere h here → (r : Option (Bor File)) (f : Bor File) →
    option_copied r ≡ slice_get h.files.now h.unit → r ≡ Some f → IsFile f.now here.program here.unit
file_here {h = h} {here = here} of_here r f at is = file_of of_here.program here.unit f.now
    (ap (slice_get h.files.now) (sym of_here.unit) ∙ sym at ∙ ap option_copied is)

-- a number that is a sum, where the sum has 64 bits
pub sum-is : (r : Option ℕ) (P : Type 0) (v b : ℕ) → SomeIff r P v → b ≡ v → IfSome r (λ x. Some b ≡ Some x)
sum-is None P v b sum same = tt
sum-is (Some x) P v b sum same = ap Some (same ∙ sym sum.1)

pub sum-of : {r : Option ℕ} {v x : ℕ} (P : Type 0) → r ≡ Some x → SomeIff r P v → x ≡ v
sum-of {v = v} P is sum = (subst (λ o. SomeIff o P v) is sum).1
