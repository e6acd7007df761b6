-- What a write leaves, where a read before it left the files as they were.
use Rattle.std.proofs.Common.{◌≡◌, List, ℕ, Option, Some, None, refl, sym, subst}
use Rattle.mt_outside.specs.Told.{WhereTold}
use Rattle.mt_outside.specs.Files.{Contents, OthersStay, WriteGives}
use Rattle.mt_outside.specs.declared.files.WriteAnswer.TheVariants.{Done, Failed, NoMemory}

pub written : (told read after : Option Contents) (name bytes image : List ℕ) → read ≡ told → bytes ≡ image →
    WhereTold read after (WriteGives name bytes Done) →
    WhereTold told after (λ old new. (new name ≡ Some image) × OthersStay name old new)
written told read after name bytes image same put gives =
    subst (λ t. WhereTold t after (λ old new. (new name ≡ Some image) × OthersStay name old new)) same
    (subst (λ b. WhereTold read after (λ old new. (new name ≡ Some b) × OthersStay name old new)) put gives)

pub left_open : (told read after : Option Contents) (name bytes : List ℕ) → read ≡ told →
    WhereTold read after (WriteGives name bytes Failed) → WhereTold told after (OthersStay name)
left_open told read after name bytes same gives = subst (λ t. WhereTold t after (OthersStay name)) same gives

-- every file holds what it held
abbrev pub Same : Option Contents → Option Contents → Type 0
Same told after = WhereTold told after (λ old new. (file : List ℕ) → new file ≡ old file)

pub unchanged : (told read after : Option Contents) (name bytes : List ℕ) → read ≡ told →
    WhereTold read after (WriteGives name bytes NoMemory) → Same told after
unchanged told read after name bytes same gives = subst (λ t. Same t after) same gives

-- files that tell what they told hold what they held
pub same_files : (told after : Option Contents) → after ≡ told → Same told after
same_files told after same = subst (λ t. Same told t) (sym same) (all_same told)
  where
    all_same : (t : Option Contents) → Same t t
    all_same None = tt
    all_same (Some files) = λ file. refl
