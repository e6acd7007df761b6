-- The bytes of a file, where the files are told.
use Rattle.std.proofs.Common.{◌≡◌, ℕ, List, Option, Some, None, IfSome, sym, ◌∙◌}
use Rattle.std.specs.Option.{option_and_then}
use Rattle.std.proofs.lemmas.Option.{same_Some, none-some}
use Rattle.mt_outside.specs.Files.{Contents}
use Rattle.mt_answers.specs.Read.{CauseOfNoBytes, absent, failed}
use Rattle.mt_answers.specs.Seen.{FilesSeen, bytes_of, MayHold, ReadFailed}
use Rattle.mt_answers.specs.declared.ended.Why.{Why}

told_bytes : (told : Option Contents) (file bytes read : List ℕ) → option_and_then (λ files. files file) told ≡ Some bytes →
    IfSome told (λ files. files file ≡ Some read) → read ≡ bytes
told_bytes None file bytes read holds is = absurd (none-some bytes holds)
told_bytes (Some files) file bytes read holds is = same_Some _ _ (sym is ∙ holds)

told_there : (told : Option Contents) (file bytes : List ℕ) → option_and_then (λ files. files file) told ≡ Some bytes →
    IfSome told (λ files. files file ≡ None) → ⊥
told_there None file bytes holds none = none-some bytes holds
told_there (Some files) file bytes holds none = none-some bytes (sym none ∙ holds)

-- where the files are told, bytes that were read of a file are those that it holds
pub same_bytes : (seen : FilesSeen) (file bytes read : List ℕ) → bytes_of seen file ≡ Some bytes → MayHold seen file read → read ≡ bytes
same_bytes seen file bytes read holds is = told_bytes seen.told file bytes read holds is

-- where there are bytes and no read failed, they are read
pub not_unread : (number : ℕ) (file bytes : List ℕ) (before after : FilesSeen) {why : Why} → CauseOfNoBytes number file before after why →
    bytes_of before file ≡ Some bytes → ¬ ReadFailed before after → ⊥
not_unread number file bytes before after (absent none) holds no_fault = told_there before.told file bytes holds none
not_unread number file bytes before after (failed rose) holds no_fault = no_fault rose
