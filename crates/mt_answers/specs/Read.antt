-- Why a command did not get the bytes of a file (this project's own). Memory may be wanting besides.
use Rattle.std.specs.Prelude.{◌≡◌, ℕ, List, None, IfSome}
use Rattle.mt_answers.specs.Seen.{FilesSeen, ReadFailed}
use Rattle.mt_answers.specs.declared.ended.Why.{Why}
use Rattle.mt_answers.specs.declared.ended.Why.TheVariants.{NoFile, ReadFault}

-- The reason by its cause, of the file with this number among those that the job reads.
pub data CauseOfNoBytes (number : ℕ) (file : List ℕ) (before after : FilesSeen) : Why → Type 0 where
  absent : IfSome before.told (λ files. files file ≡ None) → CauseOfNoBytes number file before after (NoFile number)
  failed : ReadFailed before after → CauseOfNoBytes number file before after (ReadFault number)
