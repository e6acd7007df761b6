use Rattle.std.proofs.Common.{take}
use Rattle.mean_texts.specs.Texts.{AreFilesOf, texts_of}
use Rattle.mean_texts.proofs.texts.files_of.Given as goal

-- those of the texts passed
abbrev pub invariant-loop-number : goal.invariant-loop-number
invariant-loop-number l = AreFilesOf (texts_of (take l.number l.texts)) l.files
