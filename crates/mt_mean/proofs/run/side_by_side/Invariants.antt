use Rattle.std.proofs.Common.{ℕ, List, map}
use Rattle.mean_texts.specs.Texts.{AreFilesOf}
use Rattle.mt_mean.specs.Sources.{AreTyped, held_as}
use Rattle.mt_mean.proofs.run.side_by_side.Given as goal

-- the files passed stand side by side
abbrev pub invariant-loop-file : goal.invariant-loop-file
invariant-loop-file l =
    (texts : List (List ℕ)) → AreTyped texts (map held_as l.yielded) → AreFilesOf texts l.files
