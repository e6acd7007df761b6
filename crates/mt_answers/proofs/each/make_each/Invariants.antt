use Rattle.std.proofs.Common.{◌≡◌, take}
use Rattle.mt_answers.specs.Each.{AreMadeOf, names_of}
use Rattle.mt_answers.specs.Seen.{files_seen}
use Rattle.mt_answers.proofs.each.make_each.Given as goal

-- something was made of the files passed, and the files outside are as they were
abbrev pub invariant-loop-place : goal.invariant-loop-place
invariant-loop-place g l =
    AreMadeOf g.T.Stage.step (files_seen g.F.Files l.fn.files) (names_of (take l.place l.names)) l.all.items
    × (files_seen g.F.Files l.files ≡ files_seen g.F.Files l.fn.files)
