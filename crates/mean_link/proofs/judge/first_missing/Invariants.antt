use Rattle.std.proofs.Common.{◌≡◌, find, flat_map, drop}
use Rattle.mean_link.specs.LinkFault.{undefined_by, is_missing, first_missing}
use Rattle.mean_link.proofs.judge.first_missing.Given as goal

abbrev pub invariant-loop-file : goal.invariant-loop-file
invariant-loop-file l = find (is_missing l.files) (flat_map undefined_by (drop l.file-index l.files)) ≡ first_missing l.files
