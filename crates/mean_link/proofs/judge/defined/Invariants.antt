use Rattle.std.proofs.Common.{◌≡◌, flat_map, take, drop}
use Rattle.mean_link.specs.LinkFault.{defined_by, repeated_from, first_repeated}
use Rattle.mean_link.specs.Laws.NameLaws.{HaveSame}
use Rattle.mean_link.proofs.judge.defined.Given as goal

-- the names of those passed are known, and the first that is repeated is one of the others
abbrev pub invariant-loop-file : goal.invariant-loop-file
invariant-loop-file l = record {
  known : HaveSame l.known (flat_map defined_by (take l.file-index l.files));
  once : repeated_from (flat_map defined_by (take l.file-index l.files)) (drop l.file-index l.files) ≡ first_repeated l.files;
}
