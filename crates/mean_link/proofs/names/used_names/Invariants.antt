use Rattle.std.proofs.Common.{◌≡◌, ◌++◌, drop}
use Rattle.mean_link.specs.Laws.NameLaws.{used_by}
use Rattle.mean_link.proofs.names.used_names.Given as goal

-- with what is left these are all names
abbrev pub invariant-loop-number : goal.invariant-loop-number
invariant-loop-number l = l.names ++ used_by (drop l.number l.used) (drop l.number l.externs) ≡ used_by l.used l.externs
