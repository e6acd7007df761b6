use Rattle.std.proofs.Common.{take}
use Rattle.mean_link.specs.Laws.NameLaws.{Adds}
use Rattle.mean_link.proofs.judge.add_all.Given as goal

-- those passed are added
abbrev pub invariant-loop-name : goal.invariant-loop-name
invariant-loop-name l = Adds l.initial.known l.known (take l.name-index l.names)
