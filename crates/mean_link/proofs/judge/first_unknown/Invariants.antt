use Rattle.std.proofs.Common.{◌≡◌, find, drop}
use Rattle.mean_link.specs.Laws.NameLaws.{is_unknown}
use Rattle.mean_link.proofs.judge.first_unknown.Given as goal

abbrev pub invariant-loop-name : goal.invariant-loop-name
invariant-loop-name l = find (is_unknown l.known) (drop l.name-index l.names) ≡ find (is_unknown l.known) l.names
