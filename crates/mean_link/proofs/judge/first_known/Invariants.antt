use Rattle.std.proofs.Common.{◌≡◌, find, drop}
use Rattle.mean_link.specs.Names.{is_among}
use Rattle.mean_link.proofs.judge.first_known.Given as goal

abbrev pub invariant-loop-name : goal.invariant-loop-name
invariant-loop-name l = find (is_among l.known) (drop l.name-index l.names) ≡ find (is_among l.known) l.names
