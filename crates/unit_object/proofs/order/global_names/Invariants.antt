use Rattle.std.proofs.Common.{◌≡◌, ◌++◌, drop}
use Rattle.unit_object.specs.Numbered as spec
use Rattle.unit_object.proofs.order.global_names.Given as goal

-- the names of those that are left follow
abbrev pub invariant-loop-global : goal.invariant-loop-global
invariant-loop-global l = l.names ++ spec.global_names (drop l.global-index l.globals) ≡ spec.global_names l.globals
