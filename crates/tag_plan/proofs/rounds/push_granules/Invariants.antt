use Rattle.std.proofs.Common.{◌≡◌, ◌++◌, ◌*◌, ◌-◌}
use Rattle.a64_laws.specs.Tagging.{tags_from}
use Rattle.tag_plan.specs.Lists as spec
use Rattle.tag_plan.proofs.rounds.push_granules.Given as goal

-- with the granules that are left these are all
abbrev pub invariant-loop-pair : goal.invariant-loop-pair
invariant-loop-pair l =
    l.code.items ++ tags_from l.tag spec.place (2 * l.pair) (l.granules - 2 * l.pair)
    ≡ l.initial.code.items ++ tags_from l.tag spec.place 0 l.granules
