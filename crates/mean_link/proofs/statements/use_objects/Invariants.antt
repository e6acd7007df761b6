use Rattle.std.proofs.Common.{◌≡◌, map, take, true}
use Rattle.slot_safety.specs.Kinds.{put}
use Rattle.mean_link.specs.Uses.{joined, object_uses}
use Rattle.mean_link.proofs.statements.use_objects.Given as goal

-- those passed are marked
abbrev pub invariant-loop-global : goal.invariant-loop-global
invariant-loop-global l =
    l.used ≡ put true l.initial.used (joined (map object_uses (take l.global-index l.globals)))
