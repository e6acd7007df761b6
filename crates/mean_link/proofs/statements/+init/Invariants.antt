use Rattle.std.proofs.Common.{◌≡◌, map, take, true}
use Rattle.slot_safety.specs.Kinds.{put}
use Rattle.mean_link.specs.Uses.{joined, init_uses}
use Rattle.mean_link.proofs.statements.+init.Given as goal

-- those passed are marked
abbrev pub invariant-use_inits-loop-init : goal.invariant-use_inits-loop-init
invariant-use_inits-loop-init l =
    l.used ≡ put true l.initial.used (joined (map init_uses (take l.init-index l.inits)))
