use Rattle.std.proofs.Common.{◌≡◌, map, take, true}
use Rattle.slot_safety.specs.Kinds.{put}
use Rattle.mean_link.specs.Uses.{joined, expr_uses}
use Rattle.mean_link.proofs.uses.+expr.Given as goal

-- the arguments passed are marked
abbrev pub invariant-use_all-loop-argument : goal.invariant-use_all-loop-argument
invariant-use_all-loop-argument l =
    l.used ≡ put true l.initial.used (joined (map expr_uses (take l.argument-index l.arguments)))
