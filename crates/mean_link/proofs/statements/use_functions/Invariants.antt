use Rattle.std.proofs.Common.{◌≡◌, map, take, true}
use Rattle.slot_safety.specs.Kinds.{put}
use Rattle.mean_link.specs.Uses.{joined, function_uses}
use Rattle.mean_link.proofs.statements.use_functions.Given as goal

-- those passed are marked
abbrev pub invariant-loop-function : goal.invariant-loop-function
invariant-loop-function l =
    l.used ≡ put true l.initial.used (joined (map function_uses (take l.function-index l.functions)))
