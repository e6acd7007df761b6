use Rattle.std.proofs.Common.{◌≡◌, max, map, drop}
use Rattle.frame_layout.specs.StatementNeeds.{most, init_need}
use Rattle.frame_layout.proofs.need_stmt.+init.Given as goal

-- with what is left it is the most of all
abbrev pub invariant-need_inits-loop-init : goal.invariant-need_inits-loop-init
invariant-need_inits-loop-init l =
    max l.most (most (map init_need (drop l.init-index l.inits))) ≡ most (map init_need l.inits)
