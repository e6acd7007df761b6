use Rattle.std.proofs.Common.{◌≡◌, map, take, true}
use Rattle.slot_safety.specs.Kinds.{put}
use Rattle.mean_link.specs.Uses.{joined, decl_uses}
use Rattle.mean_link.proofs.statements.use_decls.Given as goal

-- those passed are marked
abbrev pub invariant-loop-decl : goal.invariant-loop-decl
invariant-loop-decl l =
    l.used ≡ put true l.initial.used (joined (map decl_uses (take l.decl-index l.decls)))
