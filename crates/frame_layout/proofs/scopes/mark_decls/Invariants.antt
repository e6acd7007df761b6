use Rattle.std.proofs.Common.{◌≡◌, true, map, drop}
use Rattle.slot_safety.specs.Kinds.{put}
use Rattle.frame_layout.specs.Scopes.{number_of}
use Rattle.frame_layout.proofs.scopes.mark_decls.Given as goal

-- with what is left all are marked
abbrev pub invariant-loop-decl : goal.invariant-loop-decl
invariant-loop-decl l =
    put true l.outer (map number_of (drop l.decl-index l.decls)) ≡ put true l.initial.outer (map number_of l.decls)
