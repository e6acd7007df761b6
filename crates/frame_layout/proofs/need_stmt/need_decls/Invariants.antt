use Rattle.std.proofs.Common.{◌≡◌, max, map, drop}
use Rattle.frame_layout.specs.StatementNeeds.{most, decl_need}
use Rattle.frame_layout.proofs.need_stmt.need_decls.Given as goal

-- with what is left it is the most of all
abbrev pub invariant-loop-decl : goal.invariant-loop-decl
invariant-loop-decl l = max l.most (most (map decl_need (drop l.decl-index l.decls))) ≡ most (map decl_need l.decls)
