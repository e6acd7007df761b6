use Rattle.std.proofs.Common.{◌≡◌, ◌≤◌, ◌++◌, map, drop, length}
use Rattle.frame_layout.specs.StatementNeeds.{decl_need, most}
use Rattle.gen_stmt.specs.Statements.{declarations}
use Rattle.gen_stmt.proofs.declarations.push_declarations.Given as goal

-- with those that are left these are all, and there are temps for them
abbrev pub invariant-loop-decl : goal.invariant-loop-decl
invariant-loop-decl l = record {
  room : most (map decl_need (drop l.decl-index l.decls)) ≤ 32765;
  code :
      l.code.items.items ++ declarations l.unit.structs l.frame (drop l.decl-index l.decls) (length l.code.items.items)
      ≡ l.initial.code.items.items ++ declarations l.unit.structs l.frame l.decls (length l.initial.code.items.items);
}
