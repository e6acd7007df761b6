use Rattle.std.proofs.Common.{◌≡◌, ◌++◌, map, drop}
use Rattle.block_meaning.specs.Statements.{local_of}
use Rattle.gen_stmt.proofs.declared.push_declared.Given as goal

-- with those that are left these are all
abbrev pub invariant-loop-decl : goal.invariant-loop-decl
invariant-loop-decl l =
    l.locals.items ++ map local_of (drop l.decl-index l.decls) ≡ l.initial.locals.items ++ map local_of l.decls
