use Rattle.std.proofs.Common.{◌≡◌, drop, get_or}
use Rattle.gen_stmt.specs.Scopes.{greatest_of}
use Rattle.gen_stmt.proofs.declared.range_of.Given as goal

-- with those that are left it is the greatest of all
abbrev pub invariant-loop-local : goal.invariant-loop-local
invariant-loop-local l =
    greatest_of l.last (drop l.local-index l.locals) ≡ greatest_of (get_or l.locals 0 0) l.locals
