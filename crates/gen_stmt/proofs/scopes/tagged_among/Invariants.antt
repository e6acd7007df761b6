use Rattle.std.proofs.Common.{◌≡◌, ◌++◌, drop}
use Rattle.gen_stmt.specs.Scopes as spec
use Rattle.gen_stmt.proofs.scopes.tagged_among.Given as goal

-- with those among the ones that are left these are all
abbrev pub invariant-loop-local : goal.invariant-loop-local
invariant-loop-local l =
    l.tagged.items ++ spec.tagged_among l.frame (drop l.local-index l.locals) ≡ spec.tagged_among l.frame l.locals
