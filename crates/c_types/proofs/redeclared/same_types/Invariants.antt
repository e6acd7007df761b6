use Rattle.std.proofs.Common.{◌≡◌, drop}
use Rattle.c_types.specs.Redeclarations.{same_types}
use Rattle.c_types.proofs.redeclared.same_types.Given as goal

-- the types passed are the same
abbrev pub invariant-loop-i : goal.invariant-loop-i
invariant-loop-i l = same_types l.ss l.ts ≡ same_types (drop l.i l.ss) (drop l.i l.ts)
