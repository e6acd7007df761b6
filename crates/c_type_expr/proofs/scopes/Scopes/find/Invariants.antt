use Rattle.std.proofs.Common.{◌≡◌, ◌≤◌, ◌∷◌, reverse, take, length}
use Rattle.c_type_expr.specs.Environment.{in_scopes}
use Rattle.c_type_expr.proofs.scopes.Scopes.find.Given as goal

-- the scopes passed do not have the name
abbrev pub invariant-loop-left : goal.invariant-loop-left
invariant-loop-left l = record {
  within : l.left ≤ length l.self-inside.outer;
  passed : in_scopes l.name (l.self-inside.inner ∷ reverse l.self-inside.outer) ≡
      in_scopes l.name (reverse (take l.left l.self-inside.outer));
}

abbrev pub decreases-loop-left : goal.decreases-loop-left
decreases-loop-left l = l.left
