use Rattle.std.proofs.Common.{◌≡◌, take}
use Rattle.c_type_expr.proofs.rows.call.copy_types.Given as goal

-- the types passed are copied
abbrev pub invariant-loop-ty : goal.invariant-loop-ty
invariant-loop-ty l = l.copied ≡ take l.ty-index l.types
