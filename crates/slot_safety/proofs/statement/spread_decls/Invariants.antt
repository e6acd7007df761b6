use Rattle.std.proofs.Common.{◌≡◌, map, take}
use Rattle.slot_safety.specs.Kinds.{marked}
use Rattle.slot_safety.specs.Statements.{joined, decl_harms}
use Rattle.slot_safety.proofs.statement.spread_decls.Given as goal

-- the declarations passed are seen
abbrev pub invariant-loop-decl : goal.invariant-loop-decl
invariant-loop-decl l =
    l.kinds ≡ marked l.initial.kinds (joined (map (decl_harms l.structs) (take l.decl-index l.decls)))
