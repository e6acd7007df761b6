use Rattle.std.proofs.Common.{◌≡◌, ◌++◌, drop}
use Rattle.frame_layout.specs.Parts.{setting, parts_by}
use Rattle.frame_layout.proofs.held.collect.Given as goal

-- with what is left these are all parts
abbrev pub invariant-loop-number : goal.invariant-loop-number
invariant-loop-number l =
    l.parts.items
    ++ parts_by (setting l.structs l.params) l.number (drop l.number l.locals) (drop l.number l.kinds) (drop l.number l.outer)
    ≡ parts_by (setting l.structs l.params) 0 l.locals l.kinds l.outer
