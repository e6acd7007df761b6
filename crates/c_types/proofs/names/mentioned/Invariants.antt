use Rattle.std.proofs.Common.{◌≡◌, take}
use Rattle.std.specs.Prelude.{flat_map}
use Rattle.c_types.specs.Files.{mentions}
use Rattle.c_types.proofs.names.mentioned.Given as goal

-- the parts passed are there
abbrev pub invariant-loop-part : goal.invariant-loop-part
invariant-loop-part l = l.made ≡ flat_map mentions (take l.part-index l.parts)
