use Rattle.std.proofs.Common.{◌≡◌, ◌++◌, map, take}
use Rattle.c_types.specs.Files.{mentioned_object}
use Rattle.c_types.proofs.names.mention_objects.Given as goal

-- the declarations passed are there
abbrev pub invariant-loop-d : goal.invariant-loop-d
invariant-loop-d l = l.into ≡ l.initial.into ++ map (mentioned_object l.fn.storage) (take l.d-index l.decls)
