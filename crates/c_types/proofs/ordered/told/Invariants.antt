use Rattle.std.proofs.Common.{◌≡◌, flat_map, map, take}
use Rattle.c_types.specs.Ordered.{option_list}
use Rattle.c_types.specs.Recalled.{recalled, told_of}
use Rattle.c_types.proofs.ordered.told.Given as goal

-- what is told of the names passed is there
abbrev pub invariant-loop-name : goal.invariant-loop-name
invariant-loop-name l =
    l.made ≡ flat_map (λ n. option_list (told_of n (recalled l.declared n))) (map (λ k. k.items) (take l.name-index l.list))
