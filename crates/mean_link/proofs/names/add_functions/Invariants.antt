use Rattle.std.proofs.Common.{flat_map, take}
use Rattle.mean_link.specs.Laws.NameLaws.{Adds}
use Rattle.mean_link.specs.Names.{function_name}
use Rattle.mean_link.proofs.names.add_functions.Given as goal

-- the names of those passed are added
abbrev pub invariant-loop-function : goal.invariant-loop-function
invariant-loop-function l = Adds l.initial.known l.known (flat_map function_name (take l.function-index l.functions))
