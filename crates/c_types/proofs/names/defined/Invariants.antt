use Rattle.std.proofs.Common.{◌≡◌, ℕ, List, take}
use Rattle.std.specs.List.{list_any}
use Rattle.std.specs.Str.{bytes_eq}
use Rattle.c_types.specs.Files.{defined_as}
use Rattle.c_types.proofs.names.defined.Given as goal

-- the names are those that the declarations passed define
abbrev pub invariant-loop-mention : goal.invariant-loop-mention
invariant-loop-mention l =
    (name : List ℕ) → list_any (bytes_eq name) l.names ≡ defined_as l.function (take l.mention-index l.mentions) name
