use Rattle.std.proofs.Common.{◌≡◌, [], map, take}
use Rattle.std.specs.List.{filter, list_any}
use Rattle.std.specs.Str.{bytes_eq}
use Rattle.c_types.specs.Files.{once, name_in}
use Rattle.c_types.proofs.names.among.Given as goal

-- the names are those of the declarations passed
abbrev pub invariant-loop-mention : goal.invariant-loop-mention
invariant-loop-mention l =
    l.names ≡ once [] (filter (λ n. list_any (bytes_eq n) l.chosen) (map name_in (take l.mention-index l.mentions)))
