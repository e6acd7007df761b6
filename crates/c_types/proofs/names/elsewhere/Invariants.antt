use Rattle.std.proofs.Common.{◌≡◌, [], map, take}
use Rattle.std.specs.List.{filter}
use Rattle.c_types.specs.Files.{once, name_in}
use Rattle.c_types.specs.Tables.{is_elsewhere}
use Rattle.c_types.proofs.names.elsewhere.Given as goal

-- the names are those of the declarations passed
abbrev pub invariant-loop-mention : goal.invariant-loop-mention
invariant-loop-mention l =
    l.names ≡ once [] (filter (is_elsewhere l.objects l.functions l.includes) (map name_in (take l.mention-index l.mentions)))
