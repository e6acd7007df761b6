use Rattle.std.proofs.Common.{◌≡◌, ◌++◌, map, drop}
use Rattle.std.specs.Prelude.{filter}
use Rattle.c_types.specs.Ordered.{by_names}
use Rattle.unit_object.specs.Scopes.{is_of_scope}
use Rattle.unit_object.specs.Symbols.{name_of}
use Rattle.unit_object.proofs.symbols.push_by_names.Given as goal

-- the symbols of the names that are left follow
abbrev pub invariant-loop-name : goal.invariant-loop-name
invariant-loop-name l =
    l.made.items ++ filter (is_of_scope l.local) (by_names name_of (map (λ n. n.items) (drop l.name-index l.names)) l.defined)
    ≡ l.initial.made.items ++ filter (is_of_scope l.local) (by_names name_of (map (λ n. n.items) l.names) l.defined)
