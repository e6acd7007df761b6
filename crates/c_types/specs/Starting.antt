-- The walk before the first part of a file.
use Rattle.std.specs.Prelude.{[], None, false}
use Rattle.c_type_expr.specs.declared.walk.Walk.{Walk}
use Rattle.c_type_expr.specs.Scoping.{no_names}

abbrev pub first_walk : Walk
first_walk = record { structs = []; scopes = no_names; texts = []; locals = []; result = None; stdio = false; first = None }
