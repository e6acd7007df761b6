-- The first of some faults, found one by one.
use Rattle.std.specs.Prelude.{Bool, ltb, nat_eq, List, [], ◌∷◌, Option, Some, None, if◌then◌else◌}
use Rattle.c_type_expr.specs.declared.fault.Fault.{Fault}

-- by the end of the construct, then by its start, the last first, and then by the number
abbrev pub comes_before : Fault → Fault → Bool
comes_before f g =
    (if nat_eq f.span.end g.span.end then (if nat_eq f.span.start g.span.start then ltb f.number g.number
    else ltb g.span.start f.span.start)
    else ltb f.span.end g.span.end)

abbrev pub earlier : Option Fault → Fault → Fault
earlier None g = g
earlier (Some f) g = (if comes_before g f then g else f)

-- the first of those found so far and of some more
abbrev pub first_with : Option Fault → List Fault → Option Fault
first_with f [] = f
first_with f (g ∷ gs) = first_with (Some (earlier f g)) gs
