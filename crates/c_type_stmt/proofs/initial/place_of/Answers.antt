use Rattle.std.proofs.Common.{refl}
use Rattle.c_type_stmt.proofs.PlaceLaws.{array_place}
use Rattle.c_type_stmt.proofs.initial.place_of.Goals as goal

pub returns-in_ok-ty-in-Array : goal.returns-in_ok-ty-in-Array
returns-in_ok-ty-in-Array c =
    rw (c.in-Array.is, c.in_ok-ty-in-Array.ensures, c.get-in-Array.ensures)
    (array_place c.args.structs.now c.in-Array.element c.in-Array.length c.args.k _ c.wrapped_size.result c.if-length-k.false
    (rw (← c.get.ensures) c.wrapped_size.ensures) refl)
