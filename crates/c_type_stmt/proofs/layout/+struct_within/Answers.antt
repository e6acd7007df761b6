use Rattle.c_type_stmt.proofs.PlaceLaws.{within_some, within_none}
use Rattle.c_type_stmt.proofs.layout.+struct_within.Goals as goal

pub returns-in-Array-clause-some : goal.returns-in-Array-clause-some
returns-in-Array-clause-some t c =
    rw (c.in-Array.is, ← c.get.ensures)
    (within_some c.get.result.now c.in-Array.field-1 c.struct_within.result c.struct_within.ensures.some)

pub returns-in-Array-clause-none : goal.returns-in-Array-clause-none
returns-in-Array-clause-none t c =
    rw (c.in-Array.is, ← c.get.ensures)
    (within_none c.get.result.now c.in-Array.field-1 c.struct_within.result c.struct_within.ensures.none)
