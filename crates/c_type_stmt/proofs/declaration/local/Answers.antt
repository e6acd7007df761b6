use Rattle.std.proofs.Common.{rules}
use Rattle.c_type_stmt.proofs.DeclarationLaws.{local_walked}
use Rattle.c_type_stmt.proofs.declaration.local.Goals as goal

pub returns : goal.returns
returns c =
    local_walked c.args.d.now c.in_ok-t.t _ c.in_ok-init.init c.in-Ok.number c.made_local.result _ _ _ _ c.in_ok-t.ensures (search rules)
    (rw c.as_ref.ensures.value at c.in_ok-kept.ensures) (rw (c.as_ref-2.ensures.value, c.as_ref-3.ensures.value) at c.in_ok-init.ensures)
    (rw c.as_ref-4.ensures.value at c.made_local.ensures)
