use Rattle.std.proofs.Common.{sym, ◌∙◌}
use Rattle.c_type_base.specs.Layout.{first_in_struct}
use Rattle.c_type_stmt.proofs.ScalarLaws.{scalar_step, scalar_end}
use Rattle.c_type_stmt.proofs.layout.first_scalar.Goals as goal

pub returns-in_default-member : goal.returns-in_default-member
returns-in_default-member c =
    sym (scalar_end c.args.structs.now c.loop-left.left c.in-Some.number c.loop-left-test.true
    (sym (rw c.in_default-member.is at c.member.ensures)))
    ∙ sym (c.in-Some.ensures.some (first_in_struct c.loop-left.left c.args.structs.now)) ∙ c.loop-left.invariant

pub loop-left-preserved : goal.loop-left-preserved
loop-left-preserved c =
    sym (scalar_step c.args.structs.now c.loop-left.left c.in-Some.number c.in-Some-member.first.now c.loop-left-test.true
    (sym (rw c.in-Some-member.is at c.member.ensures)))
    ∙ sym (c.in-Some.ensures.some (first_in_struct c.loop-left.left c.args.structs.now)) ∙ c.loop-left.invariant
