use Rattle.std.proofs.Common.{subst, sym}
use Rattle.c_type_base.specs.declared.ty.Ty.{out-Ty}
use Rattle.mean_machine.specs.Execution.{fill_one}
use Rattle.mean_effects.specs.Objects.{object_of}
use Rattle.mean_expressions.specs.Stacked.{Stands}
use Rattle.mean_control.proofs.initialising.fill_one.Goals as goal

pub returns-in-Struct : goal.returns-in-Struct
unfolding out-Ty denote.Hole.Carrier.out
returns-in-Struct c = λ w here k now of_here stacked of_now.
    subst (λ t. Stands c.args.n.now c.fill_struct.new.stack.items w here now c.fill_struct.result
    (fill_one here k (object_of c.args.o) c.args.e.now (out-Ty t) now))
    (sym c.in-Struct.is) (c.fill_struct.ensures c.args.n.now w here k now c.in-Struct.field-0 stacked of_now)
