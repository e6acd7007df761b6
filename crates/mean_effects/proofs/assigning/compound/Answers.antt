use Rattle.std.proofs.Common.{subst}
use Rattle.c_ast.specs.declared.operator.BinaryOperator.{BinaryOperator}
use Rattle.block_meaning.specs.declared.value.Value.{Value}
use Rattle.block_meaning.specs.Memory.{object, read_scalar}
use Rattle.block_meaning.specs.Operators.{binary_of, values_combined}
use Rattle.block_meaning.specs.Running.{Context, Run, and_then}
use Rattle.mean_effects.specs.declared.assigning.Assignment.{Assignment}
use Rattle.mean_effects.specs.Effects.{left_written}
use Rattle.mean_effects.specs.Laws.Giving.{done-then, stopped-then}
use Rattle.mean_effects.specs.Shown.{Gives}
use Rattle.mean_effects.proofs.assigning.compound.Goals as goal

-- by the operator and the values of both sides
abbrev by_operator : Context → Assignment → BinaryOperator → Value → Value → Run Value
by_operator here a o v w =
    and_then (values_combined here a.span o a.left.now.ty a.right.now.ty v w) (λ r. left_written here a r)

pub returns-in-Ok : goal.returns-in-Ok
returns-in-Ok c = λ here now of_here of_now.
    let a = c.args.a in
    let e = a.left.now in
    done-then (read_scalar here e.span (object e.ty a.at) now) (λ v. by_operator here a (binary_of c.args.o) v c.args.w) c.in-Ok.is
    (c.read_scalar.ensures here now of_here of_now) (λ after shown.
    subst (λ o. Gives c.write_combined.new.n after c.write_combined.result (by_operator here a o c.in-Ok.first c.args.w after))
    c.binary_of.ensures (c.write_combined.ensures here after of_here shown))

pub returns-in-Err : goal.returns-in-Err
returns-in-Err c = λ here now of_here of_now.
    let a = c.args.a in
    let e = a.left.now in
    stopped-then (read_scalar here e.span (object e.ty a.at) now) (λ v. by_operator here a (binary_of c.args.o) v c.args.w) c.in-Err.is
    (c.read_scalar.ensures here now of_here of_now)
