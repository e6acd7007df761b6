use Rattle.c_type_base.specs.declared.expr.Callee.TheVariants as callee
use Rattle.mean_expressions.specs.declared.frames.Control.TheVariants as control
use Rattle.mean_program.proofs.Turning.{held_part}
use Rattle.mean_program.proofs.turn.take.Goals as goal

pub returns-in-Failed-clause-gives : goal.returns-in-Failed-clause-gives
returns-in-Failed-clause-gives g c = λ aim p span vs output holds.
    held_part aim p (control.Call span callee.Getchar vs) (g.S.Source.told c.args.source.now) output holds
