use Rattle.std.proofs.Common.{sym, ap, ◌∙◌, List}
use Rattle.block_meaning.specs.Expressions.{first_number}
use Rattle.block_meaning.specs.declared.value.Value.{Value}
use Rattle.std.specs.Prelude.{◌%◌}
use Rattle.mean_program.proofs.Turning.{unput_holds}
use Rattle.mean_program.proofs.turn.put.Goals as goal

pub returns-in-Failed-clause-gives : goal.returns-in-Failed-clause-gives
returns-in-Failed-clause-gives g c = λ aim p span vs input same holds.
    unput_holds aim p span vs input (g.K.Sink.told c.args.sink.now) (g.K.Sink.told c.put.new.self) c.byte_of-byte.result
    (c.byte_of-byte.ensures ∙ ap (λ (l : List Value). first_number l % 256) (sym same)) c.in-Failed.ensures.content holds
