use Rattle.c_types.specs.Units.{judged}
use Rattle.c_types.proofs.AnswerLaws.{answer_none, answer_broken, answer_typed}
use Rattle.c_types.proofs.program.answer.Goals as goal

pub returns-in-Some : goal.returns-in-Some
returns-in-Some c program names stands =
    answer_broken program c.args.files.walk c.in-Some.fault _ c.in-Some.is stands.walk_stands c.refusal_of.ensures

pub returns-in-Ok : goal.returns-in-Ok
returns-in-Ok c program names stands =
    answer_typed program c.args.files.walk c.in-Ok.typed c.in-None.is stands.walk_stands
    (rw names at (c.in-Ok.ensures (judged program) stands))

pub returns-in-Err : goal.returns-in-Err
returns-in-Err c program names stands = answer_none program
