use Rattle.c_parse_base.specs.Laws.AnswerLaws.{answers_on, answers_stop}
use Rattle.c_parse.proofs.whole.all.Goals as goal

pub returns-in_err-read : goal.returns-in_err-read
returns-in_err-read c = answers_on _ c.from_residual.ensures.1 (answers_stop _ c.in_err-read.ensures.answers)
