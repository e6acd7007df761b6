use Rattle.mt_answers.specs.Laws.StatusLaws.{has_status}
use Rattle.mt_answers.proofs.report.finish.Goals as goal

pub returns-clause-status : goal.returns-clause-status
returns-clause-status g c = has_status c.ended.result c.args.answer c.ended.ensures
