use Rattle.mt_answers.specs.Seen.{files_seen}
use Rattle.mt_answers.proofs.InTurn.{unread_stops, refused_stops}
use Rattle.mt_answers.proofs.each.make_one.Goals as goal

-- its bytes are handed on
pub returns-in-Ok-clause-stops : goal.returns-in-Ok-clause-stops
returns-in-Ok-clause-stops g c =
    refused_stops g.T.Stage.step c.args.number c.args.name.now c.in-Ok.bytes.items (files_seen g.F.Files c.args.files.now)
    (files_seen g.F.Files c.read_file.new.files) c.make.result c.in-Ok.ensures.bytes c.make.ensures.refused

-- or it was not read
pub returns-in-Err-clause-stops : goal.returns-in-Err-clause-stops
returns-in-Err-clause-stops g c =
    unread_stops g.T.Stage.step c.args.number c.args.name.now (files_seen g.F.Files c.args.files.now)
    (files_seen g.F.Files c.read_file.new.files) c.in-Err.answer c.in-Err.ensures.cause
