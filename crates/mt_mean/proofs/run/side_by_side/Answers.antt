use Rattle.mt_mean.proofs.Turns.{no_file_yet, pushed_file}
use Rattle.mt_mean.proofs.run.side_by_side.Goals as goal

pub loop-file-init : goal.loop-file-init
loop-file-init c = no_file_yet c.new-files.result c.new-files.ensures

-- one file more
pub loop-file-preserved : goal.loop-file-preserved
loop-file-preserved c =
    pushed_file c.loop-file.yielded c.in-Some.file c.loop-file.files c.push.new.self c.loop-file.invariant c.in_ok-push.ensures
