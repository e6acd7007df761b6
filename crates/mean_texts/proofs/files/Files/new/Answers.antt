use Rattle.mean_texts.proofs.Turns.{no_files}
use Rattle.mean_texts.proofs.files.Files.new.Goals as goal

pub returns : goal.returns
returns c = no_files c.new.result c.new-2.result c.new-3.result.items c.new.ensures c.new-2.ensures c.new-3.ensures.items
