use Rattle.c_types.specs.Units.{start}
use Rattle.c_types.proofs.program.walked.Goals as goal

pub returns : goal.returns
returns c = rw c.as_slice.ensures at (c.in_ok-parts_judged.ensures start c.first_files-files.ensures)
