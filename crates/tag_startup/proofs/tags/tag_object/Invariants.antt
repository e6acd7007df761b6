use Rattle.tag_startup.proofs.Tagging.{Granules}
use Rattle.tag_startup.proofs.tags.tag_object.Given as goal

abbrev pub invariant-loop-n : goal.invariant-loop-n
invariant-loop-n g l = Granules g.M.TagMemory l.initial.memory l.memory l.object l.n l.tag
