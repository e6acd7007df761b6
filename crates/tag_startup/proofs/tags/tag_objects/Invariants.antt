use Rattle.std.proofs.Common.{drop}
use Rattle.tag_startup.proofs.Tagging.{StillTags}
use Rattle.tag_startup.proofs.tags.tag_objects.Given as goal

abbrev pub invariant-loop-object : goal.invariant-loop-object
invariant-loop-object g l =
    StillTags g.M.TagMemory l.initial.memory l.memory l.fn.first l.tag l.objects (drop l.object-index l.objects)
