use Rattle.std.proofs.Common.{get_or, refl}
use Rattle.std.proofs.lemmas.List.{drop_all}
use Rattle.memtag_desc.specs.declared.interval.Interval.{Interval}
use Rattle.tag_startup.proofs.Tagging.{object_tagged, objects_tagged, taggable}
use Rattle.tag_startup.proofs.tags.tag_objects.Goals as goal

pub loop-object-init : goal.loop-object-init
loop-object-init g c = record { tags = refl; byte = refl; regions = refl; guard = refl }

pub tag_object-requires : goal.tag_object-requires
tag_object-requires g c =
    let d : Interval = record { start = 0; bytes = 0 } in
    taggable (g.M.TagMemory.regions c.args.memory.now) (g.M.TagMemory.regions c.loop-object.memory)
    (g.M.TagMemory.guard c.args.memory.now) (g.M.TagMemory.guard c.loop-object.memory)
    (get_or c.args.objects.now c.loop-object.object-index d) c.loop-object.invariant.regions c.loop-object.invariant.guard
    (c.requires c.loop-object.object-index d c.loop-object-test.true)

pub loop-object-preserved : goal.loop-object-preserved
loop-object-preserved g c =
    object_tagged g.M.TagMemory c.args.memory.now c.loop-object.memory c.tag_object.new.memory c.args.first c.loop-object.tag
    c.next_tag-tag.result c.loop-object.object-index c.args.objects.now (record { start = 0; bytes = 0 }) c.loop-object-test.true
    c.loop-object.invariant c.tag_object.ensures c.next_tag-tag.ensures

pub returns : goal.returns
returns g c =
    objects_tagged g.M.TagMemory c.args.memory.now c.loop-object.memory c.args.first c.loop-object.tag c.args.objects.now _
    (drop_all c.loop-object.object-index c.args.objects.now c.loop-object-test.false) c.loop-object.invariant
