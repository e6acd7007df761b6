use Rattle.std.proofs.Common.{◌-◌, ◌/◌, ℕ, sym, ap₂, arith, set, length}
use Rattle.std.specs.Global.{Vec}
use Rattle.tag_mem.specs.declared.region.Region.{Region}
use Rattle.tag_mem.specs.Regions.{extent_of, extents_of}
use Rattle.tag_mem.proofs.Mapped.{between_parts}
use Rattle.tag_mem.proofs.Judged.{holder_of}
use Rattle.tag_mem.proofs.TagLists.{has_tags, tag_in-put}
use Rattle.tag_mem.proofs.tags.put_tag.Goals as goal

pub index_mut-requires : goal.index_mut-requires
index_mut-requires c =
    let r = c.index-regions-place.result in
    let t = c.index-tags-place.result in
    let holder =
    holder_of c.args.regions.now c.in-Some.place c.args.at r c.requires.whole c.in-Some.ensures.found c.index-regions-place.is in
    let own = has_tags c.args.regions.now c.args.tags.now c.in-Some.place r t c.requires.tagged holder.here c.index-tags-place.is in
    let within = between_parts r.start (length r.bytes.items) c.args.at holder.holds in
    rw (sym c.index-regions-place.is, sym c.index-tags-place.is) (omega (arith, own.size, within.from, within.below, t.ok.0))

pub returns-clause-tags : goal.returns-clause-tags
returns-clause-tags c =
    let r = c.index-regions-place.result in
    let t = c.index-tags-place.result in
    let holder =
    holder_of c.args.regions.now c.in-Some.place c.args.at r c.requires.whole c.in-Some.ensures.found c.index-regions-place.is in
    let own = has_tags c.args.regions.now c.args.tags.now c.in-Some.place r t c.requires.tagged holder.here c.index-tags-place.is in
    let within = between_parts r.start (length r.bytes.items) c.args.at holder.holds in
    tag_in-put (extents_of c.args.regions.now) c.args.tags.now c.in-Some.place
    (extent_of r) t _ c.args.at c.args.tag c.requires.apart holder.whole own.tagged holder.holds
    (omega (arith, own.size, within.from, within.below))
    (omega (arith, c.value.ensures.value, c.value.ensures.in_range))
    (ap₂ (λ (v : Vec ℕ) (x : Region). set v.items ((c.args.at - x.start) / 16) c.args.tag) (sym c.index-tags-place.is)
    (sym c.index-regions-place.is))
