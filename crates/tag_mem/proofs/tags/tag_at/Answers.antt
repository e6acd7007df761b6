use Rattle.std.proofs.Common.{◌∙◌, ◌-◌, ◌/◌, ◌%◌, ◌<◌, mod-eq_of_lt, sym, ap, arith, get_or, length}
use Rattle.mt_base.specs.Granules.{granule_of}
use Rattle.mt_base.specs.Memory.{is_mapped}
use Rattle.tag_mem.specs.declared.region.Region.{Region}
use Rattle.tag_mem.specs.Regions.{extent_of, extents_of}
use Rattle.tag_mem.proofs.Mapped.{mapped_at_region, between_parts}
use Rattle.tag_mem.proofs.Judged.{holder_of, get_or_any}
use Rattle.tag_mem.proofs.Fetched.{some_iff}
use Rattle.tag_mem.proofs.TagLists.{has_tags, tag_in_there, granule_within, granule_place}
use Rattle.tag_mem.proofs.tags.tag_at.Goals as goal

-- the region has a tag for the granule
pub index-tag-requires : goal.index-tag-requires
index-tag-requires c =
    let r = c.index-regions-place.result in
    let t = c.index-tags-place.result in
    let holder =
    holder_of c.args.regions.now c.in_ok-place.place c.args.at r c.requires.whole c.in_ok-place.ensures.found c.index-regions-place.is
    in
    let own = has_tags c.args.regions.now c.args.tags.now c.in_ok-place.place r t c.requires.tagged holder.here c.index-tags-place.is in
    let within = between_parts r.start (length r.bytes.items) c.args.at holder.holds in
    rw (sym c.index-regions-place.is) (omega (arith, own.size, within.from, within.below, t.ok.0))

pub returns : goal.returns
returns c =
    let r = c.index-regions-place.result in
    let t = c.index-tags-place.result in
    let holder =
    holder_of c.args.regions.now c.in_ok-place.place c.args.at r c.requires.whole c.in_ok-place.ensures.found c.index-regions-place.is
    in
    let own = has_tags c.args.regions.now c.args.tags.now c.in_ok-place.place r t c.requires.tagged holder.here c.index-tags-place.is in
    let within = between_parts r.start (length r.bytes.items) c.args.at holder.holds in
    record {
      there = some_iff (is_mapped (extents_of c.args.regions.now) c.args.at)
          (mapped_at_region c.args.regions.now c.in_ok-place.place r c.args.at holder.here holder.holds);
      value =
          sym (mod-eq_of_lt (let small : c.index-tag.result.now < 16 = omega (arith, c.value.ensures.value, c.value.ensures.in_range) in
          small))
          ∙ ap (λ n. n % 16)
          (c.index-tag.ensures
          ∙ ap (λ (x : Region). get_or t.items ((c.args.at - x.start) / 16) c.index-tag.result.now) (sym c.index-regions-place.is)
          ∙ get_or_any t.items ((c.args.at - r.start) / 16) c.index-tag.result.now 0 (omega (arith, own.size, within.from, within.below))
          ∙ ap (λ n. get_or t.items n 0) (sym (granule_place (extent_of r) c.args.at holder.whole holder.holds)))
          ∙ sym
          (tag_in_there (extents_of c.args.regions.now) c.args.tags.now c.in_ok-place.place (extent_of r) t
          (granule_of c.args.at) c.requires.apart own.tagged (granule_within (extent_of r) c.args.at holder.whole holder.holds));
    }
