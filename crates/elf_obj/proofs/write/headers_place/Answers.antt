use Rattle.std.proofs.Common.{arith}
use Rattle.elf_obj.specs.Sections.{sections, contents_end, headers_place}
use Rattle.elf_obj.proofs.Steps.{left_at, end-low, step-low, contents-step}
use Rattle.elf_obj.proofs.write.headers_place.Goals as goal

pub round16-requires : goal.round16-requires
unfolding headers_place
round16-requires c = end-low (sections c.args.sizes.now) c.loop-index.index c.loop-index.end c.loop-index.invariant c.requires

pub overflow_add-end : goal.overflow_add-end
unfolding headers_place
overflow_add-end c =
    let ss = sections c.args.sizes.now in
    let is = left_at ss c.loop-index.index c.section_at-section.result c.section_at-section.ensures.is in
    omega (
      arith,
      step-low ss c.loop-index.index c.loop-index.end c.section_at-section.result is c.loop-index.invariant c.requires,
      c.round16.ensures.value,
    )

pub loop-index-preserved : goal.loop-index-preserved
unfolding headers_place
loop-index-preserved c =
    let ss = sections c.args.sizes.now in
    let is = left_at ss c.loop-index.index c.section_at-section.result c.section_at-section.ensures.is in
    rw c.round16.ensures.value (contents-step ss c.loop-index.index c.loop-index.end
    (contents_end 64 ss) c.section_at-section.result is c.loop-index.invariant)
