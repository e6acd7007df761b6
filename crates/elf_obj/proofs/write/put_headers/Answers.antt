use Rattle.std.proofs.Common.{ℕ, ◌++◌, ap, ◌∙◌, arith}
use Rattle.elf_obj.specs.Sections.{sections, contents_end, headers_place, header_of}
use Rattle.elf_obj.specs.Contents.{header_bytes}
use Rattle.elf_obj.proofs.Steps.{left_at, end-low, step-low, contents-step, headers-step}
use Rattle.elf_obj.proofs.write.put_headers.Goals as goal

pub round16-place-requires : goal.round16-place-requires
unfolding headers_place
round16-place-requires c = end-low (sections c.args.sizes.now) c.loop-index.index c.loop-index.end c.loop-index.invariant.ends
    c.requires.small

pub overflow_add-end : goal.overflow_add-end
unfolding headers_place
overflow_add-end c =
    let ss = sections c.args.sizes.now in
    let is = left_at ss c.loop-index.index c.section_at-section.result c.section_at-section.ensures.is in
    omega (
      arith,
      step-low ss c.loop-index.index c.loop-index.end c.section_at-section.result is c.loop-index.invariant.ends
          c.requires.small,
      c.round16-place.ensures.value,
    )

pub loop-index-preserved : goal.loop-index-preserved
unfolding headers_place
loop-index-preserved c =
    let ss = sections c.args.sizes.now in
    let s = c.section_at-section.result in
    let is = left_at ss c.loop-index.index s c.section_at-section.ensures.is in
    record {
      ends = rw c.round16-place.ensures.value (contents-step ss c.loop-index.index c.loop-index.end
          (contents_end 64 ss) s is c.loop-index.invariant.ends);
      rest = rw c.round16-place.ensures.value (headers-step ss c.loop-index.index c.loop-index.end s _ c.loop-index.out.items
          c.put_section_header.new.out.items is c.loop-index.invariant.rest
          (c.in_ok-put_section_header.ensures ∙ ap
          (λ (n : ℕ). c.loop-index.out.items ++ header_bytes (header_of s n)) c.round16-place.ensures.value));
    }
