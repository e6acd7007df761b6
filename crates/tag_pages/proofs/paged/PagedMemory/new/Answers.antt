use Rattle.std.proofs.Common.{◌≡◌, ◌∙◌, ◌++◌, ℕ, List, length, take, drop, replicate, sym, ap, ap₂, subst}
use Rattle.std.specs.List.{All}
use Rattle.std.proofs.lemmas.List.{take_at}
use Rattle.tag_mem.specs.Regions.{extents_of, span_of, IsWellPlaced}
use Rattle.tag_pages.specs.declared.page.Page.{Page}
use Rattle.tag_pages.specs.declared.bounds.Bounds.{Bounds}
use Rattle.tag_pages.specs.Pages.{tag_in_pages}
use Rattle.tag_pages.specs.Parts.{extents, IsLaidOut, IsPart}
use Rattle.tag_pages.proofs.Held.{zero_bytes, zero_tags}
use Rattle.tag_pages.proofs.paged.PagedMemory.new.Goals as goal

whole_part : (old new : List Page) (n : ℕ) → length new ≡ length old → n ≡ length old → take n (new ++ drop (length new) old) ≡ new
whole_part old new n same is = take_at new (drop (length new) old) n (same ∙ sym is)

pub fill-requires-clause-zero : goal.fill-requires-clause-zero
fill-requires-clause-zero c =
    zero_bytes (extents c.deref-5.result.now) c.deref-6.result.now c.deref_mut.result.now c.len.result c.blank.result
    (c.deref_mut.ensures.value ∙ c.in_ok-pages.ensures.items_if_clones_equal (λ y h. h)) c.blank.ensures.bytes

pub invariant_of-result : goal.invariant_of-result
invariant_of-result c =
    let same : extents c.in_ok-bounds.bounds.items ≡ extents_of c.args.regions.items =
    c.in_ok-bounds.ensures ∙ ap extents_of c.deref.ensures.value in
    let placed : IsWellPlaced (extents c.in_ok-bounds.bounds.items) (span_of c.args.guard) =
    subst (λ es. IsWellPlaced es (span_of c.args.guard)) (sym same) c.requires in
    let entered : All (IsPart (extents c.in_ok-bounds.bounds.items) c.deref-4.result.now) c.in_ok-parts.parts.items =
    subst (λ (bs : List Bounds). All (IsPart (extents bs) c.deref-4.result.now) c.in_ok-parts.parts.items) c.deref-3.ensures.value
    c.in_ok-parts.ensures in
    record {
      placed = placed;
      laid_out = record {
        whole = placed.whole;
        apart = placed.apart;
        increasing = c.in_ok-numbers.ensures.increasing;
        covers = rw c.deref-2.ensures.value at c.in_ok-numbers.ensures.covers;
      };
      entered =
          subst (λ (ns : List ℕ). All (IsPart (extents c.in_ok-bounds.bounds.items) ns) c.in_ok-parts.parts.items) c.deref-4.ensures.value
          entered;
      paged =
          ap length
          (whole_part c.in_ok-pages.pages.items c.fill.new.pages c.in_ok-pages.pages.len
          (c.fill.auto.pages ∙ ap length c.deref_mut.ensures.value) c.in_ok-pages.pages.ok.0)
          ∙ c.fill.ensures.paged
          ∙ ap length c.deref-6.ensures.value;
    }

pub returns-clause-tags : goal.returns-clause-tags
returns-clause-tags c granule =
    ap (λ ps. tag_in_pages (extents c.in_ok-bounds.bounds.items) c.in_ok-numbers.numbers.items ps granule)
    (whole_part c.in_ok-pages.pages.items c.fill.new.pages c.in_ok-pages.pages.len
    (c.fill.auto.pages ∙ ap length c.deref_mut.ensures.value) c.in_ok-pages.pages.ok.0)
    ∙ ap₂ (λ (bs : List Bounds) ns. tag_in_pages (extents bs) ns c.fill.new.pages granule) (sym c.deref-5.ensures.value)
    (sym c.deref-6.ensures.value)
    ∙ ap (λ f. f granule) c.fill.ensures.tags
    ∙ zero_tags (extents c.deref-5.result.now) c.deref-6.result.now c.deref_mut.result.now c.len.result c.blank.result granule
    (c.deref_mut.ensures.value ∙ c.in_ok-pages.ensures.items_if_clones_equal (λ y h. h)) c.blank.ensures.tags
