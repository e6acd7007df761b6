use Rattle.std.proofs.Common.{◌≡◌, ◌∙◌, ℕ, List, length, replicate, ap, subst}
use Rattle.std.specs.List.{All}
use Rattle.std.proofs.lemmas.List.{length-replicate}
use Rattle.tag_pages.specs.declared.bounds.Bounds.{Bounds}
use Rattle.tag_pages.specs.Parts.{extents, IsPart}
use Rattle.tag_pages.proofs.Held.{zero_bytes, zero_tags}
use Rattle.tag_pages.proofs.paged.PagedMemory.zeros.Goals as goal

pub invariant_of-result : goal.invariant_of-result
invariant_of-result c =
    let entered : All (IsPart (extents c.args.regions.items) c.deref-3.result.now) c.in_ok-parts.parts.items =
    subst (λ (bs : List Bounds). All (IsPart (extents bs) c.deref-3.result.now) c.in_ok-parts.parts.items) c.deref-2.ensures.value
    c.in_ok-parts.ensures in
    record {
      placed = c.requires;
      laid_out = record {
        whole = c.requires.whole;
        apart = c.requires.apart;
        increasing = c.in_ok-numbers.ensures.increasing;
        covers = rw c.deref.ensures.value at c.in_ok-numbers.ensures.covers;
      };
      entered =
          subst (λ (ns : List ℕ). All (IsPart (extents c.args.regions.items) ns) c.in_ok-parts.parts.items) c.deref-3.ensures.value
          entered;
      paged =
          ap length (c.in_ok-pages.ensures.items_if_clones_equal (λ y h. h))
          ∙ length-replicate c.len.result c.blank.result
          ∙ c.len.ensures
          ∙ c.in_ok-numbers.numbers.ok.0;
    }

pub returns-clause-bytes : goal.returns-clause-bytes
returns-clause-bytes c at =
    ap (λ f. f at)
    (zero_bytes (extents c.args.regions.items) c.in_ok-numbers.numbers.items c.in_ok-pages.pages.items c.len.result c.blank.result
    (c.in_ok-pages.ensures.items_if_clones_equal (λ y h. h)) c.blank.ensures.bytes)

pub returns-clause-tags : goal.returns-clause-tags
returns-clause-tags c granule =
    zero_tags (extents c.args.regions.items) c.in_ok-numbers.numbers.items c.in_ok-pages.pages.items c.len.result c.blank.result granule
    (c.in_ok-pages.ensures.items_if_clones_equal (λ y h. h)) c.blank.ensures.tags
