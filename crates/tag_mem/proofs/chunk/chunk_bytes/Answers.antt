use Rattle.std.proofs.Common.{◌≡◌, ◌∙◌, sym, ap, take, drop}
use Rattle.tag_mem.specs.declared.region.Region.{Region}
use Rattle.tag_mem.proofs.Runs.{run_of, run_bytes}
use Rattle.tag_mem.proofs.chunk.chunk_bytes.Goals as goal

pub returns-clause-value : goal.returns-clause-value
returns-clause-value c at most chunk =
    let r = c.index-regions-chunk.result in
    let items : c.deref.result.now ≡ r.bytes.items =
    c.deref.ensures.value ∙ ap (λ (x : Region). x.bytes.items) (sym c.index-regions-chunk.is) in
    c.part_of.ensures.value
    ∙ ap (λ xs. take c.args.chunk.count (drop c.args.chunk.offset xs)) items
    ∙ run_bytes c.args.regions.now at c.args.chunk r c.requires.apart (rw items at c.part_of.ensures.in_range)
    (run_of c.args.regions.now at most c.args.chunk r chunk c.index-regions-chunk.is)
