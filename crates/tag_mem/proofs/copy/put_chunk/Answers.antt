use Rattle.std.proofs.Common.{◌∙◌, sym, ap, arith}
use Rattle.tag_mem.specs.declared.region.Region.{Region}
use Rattle.tag_mem.specs.Regions.{extent_of, byte_in, put_list}
use Rattle.mt_base.specs.Memory.{store_bytes}
use Rattle.tag_mem.proofs.Runs.{run_of}
use Rattle.tag_mem.proofs.Written.{extents_of-set, byte_in-put}
use Rattle.tag_mem.proofs.copy.put_chunk.Goals as goal

pub returns-clause-extents : goal.returns-clause-extents
returns-clause-extents c =
    extents_of-set c.args.regions.now c.args.chunk.region c.index-regions-chunk.result c.put.new.self
    (record { in_range = c.requires.in_range; is = sym c.index-regions-chunk.is })
    (c.put.ensures.extent ∙ ap extent_of (sym c.index-regions-chunk.is))

pub returns-clause-bytes : goal.returns-clause-bytes
returns-clause-bytes c at most chunk =
    let r = c.index-regions-chunk.result in
    let run = run_of c.args.regions.now at most c.args.chunk r chunk c.index-regions-chunk.is in
    byte_in-put c.args.regions.now c.args.chunk.region r c.put.new.self c.args.chunk.offset c.args.source.now c.requires.apart run.here
    (c.put.ensures.extent ∙ ap extent_of (sym c.index-regions-chunk.is))
    (c.put.ensures.bytes ∙ ap (λ (x : Region). put_list x.bytes.items c.args.chunk.offset c.args.source.now)
    (sym c.index-regions-chunk.is))
    (omega (arith, run.within, c.requires.len))
    (λ k. let small = c.type_inv.source k in omega arith)
    ∙ ap (λ a. store_bytes (byte_in c.args.regions.now) a c.args.source.now) run.placed
