use Rattle.std.proofs.Common.{◌≡◌, ◌<◌, ◌≤◌, ℕ, ◌+◌, ◌∙◌, sym, ap, arith, true≢false, length, get_or, add_assoc}
use Rattle.mt_base.specs.Memory.{is_mapped}
use Rattle.mt_base.specs.Laws.Memory.{every_byte_at, bytes_at_is, get_or-bytes_at}
use Rattle.tag_mem.specs.Regions.{extents_of, byte_in, put_list}
use Rattle.tag_mem.proofs.Bytes.{length-put_list, put_more}
use Rattle.tag_mem.proofs.copy.gather.Goals as goal

-- each byte is in a region
pub unreachable-requires : goal.unreachable-requires
unreachable-requires c =
    true≢false
    (sym (every_byte_at (is_mapped (extents_of c.args.regions.now)) c.args.at _ c.requires.mapped c.loop-done.done (omega arith))
    ∙ c.in_default.ensures.none)

-- the chunk has the bytes that come next
pub loop-done-preserved : goal.loop-done-preserved
loop-done-preserved c =
    let found = c.in-Some.ensures.found in
    let read = c.chunk_bytes.ensures.value (c.args.at + c.loop-done.done) _ found in
    let room : c.loop-done.done + length c.chunk_bytes.result.now ≤ length c.loop-done.out =
    omega (arith, found.at_most, c.chunk_bytes.ensures.len) in
    let more : (k : ℕ) → k < c.loop-done.done + length c.chunk_bytes.result.now →
    get_or (put_list c.loop-done.out c.loop-done.done c.chunk_bytes.result.now) k 0 ≡ byte_in c.args.regions.now (c.args.at + k) =
    put_more c.loop-done.out (λ k. byte_in c.args.regions.now (c.args.at + k)) c.loop-done.done c.chunk_bytes.result.now room
    c.loop-done.invariant.gathered
    (λ k h. ap (λ xs. get_or xs k 0) read
    ∙ get_or-bytes_at c.in-Some.chunk.count (byte_in c.args.regions.now) (c.args.at + c.loop-done.done) k
    (omega (arith, h, c.chunk_bytes.ensures.len)) ∙ ap (byte_in c.args.regions.now) (add_assoc c.args.at c.loop-done.done k)) in
    record {
      in_range =
          rw c.put_bytes.ensures
          (omega (arith, length-put_list c.loop-done.out c.loop-done.done c.chunk_bytes.result.now room, found.at_most));
      gathered = rw c.put_bytes.ensures (λ k h. more k (omega (arith, h, c.chunk_bytes.ensures.len)));
    }

pub returns : goal.returns
returns c = bytes_at_is _ (byte_in c.args.regions.now) c.args.at c.loop-done.out c.loop-done.auto.out
    (λ k h. c.loop-done.invariant.gathered k (omega (arith, h)))
