use Rattle.std.proofs.Common.{◌≡◌, ◌<◌, ◌≤◌, ℕ, ◌+◌, ◌∙◌, sym, ap, arith, true≢false, length, get_or, add_assoc}
use Rattle.mt_base.specs.Memory.{is_mapped}
use Rattle.mt_base.specs.Laws.Memory.{every_byte_at, bytes_at_is, get_or-bytes_at}
use Rattle.tag_mem.specs.Regions.{put_list}
use Rattle.tag_pages.specs.Pages.{byte_in_pages}
use Rattle.tag_pages.specs.Parts.{extents}
use Rattle.tag_pages.proofs.Bytes.{length-put_list, put_more}
use Rattle.tag_pages.proofs.Parts.{near}
use Rattle.tag_pages.proofs.copy.gather.Goals as goal

-- each byte is in a region
pub unreachable-requires : goal.unreachable-requires
unreachable-requires c =
    true≢false
    (sym (every_byte_at (is_mapped (extents c.args.regions.now)) c.args.at _ c.requires.mapped c.loop-done.done (omega arith))
    ∙ c.in_default.ensures.none)

pub room-count-requires-clause-held : goal.room-count-requires-clause-held
room-count-requires-clause-held c = c.in-Some.ensures.found.to

pub room-count-requires-clause-near : goal.room-count-requires-clause-near
room-count-requires-clause-near c =
    near (extents c.args.regions.now) c.args.numbers.now (c.args.at + c.loop-done.done) c.in-Some.part c.in-Some.ensures.found

-- the part has the bytes that come next
pub loop-done-preserved : goal.loop-done-preserved
loop-done-preserved c =
    let held : ℕ → ℕ = byte_in_pages (extents c.args.regions.now) c.args.numbers.now c.args.pages.now in
    let room : c.loop-done.done + length c.part_bytes.result.now ≤ length c.loop-done.out =
    omega (arith, c.room-count.ensures.at_most, c.part_bytes.ensures.len) in
    let more : (k : ℕ) → k < c.loop-done.done + length c.part_bytes.result.now →
    get_or (put_list c.loop-done.out c.loop-done.done c.part_bytes.result.now) k 0 ≡ held (c.args.at + k) =
    put_more c.loop-done.out (λ k. held (c.args.at + k)) c.loop-done.done c.part_bytes.result.now room
    c.loop-done.invariant.gathered
    (λ k h. ap (λ xs. get_or xs k 0) c.part_bytes.ensures.value
    ∙ get_or-bytes_at c.room-count.result held (c.args.at + c.loop-done.done) k
    (omega (arith, h, c.part_bytes.ensures.len)) ∙ ap held (add_assoc c.args.at c.loop-done.done k)) in
    record {
      in_range =
          rw c.put_bytes.ensures
          (omega (arith, length-put_list c.loop-done.out c.loop-done.done c.part_bytes.result.now room, c.room-count.ensures.at_most));
      gathered = rw c.put_bytes.ensures (λ k h. more k (omega (arith, h, c.part_bytes.ensures.len)));
    }

pub returns : goal.returns
returns c =
    bytes_at_is _ (byte_in_pages (extents c.args.regions.now) c.args.numbers.now c.args.pages.now) c.args.at c.loop-done.out
    c.loop-done.auto.out (λ k h. c.loop-done.invariant.gathered k (omega (arith, h)))
