use Rattle.std.proofs.Common.{◌≡◌, ◌≤◌, ℕ, List, ◌+◌, ◌-◌, take-add, ◌∙◌, length, take, drop, sym, ap, refl, arith, true≢false}
use Rattle.std.proofs.Common.{length-take}
use Rattle.mt_base.specs.Memory.{is_mapped, store_bytes}
use Rattle.mt_base.specs.Laws.Memory.{every_byte_at, store_bytes-nil, store_bytes-append}
use Rattle.tag_pages.specs.Pages.{byte_in_pages, tag_in_pages}
use Rattle.tag_pages.specs.Parts.{extents}
use Rattle.tag_pages.proofs.Parts.{near}
use Rattle.tag_pages.proofs.copy.scatter.Goals as goal

pub loop-done-init : goal.loop-done-init
loop-done-init c = record {
  in_range = omega arith;
  paged = c.requires.paged;
  written = sym (store_bytes-nil (byte_in_pages (extents c.args.regions.now) c.args.numbers.now c.args.pages.now) c.args.at);
  tags = refl;
}

-- each byte is in a region
pub unreachable-requires : goal.unreachable-requires
unreachable-requires c =
    true≢false
    (sym (every_byte_at (is_mapped (extents c.args.regions.now)) c.args.at _ c.requires.mapped c.loop-done.done (omega arith))
    ∙ c.in_default.ensures.none)

pub room-count-requires-clause-held : goal.room-count-requires-clause-held
room-count-requires-clause-held c = c.in-Some.ensures.found.to

pub room-count-requires-clause-near : goal.room-count-requires-clause-near
room-count-requires-clause-near c =
    near (extents c.args.regions.now) c.args.numbers.now (c.args.at + c.loop-done.done) c.in-Some.part c.in-Some.ensures.found

length_front : (bytes : List ℕ) (done : ℕ) → done ≤ length bytes → length (take done bytes) ≡ done
length_front bytes done within = omega (arith, within, length-take done bytes)

-- one store goes on where the other ended
more : (bytes : List ℕ) (old now : ℕ → ℕ) (at done count : ℕ) → done ≤ length bytes → now ≡ store_bytes old at (take done bytes) →
    store_bytes now (at + done) (take count (drop done bytes)) ≡ store_bytes old at (take (done + count) bytes)
more bytes old now at done count within written =
    ap (λ f. store_bytes f (at + done) (take count (drop done bytes))) written
    ∙ ap (λ n. store_bytes (store_bytes old at (take done bytes)) (at + n) (take count (drop done bytes)))
    (sym (length_front bytes done within))
    ∙ store_bytes-append old at (take done bytes) (take count (drop done bytes))
    ∙ ap (store_bytes old at) (sym (take-add done count bytes))

-- the part got the bytes that come next
pub loop-done-preserved : goal.loop-done-preserved
loop-done-preserved c =
    let held : ℕ → ℕ = byte_in_pages (extents c.args.regions.now) c.args.numbers.now c.loop-done.pages in
    let before : ℕ → ℕ = byte_in_pages (extents c.args.regions.now) c.args.numbers.now c.args.pages.now in
    let counted : c.loop-done.done + c.room-count.result - c.loop-done.done ≡ c.room-count.result = omega arith in
    record {
      in_range = omega (arith, c.room-count.ensures.at_most);
      paged = c.put_part.ensures.paged;
      written =
          c.put_part.ensures.bytes
          ∙ ap (λ xs. store_bytes held (c.args.at + c.loop-done.done) xs)
          (ap (λ n. take n (drop c.loop-done.done c.args.bytes.now)) counted)
          ∙ more c.args.bytes.now before held c.args.at c.loop-done.done c.room-count.result (omega arith) c.loop-done.invariant.written;
      tags = c.put_part.ensures.tags ∙ c.loop-done.invariant.tags;
    }
