use Rattle.std.proofs.Common.{◌≡◌, ◌≤◌, ℕ, List, ◌+◌, ◌-◌, take-add, ◌∙◌, length, take, drop, sym, ap, refl, arith, true≢false}
use Rattle.std.proofs.Common.{length-take}
use Rattle.mt_base.specs.Memory.{is_mapped, store_bytes}
use Rattle.mt_base.specs.Laws.Memory.{every_byte_at, store_bytes-nil, store_bytes-append}
use Rattle.tag_mem.specs.Regions.{extents_of, byte_in}
use Rattle.tag_mem.proofs.copy.scatter.Goals as goal

pub loop-done-init : goal.loop-done-init
loop-done-init c =
    record { in_range = omega arith; extents = refl; written = sym (store_bytes-nil (byte_in c.args.regions.now) c.args.at) }

-- each byte is in a region
pub unreachable-requires : goal.unreachable-requires
unreachable-requires c =
    true≢false
    (sym (every_byte_at (is_mapped (extents_of c.args.regions.now)) c.args.at _ c.requires.mapped c.loop-done.done (omega arith))
    ∙ ap (λ es. is_mapped es (c.args.at + c.loop-done.done)) (sym c.loop-done.invariant.extents)
    ∙ c.in_default.ensures.none)

length_front : (bytes : List ℕ) (done : ℕ) → done ≤ length bytes → length (take done bytes) ≡ done
length_front bytes done within = omega (arith, within, length-take done bytes)

-- one store goes on where the other ended
more : (bytes : List ℕ) (old now : ℕ → ℕ) (at done count : ℕ) → done ≤ length bytes → now ≡ store_bytes old at (take done bytes) →
    store_bytes now (at + done) (take count (drop done bytes)) ≡ store_bytes old at (take (done + count) bytes)
more bytes old now at done count within written =
    ap (λ f. store_bytes f (at + done) (take count (drop done bytes))) written
    ∙ ap (λ n. store_bytes (store_bytes old at (take done bytes)) (at + n) (take count (drop done bytes)))
    (sym (length_front bytes done within))
    ∙ store_bytes-append old at (take done bytes) (take count (drop done bytes))
    ∙ ap (store_bytes old at) (sym (take-add done count bytes))

-- the chunk got the bytes that come next
pub loop-done-preserved : goal.loop-done-preserved
loop-done-preserved c =
    let found = c.in-Some.ensures.found in
    let counted : c.loop-done.done + c.in-Some.chunk.count - c.loop-done.done ≡ c.in-Some.chunk.count = omega arith in
    let written = c.put_chunk.ensures.bytes (c.args.at + c.loop-done.done) _ found in
    record {
      in_range = omega (arith, found.at_most);
      extents = c.put_chunk.ensures.extents ∙ c.loop-done.invariant.extents;
      written =
          written
          ∙ ap (λ xs. store_bytes (byte_in c.loop-done.regions) (c.args.at + c.loop-done.done) xs)
          (ap (λ n. take n (drop c.loop-done.done c.args.bytes.now)) counted)
          ∙ more c.args.bytes.now (byte_in c.args.regions.now)
          (byte_in c.loop-done.regions) c.args.at c.loop-done.done c.in-Some.chunk.count (omega arith) c.loop-done.invariant.written;
    }
