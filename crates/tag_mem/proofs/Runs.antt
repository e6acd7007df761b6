-- A run of addresses whose bytes stand in one region.
use Rattle.std.proofs.Common.{◌≡◌, ℕ, ◌+◌, ◌-◌, ◌%◌, ◌<◌, ◌≤◌, true, false, not, List, length, get_or, take, drop, refl, sym, ◌∙◌, ap}
use Rattle.std.proofs.Common.{subst, arith, mod-eq_of_lt, length-take, length-drop}
use Rattle.std.proofs.lemmas.List.{get_or-take, get_or-drop}
use Rattle.std.specs.List.{AllPairs}
use Rattle.mt_base.specs.Memory.{is_in_extent, is_mapped, is_protected, every_byte, some_byte, bytes_at}
use Rattle.mt_base.specs.Laws.Memory.{bytes_at_is, every_byte_from, some_byte_from, some_byte_none}
use Rattle.tag_mem.specs.declared.region.Region.{Region}
use Rattle.tag_mem.specs.declared.chunk.Chunk.{Chunk}
use Rattle.tag_mem.specs.Regions.{extent_of, extents_of, byte_in, AreApart, IsChunk}
use Rattle.tag_mem.proofs.Mapped.{between_from, IsAt, byte_at_region, any_at_region, mapped_at_region}

-- the bytes of a chunk, in the region where they stand
pub record IsRun (regions : List Region) (at : ℕ) (chunk : Chunk) (r : Region) : Type 0 where
  pub here : IsAt regions chunk.region r
  pub placed : r.start + chunk.offset ≡ at
  pub within : chunk.offset + chunk.count ≤ length r.bytes.items

pub run_of : (regions : List Region) (at most : ℕ) (chunk : Chunk) (r : Region) → IsChunk regions at most chunk →
    r ≡ get_or regions chunk.region r → IsRun regions at chunk r
run_of regions at most chunk r c is = record {
  here = record { in_range = c.in_range; is = sym is };
  placed = ap (λ x. x.start + chunk.offset) is ∙ c.placed r;
  within = subst (λ (x : Region). chunk.offset + chunk.count ≤ length x.bytes.items) (sym is) (c.within r);
}

pub run_holds : (regions : List Region) (at : ℕ) (chunk : Chunk) (r : Region) → IsRun regions at chunk r → (k : ℕ) → k < chunk.count →
    is_in_extent (extent_of r) (at + k) ≡ true
run_holds regions at chunk r run k h = between_from r.start (length r.bytes.items) (at + k) (omega (arith, run.placed))
    (omega (arith, run.placed, run.within, h))

-- what memory holds there
pub run_bytes : (regions : List Region) (at : ℕ) (chunk : Chunk) (r : Region) → AllPairs AreApart (extents_of regions) →
    ((k : ℕ) → get_or r.bytes.items k 0 < 256) → IsRun regions at chunk r → take chunk.count (drop chunk.offset r.bytes.items)
    ≡ bytes_at chunk.count (byte_in regions) at
run_bytes regions at chunk r apart small run =
    bytes_at_is chunk.count (byte_in regions) at (take chunk.count (drop chunk.offset r.bytes.items)) long each
  where
    long : length (take chunk.count (drop chunk.offset r.bytes.items)) ≡ chunk.count
    long = omega (arith, run.within, length-take chunk.count (drop chunk.offset r.bytes.items), length-drop chunk.offset r.bytes.items)

    each : (k : ℕ) → k < chunk.count → get_or (take chunk.count (drop chunk.offset r.bytes.items)) k 0 ≡ byte_in regions (at + k)
    each k h =
        get_or-take chunk.count (drop chunk.offset r.bytes.items) k 0 h
        ∙ get_or-drop chunk.offset r.bytes.items k 0
        ∙ sym (mod-eq_of_lt (small (chunk.offset + k)))
        ∙ ap (λ i. get_or r.bytes.items i 0 % 256) (let e : chunk.offset + k ≡ at + k - r.start = omega (arith, run.placed) in e)
        ∙ sym (byte_at_region regions chunk.region r (at + k) apart run.here (run_holds regions at chunk r run k h))

-- what its region says of its addresses
pub run_mapped : (regions : List Region) (at : ℕ) (chunk : Chunk) (r : Region) → IsRun regions at chunk r →
    every_byte (is_mapped (extents_of regions)) at chunk.count ≡ true
run_mapped regions at chunk r run =
    every_byte_from (is_mapped (extents_of regions)) at chunk.count
    (λ k h. mapped_at_region regions chunk.region r (at + k) run.here (run_holds regions at chunk r run k h))

pub run_protected : (regions : List Region) (at : ℕ) (chunk : Chunk) (r : Region) → AllPairs AreApart (extents_of regions) →
    IsRun regions at chunk r → 0 < chunk.count → some_byte (is_protected (extents_of regions)) at chunk.count ≡ not r.writable
run_protected regions at chunk r apart run some =
    elim r.writable as (λ b. r.writable ≡ b → some_byte (is_protected (extents_of regions)) at chunk.count ≡ not b) [
      | true ↦ λ is. some_byte_none (is_protected (extents_of regions)) at chunk.count (λ k h. each k h ∙ ap not is)
      | false ↦ λ is. some_byte_from (is_protected (extents_of regions)) at chunk.count 0 some (each 0 some ∙ ap not is)
    ] refl
  where
    each : (k : ℕ) → k < chunk.count → is_protected (extents_of regions) (at + k) ≡ not r.writable
    each k h = any_at_region regions chunk.region r (at + k) (λ e. not e.writable) apart run.here (run_holds regions at chunk r run k h)

pub run_writable : (regions : List Region) (at : ℕ) (chunk : Chunk) (r : Region) → AllPairs AreApart (extents_of regions) →
    IsRun regions at chunk r → r.writable ≡ true → some_byte (is_protected (extents_of regions)) at chunk.count ≡ false
run_writable regions at chunk r apart run writable =
    some_byte_none (is_protected (extents_of regions)) at chunk.count
    (λ k h. any_at_region regions chunk.region r (at + k) (λ e. not e.writable) apart run.here (run_holds regions at chunk r run k h)
    ∙ ap not writable)
