-- What an access answers where its bytes stand in one region, and what its answer says of them.
use Rattle.std.proofs.Common.{◌≡◌, ℕ, zero, suc, ◌+◌, ◌*◌, ◌/◌, ◌%◌, ◌<◌, Bool, true, false, not, cond, List, [], ◌∷◌, length, get_or}
use Rattle.std.proofs.Common.{refl, sym, ◌∙◌, ap, subst, arith, inl, inr}
use Rattle.std.specs.List.{All}
use Rattle.std.proofs.lemmas.Bool.{cases_Bool}
use Rattle.mt_base.specs.Memory.{Span, Extent, is_in_span, is_in_extent, is_mapped, is_protected, every_byte, some_byte}
use Rattle.mt_base.specs.Laws.Memory.{every_byte_at, some_byte_none}
use Rattle.tag_mem.specs.declared.access.Access.TheVariants.{Done, Unmapped, Guard, Protected}
use Rattle.tag_mem.specs.declared.region.Region.{Region}
use Rattle.tag_mem.specs.declared.chunk.Chunk.{Chunk}
use Rattle.tag_mem.specs.Answers.{read_answer, write_answer}
use Rattle.tag_mem.specs.Regions.{extent_of, extents_of, IsWhole, IsApartFrom, IsWellPlaced, IsChunk, IsHeldBy}
use Rattle.tag_mem.proofs.Mapped.{IsAt, get_or_extents, length_extents, mapped_at_region}
use Rattle.tag_mem.proofs.Runs.{IsRun, run_of, run_holds, run_mapped, run_writable}

-- an element of a list, whatever stands in for one past its end
pub get_or_any : {X : Type 0} (xs : List X) (i : ℕ) (d e : X) → i < length xs → get_or xs i d ≡ get_or xs i e
get_or_any [] i d e h = absurd (omega (arith, h))
get_or_any (x ∷ xs) zero d e h = refl
get_or_any (x ∷ xs) (suc i) d e h = get_or_any xs i d e (omega (arith, h))

-- the region of a chunk, and of an address that one holds
pub record HasRegion (regions : List Region) (at : ℕ) (chunk : Chunk) : Type 0 where
  pub region : Region
  pub run : IsRun regions at chunk region

pub region_of_chunk : (regions : List Region) (at most : ℕ) (chunk : Chunk) → IsChunk regions at most chunk → HasRegion regions at chunk
region_of_chunk [] at most chunk c = absurd (omega (arith, c.in_range))
region_of_chunk (x ∷ rs) at most chunk c = record {
  region = get_or (x ∷ rs) chunk.region x;
  run = run_of (x ∷ rs) at most chunk (get_or (x ∷ rs) chunk.region x) c
      (get_or_any (x ∷ rs) chunk.region x (get_or (x ∷ rs) chunk.region x) c.in_range);
}

pub held_mapped : (regions : List Region) (i at : ℕ) → IsHeldBy regions i at → is_mapped (extents_of regions) at ≡ true
held_mapped [] i at h = absurd (omega (arith, h.in_range))
held_mapped (x ∷ rs) i at h =
    mapped_at_region (x ∷ rs) i (get_or (x ∷ rs) i x) at
    (record { in_range = h.in_range; is = sym (get_or_any (x ∷ rs) i x (get_or (x ∷ rs) i x) h.in_range) })
    (h.holds x)

-- no byte of a chunk is in the guard
run_unguarded : (regions : List Region) (guard : Span) (at : ℕ) (chunk : Chunk) (r : Region) →
    All (IsApartFrom guard) (extents_of regions) → IsRun regions at chunk r → some_byte (is_in_span guard) at chunk.count ≡ false
run_unguarded regions guard at chunk r apart run = some_byte_none (is_in_span guard) at chunk.count each
  where
    each : (k : ℕ) → k < chunk.count → is_in_span guard (at + k) ≡ false
    each k h = elim (cases_Bool (is_in_span guard (at + k))) [
      | inl both ↦
          absurd (apart chunk.region (extent_of r) (omega (arith, run.here.in_range, length_extents regions)) (at + k) both
          (ap (λ e. is_in_extent e (at + k)) (get_or_extents regions chunk.region r ∙ ap extent_of run.here.is)
          ∙ run_holds regions at chunk r run k h))
      | inr other ↦ other
    ]

pub chunk_done : (regions : List Region) (guard : Span) (at most : ℕ) (chunk : Chunk) → IsWellPlaced (extents_of regions) guard →
    IsChunk regions at most chunk → chunk.count ≡ most → read_answer (extents_of regions) guard at most ≡ Done
chunk_done regions guard at most chunk placed c whole =
    let has = region_of_chunk regions at most chunk c in
    let unguarded : some_byte (is_in_span guard) at most ≡ false =
    ap (some_byte (is_in_span guard) at) (sym whole) ∙ run_unguarded regions guard at chunk has.region placed.guard_apart has.run in
    let mapped : every_byte (is_mapped (extents_of regions)) at most ≡ true =
    ap (every_byte (is_mapped (extents_of regions)) at) (sym whole) ∙ run_mapped regions at chunk has.region has.run in
    rw (unguarded, mapped) refl

pub chunk_written : (regions : List Region) (guard : Span) (at most : ℕ) (chunk : Chunk) (r : Region) →
    IsWellPlaced (extents_of regions) guard → IsChunk regions at most chunk → chunk.count ≡ most → r ≡ get_or regions chunk.region r →
    r.writable ≡ true → write_answer (extents_of regions) guard at most ≡ Done
chunk_written regions guard at most chunk r placed c whole is writable =
    let run = run_of regions at most chunk r c is in
    let unguarded : some_byte (is_in_span guard) at most ≡ false =
    ap (some_byte (is_in_span guard) at) (sym whole) ∙ run_unguarded regions guard at chunk r placed.guard_apart run in
    let mapped : every_byte (is_mapped (extents_of regions)) at most ≡ true =
    ap (every_byte (is_mapped (extents_of regions)) at) (sym whole) ∙ run_mapped regions at chunk r run in
    let free : some_byte (is_protected (extents_of regions)) at most ≡ false =
    ap (some_byte (is_protected (extents_of regions)) at) (sym whole) ∙ run_writable regions at chunk r placed.apart run writable in
    rw (unguarded, mapped, free) refl

-- where writing is done, each byte is in a region
written_mapped : (g m p : Bool) → Done ≡ cond g Guard (cond (not m) Unmapped (cond p Protected Done)) → m ≡ true
written_mapped true m p is = cc
written_mapped false true p is = refl
written_mapped false false p is = cc

-- where a tag is set, the address is in a region
pub tagged_mapped : (regions : List Extent) (guard : Span) (at : ℕ) → Done ≡ write_answer regions guard (at / 16 * 16) 16 →
    is_mapped regions at ≡ true
tagged_mapped regions guard at is =
    ap (is_mapped regions) (let e : at ≡ at / 16 * 16 + at % 16 = omega arith in e)
    ∙ every_byte_at (is_mapped regions) (at / 16 * 16) 16
    (written_mapped (some_byte (is_in_span guard) (at / 16 * 16) 16) (every_byte (is_mapped regions) (at / 16 * 16) 16)
    (some_byte (is_protected regions) (at / 16 * 16) 16) is)
    (at % 16) (omega arith)

-- the region that holds an address
pub record IsHolder (regions : List Region) (i at : ℕ) (r : Region) : Type 0 where
  pub here : IsAt regions i r
  pub holds : is_in_extent (extent_of r) at ≡ true
  pub whole : IsWhole (extent_of r)

pub holder_of : (regions : List Region) (i at : ℕ) (r : Region) → All IsWhole (extents_of regions) → IsHeldBy regions i at →
    r ≡ get_or regions i r → IsHolder regions i at r
holder_of regions i at r whole held is = record {
  here = record { in_range = held.in_range; is = sym is };
  holds = ap (λ x. is_in_extent (extent_of x) at) is ∙ held.holds r;
  whole = subst IsWhole (get_or_extents regions i r ∙ ap extent_of (sym is))
      (whole i (extent_of r) (omega (arith, held.in_range, length_extents regions)));
}
