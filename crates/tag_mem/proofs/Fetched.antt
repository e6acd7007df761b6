-- What a fetch finds in the region that holds its address.
use Rattle.std.proofs.Common.{◌≡◌, ℕ, ◌+◌, ◌-◌, ◌%◌, ◌<◌, ◌≤◌, Bool, true, false, ◌&&◌, ◌↔◌, Option, None, IsSome, IsTrue, List, [], ◌∷◌}
use Rattle.std.proofs.Common.{length, get_or, refl, sym, ◌∙◌, ap, arith, mod-eq_of_lt, add-zero}
use Rattle.std.specs.List.{AllPairs}
use Rattle.std.proofs.lemmas.Bool.{and_left, or_parts, or_from, and_from, and_right, eq-eqb}
use Rattle.mt_base.specs.Memory.{Extent, is_in_extent, is_mapped, is_executable, every_byte, load}
use Rattle.mt_base.specs.Laws.Memory.{every_byte_from, every_byte_not}
use Rattle.tag_mem.specs.declared.region.Region.{Region}
use Rattle.tag_mem.specs.Answers.{is_fetchable}
use Rattle.tag_mem.specs.Regions.{extent_of, extents_of, byte_in, AreApart, IsWhole}
use Rattle.tag_mem.proofs.Mapped.{IsAt, between_from, between_parts, any_at_region, byte_at_region}
use Rattle.tag_mem.proofs.Words.{load_moved}

-- what is in no region is in no executable one
pub unmapped : (regions : List Extent) (at : ℕ) → is_mapped regions at ≡ false → is_executable regions at ≡ false
unmapped [] at none = refl
unmapped (e ∷ es) at none =
    let parts = or_parts (is_in_extent e at) (is_mapped es at) none in
    or_from (is_in_extent e at && e.executable) (is_executable es at) (and_left (is_in_extent e at) e.executable parts.0)
    (unmapped es at parts.1)

-- where the first byte is in no executable region, nothing is fetched
pub not_fetched : (regions : List Extent) (at : ℕ) → is_executable regions at ≡ false → is_fetchable regions at ≡ false
not_fetched regions at none =
    and_right _ (every_byte (is_executable regions) at 4)
    (every_byte_not (is_executable regions) at 4 0 (omega arith) (ap (is_executable regions) (add-zero at) ∙ none))

-- a multiple of 4 in a whole region, with the three bytes behind it
pub four_within : (r : Region) (at : ℕ) → IsWhole (extent_of r) → is_in_extent (extent_of r) at ≡ true → at % 4 ≡ 0 →
    at - r.start + 4 ≤ length r.bytes.items
four_within r at whole holds aligned = let b = between_parts r.start (length r.bytes.items) at holds in
    omega (arith, b.from, b.below, whole.start_whole, whole.bytes_whole, aligned)

four_held : (r : Region) (at : ℕ) → IsWhole (extent_of r) → is_in_extent (extent_of r) at ≡ true → at % 4 ≡ 0 → (k : ℕ) → k < 4 →
    is_in_extent (extent_of r) (at + k) ≡ true
four_held r at whole holds aligned k h = let b = between_parts r.start (length r.bytes.items) at holds in
    between_from r.start (length r.bytes.items) (at + k) (omega (arith, b.from))
    (omega (arith, h, b.from, four_within r at whole holds aligned))

-- the region decides whether the bytes may be fetched
pub fetched : (regions : List Region) (i : ℕ) (r : Region) (at : ℕ) → AllPairs AreApart (extents_of regions) → IsWhole (extent_of r) →
    IsAt regions i r → is_in_extent (extent_of r) at ≡ true → at % 4 ≡ 0 → r.executable ≡ true →
    is_fetchable (extents_of regions) at ≡ true
fetched regions i r at apart whole here holds aligned executable =
    and_from _ (every_byte (is_executable (extents_of regions)) at 4) (eq-eqb (at % 4) 0 aligned)
    (every_byte_from (is_executable (extents_of regions)) at 4
    (λ k h. any_at_region regions i r (at + k) (λ e. e.executable) apart here (four_held r at whole holds aligned k h) ∙ executable))

pub not_executable : (regions : List Region) (i : ℕ) (r : Region) (at : ℕ) → AllPairs AreApart (extents_of regions) → IsAt regions i r →
    is_in_extent (extent_of r) at ≡ true → r.executable ≡ false → is_fetchable (extents_of regions) at ≡ false
not_executable regions i r at apart here holds other =
    not_fetched (extents_of regions) at (any_at_region regions i r at (λ e. e.executable) apart here holds ∙ other)

-- the word there
pub fetched_word : (regions : List Region) (i : ℕ) (r : Region) (at : ℕ) → AllPairs AreApart (extents_of regions) →
    IsWhole (extent_of r) → IsAt regions i r → is_in_extent (extent_of r) at ≡ true → at % 4 ≡ 0 →
    ((k : ℕ) → get_or r.bytes.items k 0 < 256) → load 4 (λ k. get_or r.bytes.items k 0) (at - r.start) ≡ load 4 (byte_in regions) at
fetched_word regions i r at apart whole here holds aligned small =
    load_moved 4 (λ k. get_or r.bytes.items k 0) (byte_in regions) (at - r.start) at
    (λ k h. ap (λ n. get_or r.bytes.items n 0) (place k)
    ∙ sym (byte_at_region regions i r (at + k) apart here (four_held r at whole holds aligned k h)
    ∙ mod-eq_of_lt (small (at + k - r.start))))
  where
    place : (k : ℕ) → at - r.start + k ≡ at + k - r.start
    place k = let b = between_parts r.start (length r.bytes.items) at holds in omega (arith, b.from)

-- the answer is there exactly where the test passes
pub none_iff : (o : Option ℕ) (b : Bool) → o ≡ None → b ≡ false → IsSome o ↔ IsTrue b
none_iff o b none fails = rw (none, fails) (λ some. some, λ passes. passes)

pub some_iff : (b : Bool) → b ≡ true → (true ≡ true) ↔ IsTrue b
some_iff b passes = (λ _. passes, λ _. refl)

pub false_iff : (b : Bool) → b ≡ false → (false ≡ true) ↔ IsTrue b
false_iff b fails = rw fails (λ same. same, λ passes. passes)
