-- What regions hold, where memory holds something beside them.
use Rattle.std.proofs.Common.{◌≡◌, ℕ, ◌+◌, ◌-◌, ◌%◌, ◌<◌, true, false, cond, List, [], ◌∷◌, ◌++◌, length, get_or, refl, sym, ◌∙◌, ap, arith}
use Rattle.std.proofs.Common.{inl, inr, mod-eq_of_lt, if◌then◌else◌, zero, suc, subst}
use Rattle.std.specs.List.{All, Contains}
use Rattle.std.proofs.lemmas.List.Elements.{All-contains, Contains-push, Contains-append_left, Contains-get_or}
use Rattle.std.proofs.Math.Path.{fun_ext}
use Rattle.std.proofs.lemmas.Bool.{cases_Bool, or_right}
use Rattle.mt_base.specs.Memory.{Extent, is_between, is_in_extent, is_mapped, store_bytes, every_byte}
use Rattle.mt_base.specs.Laws.Memory.{every_byte_from}
use Rattle.tag_mem.specs.declared.region.Region.{Region}
use Rattle.tag_mem.specs.Regions.{extent_of, extents_of, byte_in}
use Rattle.tag_pages.proofs.Mapped.{between_from}

-- the byte at an address of a region; elsewhere it is that of f
abbrev pub byte_over : List Region → (ℕ → ℕ) → ℕ → ℕ
byte_over [] f at = f at
byte_over (r ∷ rs) f at =
    if is_in_extent (extent_of r) at then get_or r.bytes.items (at - r.start) 0 % 256 else byte_over rs f at

pub byte_over_zero : (regions : List Region) (at : ℕ) → byte_over regions (λ _. 0) at ≡ byte_in regions at
byte_over_zero [] at = refl
byte_over_zero (r ∷ rs) at =
    ap (λ b. cond (is_in_extent (extent_of r) at) (get_or r.bytes.items (at - r.start) 0 % 256) b) (byte_over_zero rs at)

one_region : (r : Region) (f : ℕ → ℕ) (at : ℕ) → ((k : ℕ) → get_or r.bytes.items k 0 < 256) →
    byte_over (r ∷ []) f at ≡ store_bytes f r.start r.bytes.items at
unfolding store_bytes
one_region r f at small = elim (cases_Bool (is_between r.start (length r.bytes.items) at)) [
  | inl holds ↦ rw holds (mod-eq_of_lt (small (at - r.start)))
  | inr other ↦ rw other refl
]

-- the last region is stored first
last_region : (regions : List Region) (r : Region) (f : ℕ → ℕ) (at : ℕ) → ((k : ℕ) → get_or r.bytes.items k 0 < 256) →
    byte_over (regions ++ r ∷ []) f at ≡ byte_over regions (store_bytes f r.start r.bytes.items) at
last_region [] r f at small = one_region r f at small
last_region (x ∷ rs) r f at small =
    ap (λ b. cond (is_in_extent (extent_of x) at) (get_or x.bytes.items (at - x.start) 0 % 256) b) (last_region rs r f at small)

pub byte_over_last : (regions : List Region) (r : Region) (f : ℕ → ℕ) → ((k : ℕ) → get_or r.bytes.items k 0 < 256) →
    byte_over (regions ++ r ∷ []) f ≡ byte_over regions (store_bytes f r.start r.bytes.items)
byte_over_last regions r f small = fun_ext (λ at. last_region regions r f at small)

-- a region whose addresses are all in some region
abbrev pub IsCovered : List Extent → Region → Type 0
IsCovered regions r = (at : ℕ) → is_in_extent (extent_of r) at ≡ true → is_mapped regions at ≡ true

pub covered_bytes : (regions : List Extent) (r : Region) → IsCovered regions r →
    every_byte (is_mapped regions) r.start (length r.bytes.items) ≡ true
covered_bytes regions r covered =
    every_byte_from (is_mapped regions) r.start (length r.bytes.items)
    (λ k h. covered (r.start + k) (between_from r.start (length r.bytes.items) (r.start + k) (omega arith) (omega (arith, h))))

pub byte_over_empty : (regions : List Region) (f : ℕ → ℕ) → length regions ≡ 0 → byte_over regions f ≡ f
byte_over_empty [] f none = refl
byte_over_empty (r ∷ rs) f none = absurd (omega (arith, none))

-- ---- the regions of a list

mapped_in : (regions : List Region) (k at : ℕ) (d : Region) → k < length regions → is_in_extent (extent_of (get_or regions k d)) at ≡ true →
    is_mapped (extents_of regions) at ≡ true
mapped_in [] k at d below holds = absurd (omega (arith, below))
mapped_in (r ∷ rs) zero at d below holds = rw holds refl
mapped_in (r ∷ rs) (suc k) at d below holds =
    or_right (is_in_extent (extent_of r) at) (is_mapped (extents_of rs) at) (mapped_in rs k at d (omega (arith, below)) holds)

pub all_covered : (extents : List Extent) (regions : List Region) → extents ≡ extents_of regions → All (IsCovered extents) regions
all_covered extents regions same k d below at holds = ap (λ es. is_mapped es at) same ∙ mapped_in regions k at d below holds

pub last_of : {X : Type 0} (P : X → Type 0) (xs all : List X) (x : X) → all ≡ xs ++ x ∷ [] → All P all → P x
last_of P xs all x is each = All-contains P all x each (subst (λ l. Contains l x) (sym is) (Contains-push xs x))

pub front_of : {X : Type 0} (P : X → Type 0) (xs all : List X) (x : X) → all ≡ xs ++ x ∷ [] → All P all → All P xs
front_of P xs all x is each k d below =
    All-contains P all (get_or xs k d) each
    (subst (λ l. Contains l (get_or xs k d)) (sym is) (Contains-append_left xs (x ∷ []) (get_or xs k d) (Contains-get_or xs k d below)))
