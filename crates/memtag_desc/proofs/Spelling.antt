-- The loops of the writer: whatever spells the rest makes, with what was written, a spelling of the whole.
use Rattle.std.proofs.Common.{◌≡◌, ℕ, zero, suc, ◌+◌, ◌*◌, ◌-◌, ◌/◌, ◌%◌, ◌^◌, ◌<◌, ◌≤◌, List, [], ◌∷◌, ◌++◌, length, drop, get_or, refl}
use Rattle.std.proofs.Common.{sym, ap, subst, ◌∙◌, arith, append_assoc, drop-cons, add-one}
use Rattle.std.proofs.Math.Nat.{pow-succ'}
use Rattle.std.proofs.lemmas.List.{append-nil}
use Rattle.memtag_desc.specs.declared.interval.Interval.{Interval}
use Rattle.memtag_desc.specs.Numbers.{IsShortest, last, more, IsNumber}
use Rattle.memtag_desc.specs.Descriptors.{IsDescriptor, small, large, interval_at, end_of, address_limit, DescribesFrom, nothing, next}
use Rattle.memtag_desc.specs.Descriptors.{Describes, HaveDescription}
use Rattle.memtag_desc.specs.Laws.Adding.{Adds}

-- ---- a number

-- what the loop over a number keeps
abbrev pub Puts : ℕ → ℕ → List ℕ → List ℕ → Type 0
Puts value rest before out = (tail : List ℕ) → IsShortest rest tail → Adds (IsShortest value) before (out ++ tail)

pub puts_more : (value rest : ℕ) (before out : List ℕ) → 128 ≤ rest → Puts value rest before out
    → Puts value (rest / 128) before (out ++ (rest % 128 + 128) ∷ [])
puts_more value rest before out le so_far tail h =
    let is : rest % 128 + 128 * (rest / 128) ≡ rest = omega arith in
    let longer : IsShortest rest ((rest % 128 + 128) ∷ tail) = subst (λ (m : ℕ). IsShortest m ((rest % 128 + 128) ∷ tail)) is
    (more (rest % 128) (rest / 128) tail (omega arith) (omega arith) h) in
    subst (Adds (IsShortest value) before) (sym (append_assoc out ((rest % 128 + 128) ∷ []) tail))
    (so_far ((rest % 128 + 128) ∷ tail) longer)

-- a number that fits k groups of seven bits has at most k bytes
few_bytes : (n : ℕ) (bytes : List ℕ) → IsShortest n bytes → (k : ℕ) → n < 128 ^ suc k → length bytes ≤ suc k
few_bytes n bytes (last _ lt) k h = omega arith
few_bytes n bytes (more low high tail lt some s) zero h = absurd (omega arith)
few_bytes n bytes (more low high tail lt some s) (suc k) h =
    let power = pow-succ' 128 (suc k) in
    omega (arith, few_bytes high tail s k (omega arith))

pub puts_all : (value rest : ℕ) (before out : List ℕ) → value < 2 ^ 56 → rest < 128 → Puts value rest before out
    → Adds (IsNumber value) before (out ++ rest ∷ [])
puts_all value rest before out fits lt so_far =
    let h = so_far (rest ∷ []) (last rest lt) in
    record { bytes = h.bytes; is = h.is; holds = record { shortest = h.holds; few = few_bytes value h.bytes h.holds 7 fits } }

-- ---- a descriptor

pub adds_small : (distance size : ℕ) (before after : List ℕ) → 1 ≤ size → size ≤ 7 → Adds (IsNumber (8 * distance + size)) before after
    → Adds (IsDescriptor distance size) before after
adds_small distance size before after some few h = record {
  bytes = h.bytes;
  is = h.is;
  holds =
      small distance size h.bytes some few h.holds;
}

pub adds_large : (distance size : ℕ) (before middle after : List ℕ) → 7 < size → Adds (IsNumber (8 * distance)) before middle
    → Adds (IsNumber (size - 1)) middle after
    → Adds (IsDescriptor distance size) before after
adds_large distance size before middle after lt h g = record {
  bytes = h.bytes ++ g.bytes;
  is = g.is ∙ ap (λ (l : List ℕ). l ++ g.bytes) h.is ∙ append_assoc before h.bytes g.bytes;
  holds = large distance size h.bytes g.bytes (omega arith) h.holds g.holds;
}

-- ---- all

-- what the loop over the intervals keeps, of those that are left
pub record IsWritten (intervals left : List Interval) (end : ℕ) (out : List ℕ) : Type 0 where
  pub rest : (bytes : List ℕ) → DescribesFrom end left bytes → Describes intervals (out ++ bytes)
  pub have : HaveDescription end left
  pub whole : end % 16 ≡ 0

-- an interval in granules behind another
pub is_interval : (from : ℕ) (i : Interval) → from % 16 ≡ 0 → i.start % 16 ≡ 0 → i.bytes % 16 ≡ 0 → from ≤ i.start
    → interval_at from ((i.start - from) / 16) (i.bytes / 16) ≡ i
is_interval from i whole start bytes le =
    let starts : from + 16 * ((i.start - from) / 16) ≡ i.start = omega arith in
    let sizes : 16 * (i.bytes / 16) ≡ i.bytes = omega arith in
    λ k. record { start = starts k; bytes = sizes k }

pub writes_more : (intervals others : List Interval) (i : Interval) (end : ℕ) (out after : List ℕ)
    → IsWritten intervals (i ∷ others) end out
    → Adds (IsDescriptor ((i.start - end) / 16) (i.bytes / 16)) out after → IsWritten intervals others (end_of i) after
writes_more intervals others i end out after h a =
    let have = h.have in
    let is : interval_at end ((i.start - end) / 16) (i.bytes / 16) ≡ i = is_interval end i h.whole have.0 have.1 have.3 in
    let le : end_of (interval_at end ((i.start - end) / 16) (i.bytes / 16)) ≤ address_limit =
    subst (λ (x : Interval). end_of x ≤ address_limit) (sym is) have.4 in
    let step : (bytes : List ℕ) → DescribesFrom (end_of i) others bytes → Describes intervals (after ++ bytes) = λ bytes d.
    let there : DescribesFrom (end_of (interval_at end ((i.start - end) / 16) (i.bytes / 16))) others bytes =
    subst (λ (x : Interval). DescribesFrom (end_of x) others bytes) (sym is) d in
    let made : DescribesFrom end (interval_at end ((i.start - end) / 16) (i.bytes / 16) ∷ others) (a.bytes ++ bytes) =
    next end ((i.start - end) / 16) (i.bytes / 16) others a.bytes bytes a.holds le there in
    let moved : DescribesFrom end (i ∷ others) (a.bytes ++ bytes) =
    subst (λ (x : Interval). DescribesFrom end (x ∷ others) (a.bytes ++ bytes)) is made in
    subst (Describes intervals) (sym (append_assoc out a.bytes bytes) ∙ ap (λ (l : List ℕ). l ++ bytes) (sym a.is))
    (h.rest (a.bytes ++ bytes) moved) in
    record { rest = step; have = have.5; whole = omega (arith, have.0, have.1) }

pub writes_all : (intervals : List Interval) (end : ℕ) (out : List ℕ) → IsWritten intervals [] end out → Describes intervals out
writes_all intervals end out h = subst (Describes intervals) (append-nil out) (h.rest [] (nothing end))

-- the intervals that are left, with the next one in front
left_is : (intervals : List Interval) (k : ℕ) (d : Interval) → k < length intervals
    → drop k intervals ≡ get_or intervals k d ∷ drop (k + 1) intervals
left_is intervals k d lt = rw (drop-cons intervals k d, add-one) refl

-- what an index past the end reads as
abbrev pub no_interval : Interval
no_interval = record { start = 0; bytes = 0 }

-- the next of the intervals that are left
pub next_left : (intervals : List Interval) (k end : ℕ) (out : List ℕ) → k < length intervals
    → IsWritten intervals (drop k intervals) end out
    → IsWritten intervals (get_or intervals k no_interval ∷ drop (k + 1) intervals) end out
next_left intervals k end out lt h =
    subst (λ (l : List Interval). IsWritten intervals l end out) (left_is intervals k no_interval lt) h

pub writes_next : (intervals : List Interval) (k end : ℕ) (out after : List ℕ) → k < length intervals
    → IsWritten intervals (drop k intervals) end out
    → Adds (IsDescriptor (((get_or intervals k no_interval).start - end) / 16) ((get_or intervals k no_interval).bytes / 16)) out after
    → IsWritten intervals (drop (k + 1) intervals) (end_of (get_or intervals k no_interval)) after
writes_next intervals k end out after lt h a =
    writes_more intervals (drop (k + 1) intervals) (get_or intervals k no_interval) end out after (next_left intervals k end out lt h) a
