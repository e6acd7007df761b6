-- Spellings of intervals opened, and intervals that lie further on.
use Rattle.std.proofs.Common.{◌≡◌, ℕ, zero, suc, ◌+◌, ◌-◌, ◌*◌, ◌/◌, ◌%◌, ◌<◌, ◌≤◌, ◌^◌, List, [], ◌∷◌, ◌++◌, map, length, refl, ap}
use Rattle.std.proofs.Common.{subst, ◌∙◌, arith, length-append}
use Rattle.std.specs.List.{AllByRecursion}
use Rattle.memtag_desc.specs.declared.interval.Interval.{Interval}
use Rattle.memtag_desc.specs.Numbers.{IsShortest, last, more}
use Rattle.memtag_desc.specs.Descriptors.{interval_at, end_of, HaveDescription}
use Rattle.linker.specs.declared.spans.Span.{Span}
use Rattle.linker.specs.Tagged.{SpellsOne, small, large, SpellsFrom, nothing, next}
use Rattle.linker.specs.Spans.{at_place, AreApart, HasLength}
use Rattle.linker.specs.Laws.Growth.{longer_descriptor}

-- ---- a spelling opened

pub record SpellsNext (from : ℕ) (i : Interval) (others : List Interval) (bytes : List ℕ) : Type 0 where
  pub distance : ℕ
  pub size : ℕ
  pub first : List ℕ
  pub rest : List ℕ
  pub same : interval_at from distance size ≡ i
  pub bytes_are : bytes ≡ first ++ rest
  pub one : SpellsOne distance size first
  pub tail : SpellsFrom (end_of i) others rest

abbrev pub Opened : ℕ → List Interval → List ℕ → Type 0
Opened from [] bytes = bytes ≡ []
Opened from (i ∷ others) bytes = SpellsNext from i others bytes

pub opened : (from : ℕ) (is : List Interval) (bytes : List ℕ) → SpellsFrom from is bytes → Opened from is bytes
opened from is bytes (nothing _) = refl
opened from is bytes (next _ distance size others first rest one tail) = record {
  distance = distance;
  size = size;
  first = first;
  rest = rest;
  same = refl;
  bytes_are = refl;
  one = one;
  tail = tail;
}

some_size : (distance size : ℕ) (bytes : List ℕ) → SpellsOne distance size bytes → 1 ≤ size
some_size distance size bytes (small _ _ _ some few n) = some
some_size distance size bytes (large _ _ first second many n m) = omega arith

-- ---- intervals that share no byte

-- each begins at the end of the one before or behind it, and none is empty
abbrev pub AreSpread : ℕ → List Interval → Type 0
AreSpread from [] = Unit {0}
AreSpread from (i ∷ is) = (0 < i.bytes) × (from ≤ i.start) × AreSpread (end_of i) is

pub described_spread : (from : ℕ) (is : List Interval) → HaveDescription from is → AreSpread from is
described_spread from [] h = tt
described_spread from (i ∷ is) h = (h.2, h.3, described_spread (end_of i) is h.5)

pub spelled_spread : (from : ℕ) (is : List Interval) (bytes : List ℕ) → SpellsFrom from is bytes → AreSpread from is
spelled_spread from [] bytes h = tt
spelled_spread from (i ∷ is) bytes h =
    let x : SpellsNext from i is bytes = opened from (i ∷ is) bytes h in
    let some = some_size x.distance x.size x.first x.one in
    let start : from + 16 * x.distance ≡ i.start = ap (λ (j : Interval). j.start) x.same in
    let size : 16 * x.size ≡ i.bytes = ap (λ (j : Interval). j.bytes) x.same in
    (omega arith, omega arith, spelled_spread (end_of i) is x.rest x.tail)

pub apart_spread : (place from reach end : ℕ) (ss : List Span) → reach ≤ place + from → AreApart from end ss
    → AreSpread reach (map (at_place place) ss)
apart_spread place from reach end [] le h = tt
apart_spread place from reach end (s ∷ ss) le h =
    let some = h.2 in
    let start = h.3 in
    (some, omega arith, apart_spread place (s.start + s.bytes) ((place + s.start) + s.bytes) end ss (omega arith) h.5)

-- ---- one descriptor more

pub spells_more : (place from : ℕ) (s : Span) (rest : List Interval) (n m : ℕ) → from ≤ place + s.start → (place + s.start) % 16 ≡ 0
    → from % 16 ≡ 0 → s.bytes % 16 ≡ 0 → HasLength (SpellsOne ((place + s.start - from) / 16) (s.bytes / 16)) n
    → HasLength (SpellsFrom (place + s.start + s.bytes) rest) m
    → HasLength (SpellsFrom from (at_place place s ∷ rest)) (n + m)
spells_more place from s rest n m le at whole bytes one tail =
    let d : ℕ = (place + s.start - from) / 16 in
    let z : ℕ = s.bytes / 16 in
    let start : from + 16 * d ≡ place + s.start = omega arith in
    let size : 16 * z ≡ s.bytes = omega arith in
    let same : interval_at from d z ≡ at_place place s = λ i. record { start = start i; bytes = size i } in
    let P : ℕ → Type 0 = λ e. SpellsFrom e rest tail.bytes in
    let end : place + s.start + s.bytes ≡ end_of (interval_at from d z) = omega arith in
    let made : SpellsFrom from (interval_at from d z ∷ rest) (one.bytes ++ tail.bytes) =
    next from d z rest one.bytes tail.bytes one.is (subst P end tail.is) in
    let Q : Interval → Type 0 = λ i. SpellsFrom from (i ∷ rest) (one.bytes ++ tail.bytes) in
    record {
      bytes = one.bytes ++ tail.bytes;
      is = subst Q same made;
      len = length-append one.bytes tail.bytes ∙ (λ i. one.len i + tail.len i);
    }

-- ---- further on they are no shorter

pub longer_from : (place other from reach : ℕ) (ss : List Span) (a b : List ℕ) → place + reach ≤ other + from
    → SpellsFrom from (map (at_place place) ss) a → SpellsFrom reach (map (at_place other) ss) b → length a ≤ length b
longer_from place other from reach [] a b le h g =
    let none : a ≡ [] = opened from [] a h in
    omega (arith, ap length none)
longer_from place other from reach (s ∷ ss) a b le h g =
    let x : SpellsNext from (at_place place s) (map (at_place place) ss) a = opened from (map (at_place place) (s ∷ ss)) a h in
    let y : SpellsNext reach (at_place other s) (map (at_place other) ss) b = opened reach (map (at_place other) (s ∷ ss)) b g in
    let x_start : from + 16 * x.distance ≡ place + s.start = ap (λ (j : Interval). j.start) x.same in
    let y_start : reach + 16 * y.distance ≡ other + s.start = ap (λ (j : Interval). j.start) y.same in
    let x_size : 16 * x.size ≡ s.bytes = ap (λ (j : Interval). j.bytes) x.same in
    let y_size : 16 * y.size ≡ s.bytes = ap (λ (j : Interval). j.bytes) y.same in
    let size : y.size ≡ x.size = omega arith in
    let one : length x.first ≤ length y.first =
    longer_descriptor x.distance x.size x.first x.one y.distance y.first (subst (λ (z : ℕ). SpellsOne y.distance z y.first) size y.one)
    (omega arith) in
    let rest : length x.rest ≤ length y.rest =
    longer_from place other (place + s.start + s.bytes) (other + s.start + s.bytes) ss x.rest y.rest (omega arith) x.tail y.tail in
    omega (
      arith,
      ap length x.bytes_are,
      ap length y.bytes_are,
      length-append x.first x.rest,
      length-append y.first y.rest,
    )

pub longer : (place other : ℕ) (ss : List Span) (n m : ℕ) → place ≤ other → HasLength (SpellsFrom 0 (map (at_place place) ss)) n
    → HasLength (SpellsFrom 0 (map (at_place other) ss)) m → n ≤ m
longer place other ss n m le h g =
    let grown = longer_from place other 0 0 ss h.bytes g.bytes (omega arith) h.is g.is in
    omega (arith, h.len, g.len)

-- ---- numbers

pub number_last : (n : ℕ) → n < 128 → HasLength (IsShortest n) 1
number_last n lt = record { bytes = n ∷ []; is = last n lt; len = refl }

pub number_more : (n m : ℕ) → 128 ≤ n → HasLength (IsShortest (n / 128)) m → HasLength (IsShortest n) (1 + m)
number_more n m many h =
    let same : n % 128 + 128 * (n / 128) ≡ n = omega arith in
    let P : ℕ → Type 0 = λ k. IsShortest k ((n % 128 + 128) ∷ h.bytes) in
    record {
      bytes = (n % 128 + 128) ∷ h.bytes;
      is = subst P same (more (n % 128) (n / 128) h.bytes (omega arith) (omega arith) h.is);
      len = ap suc h.len ∙ omega arith;
    }

-- a number that so many digits of seven bits hold
abbrev pub digits_hold : ℕ → ℕ
digits_hold zero = 1
digits_hold (suc n) = 128 * digits_hold n

pub fewer_digits : (k n : ℕ) → 128 ≤ n → n < digits_hold k → (1 ≤ k) × (n / 128 < digits_hold (k - 1))
fewer_digits zero n many lt = absurd (omega arith)
fewer_digits (suc k) n many lt =
    let same : k ≡ suc k - 1 = omega arith in
    let low : n / 128 < digits_hold k = omega arith in
    (omega arith, subst (λ (m : ℕ). n / 128 < digits_hold m) same low)

-- ---- one descriptor

pub one_small : (distance size n : ℕ) → 1 ≤ size → size ≤ 7 → HasLength (IsShortest (8 * distance + size)) n
    → HasLength (SpellsOne distance size) n
one_small distance size n some few h = record { bytes = h.bytes; is = small distance size h.bytes some few h.is; len = h.len }

pub one_large : (distance size n m : ℕ) → 8 ≤ size → HasLength (IsShortest (8 * distance)) n → HasLength (IsShortest (size - 1)) m
    → HasLength (SpellsOne distance size) (n + m)
one_large distance size n m many h g = record {
  bytes = h.bytes ++ g.bytes;
  is = large distance size h.bytes g.bytes many h.is g.is;
  len = length-append h.bytes g.bytes ∙ (λ i. h.len i + g.len i);
}

-- ---- spans within an end

pub apart_within : (from end : ℕ) (ss : List Span) → AreApart from end ss → AllByRecursion (λ s. s.start + s.bytes ≤ end) ss
apart_within from end [] h = tt
apart_within from end (s ∷ ss) h = (h.4, apart_within (s.start + s.bytes) end ss h.5)

-- their intervals have a description
pub apart_described : (place from reach end : ℕ) (ss : List Span) → reach ≤ place + from → place % 16 ≡ 0 → place + end ≤ 2 ^ 48
    → AreApart from end ss → HaveDescription reach (map (at_place place) ss)
apart_described place from reach end [] le whole low h = tt
apart_described place from reach end (s ∷ ss) le whole low h =
    let start = h.0 in
    let bytes = h.1 in
    let some = h.2 in
    let after = h.3 in
    let reaches = h.4 in (
      omega arith,
      bytes,
      some,
      omega arith,
      omega arith,
      apart_described place (s.start + s.bytes) ((place + s.start) + s.bytes) end ss (omega arith) whole low h.5,
    )
