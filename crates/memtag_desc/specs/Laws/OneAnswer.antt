-- Bytes describe one list of intervals or have one first fault, and never both.
use Rattle.std.proofs.Common.{◌≡◌, ℕ, zero, suc, ◌+◌, ◌*◌, ◌≤◌, ◌<◌, ◌⊎◌, List, [], ◌∷◌, ◌++◌, length, drop, Ok, Err, refl, sym, ap}
use Rattle.std.proofs.Common.{subst, ◌∙◌, arith, inl, inr, append_assoc, length-append, drop_at}
use Rattle.memtag_desc.specs.declared.interval.Interval.{Interval}
use Rattle.memtag_desc.specs.declared.record.Descriptor.{Descriptor as Read}
use Rattle.memtag_desc.specs.declared.refusal.DescRefusal.{DescRefusal}
use Rattle.memtag_desc.specs.Numbers.{IsShortest, last, more}
use Rattle.memtag_desc.specs.Descriptors.{IsDescriptor, small, large, interval_at, end_of, end_from, address_limit, DescribesFrom}
use Rattle.memtag_desc.specs.Descriptors.{nothing, next, Describes}
use Rattle.memtag_desc.specs.Faults.{RecordBreaks, HasFault}
use Rattle.memtag_desc.specs.Laws.Reading.{ReadDescriptor, descriptor_at}
use Rattle.memtag_desc.specs.Laws.ReadNumber.{IsBytes}
use Rattle.memtag_desc.specs.Laws.ReadDescriptor.{described_as, descriptor_again, record_again, IsBegun, Says, says, IsBytes-after}

some_number : (n : ℕ) (bytes : List ℕ) → IsShortest n bytes → 1 ≤ length bytes
some_number n bytes (last _ lt) = omega arith
some_number n bytes (more low high tail lt some s) = omega arith

pub some_descriptor : (distance size : ℕ) (bytes : List ℕ) → IsDescriptor distance size bytes → 1 ≤ length bytes
some_descriptor distance size bytes (small _ _ _ some few h) = some_number (8 * distance + size) bytes h.shortest
some_descriptor distance size bytes (large _ _ one two some h g) =
    omega (arith, length-append one two, some_number (8 * distance) one h.shortest)

-- ---- what a descriptor leaves open

-- intervals of bytes that begin with a descriptor: its interval, and what the rest describes
record Begins (from distance size : ℕ) (intervals : List Interval) (rest : List ℕ) : Type 0 where
  others : List Interval
  are : intervals ≡ interval_at from distance size ∷ others
  described : DescribesFrom (end_of (interval_at from distance size)) others rest

abbrev described : Read → ReadDescriptor
described d = Ok d

-- two descriptors with which the same bytes begin
record Alike (from d n e m : ℕ) (rest other : List ℕ) : Type 0 where
  interval : interval_at from d n ≡ interval_at from e m
  after : rest ≡ other

ok_is : (x y : Read) → described x ≡ described y → x ≡ y
ok_is x y e = cc

alike : (from d n e m : ℕ) (one two rest other : List ℕ) → IsDescriptor d n one → end_of (interval_at from d n) ≤ address_limit
    → IsDescriptor e m two → end_of (interval_at from e m) ≤ address_limit → one ++ rest ≡ two ++ other → Alike from d n e m rest other
alike from d n e m one two rest other h le g ge same =
    let a = descriptor_again from 0 0 d n one rest h le in
    let b = descriptor_again from 0 0 e m two other g ge in
    let c = ap (descriptor_at from 0 0) same in
    let equal : described_as from d n (length one) ≡ described_as from e m (length two) = sym a ∙ c ∙ b in
    let read : Read = record { interval = interval_at from d n; bytes = length one } in
    let again : Read = record { interval = interval_at from e m; bytes = length two } in
    let records : read ≡ again = ok_is read again equal in
    let lengths : length one ≡ length two = ap (λ (x : Read). x.bytes) records in
    record {
      interval = ap (λ (x : Read). x.interval) records;
      after = sym (drop_at one rest (length one) refl) ∙ ap (drop (length one)) same ∙ drop_at two other (length one) (sym lengths);
    }

begins : (from d n : ℕ) (first rest bytes : List ℕ) (intervals : List Interval) → IsDescriptor d n first
    → end_of (interval_at from d n) ≤ address_limit
    → DescribesFrom from intervals bytes → bytes ≡ first ++ rest → Begins from d n intervals rest
begins from d n first rest bytes intervals h le (nothing _) same =
    absurd (omega (arith, some_descriptor d n first h, ap length same, length-append first rest))
begins from d n first rest bytes intervals h le (next _ e m others two after g ge s) same =
    let both = alike from e m d n two first after rest g ge h le same in
    let moved : DescribesFrom (end_of (interval_at from d n)) others after =
    subst (λ (i : Interval). DescribesFrom (end_of i) others after) both.interval s in
    record {
      others = others;
      are = ap (λ (i : Interval). i ∷ others) both.interval;
      described = subst (DescribesFrom (end_of (interval_at from d n)) others) both.after moved;
    }

-- a descriptor with which bytes begin is not one that breaks a rule
not_both : (from place total d n : ℕ) (first rest bytes : List ℕ) (fault : DescRefusal) → IsDescriptor d n first
    → end_of (interval_at from d n) ≤ address_limit
    → bytes ≡ first ++ rest → RecordBreaks from place total bytes fault → ⊥
not_both from place total d n first rest bytes fault h le same breaks =
    let a = descriptor_again from place total d n first rest h le in
    let b = record_again from place total bytes fault breaks in
    let c = ap (descriptor_at from place total) same in
    cc

-- ---- one list

nothing_left : (from : ℕ) (ys : List Interval) (bytes : List ℕ) → DescribesFrom from ys bytes → bytes ≡ [] → [] ≡ ys
nothing_left from ys bytes (nothing _) same = refl
nothing_left from ys bytes (next _ d n others first rest h le s) same =
    absurd (omega (arith, some_descriptor d n first h, ap length same, length-append first rest))

one_from : (from : ℕ) (xs : List Interval) (bytes : List ℕ) → DescribesFrom from xs bytes → (ys : List Interval)
    → DescribesFrom from ys bytes → xs ≡ ys
one_from from xs bytes (nothing _) ys g = nothing_left from ys [] g refl
one_from from xs bytes (next _ d n others first rest h le s) ys g =
    let b = begins from d n first rest (first ++ rest) ys h le g refl in
    ap (λ (l : List Interval). interval_at from d n ∷ l) (one_from (end_of (interval_at from d n)) others rest s b.others b.described)
    ∙ sym b.are

-- bytes describe one list of intervals
pub one_list : (xs ys : List Interval) (bytes : List ℕ) → Describes xs bytes → Describes ys bytes → xs ≡ ys
one_list xs ys bytes h g = one_from 0 xs bytes h ys g

-- ---- no fault

none_from : (from place total : ℕ) (xs front : List Interval) (before rest bytes : List ℕ) (fault : DescRefusal)
    → DescribesFrom from front before → DescribesFrom from xs bytes
    → bytes ≡ before ++ rest → 1 ≤ length rest → RecordBreaks (end_from from front) place total rest fault → ⊥
none_from from place total xs front before rest bytes fault (nothing _) (nothing _) same some breaks = omega (arith, ap length same)
none_from from place total xs front before rest bytes fault (nothing _) (next _ d n others first after h le s) same some breaks =
    not_both from place total d n first after rest fault h le (sym same) breaks
none_from from place total xs front before rest bytes fault (next _ d n others first after h le s) g same some breaks =
    let b = begins from d n first (after ++ rest) bytes xs h le g (same ∙ append_assoc first after rest) in
    none_from (end_of (interval_at from d n)) place total b.others others after rest (after ++ rest) fault s b.described refl some breaks

-- bytes that describe intervals have no fault
pub no_fault : (xs : List Interval) (bytes : List ℕ) (fault : DescRefusal) → Describes xs bytes → HasFault bytes fault → ⊥
no_fault xs bytes fault h f = none_from 0 (length f.before) (length bytes) xs f.intervals f.before f.rest bytes fault f.described h
    f.parts f.some f.breaks

-- ---- one fault

-- a fault behind some intervals
record FaultFrom (from place total : ℕ) (bytes : List ℕ) (fault : DescRefusal) : Type 0 where
  intervals : List Interval
  before : List ℕ
  rest : List ℕ
  parts : bytes ≡ before ++ rest
  some : 1 ≤ length rest
  described : DescribesFrom from intervals before
  breaks : RecordBreaks (end_from from intervals) (place + length before) total rest fault

-- the fault of bytes that begin with a descriptor is one of the rest
record FaultBehind (from place total d n : ℕ) (first rest : List ℕ) (fault : DescRefusal) : Type 0 where
  behind : FaultFrom (end_of (interval_at from d n)) (place + length first) total rest fault

fault_behind : (from place total d n : ℕ) (first rest bytes : List ℕ) (fault : DescRefusal) → IsDescriptor d n first
    → end_of (interval_at from d n) ≤ address_limit
    → bytes ≡ first ++ rest → (intervals : List Interval) (before left : List ℕ) → bytes ≡ before ++ left → 1 ≤ length left
    → DescribesFrom from intervals before
    → RecordBreaks (end_from from intervals) (place + length before) total left fault → FaultBehind from place total d n first rest fault
fault_behind from place total d n first rest bytes fault h le same intervals before left parts some (nothing _) breaks =
    let breaks_here : RecordBreaks from (place + 0) total left fault = breaks in
    absurd (not_both from (place + 0) total d n first rest left fault h le (sym parts ∙ same) breaks_here)
fault_behind from place total d n first rest bytes fault h le same intervals before left parts some
    (next _ e m others two after g ge s) breaks =
    let cut : two ++ (after ++ left) ≡ first ++ rest = sym (append_assoc two after left) ∙ sym parts ∙ same in
    let both = alike from e m d n two first (after ++ left) rest g ge h le cut in
    let lengths : length two ≡ length first = omega (
      arith,
      ap length cut,
      ap length both.after,
      length-append two
          (after ++ left),
      length-append first rest,
    ) in
    let places : place + length (two ++ after) ≡ place + length first + length after = omega (arith, length-append two after) in
    let described : DescribesFrom (end_of (interval_at from d n)) others after =
    subst (λ (i : Interval). DescribesFrom (end_of i) others after) both.interval s in
    let ends : RecordBreaks (end_from (end_of (interval_at from d n)) others) (place + length (two ++ after)) total left fault
    = subst (λ (i : Interval). RecordBreaks (end_from (end_of i) others) (place + length (two ++ after)) total left fault) both.interval
    breaks in
    record {
      behind = record {
        intervals = others;
        before = after;
        rest = left;
        parts = sym both.after;
        some = some;
        described = described;
        breaks = subst (λ (k : ℕ). RecordBreaks (end_from (end_of (interval_at from d n)) others) k total left fault) places ends;
      };
    }

fault_from : (from place total : ℕ) (front : List Interval) (before rest bytes : List ℕ) (fault other : DescRefusal)
    → DescribesFrom from front before → bytes ≡ before ++ rest
    → 1 ≤ length rest → RecordBreaks (end_from from front) (place + length before) total rest fault
    → FaultFrom from place total bytes other → fault ≡ other
fault_from from place total front before rest bytes fault other (nothing _) same some breaks f =
    first_fault from place total rest fault breaks other f.intervals f.before f.rest (sym same ∙ f.parts) f.described f.breaks
  where
    first_fault : (from place total : ℕ) (rest : List ℕ) (fault : DescRefusal) → RecordBreaks from (place + 0) total rest fault
        → (other : DescRefusal) (intervals : List Interval) (before left : List ℕ)
        → rest ≡ before ++ left → DescribesFrom from intervals before
        → RecordBreaks (end_from from intervals) (place + length before) total left other → fault ≡ other
    first_fault from place total rest fault breaks other intervals before left parts (nothing _) others =
        let a = record_again from (place + 0) total rest fault breaks in
        let b = record_again from (place + 0) total left other others in
        let c = ap (descriptor_at from (place + 0) total) parts in
        cc
    first_fault from place total rest fault breaks other intervals before left parts (next _ d n further two after h le s) others =
        absurd (not_both from (place + 0) total d n two (after ++ left) rest fault h le (parts ∙ append_assoc two after left) breaks)
fault_from from place total front before rest bytes fault other (next _ d n others first after h le s) same some breaks f =
    let places : place + length (first ++ after) ≡ place + length first + length after = omega (arith, length-append first after) in
    let here : RecordBreaks (end_from (end_of (interval_at from d n)) others) (place + length first + length after) total rest fault
    = subst (λ (k : ℕ). RecordBreaks (end_from (end_of (interval_at from d n)) others) k total rest fault) places breaks in
    let b = fault_behind from place total d n first (after ++ rest) bytes other h le
    (same ∙ append_assoc first after rest) f.intervals f.before f.rest f.parts f.some f.described f.breaks in
    fault_from (end_of (interval_at from d n)) (place + length first) total others after rest
    (after ++ rest) fault other s refl some here b.behind

from_start : (bytes : List ℕ) (fault : DescRefusal) → HasFault bytes fault → FaultFrom 0 0 (length bytes) bytes fault
from_start bytes fault f =
    let place : length f.before ≡ 0 + length f.before = omega arith in
    record {
      intervals = f.intervals;
      before = f.before;
      rest = f.rest;
      parts = f.parts;
      some = f.some;
      described = f.described;
      breaks = subst (λ (k : ℕ). RecordBreaks (end_from 0 f.intervals) k (length bytes) f.rest fault) place f.breaks;
    }

-- bytes have one first fault
pub one_fault : (bytes : List ℕ) (fault other : DescRefusal) → HasFault bytes fault → HasFault bytes other → fault ≡ other
one_fault bytes fault other f g =
    let a = from_start bytes fault f in
    fault_from 0 0 (length bytes) a.intervals a.before a.rest bytes fault other a.described a.parts a.some a.breaks
    (from_start bytes other g)

-- ---- one or the other

-- the intervals, or the fault
abbrev Answered : ℕ → ℕ → ℕ → List ℕ → Type 0
Answered from place total bytes = ((xs : List Interval) × DescribesFrom from xs bytes)
    ⊎ ((fault : DescRefusal) × FaultFrom from place total bytes fault)

-- a descriptor, and what is said of the rest
answered_next : (from place total : ℕ) (bytes : List ℕ) (i : Interval) (n : ℕ) (b : IsBegun from bytes i n)
    → Answered (end_of (interval_at from b.distance b.size)) (place + length b.front) total b.after → Answered from place total bytes
answered_next from place total bytes i n b (inl h) =
    inl (
      interval_at from b.distance b.size ∷ h.0,
      subst (DescribesFrom from (interval_at from b.distance b.size ∷ h.0)) (sym b.parts)
          (next from b.distance b.size h.0 b.front b.after b.descriptor b.within h.1),
    )
answered_next from place total bytes i n b (inr h) =
    let f = h.1 in
    let places : place + length b.front + length f.before ≡ place + length (b.front ++ f.before) =
    omega (arith, length-append b.front f.before) in
    inr (
      h.0,
      record {
        intervals = interval_at from b.distance b.size ∷ f.intervals;
        before = b.front ++ f.before;
        rest = f.rest;
        parts = b.parts ∙ ap (λ (l : List ℕ). b.front ++ l) f.parts ∙ sym (append_assoc b.front f.before f.rest);
        some = f.some;
        described = next from b.distance b.size f.intervals b.front f.before b.descriptor b.within f.described;
        breaks = subst (λ (k : ℕ). RecordBreaks (end_from (end_of (interval_at from b.distance b.size)) f.intervals) k total f.rest h.0)
            places f.breaks;
      },
    )

-- what is read, with what is said of any rest
judge : (from place total : ℕ) (bytes : List ℕ) (answer : ReadDescriptor) → IsBytes bytes → 1 ≤ length bytes
    → Says from place total bytes answer
    → ((at next_place : ℕ) (rest : List ℕ) → length rest < length bytes → IsBytes rest → Answered at next_place total rest)
    → Answered from place total bytes
judge from place total bytes (Ok d) fits some h others =
    answered_next from place total bytes d.interval d.bytes h
    (others (end_of (interval_at from h.distance h.size)) (place + length h.front) h.after
    (omega (arith, ap length h.parts, length-append h.front h.after, h.length_is, h.some))
    (IsBytes-after h.front h.after (subst IsBytes h.parts fits)))
judge from place total bytes (Err fault) fits some h others =
    let place_is : place ≡ place + 0 = omega arith in
    inr (
      fault,
      record {
        intervals = [];
        before = [];
        rest = bytes;
        parts = refl;
        some = some;
        described = nothing from;
        breaks = subst (λ (k : ℕ). RecordBreaks from k total bytes fault) place_is h;
      },
    )

answered : (fuel from place total : ℕ) (bytes : List ℕ) → length bytes ≤ fuel → IsBytes bytes → Answered from place total bytes
answered fuel from place total [] few fits = inl ([], nothing from)
answered zero from place total (b ∷ bytes) few fits = absurd (omega arith)
answered (suc fuel) from place total (b ∷ bytes) few fits =
    judge from place total (b ∷ bytes) (descriptor_at from place total (b ∷ bytes)) fits (omega arith)
    (says from place total (b ∷ bytes) fits)
    (λ at after rest less fit. answered fuel at after total rest (omega arith) fit)

-- bytes describe intervals or have a fault
pub one_or_other : (bytes : List ℕ) → IsBytes bytes → ((xs : List Interval) × Describes xs bytes)
    ⊎ ((fault : DescRefusal) × HasFault bytes fault)
one_or_other bytes fits =
    elim (answered (length bytes) 0 0 (length bytes) bytes (omega arith) fits) [
      | inl h ↦ inl h
      | inr h ↦
          let f = h.1 in
          let place : 0 + length f.before ≡ length f.before = omega arith in
          inr (
            h.0,
            record {
              intervals = f.intervals;
              before = f.before;
              rest = f.rest;
              parts = f.parts;
              some = f.some;
              described = f.described;
              breaks = subst (λ (k : ℕ). RecordBreaks (end_from 0 f.intervals) k (length bytes) f.rest h.0) place f.breaks;
            },
          )
    ]
