-- The loop over descriptors: what was read describes the bytes so far, and a refusal is the first fault.
use Rattle.std.proofs.Common.{◌≡◌, ℕ, ◌+◌, ◌<◌, ◌≤◌, ◌⊎◌, List, [], ◌∷◌, ◌++◌, length, take, drop, Result, Ok, Err, refl, sym, ap, subst}
use Rattle.std.proofs.Common.{◌∙◌, arith, inl, inr, append_assoc, length-append, length-take, length-drop, take-append-drop, get_or-drop}
use Rattle.std.proofs.Common.{take_all, take_at}
use Rattle.std.specs.Prelude.{IfOk, IfErr, MatchResult}
use Rattle.std.specs.Global.{Vec}
use Rattle.std.proofs.lemmas.List.{append-nil}
use Rattle.memtag_desc.specs.declared.interval.Interval.{Interval}
use Rattle.memtag_desc.specs.declared.record.Descriptor.{Descriptor}
use Rattle.memtag_desc.specs.declared.refusal.DescRefusal.{DescRefusal}
use Rattle.memtag_desc.specs.declared.refusal.DescRefusal.TheVariants.{NoMemory}
use Rattle.memtag_desc.specs.Descriptors.{IsDescriptor, interval_at, end_of, end_from, address_limit, DescribesFrom, nothing, next}
use Rattle.memtag_desc.specs.Descriptors.{Describes}
use Rattle.memtag_desc.specs.Faults.{RecordBreaks, HasFault}
use Rattle.memtag_desc.specs.Laws.Reading.{ReadDescriptor, descriptor_at}
use Rattle.memtag_desc.specs.Laws.ReadNumber.{IsBytes}
use Rattle.memtag_desc.specs.Laws.ReadDescriptor.{IsBegun, Says, says}
use Rattle.memtag_desc.specs.Laws.OneAnswer.{one_list, no_fault, one_fault}

-- one descriptor more at the end
more_from : (from : ℕ) (xs : List Interval) (bytes : List ℕ) → DescribesFrom from xs bytes → (d n : ℕ) (last : List ℕ)
    → IsDescriptor d n last
    → end_of (interval_at (end_from from xs) d n) ≤ address_limit
    → DescribesFrom from (xs ++ interval_at (end_from from xs) d n ∷ []) (bytes ++ last)
more_from from xs bytes (nothing _) d n last h le =
    subst (DescribesFrom from (interval_at from d n ∷ [])) (append-nil last)
    (next from d n [] last [] h le (nothing (end_of (interval_at from d n))))
more_from from xs bytes (next _ e m others first rest g ge s) d n last h le =
    let others_more = more_from (end_of (interval_at from e m)) others rest s d n last h le in
    subst (DescribesFrom from (interval_at from e m ∷ (others ++ interval_at (end_from (end_of (interval_at from e m)) others) d n ∷ [])))
    (sym (append_assoc first rest last))
    (next from e m (others ++ interval_at (end_from (end_of (interval_at from e m)) others) d n ∷ []) first
    (rest ++ last) g ge others_more)

pub end-more : (from : ℕ) (xs : List Interval) (i : Interval) → end_from from (xs ++ i ∷ []) ≡ end_of i
end-more from [] i = refl
end-more from (x ∷ xs) i = end-more (end_of x) xs i

-- what was read up to a place, and where its last interval ends
pub record IsRead (bytes : List ℕ) (intervals : List Interval) (end place : ℕ) : Type 0 where
  pub described : Describes intervals (take place bytes)
  pub ends : end ≡ end_from 0 intervals
  pub within : place ≤ length bytes
  pub low : end ≤ address_limit

pub reads_nothing : (bytes : List ℕ) → IsRead bytes [] 0 0
reads_nothing bytes = record { described = nothing 0; ends = refl; within = omega arith; low = omega arith }

IsBytes-drop : (n : ℕ) (xs : List ℕ) → IsBytes xs → IsBytes (drop n xs)
IsBytes-drop n xs h i = rw get_or-drop (h (n + i))

-- what is read at the place
said_at : (bytes : List ℕ) (end place total : ℕ) (left : List ℕ) (answer : ReadDescriptor) → IsBytes bytes → left ≡ drop place bytes
    → answer ≡ descriptor_at end place total left → Says end place total (drop place bytes) answer
said_at bytes end place total left answer fits same is =
    subst (Says end place total (drop place bytes)) (sym (is ∙ ap (descriptor_at end place total) same))
    (says end place total (drop place bytes) (IsBytes-drop place bytes fits))

-- a descriptor that is read there
pub found_at : (bytes : List ℕ) (end place total : ℕ) (left : List ℕ) (d : Descriptor) → IsBytes bytes → left ≡ drop place bytes
    → Ok d ≡ descriptor_at end place total left → IsBegun end (drop place bytes) d.interval d.bytes
found_at bytes end place total left d fits same is = said_at bytes end place total left (Ok d) fits same is

pub reads_more : (bytes : List ℕ) (intervals : List Interval) (end place : ℕ) (i : Interval) (n : ℕ) → IsRead bytes intervals end place
    → IsBegun end (drop place bytes) i n
    → IsRead bytes (intervals ++ i ∷ []) (end_of i) (place + n)
reads_more bytes intervals end place i n h b =
    let parts : bytes ≡ (take place bytes ++ b.front) ++ b.after = sym (take-append-drop place bytes)
    ∙ ap (λ (l : List ℕ). take place bytes ++ l) b.parts ∙ sym (append_assoc (take place bytes) b.front b.after) in
    let within = h.within in
    let len : length (take place bytes ++ b.front) ≡ place + n =
    omega (arith, length-append (take place bytes) b.front, length-take place bytes, b.length_is) in
    let front : take (place + n) bytes ≡ take place bytes ++ b.front = ap (take (place + n)) parts
    ∙ take_at (take place bytes ++ b.front) b.after (place + n) len in
    let is : i ≡ interval_at (end_from 0 intervals) b.distance b.size = b.is ∙ ap (λ (e : ℕ). interval_at e b.distance b.size) h.ends in
    let le : end_of (interval_at (end_from 0 intervals) b.distance b.size) ≤ address_limit =
    subst (λ (e : ℕ). end_of (interval_at e b.distance b.size) ≤ address_limit) h.ends b.within in
    let described : Describes (intervals ++ interval_at (end_from 0 intervals) b.distance b.size ∷ []) (take place bytes ++ b.front) =
    more_from 0 intervals (take place bytes) h.described b.distance b.size b.front b.descriptor le in
    let moved : Describes (intervals ++ i ∷ []) (take place bytes ++ b.front) =
    subst (λ (x : Interval). Describes (intervals ++ x ∷ []) (take place bytes ++ b.front)) (sym is) described in
    record {
      described = subst (Describes (intervals ++ i ∷ [])) (sym front) moved;
      ends = sym (end-more 0 intervals i);
      within = omega (arith, ap length parts, length-append (take place bytes ++ b.front) b.after);
      low = subst (λ (x : Interval). end_of x ≤ address_limit) (sym is) le;
    }

pub reads_all : (bytes : List ℕ) (intervals : List Interval) (end place : ℕ) → IsRead bytes intervals end place → length bytes ≤ place
    → Describes intervals bytes
reads_all bytes intervals end place h le = subst (Describes intervals) (take_all place bytes le) h.described

-- a fault at the place is the first one
pub fault_at : (bytes : List ℕ) (intervals : List Interval) (end place : ℕ) (left : List ℕ) (fault : DescRefusal) → IsBytes bytes
    → IsRead bytes intervals end place → place < length bytes
    → left ≡ drop place bytes → Err fault ≡ descriptor_at end place (length bytes) left → HasFault bytes fault
fault_at bytes intervals end place left fault fits h lt same is =
    let breaks : RecordBreaks end place (length bytes) (drop place bytes) fault =
    said_at bytes end place (length bytes) left (Err fault) fits same is in
    let place_is : place ≡ length (take place bytes) = omega (arith, length-take place bytes) in
    let there : RecordBreaks (end_from 0 intervals) place (length bytes) (drop place bytes) fault =
    subst (λ (e : ℕ). RecordBreaks e place (length bytes) (drop place bytes) fault) h.ends breaks in
    record {
      intervals = intervals;
      before = take place bytes;
      rest = drop place bytes;
      parts = sym (take-append-drop place bytes);
      some = omega (arith, length-drop place bytes);
      described = h.described;
      breaks = subst (λ (k : ℕ). RecordBreaks (end_from 0 intervals) k (length bytes) (drop place bytes) fault) place_is there;
    }

-- ---- the clauses

abbrev pub Found : List ℕ → Result (Vec Interval) DescRefusal → Type 0
Found bytes result = IfOk result (λ v. Describes v.items bytes)

abbrev pub Refused : List ℕ → Result (Vec Interval) DescRefusal → Type 0
Refused bytes result = IfErr result (λ e. (e ≡ NoMemory) ⊎ HasFault bytes e)

abbrev pub Only : List ℕ → Result (Vec Interval) DescRefusal → Type 0
Only bytes result = (intervals : List Interval) → Describes intervals bytes
    → MatchResult result (λ v. v.items ≡ intervals) (λ e. e ≡ NoMemory)

abbrev pub Refuses : List ℕ → Result (Vec Interval) DescRefusal → Type 0
Refuses bytes result = (fault : DescRefusal) → HasFault bytes fault → MatchResult result (λ v. ⊥) (λ e. (e ≡ fault) ⊎ (e ≡ NoMemory))

pub only : (bytes : List ℕ) (result : Result (Vec Interval) DescRefusal) → Found bytes result → Refused bytes result → Only bytes result
only bytes (Ok v) found refused = λ intervals h. one_list v.items intervals bytes found h
only bytes (Err e) found (inl none) = λ intervals h. none
only bytes (Err e) found (inr fault) = λ intervals h. absurd (no_fault intervals bytes e h fault)

pub refuses : (bytes : List ℕ) (result : Result (Vec Interval) DescRefusal) → Found bytes result → Refused bytes result
    → Refuses bytes result
refuses bytes (Ok v) found refused = λ fault h. no_fault v.items bytes fault found h
refuses bytes (Err e) found (inl none) = λ fault h. inr none
refuses bytes (Err e) found (inr first) = λ fault h. inl (one_fault bytes e fault first h)
