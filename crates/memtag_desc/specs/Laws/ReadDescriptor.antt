-- A descriptor that is read stands there, and one that stands there is read; likewise what is wrong with it.
use Rattle.std.proofs.Common.{◌≡◌, ℕ, suc, ◌+◌, ◌*◌, ◌-◌, ◌/◌, ◌%◌, ◌<◌, ◌≤◌, List, [], ◌∷◌, ◌++◌, length, drop, Ok, Err, refl, sym, ap}
use Rattle.std.proofs.Common.{subst, ◌∙◌, arith, inl, inr, append_assoc, length-append, drop_at}
use Rattle.std.proofs.lemmas.Bool.{cases_lt, lt-ltb, le-ltb, ne_eqb, eq-eqb}
use Rattle.memtag_desc.specs.declared.interval.Interval.{Interval}
use Rattle.memtag_desc.specs.declared.number.Number.{Number}
use Rattle.memtag_desc.specs.declared.refusal.DescRefusal.{DescRefusal}
use Rattle.memtag_desc.specs.declared.refusal.DescRefusal.TheVariants.{LongForm, TooFar}
use Rattle.memtag_desc.specs.Numbers.{IsNumber}
use Rattle.memtag_desc.specs.Descriptors.{IsDescriptor, small, large, interval_at, end_of, address_limit}
use Rattle.memtag_desc.specs.Faults.{NumberBreaks, RecordBreaks, first, second, form, past}
use Rattle.memtag_desc.specs.Laws.Reading.{ReadNumber, ReadDescriptor, read_as, number_at, judged, sized, behind, descriptor_at}
use Rattle.memtag_desc.specs.Laws.ReadNumber.{IsBytes, BeginsWith, Tells, number_again, breaks_again, tells}

-- an interval, and how many bytes its descriptor has
abbrev pub described_as : ℕ → ℕ → ℕ → ℕ → ReadDescriptor
described_as from distance size bytes = Ok (record { interval = interval_at from distance size; bytes = bytes })

-- ---- the reader, case by case

pub judged_within : (from place distance size bytes : ℕ) → end_of (interval_at from distance size) ≤ address_limit
    → judged from place distance size bytes ≡ described_as from distance size bytes
unfolding judged
judged_within from place distance size bytes h = rw (le-ltb address_limit (end_of (interval_at from distance size)) h) refl

pub judged_past : (from place distance size bytes : ℕ) → address_limit < end_of (interval_at from distance size)
    → judged from place distance size bytes ≡ Err (TooFar place)
unfolding judged
judged_past from place distance size bytes h = rw (lt-ltb address_limit (end_of (interval_at from distance size)) h) refl

pub sized_small : (from place v b m c : ℕ) → m < 7 → sized from place (record { value = v; bytes = b }) (read_as m c)
    ≡ Err (LongForm (place + b))
unfolding sized
sized_small from place v b m c h = rw (lt-ltb m 7 h) refl

pub sized_large : (from place v b m c : ℕ) → 7 ≤ m → sized from place (record { value = v; bytes = b }) (read_as m c)
    ≡ judged from place (v / 8) (m + 1) (b + c)
unfolding sized
sized_large from place v b m c h = rw (le-ltb m 7 h) refl

pub sized_fault : (from place : ℕ) (number : Number) (fault : DescRefusal) → sized from place number (Err fault) ≡ Err fault
unfolding sized
sized_fault from place number fault = refl

pub behind_one : (from place total v b : ℕ) (rest : List ℕ) → 1 ≤ v % 8
    → behind from place total rest (read_as v b) ≡ judged from place (v / 8) (v % 8) b
unfolding behind
behind_one from place total v b rest h = rw (ne_eqb (v % 8) 0 (λ e. omega arith)) refl

pub behind_two : (from place total v b : ℕ) (rest : List ℕ) → v % 8 ≡ 0
    → behind from place total rest (read_as v b) ≡ sized from place (record { value = v; bytes = b })
    (number_at (place + b) total (drop b rest))
unfolding behind
behind_two from place total v b rest h = rw (eq-eqb (v % 8) 0 h) refl

pub behind_fault : (from place total : ℕ) (rest : List ℕ) (fault : DescRefusal) → behind from place total rest (Err fault) ≡ Err fault
unfolding behind
behind_fault from place total rest fault = refl

pub at_is : (from place total : ℕ) (rest : List ℕ) → descriptor_at from place total rest
    ≡ behind from place total rest (number_at place total rest)
unfolding descriptor_at
at_is from place total rest = refl

-- ---- what stands there is read

-- the first number of a descriptor
first_again : (from place total v : ℕ) (bytes rest : List ℕ) → IsNumber v bytes
    → descriptor_at from place total (bytes ++ rest) ≡ behind from place total (bytes ++ rest) (read_as v (length bytes))
first_again from place total v bytes rest h =
    at_is from place total (bytes ++ rest) ∙ ap (behind from place total (bytes ++ rest))
    (number_again v bytes h.shortest 8 place total rest h.few)

-- a first number whose low bits are 0
second_again : (from place total distance : ℕ) (bytes rest : List ℕ) → IsNumber (8 * distance) bytes
    → descriptor_at from place total (bytes ++ rest)
    ≡ sized from place (record { value = 8 * distance; bytes = length bytes }) (number_at (place + length bytes) total rest)
second_again from place total distance bytes rest h =
    first_again from place total (8 * distance) bytes rest h
    ∙ behind_two from place total (8 * distance) (length bytes) (bytes ++ rest) (omega arith)
    ∙ ap (λ (l : List ℕ). sized from place (record { value = 8 * distance; bytes = length bytes })
    (number_at (place + length bytes) total l)) (drop_at bytes rest (length bytes) refl)

-- a descriptor, up to the judgement of its interval
judged_again : (from place total distance size : ℕ) (bytes rest : List ℕ) → IsDescriptor distance size bytes
    → descriptor_at from place total (bytes ++ rest) ≡ judged from place distance size (length bytes)
judged_again from place total distance size bytes rest (small _ _ _ some few h) =
    let low : (8 * distance + size) % 8 ≡ size = omega arith in
    let high : (8 * distance + size) / 8 ≡ distance = omega arith in
    first_again from place total (8 * distance + size) bytes rest h
    ∙ behind_one from place total (8 * distance + size) (length bytes) (bytes ++ rest) (omega arith)
    ∙ ap (λ (d : ℕ). judged from place d ((8 * distance + size) % 8) (length bytes)) high
    ∙ ap (λ (n : ℕ). judged from place distance n (length bytes)) low
judged_again from place total distance size bytes rest (large _ _ one two some h g) =
    let high : 8 * distance / 8 ≡ distance = omega arith in
    let whole : size - 1 + 1 ≡ size = omega arith in
    ap (descriptor_at from place total) (append_assoc one two rest)
    ∙ second_again from place total distance one (two ++ rest) h
    ∙ ap (sized from place (record { value = 8 * distance; bytes = length one }))
    (number_again (size - 1) two g.shortest 8 (place + length one) total rest g.few)
    ∙ sized_large from place (8 * distance) (length one) (size - 1) (length two) (omega arith)
    ∙ ap (λ (d : ℕ). judged from place d (size - 1 + 1) (length one + length two)) high
    ∙ ap (λ (n : ℕ). judged from place distance n (length one + length two)) whole
    ∙ ap (judged from place distance size) (sym (length-append one two))

pub descriptor_again : (from place total distance size : ℕ) (bytes rest : List ℕ) → IsDescriptor distance size bytes
    → end_of (interval_at from distance size) ≤ address_limit
    → descriptor_at from place total (bytes ++ rest) ≡ described_as from distance size (length bytes)
descriptor_again from place total distance size bytes rest h le =
    judged_again from place total distance size bytes rest h ∙ judged_within from place distance size (length bytes) le

pub record_again : (from place total : ℕ) (rest : List ℕ) (fault : DescRefusal) → RecordBreaks from place total rest fault
    → descriptor_at from place total rest ≡ Err fault
record_again from place total rest fault (first _ _ h) =
    at_is from place total rest ∙ ap (behind from place total rest) (breaks_again 8 place total rest fault h)
    ∙ behind_fault from place total rest fault
record_again from place total rest fault (second distance bytes after _ h b) =
    second_again from place total distance bytes after h
    ∙ ap (sized from place (record { value = 8 * distance; bytes = length bytes }))
    (breaks_again 8 (place + length bytes) total after fault b)
    ∙ sized_fault from place (record { value = 8 * distance; bytes = length bytes }) fault
record_again from place total rest fault (form distance less bytes others after h g lt) =
    ap (descriptor_at from place total) (append_assoc bytes others after)
    ∙ second_again from place total distance bytes (others ++ after) h
    ∙ ap (sized from place (record { value = 8 * distance; bytes = length bytes }))
    (number_again less others g.shortest 8 (place + length bytes) total after g.few)
    ∙ sized_small from place (8 * distance) (length bytes) less (length others) lt
record_again from place total rest fault (past distance size bytes after h lt) =
    judged_again from place total distance size bytes after h ∙ judged_past from place distance size (length bytes) lt

-- ---- what is read stands there

-- a descriptor with which the rest of some bytes begins, and its interval
pub record IsBegun (from : ℕ) (rest : List ℕ) (interval : Interval) (bytes : ℕ) : Type 0 where
  pub distance : ℕ
  pub size : ℕ
  pub front : List ℕ
  pub after : List ℕ
  pub parts : rest ≡ front ++ after
  pub length_is : length front ≡ bytes
  pub some : 1 ≤ bytes
  pub descriptor : IsDescriptor distance size front
  pub is : interval ≡ interval_at from distance size
  pub within : end_of (interval_at from distance size) ≤ address_limit

-- what a reader's answer says of the bytes
abbrev pub Says : ℕ → ℕ → ℕ → List ℕ → ReadDescriptor → Type 0
Says from place total rest (Ok d) = IsBegun from rest d.interval d.bytes
Says from place total rest (Err fault) = RecordBreaks from place total rest fault

-- a descriptor that begins the bytes, with its interval judged
judged_says : (from place total distance size : ℕ) (rest front after : List ℕ) (bytes : ℕ) → rest ≡ front ++ after → length front ≡ bytes
    → 1 ≤ bytes
    → IsDescriptor distance size front → Says from place total rest (judged from place distance size bytes)
judged_says from place total distance size rest front after bytes parts len some d =
    elim (cases_lt address_limit (end_of (interval_at from distance size))) [
      | inl lt ↦
          let breaks : RecordBreaks from place total rest (TooFar place) =
          subst (λ (l : List ℕ). RecordBreaks from place total l (TooFar place)) (sym parts) (past distance size front after d lt) in
          subst (Says from place total rest) (sym (judged_past from place distance size bytes lt)) breaks
      | inr le ↦ subst (Says from place total rest) (sym (judged_within from place distance size bytes le)) (record {
        distance = distance;
        size = size;
        front = front;
        after = after;
        parts = parts;
        length_is = len;
        some = some;
        descriptor = d;
        is = refl;
        within = le;
      })
    ]

-- the size that stands behind a first number
sized_says : (from place total v b : ℕ) (rest : List ℕ) (h : BeginsWith 8 rest v b) → v % 8 ≡ 0 → (answer : ReadNumber)
    → Tells 8 (place + b) total h.after answer
    → Says from place total rest (sized from place (record { value = v; bytes = b }) answer)
sized_says from place total v b rest h none (Err fault) t =
    let is : v ≡ 8 * (v / 8) = omega arith in
    let number : IsNumber (8 * (v / 8)) h.front = subst (λ (k : ℕ). IsNumber k h.front) is
    (record { shortest = h.shortest; few = omega (arith, h.size, h.few) }) in
    let there : NumberBreaks 8 (place + length h.front) total h.after fault =
    subst (λ (k : ℕ). NumberBreaks 8 (place + k) total h.after fault) (sym h.size) t in
    let breaks : RecordBreaks from place total rest fault = subst (λ (l : List ℕ). RecordBreaks from place total l fault) (sym h.parts)
    (second (v / 8) h.front h.after fault number there) in
    subst (Says from place total rest) (sym (sized_fault from place (record { value = v; bytes = b }) fault)) breaks
sized_says from place total v b rest h none (Ok two) t =
    let is : v ≡ 8 * (v / 8) = omega arith in
    let number : IsNumber (8 * (v / 8)) h.front = subst (λ (k : ℕ). IsNumber k h.front) is
    (record { shortest = h.shortest; few = omega (arith, h.size, h.few) }) in
    let other : IsNumber two.value t.front = record { shortest = t.shortest; few = omega (arith, t.size, t.few) } in
    let parts : rest ≡ h.front ++ t.front ++ t.after = h.parts ∙ ap (λ (l : List ℕ). h.front ++ l) t.parts
    ∙ sym (append_assoc h.front t.front t.after) in
    elim (cases_lt two.value 7) [
      | inl lt ↦
          let breaks : RecordBreaks from place total rest (LongForm (place + length h.front)) =
          subst (λ (l : List ℕ). RecordBreaks from place total l (LongForm (place + length h.front))) (sym parts)
          (form (v / 8) two.value h.front t.front t.after number other lt) in
          let there : RecordBreaks from place total rest (LongForm (place + b)) =
          subst (λ (k : ℕ). RecordBreaks from place total rest (LongForm (place + k))) h.size breaks in
          subst (Says from place total rest) (sym (sized_small from place v b two.value two.bytes lt)) there
      | inr le ↦
          let less : two.value ≡ two.value + 1 - 1 = omega arith in
          let d : IsDescriptor (v / 8) (two.value + 1) (h.front ++ t.front) =
          large (v / 8) (two.value + 1) h.front t.front (omega arith) number (subst (λ (k : ℕ). IsNumber k t.front) less other) in
          let len : length (h.front ++ t.front) ≡ b + two.bytes = omega (arith, length-append h.front t.front, h.size, t.size) in
          subst (Says from place total rest) (sym (sized_large from place v b two.value two.bytes le))
          (judged_says from place total (v / 8) (two.value + 1) rest (h.front ++ t.front) t.after (b + two.bytes) parts len
          (omega (arith, h.some)) d)
    ]

pub IsBytes-after : (front after : List ℕ) → IsBytes (front ++ after) → IsBytes after
IsBytes-after [] after h i = h i
IsBytes-after (b ∷ front) after h i = IsBytes-after front after (λ k. h (suc k)) i

behind_says : (from place total : ℕ) (rest : List ℕ) (answer : ReadNumber) → IsBytes rest → Tells 8 place total rest answer
    → Says from place total rest (behind from place total rest answer)
behind_says from place total rest (Err fault) fits t =
    subst (Says from place total rest) (sym (behind_fault from place total rest fault)) (first rest fault t)
behind_says from place total rest (Ok one) fits t =
    elim (cases_lt 0 (one.value % 8)) [
      | inl lt ↦
          let is : one.value ≡ 8 * (one.value / 8) + one.value % 8 = omega arith in
          let number : IsNumber (8 * (one.value / 8) + one.value % 8) t.front =
          subst (λ (k : ℕ). IsNumber k t.front) is (record { shortest = t.shortest; few = omega (arith, t.size, t.few) }) in
          let d : IsDescriptor (one.value / 8) (one.value % 8) t.front =
          small (one.value / 8) (one.value % 8) t.front (omega arith) (omega arith) number in
          subst (Says from place total rest) (sym (behind_one from place total one.value one.bytes rest (omega arith)))
          (judged_says from place total (one.value / 8) (one.value % 8) rest t.front t.after one.bytes t.parts t.size t.some d)
      | inr le ↦
          let none : one.value % 8 ≡ 0 = omega arith in
          let after : drop one.bytes rest ≡ t.after = ap (drop one.bytes) t.parts ∙ drop_at t.front t.after one.bytes t.size in
          let fits_after : IsBytes t.after = IsBytes-after t.front t.after (subst IsBytes t.parts fits) in
          let answer : Says from place total rest (sized from place (record { value = one.value; bytes = one.bytes })
          (number_at (place + one.bytes) total t.after))
          = sized_says from place total one.value one.bytes rest t none (number_at (place + one.bytes) total t.after)
          (tells 8 (place + one.bytes) total t.after fits_after) in
          subst (Says from place total rest) (sym (behind_two from place total one.value one.bytes rest none))
          (subst (λ (l : List ℕ). Says from place total rest (sized from place (record { value = one.value; bytes = one.bytes })
          (number_at (place + one.bytes) total l))) (sym after) answer)
    ]

pub says : (from place total : ℕ) (rest : List ℕ) → IsBytes rest → Says from place total rest (descriptor_at from place total rest)
says from place total rest fits =
    subst (Says from place total rest) (sym (at_is from place total rest))
    (behind_says from place total rest (number_at place total rest) fits (tells 8 place total rest fits))
