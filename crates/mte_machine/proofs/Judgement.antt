-- How an access is judged, from what the memory answers and what its tags are.
use Rattle.std.proofs.Common.{◌≡◌, ◌≢◌, ℕ, ◌%◌, ◌+◌, ◌-◌, ◌/◌, ◌<◌, ◌==◌, Bool, true, false, not, ◌&&◌, if◌then◌else◌, List, Option, Some}
use Rattle.std.proofs.Common.{None, Result, Ok, Err, refl, ◌∙◌, ap, subst, arith}
use Rattle.std.proofs.lemmas.Bool.Decides.{nat_tests}
use Rattle.mt_base.specs.Granules.{granule_of}
use Rattle.mt_base.specs.Memory.{Span, Extent, is_in_span, is_mapped, is_protected, every_byte, some_byte}
use Rattle.mt_base.specs.Pointers.{address_of}
use Rattle.tag_mem.specs.Answers.{read_answer, write_answer}
use Rattle.tag_mem.specs.declared.access.Access.{Access as Answer}
use Rattle.tag_mem.specs.declared.access.Access.TheVariants.{Done, Unmapped, Guard, Protected}
use Rattle.a64_code.specs.Access.{Access, access_end, tag_end, tag_fault_at, first_fault}
use Rattle.a64_code.specs.State.{State}
use Rattle.a64_code.specs.declared.end.MachineEnd.{MachineEnd}
use Rattle.a64_code.specs.declared.end.MachineEnd.TheVariants.{MemoryFault, AlignFault, StackFault}
use Rattle.mte_machine.specs.Accesses.{gives, end_of_answer, end_of_tags}

-- ---- over truth values

read_choice : (guard mapped protected checked : Bool) (at : ℕ) (tags : Option MachineEnd)
    → (if guard then Some StackFault
    else if not mapped then Some (MemoryFault at)
    else if false && protected then Some (MemoryFault at)
    else if checked then tags
    else None)
    ≡ first_fault (end_of_answer (if guard then Guard else if mapped then Done else Unmapped) at) (if checked then tags else None)
read_choice true mapped protected checked at tags = refl
read_choice false true protected checked at tags = refl
read_choice false false protected checked at tags = refl

write_choice : (guard mapped protected checked : Bool) (at : ℕ) (tags : Option MachineEnd)
    → (if guard then Some StackFault
    else if not mapped then Some (MemoryFault at)
    else if true && protected then Some (MemoryFault at)
    else if checked then tags
    else None)
    ≡ first_fault (end_of_answer (if guard then Guard else if not mapped then Unmapped else if protected then Protected else Done) at)
    (if checked then tags else None)
write_choice true mapped protected checked at tags = refl
write_choice false true true checked at tags = refl
write_choice false true false checked at tags = refl
write_choice false false protected checked at tags = refl

-- ---- over a state

abbrev at_any : ℕ → ℕ → ℕ → ℕ → Bool → Bool → Access
at_any pointer unit start bytes writes checked =
    record { pointer = pointer; unit = unit; start = start; bytes = bytes; writes = writes; checked = checked }

abbrev tags_of : State → ℕ → ℕ → ℕ → Bool → Option MachineEnd
tags_of s pointer start bytes checked = if checked then tag_end s pointer start bytes else None

is_aligned : (n : ℕ) → n ≡ 0 → (n == 0) ≡ true
is_aligned n h = grind (arith, nat_tests)

is_not_aligned : (n : ℕ) → n ≢ 0 → (n == 0) ≡ false
is_not_aligned n h = grind (arith, nat_tests)

-- a misaligned access ends the run before all else
pub misaligned : (s : State) (pointer unit start bytes : ℕ) (writes checked : Bool) → address_of pointer % unit ≢ 0 →
    access_end s (at_any pointer unit start bytes writes checked) ≡ Some (AlignFault (address_of pointer))
unfolding access_end
misaligned s pointer unit start bytes writes checked off = rw (is_not_aligned (address_of pointer % unit) off) refl

pub judged_read : (s : State) (pointer unit start bytes : ℕ) (checked : Bool) → address_of pointer % unit ≡ 0
    → access_end s (at_any pointer unit start bytes false checked)
    ≡ first_fault (end_of_answer (read_answer s.regions s.guard start bytes) (address_of pointer)) (tags_of s pointer start bytes checked)
unfolding access_end
judged_read s pointer unit start bytes checked aligned =
    rw (is_aligned (address_of pointer % unit) aligned)
    (read_choice (some_byte (is_in_span s.guard) start bytes) (every_byte (is_mapped s.regions) start bytes)
    (some_byte (is_protected s.regions) start bytes)
    checked (address_of pointer) (tag_end s pointer start bytes))

pub judged_write : (s : State) (pointer unit start bytes : ℕ) (checked : Bool) → address_of pointer % unit ≡ 0
    → access_end s (at_any pointer unit start bytes true checked)
    ≡ first_fault (end_of_answer (write_answer s.regions s.guard start bytes) (address_of pointer)) (tags_of s pointer start bytes checked)
unfolding access_end
judged_write s pointer unit start bytes checked aligned =
    rw (is_aligned (address_of pointer % unit) aligned)
    (write_choice (some_byte (is_in_span s.guard) start bytes) (every_byte (is_mapped s.regions) start bytes)
    (some_byte (is_protected s.regions) start bytes)
    checked (address_of pointer) (tag_end s pointer start bytes))

-- ---- what is done is mapped

mapped_of_read : (guard mapped : Bool) → (if guard then Guard else if mapped then Done else Unmapped) ≡ Done → mapped ≡ true
mapped_of_read true mapped e = cc
mapped_of_read false true e = refl
mapped_of_read false false e = cc

pub read_is_mapped : (regions : List Extent) (guard : Span) (start bytes : ℕ) → read_answer regions guard start bytes ≡ Done →
    every_byte (is_mapped regions) start bytes ≡ true
read_is_mapped regions guard start bytes e =
    mapped_of_read (some_byte (is_in_span guard) start bytes) (every_byte (is_mapped regions) start bytes) e

mapped_of_write : (guard mapped protected : Bool) →
    (if guard then Guard else if not mapped then Unmapped else if protected then Protected else Done) ≡ Done → mapped ≡ true
mapped_of_write true mapped protected e = cc
mapped_of_write false true protected e = refl
mapped_of_write false false protected e = cc

pub write_is_mapped : (regions : List Extent) (guard : Span) (start bytes : ℕ) → write_answer regions guard start bytes ≡ Done →
    every_byte (is_mapped regions) start bytes ≡ true
write_is_mapped regions guard start bytes e =
    mapped_of_write (some_byte (is_in_span guard) start bytes) (every_byte (is_mapped regions) start bytes)
    (some_byte (is_protected regions) start bytes) e

-- ---- of answers

pub no_end : {A : Type 0} (end : Option MachineEnd) (given value : A) → Ok given ≡ gives end value → end ≡ None
no_end None given value e = refl
no_end (Some end) given value e = cc

pub an_end : {A : Type 0} (end : Option MachineEnd) (value : A) (given : MachineEnd) → Err given ≡ gives end value → end ≡ Some given
an_end None value given e = cc
an_end (Some end) value given e = cc

pub answered : (a : Answer) (at : ℕ) → end_of_answer a at ≡ None → a ≡ Done
answered Done at e = refl
answered Unmapped at e = cc
answered Guard at e = cc
answered Protected at e = cc

-- an access that neither the memory nor a tag refuses
pub both_none : (first second : Option MachineEnd) → first ≡ None → second ≡ None → first_fault first second ≡ None
both_none first second e f = rw (e, f) refl

-- ---- of tags

-- the first granule differs
pub first_differs : {A : Type 0} (first second : Option MachineEnd) (value : A) (end : MachineEnd) → Err end ≡ gives first value →
    Err end ≡ gives (first_fault first second) value
first_differs None second value end e = cc
first_differs (Some other) second value end e = e

-- it does not, and nor does the second
pub second_decides : {A : Type 0} (first second : Option MachineEnd) (value given : A) (answer : Result A MachineEnd) →
    Ok given ≡ gives first value → answer ≡ gives second value → answer ≡ gives (first_fault first second) value
second_decides None second value given answer e f = f
second_decides (Some end) second value given answer e f = cc

pub one_granule : {A : Type 0} (first : Option MachineEnd) (value given : A) → Ok given ≡ gives first value →
    Ok given ≡ gives (first_fault first first) value
one_granule None value given e = e
one_granule (Some end) value given e = cc

-- ---- the tags of the granules of a checked access

pub first_compared : (s : State) (pointer start n : ℕ) (checked : Bool) (end : MachineEnd) → checked ≡ true → start ≡ address_of pointer
    → Err end ≡ gives (tag_fault_at s pointer (granule_of start)) (tt {0}) → Err end ≡ gives (end_of_tags checked s pointer n) (tt {0})
unfolding tag_end
first_compared s pointer start n checked end on here differs =
    rw on
    (rw here at
    (first_differs (tag_fault_at s pointer (granule_of start)) (tag_fault_at s pointer (granule_of (start + n - 1)))
    (tt {0}) end differs))

pub one_compared : (s : State) (pointer start n : ℕ) (checked : Bool) → checked ≡ true → start ≡ address_of pointer → 0 < n
    → start / 16 ≡ (start + (n - 1)) / 16 → Ok (tt {0}) ≡ gives (tag_fault_at s pointer (granule_of start)) (tt {0}) →
    Ok (tt {0}) ≡ gives (end_of_tags checked s pointer n) (tt {0})
unfolding tag_end
one_compared s pointer start n checked on here some one same =
    let both : granule_of start ≡ granule_of (start + n - 1) =
    one ∙ ap granule_of (let e : start + (n - 1) ≡ start + n - 1 = omega arith in e) in
    let whole : Ok (tt {0})
    ≡ gives (first_fault (tag_fault_at s pointer (granule_of start)) (tag_fault_at s pointer (granule_of (start + n - 1)))) (tt {0}) =
    subst (λ k. Ok (tt {0}) ≡ gives (first_fault (tag_fault_at s pointer (granule_of start)) (tag_fault_at s pointer k)) (tt {0})) both
    (one_granule (tag_fault_at s pointer (granule_of start)) (tt {0}) (tt {0}) same) in
    rw on (rw here at whole)

pub two_compared : (s : State) (pointer start n : ℕ) (checked : Bool) (answer : Result (Unit {0}) MachineEnd) → checked ≡ true →
    start ≡ address_of pointer → 0 < n
    → Ok (tt {0}) ≡ gives (tag_fault_at s pointer (granule_of start)) (tt {0}) →
    answer ≡ gives (tag_fault_at s pointer (granule_of (start + (n - 1)))) (tt {0})
    → answer ≡ gives (end_of_tags checked s pointer n) (tt {0})
unfolding tag_end
two_compared s pointer start n checked answer on here some same last =
    let moved : answer ≡ gives (tag_fault_at s pointer (granule_of (start + n - 1))) (tt {0}) =
    subst (λ k. answer ≡ gives (tag_fault_at s pointer (granule_of k)) (tt {0})) (omega arith) last in
    rw on
    (rw here at
    (second_decides (tag_fault_at s pointer (granule_of start)) (tag_fault_at s pointer (granule_of (start + n - 1))) (tt {0})
    (tt {0}) answer same moved))
