-- What loads and stores of tags answer and leave.
use Rattle.std.proofs.Common.{◌≡◌, ◌≢◌, ℕ, ◌+◌, ◌-◌, ◌*◌, ◌/◌, ◌%◌, ◌<◌, ◌≤◌, Bool, true, false, not, if◌then◌else◌, List, [], Result, Ok}
use Rattle.std.proofs.Common.{Err, Option, Some, None, refl, sym, ◌∙◌, ap, arith, inl, inr}
use Rattle.std.proofs.lemmas.Bool.{cases_Bool}
use Rattle.mt_base.specs.Granules.{granule_of}
use Rattle.mt_base.specs.Memory.{Span, Extent, is_in_span, is_mapped, is_protected, every_byte, some_byte}
use Rattle.mt_base.specs.Laws.Memory.{every_byte_at, every_byte_from, some_byte_from, some_byte_none}
use Rattle.mt_base.specs.Pointers.{address_of}
use Rattle.tag_mem.specs.Answers.{read_answer, write_answer}
use Rattle.tag_mem.specs.declared.access.Access.{Access as Answer}
use Rattle.tag_mem.specs.declared.access.Access.TheVariants.{Done, Unmapped, Guard, Protected}
use Rattle.a64_code.specs.Access.{access_end, tag_load, first_fault}
use Rattle.a64_code.specs.Outside.{outside_of}
use Rattle.a64_code.specs.State.{State}
use Rattle.a64_code.specs.Stepped.{unless}
use Rattle.a64_code.specs.declared.end.MachineEnd.{MachineEnd}
use Rattle.a64_code.specs.declared.end.MachineEnd.TheVariants.{MemoryFault, StackFault}
use Rattle.mte_machine.specs.Machine.{clear_flags}
use Rattle.mte_machine.specs.Accesses.{gives, Performs, touching, end_of_answer}
use Rattle.mte_machine.proofs.Judgement.{judged_read, read_is_mapped, no_end, answered}
use Rattle.mte_machine.proofs.NumberLaws.{given, refused_too}
use Rattle.mte_machine.proofs.WriteLaws.{done, refused, judged}

-- ---- a load of a tag

-- it is judged as the memory answers to a read of the granule
tag_load_judged : (s : State) (pointer at : ℕ) (answer : Answer) → at ≡ address_of pointer →
    answer ≡ read_answer s.regions s.guard (at / 16 * 16) 16
    → access_end s (tag_load pointer) ≡ first_fault (end_of_answer answer at) None
tag_load_judged s pointer at answer here is =
    judged_read s pointer 1 (granule_of (address_of pointer) * 16) 16 false (omega arith)
    ∙ ap (λ a. first_fault (end_of_answer (read_answer s.regions s.guard (a / 16 * 16) 16) a) None) (sym here)
    ∙ ap (λ a. first_fault (end_of_answer a at) None) (sym is)

or_none : (first : Option MachineEnd) → first_fault first None ≡ first
or_none None = refl
or_none (Some end) = refl

pub tag_not_loaded : (s : State) (pointer at : ℕ) (answer : Answer) (end : MachineEnd) (wanted : ℕ) → at ≡ address_of pointer →
    answer ≡ read_answer s.regions s.guard (at / 16 * 16) 16
    → Err end ≡ gives (end_of_answer answer at) (tt {0}) → Err end ≡ gives (access_end s (tag_load pointer)) wanted
tag_not_loaded s pointer at answer end wanted here is told =
    refused_too (access_end s (tag_load pointer)) end wanted
    (told ∙ ap (λ e. gives e (tt {0})) (sym (tag_load_judged s pointer at answer here is ∙ or_none (end_of_answer answer at))))

pub tag_loaded : (s : State) (pointer at : ℕ) (answer : Answer) (told : Unit {0}) (tag : ℕ) → at ≡ address_of pointer →
    answer ≡ read_answer s.regions s.guard (at / 16 * 16) 16
    → Ok told ≡ gives (end_of_answer answer at) (tt {0}) → tag ≡ s.tag (granule_of at) →
    Ok tag ≡ gives (access_end s (tag_load pointer)) (s.tag (granule_of (address_of pointer)))
tag_loaded s pointer at answer told tag here is passed value =
    given (access_end s (tag_load pointer)) told tag (s.tag (granule_of (address_of pointer)))
    (passed ∙ ap (λ e. gives e (tt {0})) (sym (tag_load_judged s pointer at answer here is ∙ or_none (end_of_answer answer at))))
    (value ∙ ap (λ a. s.tag (granule_of a)) here)

-- each byte of a granule is mapped, where the granule may be read
pub granule_mapped : (regions : List Extent) (guard : Span) (at : ℕ) (answer : Answer) (told : Unit {0}) →
    answer ≡ read_answer regions guard (at / 16 * 16) 16
    → Ok told ≡ gives (end_of_answer answer at) (tt {0}) → is_mapped regions at ≡ true
granule_mapped regions guard at answer told is passed =
    let did = answered answer at (no_end (end_of_answer answer at) told (tt {0}) passed) in
    let mapped = every_byte_at (is_mapped regions) (at / 16 * 16) 16 (read_is_mapped regions guard (at / 16 * 16) 16 (sym is ∙ did))
    (at % 16) (omega arith) in
    let whole : at / 16 * 16 + at % 16 ≡ at = omega arith in
    ap (is_mapped regions) (sym whole) ∙ mapped

-- ---- what a write of some bytes says of fewer

none_of : (test : ℕ → Bool) (at n k : ℕ) → some_byte test at n ≡ false → k < n → test (at + k) ≡ false
none_of test at n k none h = elim (cases_Bool (test (at + k))) [
  | inl holds ↦ absurd (let clash : true ≡ false = sym (some_byte_from test at n k h holds) ∙ none in let no : ⊥ = cc in no)
  | inr fails ↦ fails
]

write_parts : (guard mapped protected : Bool) →
    (if guard then Guard else if not mapped then Unmapped else if protected then Protected else Done) ≡ Done
    → (guard ≡ false) × (mapped ≡ true) × (protected ≡ false)
write_parts true mapped protected e = cc
write_parts false false protected e = cc
write_parts false true true e = cc
write_parts false true false e = (refl, refl, refl)

pub write_within : (regions : List Extent) (guard : Span) (at n from m : ℕ) → write_answer regions guard at n ≡ Done → at ≤ from →
    from + m ≤ at + n → write_answer regions guard from m ≡ Done
write_within regions guard at n from m did above below =
    let parts = write_parts (some_byte (is_in_span guard) at n) (every_byte (is_mapped regions) at n)
    (some_byte (is_protected regions) at n) did in
    let offset : (k : ℕ) → at + (from - at + k) ≡ from + k = λ k. omega (arith, above) in
    let no_guard : some_byte (is_in_span guard) from m ≡ false =
    some_byte_none (is_in_span guard) from m
    (λ k h. ap (is_in_span guard) (sym (offset k))
    ∙ none_of (is_in_span guard) at n (from - at + k) parts.0 (omega (arith, h, above, below))) in
    let all_mapped : every_byte (is_mapped regions) from m ≡ true =
    every_byte_from (is_mapped regions) from m
    (λ k h. ap (is_mapped regions) (sym (offset k))
    ∙ every_byte_at (is_mapped regions) at n parts.1 (from - at + k) (omega (arith, h, above, below))) in
    let not_protected : some_byte (is_protected regions) from m ≡ false =
    some_byte_none (is_protected regions) from m
    (λ k h. ap (is_protected regions) (sym (offset k))
    ∙ none_of (is_protected regions) at n (from - at + k) parts.2 (omega (arith, h, above, below))) in
    rw (no_guard, all_mapped, not_protected) refl

-- ---- a store of tags

-- an access that is not checked, where the memory would answer this to a write of the bytes
pub unchecked : (old new next : State) (pointer n at : ℕ) (answer : Answer) (result : Result (Unit {0}) MachineEnd) →
    at ≡ address_of pointer → at % 16 ≡ 0 → answer ≡ write_answer old.regions old.guard at n
    → result ≡ gives (end_of_answer answer at) (tt {0}) → (answer ≡ Done → new ≡ next) → (answer ≢ Done → new ≡ old)
    → Performs (unless (access_end old (touching pointer 16 n true false)) next) old result new
unchecked old new next pointer n at Done result here aligned is told did kept =
    done _ _ _ _ _ (judged old pointer 16 n at false Done here aligned is) told (did refl)
unchecked old new next pointer n at Unmapped result here aligned is told did kept =
    refused _ _ _ _ (MemoryFault (address_of pointer)) _ (judged old pointer 16 n at false Unmapped here aligned is)
    (told ∙ ap (λ a. Err (MemoryFault a)) here) (kept (λ e. cc))
unchecked old new next pointer n at Guard result here aligned is told did kept =
    refused _ _ _ _ StackFault _ (judged old pointer 16 n at false Guard here aligned is) told (kept (λ e. cc))
unchecked old new next pointer n at Protected result here aligned is told did kept =
    refused _ _ _ _ (MemoryFault (address_of pointer)) _ (judged old pointer 16 n at false Protected here aligned is)
    (told ∙ ap (λ a. Err (MemoryFault a)) here) (kept (λ e. cc))

-- what was refused was not done, and what was done was not refused
pub not_done : (answer : Answer) (at : ℕ) (end : MachineEnd) → Err end ≡ gives (end_of_answer answer at) (tt {0}) → answer ≢ Done
not_done Done at end e same = cc
not_done Unmapped at end e same = cc
not_done Guard at end e same = cc
not_done Protected at end e same = cc

-- a state, which is all that a fact of every state needs to be one of a memory
pub some_state : State
some_state = record {
  register = λ _. 0;
  sp = 0;
  pc = 0;
  flags = clear_flags;
  byte = λ _. 0;
  tag = λ _. 0;
  regions = [];
  guard = record { start = 0; bytes = 0 };
  choices = [];
  drawn = 0;
  outside = outside_of [];
}

-- what may be written may be written after a change that keeps regions and guard
pub still_writable : (old new : State) (at n : ℕ) → new.regions ≡ old.regions → new.guard ≡ old.guard →
    write_answer old.regions old.guard at n ≡ Done → write_answer new.regions new.guard at n ≡ Done
still_writable old new at n regions guard writable = rw (regions, guard) writable
