-- What a write answers and leaves, from what the memory answered and what was found of the tags.
use Rattle.std.proofs.Common.{◌≡◌, ◌≢◌, ℕ, ◌%◌, ◌+◌, ◌-◌, arith, inl, inr, Bool, true, List, length, Option, Some, None, Result, Ok, Err}
use Rattle.std.proofs.Common.{refl, sym, ◌∙◌, ap}
use Rattle.std.proofs.Math.Path.{fun_ext}
use Rattle.std.proofs.lemmas.Bool.{cases_lt}
use Rattle.mt_base.specs.Memory.{is_mapped, every_byte, bytes_at, store_bytes}
use Rattle.mt_base.specs.Laws.Memory.{store_bytes_below, store_bytes_inside, store_bytes_above, get_or-bytes_at, length-bytes_at}
use Rattle.mt_base.specs.Pointers.{address_of}
use Rattle.tag_mem.specs.Answers.{write_answer}
use Rattle.tag_mem.specs.declared.access.Access.{Access as Answer}
use Rattle.tag_mem.specs.declared.access.Access.TheVariants.{Done, Unmapped, Guard, Protected}
use Rattle.tag_mem.specs.declared.access.TagMemory.{Ghosts}
use Rattle.a64_code.specs.Access.{access_end, first_fault}
use Rattle.a64_code.specs.State.{State, with_bytes, with_tags}
use Rattle.a64_code.specs.Stepped.{unless}
use Rattle.a64_code.specs.declared.end.MachineEnd.{MachineEnd}
use Rattle.a64_code.specs.declared.end.MachineEnd.TheVariants.{AlignFault, MemoryFault, StackFault}
use Rattle.mte_machine.specs.Accesses.{with_memory, gives, fails, Performs, touching, end_of_answer, end_of_tags}
use Rattle.mte_machine.proofs.Judgement.{misaligned, judged_write, write_is_mapped, no_end, an_end}

-- ---- what is performed

pub refused : (end : Option MachineEnd) (next old new : State) (first : MachineEnd) (answer : Result (Unit {0}) MachineEnd) →
    end ≡ Some first → answer ≡ Err first → new ≡ old → Performs (unless end next) old answer new
refused end next old new first answer e a same = rw e (a, same)

pub done : (end : Option MachineEnd) (next old new : State) (answer : Result (Unit {0}) MachineEnd) → end ≡ None → answer ≡ Ok (tt {0}) →
    new ≡ next → Performs (unless end next) old answer new
done end next old new answer e a is = rw e (a, is)

-- ---- what a memory shows

-- nothing changed
pub same_memory : {M : Type 0} (shown : Ghosts M) (old new : M) (s : State) → shown.byte new ≡ shown.byte old →
    shown.tags new ≡ shown.tags old → shown.regions new ≡ shown.regions old → shown.guard new ≡ shown.guard old
    → with_memory shown new s ≡ with_memory shown old s
same_memory shown old new s bytes tags regions guard = rw (bytes, tags, regions, guard) refl

-- the bytes did
pub other_bytes : {M : Type 0} (shown : Ghosts M) (old new : M) (s : State) (byte : ℕ → ℕ) → shown.byte new ≡ byte →
    shown.tags new ≡ shown.tags old → shown.regions new ≡ shown.regions old → shown.guard new ≡ shown.guard old
    → with_memory shown new s ≡ with_bytes byte (with_memory shown old s)
other_bytes shown old new s byte bytes tags regions guard = rw (bytes, tags, regions, guard) refl

-- the tags did
pub other_tags : {M : Type 0} (shown : Ghosts M) (old new : M) (s : State) (tag : ℕ → ℕ) → shown.byte new ≡ shown.byte old →
    shown.tags new ≡ tag → shown.regions new ≡ shown.regions old → shown.guard new ≡ shown.guard old
    → with_memory shown new s ≡ with_tags tag (with_memory shown old s)
other_tags shown old new s tag bytes tags regions guard = rw (bytes, tags, regions, guard) refl

-- ---- a write

pub write_misaligned : (s : State) (pointer unit n at : ℕ) (checked : Bool) (next : State) → at ≡ address_of pointer → at % unit ≢ 0
    → Performs (unless (access_end s (touching pointer unit n true checked)) next) s (Err (AlignFault at)) s
write_misaligned s pointer unit n at checked next here off =
    let off_there : address_of pointer % unit ≢ 0 = λ e. off (ap (λ a. a % unit) here ∙ e) in
    refused _ next s s (AlignFault (address_of pointer)) (Err (AlignFault at))
    (misaligned s pointer unit (address_of pointer) n true checked off_there) (ap (λ a. Err (AlignFault a)) here) refl

-- how it is judged, where the memory would answer this
pub judged : (s : State) (pointer unit n at : ℕ) (checked : Bool) (answer : Answer) → at ≡ address_of pointer → at % unit ≡ 0 →
    answer ≡ write_answer s.regions s.guard at n
    → access_end s (touching pointer unit n true checked)
    ≡ first_fault (end_of_answer answer (address_of pointer)) (end_of_tags checked s pointer n)
judged s pointer unit n at checked answer here aligned is =
    judged_write s pointer unit (address_of pointer) n checked (ap (λ a. a % unit) (sym here) ∙ aligned)
    ∙ ap (λ a. first_fault (end_of_answer a (address_of pointer)) (end_of_tags checked s pointer n))
    (ap (λ a. write_answer s.regions s.guard a n) (sym here) ∙ sym is)

-- where the memory would do it, its bytes are mapped
mapped_where_done : (s : State) (pointer n at : ℕ) → at ≡ address_of pointer → Done ≡ write_answer s.regions s.guard at n →
    every_byte (is_mapped s.regions) (address_of pointer) n ≡ true
mapped_where_done s pointer n at here is =
    write_is_mapped s.regions s.guard (address_of pointer) n (ap (λ a. write_answer s.regions s.guard a n) (sym here) ∙ sym is)

-- what a memory answered and left to a write of these bytes
pub record Wrote {M : Type 0} (shown : Ghosts M) (old new : M) (at : ℕ) (bytes : List ℕ) (answer : Answer) : Type 0 where
  pub is : answer ≡ write_answer (shown.regions old) (shown.guard old) at (length bytes)
  pub done : answer ≡ Done → shown.byte new ≡ store_bytes (shown.byte old) at bytes
  pub refused : answer ≢ Done → shown.byte new ≡ shown.byte old
  pub same_tags : shown.tags new ≡ shown.tags old
  pub same_regions : shown.regions new ≡ shown.regions old
  pub same_guard : shown.guard new ≡ shown.guard old

kept : {M : Type 0} (shown : Ghosts M) (old new : M) (s : State) (at : ℕ) (bytes : List ℕ) (answer : Answer) →
    Wrote shown old new at bytes answer → answer ≢ Done → with_memory shown new s ≡ with_memory shown old s
kept shown old new s at bytes answer wrote other =
    same_memory shown old new s (wrote.refused other) wrote.same_tags wrote.same_regions wrote.same_guard

-- a write whose tags match, where they count
pub written : {M : Type 0} (shown : Ghosts M) (old new : M) (s : State) (pointer unit at : ℕ) (bytes : List ℕ) (checked : Bool)
    (answer : Answer) (result : Result (Unit {0}) MachineEnd)
    → at ≡ address_of pointer → at % unit ≡ 0 → Wrote shown old new at bytes answer
    → (every_byte (is_mapped (shown.regions old)) (address_of pointer) (length bytes) ≡ true →
    Ok (tt {0}) ≡ gives (end_of_tags checked (with_memory shown old s) pointer (length bytes)) (tt {0}))
    → result ≡ gives (end_of_answer answer at) (tt {0})
    → Performs
    (unless (access_end (with_memory shown old s) (touching pointer unit (length bytes) true checked))
    (with_bytes (store_bytes (shown.byte old) (address_of pointer) bytes) (with_memory shown old s)))
    (with_memory shown old s) result (with_memory shown new s)
written shown old new s pointer unit at bytes checked Done result here aligned wrote compared told =
    let t = with_memory shown old s in
    let tags : end_of_tags checked t pointer (length bytes) ≡ None =
    no_end _ (tt {0}) (tt {0}) (compared (mapped_where_done t pointer (length bytes) at here wrote.is)) in
    done _ _ _ _ _ (judged t pointer unit (length bytes) at checked Done here aligned wrote.is ∙ tags) told
    (other_bytes shown old new s (store_bytes (shown.byte old) (address_of pointer) bytes)
    (wrote.done refl ∙ ap (λ a. store_bytes (shown.byte old) a bytes) here) wrote.same_tags wrote.same_regions wrote.same_guard)
written shown old new s pointer unit at bytes checked Unmapped result here aligned wrote compared told =
    refused _ _ _ _ (MemoryFault (address_of pointer)) _
    (judged (with_memory shown old s) pointer unit (length bytes) at checked Unmapped here aligned wrote.is)
    (told ∙ ap (λ a. Err (MemoryFault a)) here) (kept shown old new s at bytes Unmapped wrote (λ e. cc))
written shown old new s pointer unit at bytes checked Guard result here aligned wrote compared told =
    refused _ _ _ _ StackFault _ (judged (with_memory shown old s) pointer unit (length bytes) at checked Guard here aligned wrote.is)
    told (kept shown old new s at bytes Guard wrote (λ e. cc))
written shown old new s pointer unit at bytes checked Protected result here aligned wrote compared told =
    refused _ _ _ _ (MemoryFault (address_of pointer)) _
    (judged (with_memory shown old s) pointer unit (length bytes) at checked Protected here aligned wrote.is)
    (told ∙ ap (λ a. Err (MemoryFault a)) here) (kept shown old new s at bytes Protected wrote (λ e. cc))

-- a write whose tags do not match
pub not_written : (old new next : State) (pointer unit n at : ℕ) (checked : Bool) (answer : Answer) (fault : MachineEnd)
    (result : Result (Unit {0}) MachineEnd)
    → at ≡ address_of pointer → at % unit ≡ 0 → answer ≡ write_answer old.regions old.guard at n
    → (every_byte (is_mapped old.regions) (address_of pointer) n ≡ true → Err fault ≡ gives (end_of_tags checked old pointer n) (tt {0}))
    → result ≡ fails (end_of_answer answer at) fault → new ≡ old
    → Performs (unless (access_end old (touching pointer unit n true checked)) next) old result new
not_written old new next pointer unit n at checked Done fault result here aligned is compared told same =
    let tags : end_of_tags checked old pointer n ≡ Some fault =
    an_end _ (tt {0}) fault (compared (mapped_where_done old pointer n at here is)) in
    refused _ _ _ _ fault _ (judged old pointer unit n at checked Done here aligned is ∙ tags) told same
not_written old new next pointer unit n at checked Unmapped fault result here aligned is compared told same =
    refused _ _ _ _ (MemoryFault (address_of pointer)) _ (judged old pointer unit n at checked Unmapped here aligned is)
    (told ∙ ap (λ a. Err (MemoryFault a)) here) same
not_written old new next pointer unit n at checked Guard fault result here aligned is compared told same =
    refused _ _ _ _ StackFault _ (judged old pointer unit n at checked Guard here aligned is) told same
not_written old new next pointer unit n at checked Protected fault result here aligned is compared told same =
    refused _ _ _ _ (MemoryFault (address_of pointer)) _ (judged old pointer unit n at checked Protected here aligned is)
    (told ∙ ap (λ a. Err (MemoryFault a)) here) same

-- ---- writing back what was read

pub store_bytes-same : (n : ℕ) (byte : ℕ → ℕ) (at : ℕ) → store_bytes byte at (bytes_at n byte at) ≡ byte
store_bytes-same n byte at = fun_ext (λ a. elim (cases_lt a at) [
  | inl below ↦ store_bytes_below byte at (bytes_at n byte at) a below
  | inr from ↦ elim (cases_lt a (at + n)) [
    | inl within ↦
        let offset : a ≡ at + (a - at) = omega (arith, from) in
        ap (store_bytes byte at (bytes_at n byte at)) offset
        ∙ store_bytes_inside byte at (bytes_at n byte at) (a - at) (omega (arith, from, within, length-bytes_at n byte at))
        ∙ get_or-bytes_at n byte at (a - at) (omega (arith, from, within))
        ∙ ap byte (sym offset)
    | inr past ↦ store_bytes_above byte at (bytes_at n byte at) a (omega (arith, past, length-bytes_at n byte at))
  ]
])

pub written_back : {M : Type 0} (shown : Ghosts M) (old new : M) (s : State) (at n : ℕ) (bytes : List ℕ) (answer : Answer)
    → Wrote shown old new at bytes answer → bytes ≡ bytes_at n (shown.byte old) at → with_memory shown new s ≡ with_memory shown old s
written_back shown old new s at n bytes Done wrote read =
    same_memory shown old new s (wrote.done refl ∙ ap (store_bytes (shown.byte old) at) read ∙ store_bytes-same n (shown.byte old) at)
    wrote.same_tags wrote.same_regions wrote.same_guard
written_back shown old new s at n bytes Unmapped wrote read = kept shown old new s at bytes Unmapped wrote (λ e. cc)
written_back shown old new s at n bytes Guard wrote read = kept shown old new s at bytes Guard wrote (λ e. cc)
written_back shown old new s at n bytes Protected wrote read = kept shown old new s at bytes Protected wrote (λ e. cc)
