-- What a read answers, from what the memory answered and what was found of the tags.
use Rattle.std.proofs.Common.{◌≡◌, ◌≢◌, ℕ, ◌%◌, Bool, true, false, Result, Ok, Err, sym, ◌∙◌, ap}
use Rattle.mt_base.specs.Memory.{is_mapped, every_byte}
use Rattle.mt_base.specs.Pointers.{address_of}
use Rattle.tag_mem.specs.Answers.{read_answer}
use Rattle.tag_mem.specs.declared.access.Access.{Access as Answer}
use Rattle.a64_code.specs.Access.{access_end}
use Rattle.a64_code.specs.State.{State}
use Rattle.a64_code.specs.declared.end.MachineEnd.{MachineEnd}
use Rattle.a64_code.specs.declared.end.MachineEnd.TheVariants.{AlignFault}
use Rattle.mte_machine.specs.Accesses.{gives, touching, end_of_answer, end_of_tags}
use Rattle.mte_machine.proofs.Judgement.{misaligned, judged_read, read_is_mapped, no_end, answered, first_differs, second_decides}

pub read_misaligned : (s : State) (pointer unit n at : ℕ) (checked : Bool) → at ≡ address_of pointer → at % unit ≢ 0
    → Err (AlignFault at) ≡ gives (access_end s (touching pointer unit n false checked)) (tt {0})
read_misaligned s pointer unit n at checked here off =
    let off_there : address_of pointer % unit ≢ 0 = λ e. off (ap (λ a. a % unit) here ∙ e) in
    rw (misaligned s pointer unit (address_of pointer) n false checked off_there) (ap (λ a. Err (AlignFault a)) here)

pub read_refused : (s : State) (pointer unit n at : ℕ) (checked : Bool) (answer : Answer) (end : MachineEnd) → at ≡ address_of pointer →
    at % unit ≡ 0
    → answer ≡ read_answer s.regions s.guard at n → Err end ≡ gives (end_of_answer answer at) (tt {0})
    → Err end ≡ gives (access_end s (touching pointer unit n false checked)) (tt {0})
read_refused s pointer unit n at checked answer end here aligned is refused =
    let aligned_there : address_of pointer % unit ≡ 0 = ap (λ a. a % unit) (sym here) ∙ aligned in
    let refused_there : Err end ≡ gives (end_of_answer (read_answer s.regions s.guard (address_of pointer) n) (address_of pointer))
    (tt {0}) =
    refused ∙ ap (λ a. gives (end_of_answer a at) (tt {0})) is
    ∙ ap (λ a. gives (end_of_answer (read_answer s.regions s.guard a n) a) (tt {0})) here in
    rw (judged_read s pointer unit (address_of pointer) n checked aligned_there) (first_differs _ _ (tt {0}) end refused_there)

pub read_compared : (s : State) (pointer unit n at : ℕ) (checked : Bool) (answer : Answer) (given : Unit {0})
    (result : Result (Unit {0}) MachineEnd) → at ≡ address_of pointer → at % unit ≡ 0
    → answer ≡ read_answer s.regions s.guard at n → Ok given ≡ gives (end_of_answer answer at) (tt {0})
    → (every_byte (is_mapped s.regions) (address_of pointer) n ≡ true → result ≡ gives (end_of_tags checked s pointer n) (tt {0}))
    → result ≡ gives (access_end s (touching pointer unit n false checked)) (tt {0})
read_compared s pointer unit n at checked answer given result here aligned is passed compared =
    let aligned_there : address_of pointer % unit ≡ 0 = ap (λ a. a % unit) (sym here) ∙ aligned in
    let done = answered answer at (no_end (end_of_answer answer at) given (tt {0}) passed) in
    let done_there = ap (λ a. read_answer s.regions s.guard a n) (sym here) ∙ sym is ∙ done in
    let passed_there : Ok given ≡ gives (end_of_answer (read_answer s.regions s.guard (address_of pointer) n) (address_of pointer))
    (tt {0}) =
    passed ∙ ap (λ a. gives (end_of_answer a at) (tt {0})) is
    ∙ ap (λ a. gives (end_of_answer (read_answer s.regions s.guard a n) a) (tt {0})) here in
    rw (judged_read s pointer unit (address_of pointer) n checked aligned_there)
    (second_decides _ _ (tt {0}) given result passed_there (compared (read_is_mapped s.regions s.guard (address_of pointer) n done_there)))
