-- What a descriptor is read as, case by case, from what its numbers are read as.
use Rattle.std.proofs.Common.{◌≡◌, ℕ, ◌+◌, ◌-◌, ◌/◌, ◌%◌, ◌<◌, ◌≤◌, List, length, take, drop, Result, Ok, Err, sym, ap, ◌∙◌, arith}
use Rattle.std.proofs.Common.{take_all, length-drop}
use Rattle.std.specs.Result.{IsErrAnd}
use Rattle.memtag_desc.specs.declared.number.Number.{Number}
use Rattle.memtag_desc.specs.declared.refusal.DescRefusal.{DescRefusal}
use Rattle.memtag_desc.specs.declared.refusal.DescRefusal.TheVariants.{LongForm}
use Rattle.memtag_desc.specs.Laws.Reading.{number_at, judged, sized, behind, descriptor_at}
use Rattle.memtag_desc.specs.Laws.ReadDescriptor.{sized_small, sized_large, sized_fault, behind_one, behind_two, behind_fault, at_is}

-- a refusal that a `?` passes on
pub passed_on : {T : Type 0} (r : Result T DescRefusal) (fault : DescRefusal) → IsErrAnd r (λ e. e ≡ fault) → r ≡ Err fault
passed_on (Ok x) fault h = absurd h
passed_on (Err e) fault h = ap Err h

-- the rest of a slice
pub rest_is : (n : ℕ) (xs : List ℕ) → take (length xs - n) (drop n xs) ≡ drop n xs
rest_is n xs = take_all (length xs - n) (drop n xs) (omega (arith, length-drop n xs))

pub first_fails : (from place total : ℕ) (rest : List ℕ) (fault : DescRefusal) → Err fault ≡ number_at place total rest
    → Err fault ≡ descriptor_at from place total rest
first_fails from place total rest fault h =
    sym (at_is from place total rest ∙ ap (behind from place total rest) (sym h) ∙ behind_fault from place total rest fault)

pub one_number : (from place total : ℕ) (rest : List ℕ) (first : Number) → Ok first ≡ number_at place total rest → 0 < first.value % 8
    → judged from place (first.value / 8) (first.value % 8) first.bytes ≡ descriptor_at from place total rest
one_number from place total rest first h some =
    sym (at_is from place total rest ∙ ap (behind from place total rest) (sym h)
    ∙ behind_one from place total first.value first.bytes rest (omega arith))

two_numbers : (from place total : ℕ) (rest : List ℕ) (first : Number) → Ok first ≡ number_at place total rest → first.value % 8 ≤ 0
    → (left : List ℕ) → left ≡ drop first.bytes rest → descriptor_at from place total rest
    ≡ sized from place first (number_at (place + first.bytes) total left)
two_numbers from place total rest first h none left is =
    at_is from place total rest ∙ ap (behind from place total rest) (sym h)
    ∙ behind_two from place total first.value first.bytes rest (omega arith)
    ∙ ap (λ (l : List ℕ). sized from place first (number_at (place + first.bytes) total l)) (sym is)

pub second_fails : (from place total : ℕ) (rest : List ℕ) (first : Number) (fault : DescRefusal) → Ok first ≡ number_at place total rest
    → first.value % 8 ≤ 0
    → (left : List ℕ) → left ≡ drop first.bytes rest → Err fault ≡ number_at (place + first.bytes) total left
    → Err fault ≡ descriptor_at from place total rest
second_fails from place total rest first fault h none left is g =
    sym (two_numbers from place total rest first h none left is ∙ ap (sized from place first) (sym g)
    ∙ sized_fault from place first fault)

pub second_small : (from place total : ℕ) (rest : List ℕ) (first second : Number) → Ok first ≡ number_at place total rest
    → first.value % 8 ≤ 0
    → (left : List ℕ) → left ≡ drop first.bytes rest → Ok second ≡ number_at (place + first.bytes) total left → second.value < 7
    → Err (LongForm (place + first.bytes)) ≡ descriptor_at from place total rest
second_small from place total rest first second h none left is g lt =
    sym (two_numbers from place total rest first h none left is ∙ ap (sized from place first) (sym g)
    ∙ sized_small from place first.value first.bytes second.value second.bytes lt)

pub second_large : (from place total : ℕ) (rest : List ℕ) (first second : Number) → Ok first ≡ number_at place total rest
    → first.value % 8 ≤ 0
    → (left : List ℕ) → left ≡ drop first.bytes rest → Ok second ≡ number_at (place + first.bytes) total left → 7 ≤ second.value
    → judged from place (first.value / 8) (second.value + 1) (first.bytes + second.bytes) ≡ descriptor_at from place total rest
second_large from place total rest first second h none left is g le =
    sym (two_numbers from place total rest first h none left is ∙ ap (sized from place first) (sym g)
    ∙ sized_large from place first.value first.bytes second.value second.bytes le)
