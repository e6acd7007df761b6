-- What it takes that an access is done, and which fault comes where it is not (this project's own).
use Rattle.std.specs.Prelude.{◌≡◌, ◌≢◌, ℕ, ◌+◌, ◌-◌, ◌%◌, Bool, true, false, not, ◌&&◌, ◌==◌, if◌then◌else◌, Option, Some, None, refl, ◌⊎◌}
use Rattle.std.proofs.Common.{arith, sym, ◌∙◌, inl, inr, eq-eqb}
use Rattle.std.proofs.lemmas.Bool.{cases_eq, eqb-true, ne_eqb}
use Rattle.mt_base.specs.Granules.{granule_of}
use Rattle.mt_base.specs.Memory.{is_in_span, is_mapped, is_protected, every_byte, some_byte}
use Rattle.mt_base.specs.Pointers.{tag_of, address_of}
use Rattle.a64_code.specs.declared.end.MachineEnd.{MachineEnd}
use Rattle.a64_code.specs.declared.end.MachineEnd.TheVariants.{TagFault, MemoryFault, AlignFault, StackFault}
use Rattle.a64_code.specs.State.{State}
use Rattle.a64_code.specs.Access.{Access, tag_fault_at, first_fault, tag_end, access_end}

-- Alignment, guard, regions and rights have nothing against the access.
pub record IsAdmitted (s : State) (a : Access) : Type 0 where
  pub aligned : address_of a.pointer % a.unit ≡ 0
  pub unguarded : some_byte (is_in_span s.guard) a.start a.bytes ≡ false
  pub mapped : every_byte (is_mapped s.regions) a.start a.bytes ≡ true
  pub writable : (a.writes && some_byte (is_protected s.regions) a.start a.bytes) ≡ false

-- the granules touched have the pointer's tag
pub record HasTag (s : State) (a : Access) : Type 0 where
  pub first : s.tag (granule_of a.start) ≡ tag_of a.pointer
  pub last : s.tag (granule_of (a.start + a.bytes - 1)) ≡ tag_of a.pointer

-- then the tags decide
pub access_end-admitted : (s : State) (a : Access) → IsAdmitted s a →
    access_end s a ≡ (if a.checked then tag_end s a.pointer a.start a.bytes else None)
unfolding access_end
access_end-admitted s a admitted = rw (admitted.aligned, admitted.unguarded, admitted.mapped, admitted.writable) refl

-- ---- accesses that are done

-- nothing is against the access, where one whose tag is not judged may have any
pub record IsAllowed (s : State) (a : Access) : Type 0 where
  pub admitted : IsAdmitted s a
  pub tags : a.checked ≡ true → HasTag s a

tag_end-same : (s : State) (a : Access) → HasTag s a → tag_end s a.pointer a.start a.bytes ≡ None
unfolding tag_end
tag_end-same s a has = rw (has.first, has.last, eq-eqb (tag_of a.pointer) (tag_of a.pointer) refl) refl

pub access_end-allowed : (s : State) (a : Access) → IsAllowed s a → access_end s a ≡ None
access_end-allowed s a allowed = access_end-admitted s a allowed.admitted ∙ by_tag a.checked refl
  where
    by_tag : (checked : Bool) → a.checked ≡ checked → (if checked then tag_end s a.pointer a.start a.bytes else None) ≡ None
    by_tag true is = tag_end-same s a (allowed.tags is)
    by_tag false is = refl

-- a test that would end the run failed, and what comes behind it does not end it either
record Passes (test : Bool) (rest : Option MachineEnd) : Type 0 where
  failed : test ≡ false
  on : rest ≡ None

passes : (test : Bool) (end : MachineEnd) (rest : Option MachineEnd) → (if test then Some end else rest) ≡ None → Passes test rest
passes true end rest none = absurd (cc)
passes false end rest none = record { failed = refl; on = none }

same_of_none : (t u : ℕ) (end : MachineEnd) → (if t == u then None else Some end) ≡ None → u ≡ t
same_of_none t u end none = elim (cases_eq t u) [
  | inl same ↦ sym same
  | inr other ↦ absurd (let e : Some end ≡ None = rw (ne_eqb t u other) at none in cc)
]

-- neither of two faults comes
record Neither (first second : Option MachineEnd) : Type 0 where
  no_first : first ≡ None
  no_second : second ≡ None

neither : (first second : Option MachineEnd) → first_fault first second ≡ None → Neither first second
neither None second none = record { no_first = refl; no_second = none }
neither (Some end) second none = absurd (cc)

tag_end-none : (s : State) (a : Access) → tag_end s a.pointer a.start a.bytes ≡ None → HasTag s a
unfolding tag_end
tag_end-none s a none =
    let both = neither (tag_fault_at s a.pointer (granule_of a.start))
    (tag_fault_at s a.pointer (granule_of (a.start + a.bytes - 1))) none in
    record {
      first = same_of_none (tag_of a.pointer) (s.tag (granule_of a.start)) _ both.no_first;
      last = same_of_none (tag_of a.pointer) (s.tag (granule_of (a.start + a.bytes - 1))) _ both.no_second;
    }

not_false : (test : Bool) → not test ≡ false → test ≡ true
not_false true failed = refl
not_false false failed = sym failed

-- what is done was allowed
pub access_end-none : (s : State) (a : Access) → access_end s a ≡ None → IsAllowed s a
unfolding access_end
access_end-none s a none =
    let aligned = passes (not (address_of a.pointer % a.unit == 0)) _ _ none in
    let unguarded = passes (some_byte (is_in_span s.guard) a.start a.bytes) _ _ aligned.on in
    let mapped = passes (not (every_byte (is_mapped s.regions) a.start a.bytes)) _ _ unguarded.on in
    let writable = passes (a.writes && some_byte (is_protected s.regions) a.start a.bytes) _ _ mapped.on in
    record {
      admitted = record {
        aligned = eqb-true _ _ (not_false (address_of a.pointer % a.unit == 0) aligned.failed);
        unguarded = unguarded.failed;
        mapped = not_false (every_byte (is_mapped s.regions) a.start a.bytes) mapped.failed;
        writable = writable.failed;
      };
      tags = λ checked. tag_end-none s a (rw checked at writable.on);
    }

-- ---- faults

first_differs : (s : State) (a : Access) → s.tag (granule_of a.start) ≢ tag_of a.pointer →
    tag_end s a.pointer a.start a.bytes ≡ Some (TagFault (address_of a.pointer) (tag_of a.pointer) (s.tag (granule_of a.start)))
unfolding tag_end
first_differs s a other = rw (ne_eqb (tag_of a.pointer) (s.tag (granule_of a.start)) (λ same. other (sym same))) refl

second_differs : (s : State) (a : Access) → s.tag (granule_of a.start) ≡ tag_of a.pointer →
    s.tag (granule_of (a.start + a.bytes - 1)) ≢ tag_of a.pointer →
    tag_end s a.pointer a.start a.bytes ≡ Some
    (TagFault (address_of a.pointer) (tag_of a.pointer) (s.tag (granule_of (a.start + a.bytes - 1))))
unfolding tag_end
second_differs s a same other =
    rw (
      same,
      eq-eqb (tag_of a.pointer) (tag_of a.pointer) refl,
      ne_eqb (tag_of a.pointer) (s.tag (granule_of (a.start + a.bytes - 1)))
          (λ is. other (sym is)),
    ) refl

-- the first granule has another tag
pub access_end-tag : (s : State) (a : Access) → IsAdmitted s a → a.checked ≡ true → s.tag (granule_of a.start) ≢ tag_of a.pointer →
    access_end s a ≡ Some (TagFault (address_of a.pointer) (tag_of a.pointer) (s.tag (granule_of a.start)))
access_end-tag s a admitted checked other = access_end-admitted s a admitted ∙ rw checked (first_differs s a other)

-- the address is aligned, and a byte is in the guard
pub access_end-guard : (s : State) (a : Access) → address_of a.pointer % a.unit ≡ 0 →
    some_byte (is_in_span s.guard) a.start a.bytes ≡ true →
    access_end s a ≡ Some StackFault
unfolding access_end
access_end-guard s a aligned guarded = rw (aligned, guarded) refl

-- the first granule has the pointer's tag, and the last one has not
pub access_end-second_tag : (s : State) (a : Access) → IsAdmitted s a → a.checked ≡ true → s.tag (granule_of a.start) ≡ tag_of a.pointer →
    s.tag (granule_of (a.start + a.bytes - 1)) ≢ tag_of a.pointer →
    access_end s a ≡ Some (TagFault (address_of a.pointer) (tag_of a.pointer) (s.tag (granule_of (a.start + a.bytes - 1))))
access_end-second_tag s a admitted checked same other = access_end-admitted s a admitted ∙ rw checked (second_differs s a same other)

-- the address is no multiple
pub access_end-align : (s : State) (a : Access) → address_of a.pointer % a.unit ≢ 0 →
    access_end s a ≡ Some (AlignFault (address_of a.pointer))
unfolding access_end
access_end-align s a misaligned = rw (ne_eqb (address_of a.pointer % a.unit) 0 misaligned) refl

-- a byte is in no region, and none in the guard
pub access_end-unmapped : (s : State) (a : Access) → address_of a.pointer % a.unit ≡ 0 →
    some_byte (is_in_span s.guard) a.start a.bytes ≡ false →
    every_byte (is_mapped s.regions) a.start a.bytes ≡ false → access_end s a ≡ Some (MemoryFault (address_of a.pointer))
unfolding access_end
access_end-unmapped s a aligned unguarded unmapped = rw (aligned, unguarded, unmapped) refl

-- all are in regions, and it writes where a region is not writable
pub access_end-protected : (s : State) (a : Access) → address_of a.pointer % a.unit ≡ 0 →
    some_byte (is_in_span s.guard) a.start a.bytes ≡ false →
    every_byte (is_mapped s.regions) a.start a.bytes ≡ true → a.writes ≡ true → some_byte (is_protected s.regions) a.start a.bytes ≡ true →
    access_end s a ≡ Some (MemoryFault (address_of a.pointer))
unfolding access_end
access_end-protected s a aligned unguarded mapped writes protected = rw (aligned, unguarded, mapped, writes, protected) refl

-- ---- loads and stores of one register, and of a pair

-- the sizes of such a load or store
abbrev pub IsSize : ℕ → Type 0
IsSize n = (n ≡ 1) ⊎ (n ≡ 2) ⊎ (n ≡ 4) ⊎ (n ≡ 8)

-- where it is aligned it touches one granule
pub one_granule : (n at : ℕ) → IsSize n → at % n ≡ 0 → granule_of (at + n - 1) ≡ granule_of at
one_granule n at (inl one) aligned = rw one (omega arith)
one_granule n at (inr (inl two)) aligned = rw two (omega (arith, rw two at aligned))
one_granule n at (inr (inr (inl four))) aligned = rw four (omega (arith, rw four at aligned))
one_granule n at (inr (inr (inr eight))) aligned = rw eight (omega (arith, rw eight at aligned))
