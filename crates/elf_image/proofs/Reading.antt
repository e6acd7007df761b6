-- Steps of the reading of what a file says of memory tagging, from what the code knows at each.
use Rattle.std.proofs.Common.{◌≡◌, ◌≢◌, ℕ, ℤ, ◌+◌, ◌-◌, ◌<◌, ◌≤◌, ◌⊎◌, List, length, Result, Ok, Err, Option, Some, None, refl, sym, ap}
use Rattle.std.proofs.Common.{◌∙◌, subst, inl, inr, arith}
use mir.Val.{of_z, to_z}
use mir.Syntax.{w64}
use Rattle.std.specs.Prelude.{pos, IfOk, IfErr, MatchResult, IsTrue, Bool, true, false, FitsSigned}
use Rattle.std.specs.Result.{IsErrAnd}
use Rattle.std.proofs.lemmas.Bool.{cases_lt}
use Rattle.std.proofs.lemmas.Bool.Decides.{nat_tests}
use Rattle.std.proofs.lemmas.Int.{ints, to_z-of_z}
use Rattle.elf_base.specs.declared.segment.Phdr.{Phdr}
use Rattle.elf_image.specs.declared.memtag.Found.{Found}
use Rattle.elf_image.specs.declared.memtag.MemtagInfo.{MemtagInfo}
use Rattle.elf_image.specs.declared.refusal.ImageRefusal.{ImageRefusal}
use Rattle.elf_image.specs.declared.refusal.ImageRefusal.TheVariants.{NoMemory, BadDynamic}
use Rattle.elf_image.specs.MemtagFile.{HasDynamic, entries_of, first_of}
use Rattle.elf_base.specs.Index.{told_index}
use Rattle.elf_image.specs.MemtagEntries.{globals_tag, size_tag, holds, Entries, MemtagFault, no_descriptors}
use Rattle.elf_image.specs.Laws.ReadMemtag.{NotHeld, one_info, one_fault, no_fault}

-- a refusal that a `?` passes on
pub passed_on : {T : Type 0} (r : Result T ImageRefusal) (fault : ImageRefusal) → IsErrAnd r (λ e. e ≡ fault) → r ≡ Err fault
passed_on (Ok x) fault h = absurd h
passed_on (Err e) fault h = ap Err h

-- what is not all there goes past the end
pub past_end : (a b total : ℕ) → (a + b ≤ total → IsTrue false) → total < a + b
past_end a b total none =
    elim (cases_lt total (a + b)) [
      | inl short ↦ short
      | inr within ↦ let never : IsTrue false = none within in cc
    ]

-- what a segment that holds bytes has
pub record IsHeld (total address size : ℕ) (p : Phdr) : Type 0 where
  pub front : p.vaddr ≤ address
  pub within : p.offset + (address - p.vaddr) + size ≤ total

pub held : (total address size : ℕ) (p : Phdr) → holds total address size p ≡ true → IsHeld total address size p
held total address size p h = record { front = grind (arith, nat_tests); within = grind (arith, nat_tests) }

-- tags, as the machine compares them
pub not_null : (tag : ℤ) → ¬ (of_z w64 tag ≡ 0) → tag ≢ pos 0
not_null tag other same = other (ap (of_z w64) same)

pub null : (tag : ℤ) → FitsSigned w64 tag → of_z w64 tag ≡ 0 → tag ≡ pos 0
null tag fits is = sym (to_z-of_z w64 tag fits) ∙ ap (to_z w64) is

pub not_tag : (tag wanted : ℤ) (n : ℕ) → wanted ≡ pos n → ¬ (of_z w64 tag ≡ of_z w64 wanted) → tag ≢ pos n
not_tag tag wanted n is other same = other (ap (of_z w64) (same ∙ sym is))

pub same_tag : (tag wanted : ℤ) (n : ℕ) → FitsSigned w64 tag → FitsSigned w64 wanted → wanted ≡ pos n → of_z w64 tag ≡ of_z w64 wanted
    → tag ≡ pos n
same_tag tag wanted n fits others is same =
    sym (to_z-of_z w64 tag fits) ∙ ap (to_z w64) same ∙ to_z-of_z w64 wanted others ∙ is

-- ---- the clauses of the whole

abbrev pub IsFound : List ℕ → Result MemtagInfo ImageRefusal → Type 0
IsFound bytes result = IfOk result (Entries bytes)

abbrev pub IsRefused : List ℕ → Result MemtagInfo ImageRefusal → Type 0
IsRefused bytes result = IfErr result (λ e. (e ≡ NoMemory) ⊎ MemtagFault bytes e)

abbrev pub Only : List ℕ → Result MemtagInfo ImageRefusal → Type 0
Only bytes result = (info : MemtagInfo) → Entries bytes info → MatchResult result (λ i. i ≡ info) (λ e. e ≡ NoMemory)

abbrev pub Refuses : List ℕ → Result MemtagInfo ImageRefusal → Type 0
Refuses bytes result =
    (fault : ImageRefusal) → MemtagFault bytes fault → MatchResult result (λ i. ⊥) (λ e. (e ≡ fault) ⊎ (e ≡ NoMemory))

pub only : (bytes : List ℕ) (result : Result MemtagInfo ImageRefusal) → IsFound bytes result → IsRefused bytes result → Only bytes result
only bytes (Ok i) found refused = λ info h. one_info bytes i info found h
only bytes (Err e) found (inl none) = λ info h. none
only bytes (Err e) found (inr fault) = λ info h. absurd (no_fault bytes info e h fault)

pub refuses : (bytes : List ℕ) (result : Result MemtagInfo ImageRefusal) → IsFound bytes result → IsRefused bytes result
    → Refuses bytes result
refuses bytes (Ok i) found refused = λ fault h. no_fault bytes i fault found h
refuses bytes (Err e) found (inl none) = λ fault h. inr none
refuses bytes (Err e) found (inr first) = λ fault h. inl (one_fault bytes e fault first h)

-- a refusal that is passed on
pub refused_by : (bytes : List ℕ) (result : Result MemtagInfo ImageRefusal) (fault : ImageRefusal) → IsErrAnd result (λ e. e ≡ fault)
    → (fault ≡ NoMemory) ⊎ MemtagFault bytes fault → IsRefused bytes result
refused_by bytes result fault passed cause = subst (IsRefused bytes) (sym (passed_on result fault passed)) cause

pub found_by : (bytes : List ℕ) (result : Result MemtagInfo ImageRefusal) (fault : ImageRefusal) → IsErrAnd result (λ e. e ≡ fault)
    → IsFound bytes result
found_by bytes result fault passed = subst (IsFound bytes) (sym (passed_on result fault passed)) tt

-- the descriptors that no segment holds
pub not_held : (bytes : List ℕ) (segment : Phdr) (globals size : Option Found) (fault : ImageRefusal) → HasDynamic bytes segment
    → globals ≡ first_of globals_tag (entries_of bytes segment) → size ≡ first_of size_tag (entries_of bytes segment)
    → (fault ≡ NoMemory) ⊎ NotHeld bytes globals size fault → (fault ≡ NoMemory) ⊎ MemtagFault bytes fault
not_held bytes segment globals size fault h first second (inl none) = inl none
not_held bytes segment globals size fault h first second (inr n) =
    inr (subst (MemtagFault bytes) (sym n.fault_is)
    (no_descriptors segment n.first n.second h (sym first ∙ n.globals_is) (sym second ∙ n.size_is) n.none))
