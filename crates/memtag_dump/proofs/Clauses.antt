-- The clauses of `dump`, from what its text or its fault is.
use Rattle.std.proofs.Common.{◌≡◌, ◌⊎◌, ℕ, List, Result, Ok, Err, Option, Some, None, refl, sym, ap, subst, inl, inr}
use Rattle.std.specs.Result.{IsErrAnd}
use Rattle.std.specs.Global.{Global}
use Rattle.std.specs.String.{string_bytes}
use Rattle.std.specs.Prelude.{IfOk, IfErr, MatchResult, String}
use Rattle.elf_image.specs.declared.memtag.MemtagInfo.{MemtagInfo}
use Rattle.elf_image.specs.declared.refusal.ImageRefusal.{ImageRefusal}
use Rattle.elf_image.specs.declared.refusal.ImageRefusal.TheVariants as image
use Rattle.elf_image.specs.MemtagEntries.{Entries, MemtagFault}
use Rattle.memtag_desc.specs.declared.refusal.DescRefusal.{DescRefusal}
use Rattle.memtag_desc.specs.declared.refusal.DescRefusal.TheVariants as desc
use Rattle.memtag_dump.specs.declared.refusal.DumpRefusal.{DumpRefusal}
use Rattle.memtag_dump.specs.declared.refusal.DumpRefusal.TheVariants.{NoMemory}
use Rattle.memtag_dump.specs.Lines.{HasText}
use Rattle.memtag_dump.specs.Refusal.{HasNoText, bad_file, bad_descriptors, of_file, of_descriptors}
use Rattle.memtag_dump.specs.Laws.OneText.{NotDescribed, one_text, one_fault, no_fault}

abbrev pub IsFound : List ℕ → Result (String Global) DumpRefusal → Type 0
IsFound file result = IfOk result (λ t. HasText file (string_bytes t))

abbrev pub IsRefused : List ℕ → Result (String Global) DumpRefusal → Type 0
IsRefused file result = IfErr result (λ e. (e ≡ NoMemory) ⊎ HasNoText file e)

abbrev pub Only : List ℕ → Result (String Global) DumpRefusal → Type 0
Only file result = (text : List ℕ) → HasText file text → MatchResult result (λ t. string_bytes t ≡ text) (λ e. e ≡ NoMemory)

abbrev pub Refuses : List ℕ → Result (String Global) DumpRefusal → Type 0
Refuses file result =
    (fault : DumpRefusal) → HasNoText file fault → MatchResult result (λ t. ⊥) (λ e. (e ≡ fault) ⊎ (e ≡ NoMemory))

pub only : (file : List ℕ) (result : Result (String Global) DumpRefusal) → IsFound file result → IsRefused file result → Only file result
only file (Ok t) found refused = λ text h. one_text file (string_bytes t) text found h
only file (Err e) found (inl none) = λ text h. none
only file (Err e) found (inr fault) = λ text h. absurd (no_fault file text e h fault)

pub refuses : (file : List ℕ) (result : Result (String Global) DumpRefusal) → IsFound file result → IsRefused file result
    → Refuses file result
refuses file (Ok t) found refused = λ fault h. no_fault file (string_bytes t) fault found h
refuses file (Err e) found (inl none) = λ fault h. inr none
refuses file (Err e) found (inr first) = λ fault h. inl (one_fault file e fault first h)

-- a refusal that a `?` passes on, as this crate tells it
passed_on : {T : Type 0} (r : Result T DumpRefusal) (fault : DumpRefusal) → IsErrAnd r (λ e. e ≡ fault) → r ≡ Err fault
passed_on (Ok x) fault h = absurd h
passed_on (Err e) fault h = ap Err h

pub found_by : (file : List ℕ) (result : Result (String Global) DumpRefusal) (fault : DumpRefusal) → IsErrAnd result (λ e. e ≡ fault)
    → IsFound file result
found_by file result fault passed = subst (IsFound file) (sym (passed_on result fault passed)) tt

pub refused_by : (file : List ℕ) (result : Result (String Global) DumpRefusal) (fault : DumpRefusal) → IsErrAnd result (λ e. e ≡ fault)
    → (fault ≡ NoMemory) ⊎ HasNoText file fault → IsRefused file result
refused_by file result fault passed cause = subst (IsRefused file) (sym (passed_on result fault passed)) cause

-- the fault of the file
pub file_cause : (file : List ℕ) (e : ImageRefusal) → (e ≡ image.NoMemory) ⊎ MemtagFault file e
    → (of_file e ≡ NoMemory) ⊎ HasNoText file (of_file e)
file_cause file image.NoMemory cause = inl refl
file_cause file e (inr fault) = inr (bad_file e fault)
file_cause file e (inl none) = cc

-- the fault of its descriptors
pub descriptors_cause : (file : List ℕ) (info : MemtagInfo) (e : DescRefusal) → Entries file info
    → (e ≡ desc.NoMemory) ⊎ NotDescribed info.descriptors e → (of_descriptors e ≡ NoMemory) ⊎ HasNoText file (of_descriptors e)
descriptors_cause file info desc.NoMemory entries cause = inl refl
descriptors_cause file info e entries (inr n) = inr (bad_descriptors info n.bytes e entries n.there n.fault_is)
descriptors_cause file info e entries (inl none) = cc

-- a text that is spelled otherwise
pub spelled : {E : Type 0} (r : Result (String Global) E) (xs ys : List ℕ) → IfOk r (λ s. string_bytes s ≡ xs) → xs ≡ ys
    → IfOk r (λ s. string_bytes s ≡ ys)
spelled r xs ys h same = subst (λ (l : List ℕ). IfOk r (λ s. string_bytes s ≡ l)) same h
