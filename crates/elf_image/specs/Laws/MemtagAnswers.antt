-- Each file has an answer: it says something of memory tagging, or has a first fault.
use Rattle.std.proofs.Common.{◌≡◌, ℕ, ◌+◌, ◌*◌, ◌<◌, ◌≤◌, List, length, take, Ok, Err, Option, Some, None, refl, sym, subst, inl, inr}
use Rattle.std.specs.Prelude.{◌⊎◌, Bool, true, false, bytes_eq, find, IsSome}
use Rattle.std.proofs.lemmas.Bool.{cases_lt, cases_eq}
use Rattle.std.proofs.lemmas.Slice.Eq.{bytes_eq-Decides}
use Rattle.elf_base.specs.declared.segment.Phdr.{Phdr}
use Rattle.elf_image.specs.declared.memtag.Found.{Found}
use Rattle.elf_image.specs.declared.memtag.MemtagInfo.{MemtagInfo}
use Rattle.elf_image.specs.MemtagFile.{ident, BeginsElf, header_of, HasHeader, HasSegments, segments_of, is_dynamic, HasDynamic}
use Rattle.elf_image.specs.MemtagFile.{entries_of, first_of}
use Rattle.elf_base.specs.Index.{told_index}
use Rattle.elf_image.specs.MemtagEntries.{mode_tag, heap_tag, stack_tag, globals_tag, size_tag, loaded_bytes, AreDescriptors, value_of}
use Rattle.elf_image.specs.MemtagEntries.{Entries, MemtagFault, not_elf, no_header, other_machine, other_headers, headers_cut, no_dynamic}
use Rattle.elf_image.specs.MemtagEntries.{dynamic_cut, no_descriptors}
use Rattle.elf_image.specs.Laws.ReadMemtag.{Answer, Descriptors, located, described, told, with_entries, with_dynamic, with_segments}
use Rattle.elf_image.specs.Laws.ReadMemtag.{with_header, with_start, read_as, begun, not_begun, start_cut, start_other, started}
use Rattle.elf_image.specs.Laws.ReadMemtag.{header_other, header_cut, headed, dynamic_none, dynamic_short, dynamic_whole}

-- the answer is what the file says, or its first fault
abbrev pub IsAnswer : List ℕ → Answer → Type 0
IsAnswer file (Ok info) = Entries file info
IsAnswer file (Err fault) = MemtagFault file fault

-- ---- tests

by_test : {P : Type 0} (b : Bool) → (b ≡ true → P) → (P → b ≡ true) → P ⊎ ¬ P
by_test true holds tests = inl (holds refl)
by_test false holds tests = inr (λ p. differ (tests p))
  where
    differ : false ≡ true → ⊥
    differ e = cc

begins_or_not : (file : List ℕ) → BeginsElf file ⊎ ¬ BeginsElf file
begins_or_not file =
    by_test (bytes_eq (take 6 file) (take (length file) ident)) (bytes_eq-Decides (take 6 file) (take (length file) ident)).0
    (bytes_eq-Decides (take 6 file) (take (length file) ident)).1

-- ---- each step

said_all : (file : List ℕ) (segment : Phdr) → HasDynamic file segment → (globals size : Option Found) (found : Option (List ℕ))
    → first_of globals_tag (entries_of file segment) ≡ globals → first_of size_tag (entries_of file segment) ≡ size
    → AreDescriptors file globals size found → IsAnswer file (told file segment (Ok found))
unfolding told
said_all file segment h globals size found globals_is size_is are = record {
  segment = segment;
  dynamic = h;
  mode = refl;
  heap = refl;
  stack = refl;
  descriptors = subst (λ (g : Option Found). AreDescriptors file g (first_of size_tag (entries_of file segment)) found) (sym globals_is)
      (subst (λ (s : Option Found). AreDescriptors file globals s found) (sym size_is) are);
}

said_located : (file : List ℕ) (segment : Phdr) → HasDynamic file segment → (globals size : Found) (lie : Option (List ℕ))
    → first_of globals_tag (entries_of file segment) ≡ Some globals → first_of size_tag (entries_of file segment) ≡ Some size
    → loaded_bytes file globals.value size.value ≡ lie → IsAnswer file (told file segment (located globals lie))
unfolding told located
said_located file segment h globals size (Some bytes) globals_is size_is is =
    said_all file segment h (Some globals) (Some size) (Some bytes) globals_is size_is (sym is, refl)
said_located file segment h globals size None globals_is size_is is = no_descriptors segment globals size h globals_is size_is is

said_described : (file : List ℕ) (segment : Phdr) → HasDynamic file segment → (globals size : Option Found)
    → first_of globals_tag (entries_of file segment) ≡ globals → first_of size_tag (entries_of file segment) ≡ size
    → IsAnswer file (told file segment (described file globals size))
unfolding described
said_described file segment h (Some globals) (Some size) globals_is size_is =
    said_located file segment h globals size (loaded_bytes file globals.value size.value) globals_is size_is refl
said_described file segment h (Some globals) None globals_is size_is =
    said_all file segment h (Some globals) None None globals_is size_is refl
said_described file segment h None size globals_is size_is = said_all file segment h None size None globals_is size_is refl

said_dynamic : (file : List ℕ) → HasSegments file → (found : Option Phdr) → find is_dynamic (segments_of file) ≡ found
    → IsAnswer file (with_dynamic file found)
said_dynamic file h None is = subst (IsAnswer file) (sym (dynamic_none file)) (no_dynamic h is)
said_dynamic file h (Some segment) is =
    elim (cases_lt (length file) (segment.offset + segment.filesz)) [
      | inl short ↦ subst (IsAnswer file) (sym (dynamic_short file segment short)) (dynamic_cut segment h is short)
      | inr within ↦ subst (IsAnswer file) (sym (dynamic_whole file segment within))
          (said_described file segment (record { segments = h; first = is; within = within })
          (first_of globals_tag (entries_of file segment)) (first_of size_tag (entries_of file segment)) refl refl)
    ]

said_headers : (file : List ℕ) → HasHeader file → (header_of file).phentsize ≡ 56 → IsAnswer file (with_header file)
said_headers file h same =
    elim (cases_lt (length file) ((header_of file).phoff + 56 * (header_of file).phnum)) [
      | inl short ↦ subst (IsAnswer file) (sym (header_cut file same short)) (headers_cut h same short)
      | inr within ↦ subst (IsAnswer file) (sym (headed file same within))
          (said_dynamic file (record { header = h; bytes = same; within = within }) (find is_dynamic (segments_of file)) refl)
    ]

said_header : (file : List ℕ) → HasHeader file → IsAnswer file (with_header file)
said_header file h =
    elim (cases_eq (header_of file).phentsize 56) [
      | inl same ↦ said_headers file h same
      | inr other ↦ subst (IsAnswer file) (sym (header_other file other)) (other_headers h other)
    ]

said_machine : (file : List ℕ) → BeginsElf file → 64 ≤ length file → IsAnswer file (with_start file)
said_machine file begins whole =
    elim (cases_eq (header_of file).machine 183) [
      | inl same ↦ subst (IsAnswer file) (sym (started file whole same))
          (said_header file (record { begins = begins; whole = whole; machine = same }))
      | inr other ↦ subst (IsAnswer file) (sym (start_other file whole other)) (other_machine begins whole other)
    ]

said_start : (file : List ℕ) → BeginsElf file → IsAnswer file (with_start file)
said_start file begins =
    elim (cases_lt (length file) 64) [
      | inl short ↦ subst (IsAnswer file) (sym (start_cut file short)) (no_header begins short)
      | inr whole ↦ said_machine file begins whole
    ]

-- so each file says something, or has a fault
pub says : (file : List ℕ) → IsAnswer file (read_as file)
says file =
    elim (begins_or_not file) [
      | inl begins ↦ subst (IsAnswer file) (sym (begun file begins)) (said_start file begins)
      | inr other ↦ subst (IsAnswer file) (sym (not_begun file other)) (not_elf other)
    ]
