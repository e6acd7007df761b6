-- Each file has one answer: what it says of memory tagging, or its first fault.
use Rattle.std.proofs.Common.{◌≡◌, ℕ, ◌+◌, ◌*◌, ◌<◌, ◌≤◌, List, length, take, Result, Ok, Err, Option, Some, None, refl, sym, ap, ◌∙◌}
use Rattle.std.proofs.Common.{arith, inl, inr}
use Rattle.std.specs.Prelude.{◌==◌, nat_lt, Bool, true, false, if◌then◌else◌, bytes_eq, option_map, find, IsSome, ◌⊎◌}
use Rattle.std.proofs.lemmas.Bool.{cases_lt, lt-ltb, le-ltb, ne_eqb, eq-eqb}
use Rattle.std.proofs.lemmas.Slice.Eq.{bytes_eq-Decides}
use Rattle.std.proofs.lemmas.Bool.Decides.{Decides-eqb}
use Rattle.std.specs.Bool.{Decides}
use Rattle.elf_base.specs.declared.segment.Phdr.{Phdr}
use Rattle.elf_image.specs.declared.memtag.Found.{Found}
use Rattle.elf_image.specs.declared.memtag.Headers.{Headers}
use Rattle.elf_image.specs.declared.memtag.MemtagInfo.{MemtagInfo}
use Rattle.elf_image.specs.declared.refusal.ImageRefusal.{ImageRefusal}
use Rattle.elf_image.specs.declared.refusal.ImageRefusal.TheVariants.{NotElf, NotThisMachine, Truncated, BadSegment, BadDynamic}
use Rattle.elf_image.specs.MemtagFile.{ident, BeginsElf, header_of, HasHeader, HasSegments, segments_of, is_dynamic, HasDynamic}
use Rattle.elf_image.specs.MemtagFile.{entries_of, first_of}
use Rattle.elf_base.specs.Index.{told_index}
use Rattle.elf_image.specs.MemtagEntries.{mode_tag, heap_tag, stack_tag, globals_tag, size_tag, loaded_bytes, AreDescriptors, value_of}
use Rattle.elf_image.specs.MemtagEntries.{Entries, MemtagFault, not_elf, no_header, other_machine, other_headers, headers_cut, no_dynamic}
use Rattle.elf_image.specs.MemtagEntries.{dynamic_cut, no_descriptors}

-- the program headers are where the file's header says
pub record AreHeaders (file : List ℕ) (headers : Headers) : Type 0 where
  pub there : HasSegments file
  pub place : headers.place ≡ (header_of file).phoff
  pub count : headers.count ≡ (header_of file).phnum

-- the descriptors are named, and no segment holds them
pub record NotHeld (file : List ℕ) (globals size : Option Found) (fault : ImageRefusal) : Type 0 where
  pub first : Found
  pub second : Found
  pub globals_is : globals ≡ Some first
  pub size_is : size ≡ Some second
  pub none : loaded_bytes file first.value second.value ≡ None
  pub fault_is : fault ≡ BadDynamic (told_index first.index)

-- ---- the answer, step by step

abbrev pub Answer : Type 0
Answer = Result MemtagInfo ImageRefusal

abbrev pub Descriptors : Type 0
Descriptors = Result (Option (List ℕ)) ImageRefusal

unfoldable pub located : Found → Option (List ℕ) → Descriptors
located globals (Some bytes) = Ok (Some bytes)
located globals None = Err (BadDynamic (told_index globals.index))

unfoldable pub described : List ℕ → Option Found → Option Found → Descriptors
described file (Some globals) (Some size) = located globals (loaded_bytes file globals.value size.value)
described file (Some globals) None = Ok None
described file None size = Ok None

unfoldable pub told : List ℕ → Phdr → Descriptors → Answer
told file segment (Err fault) = Err fault
told file segment (Ok found) = Ok (record {
  mode = value_of (first_of mode_tag (entries_of file segment));
  heap = value_of (first_of heap_tag (entries_of file segment));
  stack = value_of (first_of stack_tag (entries_of file segment));
  descriptors = found;
})

abbrev pub with_entries : List ℕ → Phdr → Answer
with_entries file segment =
    told file segment (described file (first_of globals_tag (entries_of file segment)) (first_of size_tag (entries_of file segment)))

unfoldable pub with_dynamic : List ℕ → Option Phdr → Answer
with_dynamic file None = Err (BadSegment (header_of file).phnum)
with_dynamic file (Some segment) =
    if nat_lt (length file) (segment.offset + segment.filesz) then Err (Truncated (length file)) else with_entries file segment

abbrev pub with_segments : List ℕ → Answer
with_segments file = with_dynamic file (find is_dynamic (segments_of file))

unfoldable pub with_header : List ℕ → Answer
with_header file =
    if (header_of file).phentsize == 56
    then (if nat_lt (length file) ((header_of file).phoff + 56 * (header_of file).phnum) then Err
    (Truncated (length file)) else with_segments file)
    else Err (BadSegment 0)

unfoldable pub with_start : List ℕ → Answer
with_start file =
    if nat_lt (length file) 64 then Err (Truncated (length file))
    else (if (header_of file).machine == 183 then with_header file else Err NotThisMachine)

unfoldable pub read_as : List ℕ → Answer
read_as file = if bytes_eq (take 6 file) (take (length file) ident) then with_start file else Err NotElf

-- ---- each step where its condition holds

is_false : (b : Bool) → ¬ (b ≡ true) → b ≡ false
is_false true never = absurd (never refl)
is_false false never = refl

unequal : (xs ys : List ℕ) → ¬ (xs ≡ ys) → bytes_eq xs ys ≡ false
unequal xs ys other = is_false (bytes_eq xs ys) (λ same. other ((bytes_eq-Decides xs ys).0 same))

pub begun : (file : List ℕ) → BeginsElf file → read_as file ≡ with_start file
unfolding read_as
begun file begins = rw ((bytes_eq-Decides (take 6 file) (take (length file) ident)).1 begins) refl

pub not_begun : (file : List ℕ) → ¬ BeginsElf file → read_as file ≡ Err NotElf
unfolding read_as
not_begun file other = rw (unequal (take 6 file) (take (length file) ident) other) refl

pub start_cut : (file : List ℕ) → length file < 64 → with_start file ≡ Err (Truncated (length file))
unfolding with_start
start_cut file short = rw (lt-ltb (length file) 64 short) refl

pub start_other : (file : List ℕ) → 64 ≤ length file → ¬ ((header_of file).machine ≡ 183) → with_start file ≡ Err NotThisMachine
unfolding with_start
start_other file whole other = rw (le-ltb (length file) 64 whole, ne_eqb (header_of file).machine 183 other) refl

pub started : (file : List ℕ) → 64 ≤ length file → (header_of file).machine ≡ 183 → with_start file ≡ with_header file
unfolding with_start
started file whole machine = rw (le-ltb (length file) 64 whole, eq-eqb (header_of file).machine 183 machine) refl

pub header_other : (file : List ℕ) → ¬ ((header_of file).phentsize ≡ 56) → with_header file ≡ Err (BadSegment 0)
unfolding with_header
header_other file other = rw (ne_eqb (header_of file).phentsize 56 other) refl

pub header_cut : (file : List ℕ) → (header_of file).phentsize ≡ 56 → length file < (header_of file).phoff + 56 * (header_of file).phnum
    → with_header file ≡ Err (Truncated (length file))
unfolding with_header
header_cut file same short =
    rw (eq-eqb (header_of file).phentsize 56 same, lt-ltb (length file) ((header_of file).phoff + 56 * (header_of file).phnum) short) refl

pub headed : (file : List ℕ) → (header_of file).phentsize ≡ 56 → (header_of file).phoff + 56 * (header_of file).phnum ≤ length file
    → with_header file ≡ with_segments file
unfolding with_header
headed file same within =
    rw (eq-eqb (header_of file).phentsize 56 same, le-ltb (length file) ((header_of file).phoff + 56 * (header_of file).phnum) within) refl

pub dynamic_none : (file : List ℕ) → with_dynamic file None ≡ Err (BadSegment (header_of file).phnum)
unfolding with_dynamic
dynamic_none file = refl

pub dynamic_short : (file : List ℕ) (segment : Phdr) → length file < segment.offset + segment.filesz
    → with_dynamic file (Some segment) ≡ Err (Truncated (length file))
unfolding with_dynamic
dynamic_short file segment short = rw (lt-ltb (length file) (segment.offset + segment.filesz) short) refl

pub dynamic_whole : (file : List ℕ) (segment : Phdr) → segment.offset + segment.filesz ≤ length file
    → with_dynamic file (Some segment) ≡ with_entries file segment
unfolding with_dynamic
dynamic_whole file segment within = rw (le-ltb (length file) (segment.offset + segment.filesz) within) refl

-- ---- the answer to a file that is as the steps ask

pub of_header : (file : List ℕ) → HasHeader file → read_as file ≡ with_header file
of_header file h = begun file h.begins ∙ started file h.whole h.machine

pub of_segments : (file : List ℕ) → HasSegments file → read_as file ≡ with_segments file
of_segments file h = of_header file h.header ∙ headed file h.bytes h.within

pub of_dynamic : (file : List ℕ) (segment : Phdr) → HasDynamic file segment → read_as file ≡ with_entries file segment
of_dynamic file segment h = of_segments file h.segments ∙ ap (with_dynamic file) h.first ∙ dynamic_whole file segment h.within

located_some : (globals : Found) (found lie : Option (List ℕ)) → found ≡ lie → IsSome found → located globals lie ≡ Ok found
unfolding located
located_some globals (Some bytes) lie same some = ap (located globals) (sym same)
located_some globals None lie same some = cc

located_none : (globals : Found) → located globals None ≡ Err (BadDynamic (told_index globals.index))
unfolding located
located_none globals = refl

described_so : (file : List ℕ) (globals size : Option Found) (found : Option (List ℕ)) → AreDescriptors file globals size found
    → described file globals size ≡ Ok found
unfolding described
described_so file (Some globals) (Some size) found h = located_some globals found (loaded_bytes file globals.value size.value) h.0 h.1
described_so file (Some globals) None found h = ap Ok (sym h)
described_so file None size found h = ap Ok (sym h)

not_described : (file : List ℕ) (globals size : Found) → loaded_bytes file globals.value size.value ≡ None
    → described file (Some globals) (Some size) ≡ Err (BadDynamic (told_index globals.index))
unfolding described
not_described file globals size none = ap (located globals) none ∙ located_none globals

told_found : (file : List ℕ) (segment : Phdr) (info : MemtagInfo)
    → info.mode ≡ value_of (first_of mode_tag (entries_of file segment))
    → info.heap ≡ value_of (first_of heap_tag (entries_of file segment))
    → info.stack ≡ value_of (first_of stack_tag (entries_of file segment))
    → told file segment (Ok info.descriptors) ≡ Ok info
unfolding told
told_found file segment info mode heap stack =
    ap Ok (λ i. record { mode = sym mode i; heap = sym heap i; stack = sym stack i; descriptors = info.descriptors })

told_fault : (file : List ℕ) (segment : Phdr) (fault : ImageRefusal) → told file segment (Err fault) ≡ Err fault
unfolding told
told_fault file segment fault = refl

-- what a file says is the answer to it
pub entries_read : (file : List ℕ) (info : MemtagInfo) → Entries file info → read_as file ≡ Ok info
entries_read file info e =
    of_dynamic file e.segment e.dynamic
    ∙ ap (told file e.segment) (described_so file (first_of globals_tag (entries_of file e.segment))
    (first_of size_tag (entries_of file e.segment))
    info.descriptors e.descriptors)
    ∙ told_found file e.segment info e.mode e.heap e.stack

-- and so is its fault
pub fault_read : (file : List ℕ) (fault : ImageRefusal) → MemtagFault file fault → read_as file ≡ Err fault
fault_read file fault (not_elf other) = not_begun file other
fault_read file fault (no_header begins short) = begun file begins ∙ start_cut file short
fault_read file fault (other_machine begins whole other) = begun file begins ∙ start_other file whole other
fault_read file fault (other_headers h other) = of_header file h ∙ header_other file other
fault_read file fault (headers_cut h same short) = of_header file h ∙ header_cut file same short
fault_read file fault (no_dynamic h none) = of_segments file h ∙ ap (with_dynamic file) none ∙ dynamic_none file
fault_read file fault (dynamic_cut segment h is short) =
    of_segments file h ∙ ap (with_dynamic file) is ∙ dynamic_short file segment short
fault_read file fault (no_descriptors segment globals size h globals_is size_is none) =
    of_dynamic file segment h
    ∙ ap (λ (g : Option Found). told file segment (described file g (first_of size_tag (entries_of file segment)))) globals_is
    ∙ ap (λ (s : Option Found). told file segment (described file (Some globals) s)) size_is
    ∙ ap (told file segment) (not_described file globals size none) ∙ told_fault file segment (BadDynamic (told_index globals.index))

-- ---- so there is one

pub one_info : (file : List ℕ) (info other : MemtagInfo) → Entries file info → Entries file other → info ≡ other
one_info file info other a b =
    let same : Ok info ≡ Ok other = sym (entries_read file info a) ∙ entries_read file other b in
    cc

pub one_fault : (file : List ℕ) (fault other : ImageRefusal) → MemtagFault file fault → MemtagFault file other → fault ≡ other
one_fault file fault other a b =
    let same : Err fault ≡ Err other = sym (fault_read file fault a) ∙ fault_read file other b in
    cc

pub no_fault : (file : List ℕ) (info : MemtagInfo) (fault : ImageRefusal) → Entries file info → MemtagFault file fault → ⊥
no_fault file info fault a b =
    let same : Ok info ≡ Err fault = sym (entries_read file info a) ∙ fault_read file fault b in
    cc
