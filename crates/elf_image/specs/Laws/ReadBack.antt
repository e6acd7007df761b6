-- A file without a fault is that of the image that its headers say.
use Rattle.std.proofs.Common.{◌≡◌, ℕ, ◌+◌, ◌-◌, ◌*◌, ◌/◌, ◌%◌, ◌^◌, ◌≤◌, ◌<◌, ◌⊎◌, List, [], ◌∷◌, ◌++◌, length, take, drop, get_or}
use Rattle.std.proofs.Common.{replicate, refl, sym, ap, ap₂, ◌∙◌, subst, inl, inr, arith, length-take, length-drop, length-append}
use Rattle.std.proofs.Common.{ext_get_or, get_or-take, get_or-drop}
use Rattle.std.proofs.lemmas.List.{get_or_past, get_or-replicate}
use Rattle.std.specs.List.{flat_map}
use Rattle.mt_base.specs.Granules.{round16}
use Rattle.mt_base.specs.Laws.Granules.{round16-covers}
use Rattle.elf_base.specs.declared.dynamic.Dyn.{Dyn}
use Rattle.elf_base.specs.declared.segment.Phdr.{Phdr}
use Rattle.elf_base.specs.Field.{bytes_of, StandsAt}
use Rattle.elf_base.specs.Layout.{AllStand, IsGap, IsLaidOut, word_bytes}
use Rattle.elf_base.specs.Records.{ehdr_fields, phdr_fields}
use Rattle.elf_base.specs.Standing.{ehdr_at, phdr_at}
use Rattle.elf_base.specs.Laws.Lengths.{IsBytes, length-ehdr, length-phdr, length-words}
use Rattle.elf_base.specs.Laws.RecordsStand.{stands_taken, ehdr_stands, phdr_stands}
use Rattle.elf_base.specs.Laws.Zeros.{zero_there}
use Rattle.elf_base.specs.Laws.Standing.{number_fits}
use Rattle.elf_image.specs.declared.heads.Heads.{Heads}
use Rattle.elf_image.specs.Image.{Image}
use Rattle.elf_image.specs.ImageFile.{ImageFile}
use Rattle.elf_image.specs.Ranges.{IsFileOf}
use Rattle.elf_image.specs.Heads.{heads_at, reloc_bytes_at, descriptor_bytes_at}
use Rattle.elf_image.specs.Places.{IsValid, round_page, dynamic_count, descriptors_place, rodata_place, rodata_end, code_place, code_end}
use Rattle.elf_image.specs.Places.{dynamic_place, dynamic_end, filled_place, file_end, memory_end}
use Rattle.elf_image.specs.Records.{load, dynamic_at, described_entries, last_entries}
use Rattle.elf_image.specs.Pieces.{header, read_only_part, code_part, writable_part, dynamic_part, descriptor_entries, dynamic_entries}
use Rattle.elf_image.specs.Pieces.{entries_bytes, reloc_bytes, pieces}
use Rattle.elf_image.specs.Faults.{fault_of, no_fault}
use Rattle.elf_image.specs.Laws.Entries.{length-dynamic_entries}
use Rattle.elf_image.specs.Laws.Items.{words_at, relocs_at, length-words_at, length-relocs_at, words_fit, relocs_fit, words_taken}
use Rattle.elf_image.specs.Laws.Items.{relocs_taken, entries_taken, AreEntries}
use Rattle.elf_image.specs.Laws.Order.{InOrder, in_order, le-round_page}
use Rattle.elf_image.specs.Laws.Right.{Right, RightEntries, described, plain, right, rodata_at, tables_of, described_of, plain_of}
use Rattle.elf_image.specs.Laws.Whole.{length-relocs}

-- the image that the headers of a file say
abbrev pub image_at : List ℕ → Heads → Image
image_at file h = record {
  entry = h.header.entry;
  relocs = relocs_at (reloc_bytes_at file h / 24) 0x140 file;
  descriptors = take (descriptor_bytes_at file h) (drop (0x140 + reloc_bytes_at file h) file);
  rodata = take (h.read_only.filesz - rodata_at file h) (drop (rodata_at file h) file);
  words = words_at (h.code.filesz / 4) h.code.offset file;
  filled = take (h.writable.filesz - h.dynamic.filesz) (drop (h.writable.offset + h.dynamic.filesz) file);
  zero_bytes = h.writable.memsz - h.writable.filesz;
}

-- ---- lengths and places

length-part : (n at : ℕ) (file : List ℕ) → at + n ≤ length file → length (take n (drop at file)) ≡ n
length-part n at file within = omega (arith, length-take n (drop at file), length-drop at file)

-- how many entries there are, and what they are
pub count_some : (ds : List ℕ) → 1 ≤ length ds → 16 * dynamic_count ds ≡ 208
count_some [] some = absurd (omega arith)
count_some (d ∷ ds) some = refl

pub count_none : (ds : List ℕ) → length ds ≡ 0 → 16 * dynamic_count ds ≡ 176
count_none [] none = refl
count_none (d ∷ ds) none = absurd (omega arith)

pub entries_some : (place : ℕ) (ds : List ℕ) → 1 ≤ length ds → descriptor_entries place ds ≡ described_entries place (length ds)
entries_some place [] some = absurd (omega arith)
entries_some place (d ∷ ds) some = refl

pub entries_none : (place : ℕ) (ds : List ℕ) → length ds ≡ 0 → descriptor_entries place ds ≡ []
entries_none place [] none = refl
entries_none place (d ∷ ds) none = absurd (omega arith)

pub all_some : (p : Image) (relocs descriptors : ℕ) → 24 * length p.relocs ≡ relocs → descriptors_place p ≡ 0x140 + relocs
    → length p.descriptors ≡ descriptors → 1 ≤ descriptors → dynamic_entries p ≡ tables_of relocs ++ described_of relocs descriptors
all_some p relocs descriptors a b c some =
    ap (λ (ds : List Dyn). tables_of (24 * length p.relocs) ++ ds ++ last_entries)
    (entries_some (descriptors_place p) p.descriptors (omega arith))
    ∙ (λ i. tables_of (a i) ++ described_entries (b i) (c i) ++ last_entries)

pub all_none : (p : Image) (relocs : ℕ) → 24 * length p.relocs ≡ relocs → length p.descriptors ≡ 0
    → dynamic_entries p ≡ tables_of relocs ++ plain_of
all_none p relocs a none =
    ap (λ (ds : List Dyn). tables_of (24 * length p.relocs) ++ ds ++ last_entries) (entries_none (descriptors_place p) p.descriptors none)
    ∙ (λ i. tables_of (a i) ++ plain_of)

-- where everything lies, by the headers
record Placed (file : List ℕ) (h : Heads) (p : Image) : Type 0 where
  phoff : h.header.phoff ≡ 64
  first : h.read_only.offset ≡ 0
  dynamic_offset : h.dynamic.offset ≡ h.writable.offset
  relocs : 24 * length p.relocs ≡ reloc_bytes_at file h
  descriptors : length p.descriptors ≡ descriptor_bytes_at file h
  words : 4 * length p.words ≡ h.code.filesz
  count : 16 * dynamic_count p.descriptors ≡ h.dynamic.filesz
  descriptors_at : descriptors_place p ≡ 0x140 + reloc_bytes_at file h
  descriptors_end : 0x140 + reloc_bytes_at file h + descriptor_bytes_at file h ≤ rodata_at file h
  rodata_place_is : rodata_place p ≡ rodata_at file h
  rodata : rodata_end p ≡ h.read_only.filesz
  code : code_place p ≡ h.code.offset
  code_from : h.read_only.filesz ≤ h.code.offset
  code_end_is : code_end p ≡ h.code.offset + h.code.filesz
  dynamic : dynamic_place p ≡ h.writable.offset
  dynamic_from : h.code.offset + h.code.filesz ≤ h.writable.offset
  dynamic_end_is : dynamic_end p ≡ h.writable.offset + h.dynamic.filesz
  filled : filled_place p ≡ h.writable.offset + h.dynamic.filesz
  file_ends : file_end p ≡ h.writable.offset + h.writable.filesz
  memory : memory_end p ≡ h.writable.offset + h.writable.memsz
  entries_size : h.dynamic.filesz % 16 ≡ 0

-- a page and whole granules behind it
pub granules_behind : (x y : ℕ) → y % 16 ≡ 0 → round16 (round_page x + y) ≡ round_page x + y
granules_behind x y whole = omega arith

pub rodata_place_eq : (p : Image) (n : ℕ) → descriptors_place p + length p.descriptors ≡ n → rodata_place p ≡ round16 n
unfolding rodata_place
rodata_place_eq p n e = ap round16 e

pub code_place_eq : (p : Image) (n : ℕ) → rodata_end p ≡ n → code_place p ≡ round_page n
unfolding code_place
code_place_eq p n e = ap round_page e

pub dynamic_place_eq : (p : Image) (n : ℕ) → code_end p ≡ n → dynamic_place p ≡ round_page n
unfolding dynamic_place
dynamic_place_eq p n e = ap round_page e

pub filled_place_eq : (p : Image) (n : ℕ) → dynamic_end p ≡ n → filled_place p ≡ round16 n
unfolding filled_place
filled_place_eq p n e = ap round16 e

record Sized (file : List ℕ) (h : Heads) (p : Image) : Type 0 where
  count : 16 * dynamic_count p.descriptors ≡ h.dynamic.filesz
  whole : h.dynamic.filesz % 16 ≡ 0

sized : (file : List ℕ) (h : Heads) (p : Image) → length p.descriptors ≡ descriptor_bytes_at file h → RightEntries file h → Sized file h p
sized file h p len (described size some are) = record {
  count = count_some p.descriptors (omega (arith, len, some)) ∙ sym size;
  whole = ap (λ (n : ℕ). n % 16) size;
}
sized file h p len (plain size none are) = record {
  count = count_none p.descriptors (len ∙ none) ∙ sym size;
  whole = ap (λ (n : ℕ). n % 16) size;
}

placed : (file : List ℕ) (h : Heads) → Right file h → Placed file h (image_at file h)
placed file h r =
    let p : Image = image_at file h in
    let o : InOrder p = in_order p in
    let phoff : h.header.phoff ≡ 64 = ap (λ e. e.phoff) r.heads.header in
    let first : h.read_only.offset ≡ 0 = ap (λ (q : Phdr). q.offset) r.heads.read_only in
    let code_at : h.code.offset ≡ round_page h.read_only.filesz = ap (λ (q : Phdr). q.offset) r.heads.code in
    let writable_at : h.writable.offset ≡ round_page (h.code.offset + h.code.filesz) = ap (λ (q : Phdr). q.offset) r.heads.writable in
    let dynamic_offset : h.dynamic.offset ≡ h.writable.offset = ap (λ (q : Phdr). q.offset) r.heads.dynamic in
    let sizes = r.sizes in
    let tables = r.tables in
    let covers = round16-covers (0x140 + reloc_bytes_at file h + descriptor_bytes_at file h) in
    let relocs : 24 * length p.relocs ≡ reloc_bytes_at file h =
    omega (arith, length-relocs_at (reloc_bytes_at file h / 24) 0x140 file, tables.relocs) in
    let words : 4 * length p.words ≡ h.code.filesz =
    omega (arith, length-words_at (h.code.filesz / 4) h.code.offset file, sizes.words) in
    let descriptors : length p.descriptors ≡ descriptor_bytes_at file h =
    length-part (descriptor_bytes_at file h) (0x140 + reloc_bytes_at file h) file
    (omega (arith, covers, tables.rodata_within, sizes.read_only_within, first)) in
    let rodata : length p.rodata ≡ h.read_only.filesz - rodata_at file h =
    length-part (h.read_only.filesz - rodata_at file h) (rodata_at file h) file
    (omega (arith, tables.rodata_within, sizes.read_only_within, first)) in
    let filled : length p.filled ≡ h.writable.filesz - h.dynamic.filesz =
    length-part (h.writable.filesz - h.dynamic.filesz) (h.writable.offset + h.dynamic.filesz) file
    (omega (arith, sizes.end, sizes.entries)) in
    let s : Sized file h p = sized file h p descriptors r.entries in
    let at_descriptors : descriptors_place p ≡ 0x140 + reloc_bytes_at file h = omega (arith, o.relocs, relocs) in
    let at_rodata : rodata_place p ≡ rodata_at file h =
    rodata_place_eq p (0x140 + reloc_bytes_at file h + descriptor_bytes_at file h) (omega (arith, at_descriptors, descriptors)) in
    let rodata_ends : rodata_end p ≡ h.read_only.filesz = omega (arith, o.rodata, at_rodata, rodata, tables.rodata_within) in
    let at_code : code_place p ≡ h.code.offset = code_place_eq p h.read_only.filesz rodata_ends ∙ sym code_at in
    let code_ends : code_end p ≡ h.code.offset + h.code.filesz = omega (arith, o.words, at_code, words) in
    let at_dynamic : dynamic_place p ≡ h.writable.offset = dynamic_place_eq p (h.code.offset + h.code.filesz) code_ends ∙ sym writable_at in
    let dynamic_ends : dynamic_end p ≡ h.writable.offset + h.dynamic.filesz = omega (arith, o.entries, at_dynamic, s.count) in
    let at_filled : filled_place p ≡ h.writable.offset + h.dynamic.filesz =
    filled_place_eq p (round_page (h.code.offset + h.code.filesz) + h.dynamic.filesz)
    (dynamic_ends ∙ ap (λ (n : ℕ). n + h.dynamic.filesz) writable_at)
    ∙ granules_behind (h.code.offset + h.code.filesz) h.dynamic.filesz s.whole
    ∙ ap (λ (n : ℕ). n + h.dynamic.filesz) (sym writable_at) in
    let file_ends : file_end p ≡ h.writable.offset + h.writable.filesz = omega (arith, o.file, at_filled, filled, sizes.entries) in
    record {
      phoff = phoff;
      first = first;
      dynamic_offset = dynamic_offset;
      relocs = relocs;
      descriptors = descriptors;
      words = words;
      count = s.count;
      descriptors_at = at_descriptors;
      descriptors_end = covers;
      rodata_place_is = at_rodata;
      rodata = rodata_ends;
      code = at_code;
      code_from = omega (arith, code_at, le-round_page h.read_only.filesz);
      code_end_is = code_ends;
      dynamic = at_dynamic;
      dynamic_from = omega (arith, writable_at, le-round_page (h.code.offset + h.code.filesz));
      dynamic_end_is = dynamic_ends;
      filled = at_filled;
      file_ends = file_ends;
      memory = omega (arith, o.memory, file_ends, sizes.more);
      entries_size = s.whole;
    }

valid : (file : List ℕ) (h : Heads) → Right file h → Placed file h (image_at file h) → IsValid (image_at file h)
valid file h r s =
    let o : InOrder (image_at file h) = in_order (image_at file h) in
    let sizes = r.sizes in
    record {
      filled = omega (arith, o.file, s.file_ends, s.filled, s.entries_size, sizes.granules, sizes.entries);
      zero_bytes = omega (arith, sizes.zeros, sizes.granules, sizes.more);
      memory = omega (arith, s.memory, sizes.limit);
    }

-- ---- what stands

zeros_stand : (file : List ℕ) → 0x140 ≤ length file → ((i : ℕ) → 0x120 ≤ i → i < 0x140 → get_or file i 0 ≡ 0)
    → StandsAt file 0x120 (replicate 25 0)
zeros_stand file long zero =
    ext_get_or 0 (take 25 (drop 0x120 file)) (replicate 25 0) (length-part 25 0x120 file (omega arith))
    (λ i within.
    let small : i < 25 = omega (arith, length-part 25 0x120 file (omega arith)) in
    get_or-take 25 (drop 0x120 file) i 0 small ∙ get_or-drop 0x120 file i 0 ∙ zero (0x120 + i) (omega arith) (omega arith)
    ∙ sym (get_or-replicate 25 i 0 0 small))

moved : (file : List ℕ) (a b : ℕ) (xs : List ℕ) → a ≡ b → StandsAt file b xs → StandsAt file a xs
moved file a b xs same = subst (λ (k : ℕ). StandsAt file k xs) (sym same)

part_stands : (file : List ℕ) (at : ℕ) (place : ℕ) (p : Phdr) → IsBytes file → at ≡ place → at + 56 ≤ length file → phdr_at at file ≡ p
    → StandsAt file place (bytes_of (phdr_fields p))
part_stands file at place p fits same within is =
    subst (λ (q : Phdr). StandsAt file place (bytes_of (phdr_fields q))) is
    (subst (λ (k : ℕ). StandsAt file k (bytes_of (phdr_fields (phdr_at at file)))) same (phdr_stands file at fits within))

entries_stand : (file : List ℕ) (h : Heads) → IsBytes file → Right file h → Placed file h (image_at file h) → RightEntries file h
    → StandsAt file h.writable.offset (entries_bytes (dynamic_entries (image_at file h)))
entries_stand file h fits r s (described size some are) =
    let p = image_at file h in
    let ds = tables_of (reloc_bytes_at file h) ++ described_of (reloc_bytes_at file h) (descriptor_bytes_at file h) in
    let sizes = r.sizes in
    let same : dynamic_entries p ≡ ds =
    all_some p (reloc_bytes_at file h) (descriptor_bytes_at file h) s.relocs s.descriptors_at s.descriptors some in
    let place : h.dynamic.offset + 16 * 0 ≡ h.writable.offset = omega (arith, s.dynamic_offset) in
    let taken : entries_bytes ds ≡ take 208 (drop (h.dynamic.offset + 16 * 0) file) =
    entries_taken ds h.dynamic.offset 0 file fits (omega (arith, sizes.end, sizes.entries, size, s.dynamic_offset)) are in
    stands_taken file h.writable.offset 208 (entries_bytes (dynamic_entries p)) (omega (arith, sizes.end, sizes.entries, size))
    (ap entries_bytes same ∙ taken ∙ ap (λ (k : ℕ). take 208 (drop k file)) place)
entries_stand file h fits r s (plain size none are) =
    let p = image_at file h in
    let ds = tables_of (reloc_bytes_at file h) ++ plain_of in
    let sizes = r.sizes in
    let same : dynamic_entries p ≡ ds = all_none p (reloc_bytes_at file h) s.relocs (s.descriptors ∙ none) in
    let place : h.dynamic.offset + 16 * 0 ≡ h.writable.offset = omega (arith, s.dynamic_offset) in
    let taken : entries_bytes ds ≡ take 176 (drop (h.dynamic.offset + 16 * 0) file) =
    entries_taken ds h.dynamic.offset 0 file fits (omega (arith, sizes.end, sizes.entries, size, s.dynamic_offset)) are in
    stands_taken file h.writable.offset 176 (entries_bytes (dynamic_entries p)) (omega (arith, sizes.end, sizes.entries, size))
    (ap entries_bytes same ∙ taken ∙ ap (λ (k : ℕ). take 176 (drop k file)) place)

-- every piece stands at its place
all_stand : (file : List ℕ) → IsBytes file → Right file (heads_at file) → AllStand file (pieces (image_at file (heads_at file)))
all_stand file fits r =
    let h = heads_at file in
    let p : Image = image_at file h in
    let s : Placed file h p = placed file h r in
    let heads_long : h.header.phoff + 224 ≤ length file = r.heads.headers in
    let sizes = r.sizes in
    let tables = r.tables in
    let o : InOrder p = in_order p in
    let head : StandsAt file 0 (bytes_of (ehdr_fields (header p))) =
    subst (λ e. StandsAt file 0 (bytes_of (ehdr_fields e))) r.heads.header (ehdr_stands file 0 fits (omega (arith, heads_long, s.phoff))) in
    let one : StandsAt file 64 (bytes_of (phdr_fields (read_only_part p))) =
    part_stands file h.header.phoff 64 (read_only_part p) fits s.phoff (omega (arith, heads_long))
    (r.heads.read_only ∙ ap (λ (n : ℕ). load 4 0 n n) (sym s.rodata)) in
    let second : StandsAt file 120 (bytes_of (phdr_fields (code_part p))) =
    part_stands file (h.header.phoff + 56) 120 (code_part p) fits (omega (arith, s.phoff)) (omega (arith, heads_long))
    (r.heads.code ∙ ap₂ (λ (a n : ℕ). load 5 a n n) (sym (code_place_eq p h.read_only.filesz s.rodata)) (sym s.words)) in
    let third : StandsAt file 176 (bytes_of (phdr_fields (writable_part p))) =
    let place : round_page (h.code.offset + h.code.filesz) ≡ dynamic_place p =
    sym (dynamic_place_eq p (h.code.offset + h.code.filesz) s.code_end_is) in
    let filesz : h.writable.filesz ≡ file_end p - dynamic_place p = omega (arith, s.file_ends, s.dynamic) in
    let memsz : h.writable.memsz ≡ memory_end p - dynamic_place p = omega (arith, s.memory, s.dynamic) in
    part_stands file (h.header.phoff + 112) 176 (writable_part p) fits (omega (arith, s.phoff)) (omega (arith, heads_long))
    (r.heads.writable ∙ (λ i. load 6 (place i) (filesz i) (memsz i))) in
    let fourth : StandsAt file 232 (bytes_of (phdr_fields (dynamic_part p))) =
    part_stands file (h.header.phoff + 168) 232 (dynamic_part p) fits (omega (arith, s.phoff)) (omega (arith, heads_long))
    (r.heads.dynamic ∙ ap₂ dynamic_at (sym s.dynamic) (sym s.count)) in
    let k = reloc_bytes_at file h / 24 in
    let whole : 24 * k ≡ reloc_bytes_at file h = omega (arith, tables.relocs) in
    let relocs : StandsAt file 0x140 (flat_map reloc_bytes p.relocs) =
    stands_taken file 0x140 (24 * k) (flat_map reloc_bytes p.relocs)
    (omega (arith, whole, tables.relocs_within, sizes.read_only_within, s.first))
    (relocs_taken k 0x140 file fits (omega (arith, whole, tables.relocs_within, sizes.read_only_within, s.first)) tables.relative) in
    let descriptors : StandsAt file (descriptors_place p) p.descriptors =
    moved file (descriptors_place p) (0x140 + reloc_bytes_at file h) p.descriptors s.descriptors_at
    (stands_taken file (0x140 + reloc_bytes_at file h) (descriptor_bytes_at file h) p.descriptors
    (omega (arith, s.descriptors_end, tables.rodata_within, sizes.read_only_within, s.first)) refl) in
    let rodata : StandsAt file (rodata_place p) p.rodata =
    moved file (rodata_place p) (rodata_at file h) p.rodata s.rodata_place_is
    (stands_taken file (rodata_at file h) (h.read_only.filesz - rodata_at file h) p.rodata
    (omega (arith, tables.rodata_within, sizes.read_only_within, s.first)) refl) in
    let n = h.code.filesz / 4 in
    let words : 4 * n ≡ h.code.filesz = omega (arith, sizes.words) in
    let code : StandsAt file (code_place p) (flat_map word_bytes p.words) =
    moved file (code_place p) h.code.offset (flat_map word_bytes p.words) s.code
    (stands_taken file h.code.offset (4 * n) (flat_map word_bytes p.words) (omega (arith, words, sizes.code_within))
    (words_taken n h.code.offset file fits (omega (arith, words, sizes.code_within)))) in
    let entries : StandsAt file (dynamic_place p) (entries_bytes (dynamic_entries p)) =
    moved file (dynamic_place p) h.writable.offset (entries_bytes (dynamic_entries p)) s.dynamic
    (entries_stand file h fits r s r.entries) in
    let filled : StandsAt file (filled_place p) p.filled =
    moved file (filled_place p) (h.writable.offset + h.dynamic.filesz) p.filled s.filled
    (stands_taken file (h.writable.offset + h.dynamic.filesz) (h.writable.filesz - h.dynamic.filesz) p.filled
    (omega (arith, sizes.end, sizes.entries)) refl) in
    let symbols = zeros_stand file (omega (arith, sizes.tables, sizes.read_only_within, s.first))
    (zero_there file 0x120 0x140 r.gaps.tables) in
    (head, (one, (second, (third, (fourth, (symbols, (relocs, (descriptors, (rodata, (code, (entries, (filled, tt))))))))))))

behind : (i place n : ℕ) → (i < place) ⊎ (place + n ≤ i) → place ≤ i → place + n ≤ i
behind i place n (inl lt) le = absurd (omega arith)
behind i place n (inr ge) le = ge

-- what no piece covers is zero
gaps : (file : List ℕ) → Right file (heads_at file) → (i : ℕ) → IsGap i (pieces (image_at file (heads_at file))) → get_or file i 0 ≡ 0
gaps file r i gap =
    let h = heads_at file in
    let p : Image = image_at file h in
    let s : Placed file h p = placed file h r in
    let sizes = r.sizes in
    let l0 = length-ehdr (header p) refl in
    let l1 = length-phdr (read_only_part p) in
    let l2 = length-phdr (code_part p) in
    let l3 = length-phdr (writable_part p) in
    let l4 = length-phdr (dynamic_part p) in
    let l6 = length-relocs p.relocs in
    let l9 = length-words p.words in
    let l10 = length-dynamic_entries p in
    let g5 = gap.1.1.1.1.1 in
    let a0 : 64 ≤ i = omega (arith, behind i 0 (length (bytes_of (ehdr_fields (header p)))) gap.0 (omega arith), l0) in
    let a1 : 120 ≤ i = omega (arith, behind i 64 (length (bytes_of (phdr_fields (read_only_part p)))) gap.1.0 a0, l1) in
    let a2 : 176 ≤ i = omega (arith, behind i 120 (length (bytes_of (phdr_fields (code_part p)))) gap.1.1.0 a1, l2) in
    let a3 : 232 ≤ i = omega (arith, behind i 176 (length (bytes_of (phdr_fields (writable_part p)))) gap.1.1.1.0 a2, l3) in
    let a4 : 0x120 ≤ i = omega (arith, behind i 232 (length (bytes_of (phdr_fields (dynamic_part p)))) gap.1.1.1.1.0 a3, l4) in
    elim g5.1.0 [
      | inl tables ↦ zero_there file 0x120 0x140 r.gaps.tables i a4 tables
      | inr relocs ↦
          let a6 : descriptors_place p ≤ i = omega (arith, relocs, l6, s.relocs, s.descriptors_at) in
          let a7 = behind i (descriptors_place p) (length p.descriptors) g5.1.1.0 a6 in
          elim g5.1.1.1.0 [
            | inl rodata ↦ zero_there file (0x140 + reloc_bytes_at file h + descriptor_bytes_at file h) (rodata_at file h) r.gaps.rodata i
                (omega (arith, a7, s.descriptors_at, s.descriptors)) (omega (arith, rodata, s.rodata_place_is))
            | inr behind_rodata ↦ elim g5.1.1.1.1.0 [
              | inl code ↦ zero_there file h.read_only.filesz h.code.offset r.gaps.code i
                  (omega (arith, behind_rodata, (in_order p).rodata, s.rodata)) (omega (arith, code, s.code))
              | inr behind_code ↦ elim g5.1.1.1.1.1.0 [
                | inl writable ↦ zero_there file (h.code.offset + h.code.filesz) h.writable.offset r.gaps.writable i
                    (omega (arith, behind_code, l9, s.words, s.code)) (omega (arith, writable, s.dynamic))
                | inr behind_entries ↦
                    let a10 : filled_place p ≤ i = omega (arith, behind_entries, l10, s.count, s.dynamic, s.filled) in
                    let a11 = behind i (filled_place p) (length p.filled) g5.1.1.1.1.1.1.0 a10 in
                    get_or_past file i 0 (omega (arith, a11, (in_order p).file, s.file_ends, sizes.end))
              ]
            ]
          ]
    ]

-- a file without a fault is that of the image that its headers say
pub read_back : (file : List ℕ) → IsBytes file → fault_of file ≡ no_fault → IsFileOf (image_at file (heads_at file)) file
read_back file fits none =
    let h = heads_at file in
    let r : Right file h = right file none in
    let s : Placed file h (image_at file h) = placed file h r in
    let entry : h.header.entry < 2 ^ 64 = number_fits 8 24 file fits in
    record {
      is_file = record {
        valid = valid file h r s;
        laid_out = record { len = r.sizes.end ∙ sym s.file_ends; stand = all_stand file fits r; gaps = gaps file r };
      };
      ranges = record {
        entry = entry;
        relocs = relocs_fit (reloc_bytes_at file h / 24) 0x140 file fits;
        words = words_fit (h.code.filesz / 4) h.code.offset file fits;
      };
    }
