-- A file has one list of parts.
use Rattle.std.proofs.Common.{◌≡◌, ℕ, ◌-◌, ◌*◌, ◌^◌, ◌<◌, ◌≤◌, List, [], ◌∷◌, ◌++◌, length, take, drop, refl, sym, ap, ◌∙◌, arith, rules}
use Rattle.std.proofs.Common.{take_at, drop_at}
use Rattle.std.specs.Prelude.{FitsSigned}
use Rattle.std.specs.List.{AllByRecursion, flat_map}
use Rattle.std.specs.Int.{w64}
use Rattle.mt_base.specs.Granules.{round16}
use Rattle.elf_base.specs.declared.header.Ehdr.{Ehdr}
use Rattle.elf_base.specs.declared.segment.Phdr.{Phdr}
use Rattle.elf_base.specs.declared.dynamic.Dyn.{Dyn}
use Rattle.elf_base.specs.Field.{Field, number, signed, bytes_of, FieldsFit, StandsAt}
use Rattle.elf_base.specs.Layout.{word_bytes}
use Rattle.elf_base.specs.Records.{ehdr_fields, phdr_fields, dyn_fields}
use Rattle.elf_base.specs.Laws.Lengths.{length-ehdr, length-phdr, length-word_bytes, length-words}
use Rattle.elf_base.specs.Laws.Reads.{fields_like, fields_like-bytes_of}
use Rattle.elf_image.specs.declared.parts.RelativeReloc.{RelativeReloc}
use Rattle.elf_image.specs.Image.{Image}
use Rattle.elf_image.specs.Places.{IsValid, dynamic_count, descriptors_place, rodata_place, rodata_end, code_place, dynamic_place}
use Rattle.elf_image.specs.Places.{dynamic_end, filled_place, file_end, memory_end}
use Rattle.elf_image.specs.Pieces.{header, read_only_part, code_part, writable_part, dynamic_part, reloc_bytes}
use Rattle.elf_image.specs.Records.{load, dynamic_at, entry}
use Rattle.elf_image.specs.Pieces.{descriptor_entries, dyn_bytes, entries_bytes, dynamic_entries}
use Rattle.elf_image.specs.Ranges.{RelocFits, IsFileOf}
use Rattle.elf_image.specs.Laws.Order.{InOrder, in_order, Within, within}
use Rattle.elf_image.specs.Laws.Entries.{length-dyn_bytes, length-entries_bytes, length-dynamic_entries}
use Rattle.elf_image.specs.Laws.Whole.{length-reloc_bytes, length-relocs}

-- bytes that stand at one place, as many of each
stands_once : (file : List ℕ) (a b : ℕ) (xs ys : List ℕ) → StandsAt file a xs → StandsAt file b ys → a ≡ b → length xs ≡ length ys → xs ≡ ys
stands_once file a b xs ys h g place len =
    sym h ∙ ap (λ (k : ℕ). take k (drop a file)) len ∙ ap (λ (k : ℕ). take (length ys) (drop k file)) place ∙ g

-- records with the same bytes, and fields of the same widths, have the same fields
same_fields : (fs gs : List Field) → FieldsFit fs → FieldsFit gs → bytes_of fs ≡ bytes_of gs
    → fields_like fs 0 (bytes_of gs) ≡ fields_like gs 0 (bytes_of gs) → fs ≡ gs
same_fields fs gs fit other same like =
    sym (fields_like-bytes_of fs 0 [] fit refl) ∙ ap (fields_like fs 0) same ∙ like ∙ fields_like-bytes_of gs 0 [] other refl

-- what a segment says
record Segment (p q : Phdr) : Type 0 where
  offset : p.offset ≡ q.offset
  filesz : p.filesz ≡ q.filesz
  memsz : p.memsz ≡ q.memsz

segment : (file : List ℕ) (at : ℕ) (p q : Phdr) → FieldsFit (phdr_fields p) → FieldsFit (phdr_fields q)
    → StandsAt file at (bytes_of (phdr_fields p)) → StandsAt file at (bytes_of (phdr_fields q)) → Segment p q
segment file at p q fit other h g =
    let bytes = stands_once file at at (bytes_of (phdr_fields p)) (bytes_of (phdr_fields q)) h g refl (length-phdr p ∙ sym
    (length-phdr q)) in
    let same : phdr_fields p ≡ phdr_fields q = same_fields (phdr_fields p) (phdr_fields q) fit other bytes refl in
    record { offset = cc; filesz = cc; memsz = cc }

entry_is : (file : List ℕ) (h g : Ehdr) → length h.ident ≡ 16 → length g.ident ≡ 16 → FieldsFit (ehdr_fields h) → FieldsFit (ehdr_fields g)
    → StandsAt file 0 (bytes_of (ehdr_fields h)) → StandsAt file 0 (bytes_of (ehdr_fields g)) → h.entry ≡ g.entry
entry_is file h g ih ig fit other a b =
    let bytes = stands_once file 0 0 (bytes_of (ehdr_fields h)) (bytes_of (ehdr_fields g)) a b refl (length-ehdr h ih ∙ sym
    (length-ehdr g ig)) in
    let same : ehdr_fields h ≡ ehdr_fields g = same_fields (ehdr_fields h) (ehdr_fields g) fit other bytes refl in
    cc

-- ---- lists of records

word_is : (w v : ℕ) → w < 2 ^ 32 → v < 2 ^ 32 → word_bytes w ≡ word_bytes v → w ≡ v
word_is w v fit other same =
    let fields : (number 4 w ∷ []) ≡ (number 4 v ∷ []) = same_fields (number 4 w ∷ []) (number 4 v ∷ []) (fit, tt) (other, tt) same refl in
    cc

front_is : (a b xs ys : List ℕ) → length a ≡ length b → a ++ xs ≡ b ++ ys → a ≡ b
front_is a b xs ys len same = sym (take_at a xs (length a) refl) ∙ ap (take (length a)) same ∙ take_at b ys (length a) (sym len)

back_is : (a b xs ys : List ℕ) → length a ≡ length b → a ++ xs ≡ b ++ ys → xs ≡ ys
back_is a b xs ys len same = sym (drop_at a xs (length a) refl) ∙ ap (drop (length a)) same ∙ drop_at b ys (length a) (sym len)

words_are : (ws vs : List ℕ) → AllByRecursion (λ w. w < 2 ^ 32) ws → AllByRecursion (λ w. w < 2 ^ 32) vs → length ws ≡ length vs
    → flat_map word_bytes ws ≡ flat_map word_bytes vs → ws ≡ vs
words_are [] [] fit other len same = refl
words_are [] (v ∷ vs) fit other len same = absurd (omega arith)
words_are (w ∷ ws) [] fit other len same = absurd (omega arith)
words_are (w ∷ ws) (v ∷ vs) fit other len same =
    let one = length-word_bytes w ∙ sym (length-word_bytes v) in
    let first = word_is w v fit.0 other.0 (front_is (word_bytes w) (word_bytes v) (flat_map word_bytes ws)
    (flat_map word_bytes vs) one same) in
    let rest = back_is (word_bytes w) (word_bytes v) (flat_map word_bytes ws) (flat_map word_bytes vs) one same in
    ap (λ (k : ℕ). k ∷ ws) first ∙ ap (λ (l : List ℕ). v ∷ l) (words_are ws vs fit.1 other.1 (omega arith) rest)

reloc_is : (r s : RelativeReloc) → RelocFits r → RelocFits s → reloc_bytes r ≡ reloc_bytes s → r ≡ s
reloc_is r s fit other same =
    let fields : (number 8 r.place ∷ number 8 1027 ∷ signed r.addend ∷ []) ≡ (number 8 s.place ∷ number 8 1027 ∷ signed s.addend ∷ []) =
    same_fields (number 8 r.place ∷ number 8 1027 ∷ signed r.addend ∷ []) (number 8 s.place ∷ number 8 1027 ∷ signed s.addend ∷ [])
    (fit.place, (omega arith, (fit.addend, tt))) (other.place, (omega arith, (other.addend, tt))) same refl in
    let place : r.place ≡ s.place = cc in
    let addend : r.addend ≡ s.addend = cc in
    λ i. record { place = place i; addend = addend i }

relocs_are : (rs ss : List RelativeReloc) → AllByRecursion RelocFits rs → AllByRecursion RelocFits ss → length rs ≡ length ss
    → flat_map reloc_bytes rs ≡ flat_map reloc_bytes ss → rs ≡ ss
relocs_are [] [] fit other len same = refl
relocs_are [] (s ∷ ss) fit other len same = absurd (omega arith)
relocs_are (r ∷ rs) [] fit other len same = absurd (omega arith)
relocs_are (r ∷ rs) (s ∷ ss) fit other len same =
    let one = length-reloc_bytes r ∙ sym (length-reloc_bytes s) in
    let first = reloc_is r s fit.0 other.0 (front_is (reloc_bytes r) (reloc_bytes s) (flat_map reloc_bytes rs)
    (flat_map reloc_bytes ss) one same) in
    let rest = back_is (reloc_bytes r) (reloc_bytes s) (flat_map reloc_bytes rs) (flat_map reloc_bytes ss) one same in
    ap (λ (k : RelativeReloc). k ∷ rs) first ∙ ap (λ (l : List RelativeReloc). s ∷ l) (relocs_are rs ss fit.1 other.1 (omega arith) rest)

-- ---- the dynamic entries

-- the tag and the value of an entry fit
pub record EntryFits (d : Dyn) : Type 0 where
  pub tag : FitsSigned w64 d.tag
  pub value : d.value < 2 ^ 64

dyn_is : (d e : Dyn) → EntryFits d → EntryFits e → dyn_bytes d ≡ dyn_bytes e → d ≡ e
unfolding dyn_bytes
dyn_is d e fit other same =
    let fields : dyn_fields d ≡ dyn_fields e =
    same_fields (dyn_fields d) (dyn_fields e) (fit.tag, (fit.value, tt)) (other.tag, (other.value, tt)) same refl in
    let tag : d.tag ≡ e.tag = cc in
    let value : d.value ≡ e.value = cc in
    λ i. record { tag = tag i; value = value i }

entries_are : (ds es : List Dyn) → AllByRecursion EntryFits ds → AllByRecursion EntryFits es → length ds ≡ length es
    → entries_bytes ds ≡ entries_bytes es → ds ≡ es
unfolding entries_bytes
entries_are [] [] fit other len same = refl
entries_are [] (e ∷ es) fit other len same = absurd (omega arith)
entries_are (d ∷ ds) [] fit other len same = absurd (omega arith)
entries_are (d ∷ ds) (e ∷ es) fit other len same =
    let one = length-dyn_bytes d ∙ sym (length-dyn_bytes e) in
    let first = dyn_is d e fit.0 other.0 (front_is (dyn_bytes d) (dyn_bytes e) (flat_map dyn_bytes ds) (flat_map dyn_bytes es) one same) in
    let rest = back_is (dyn_bytes d) (dyn_bytes e) (flat_map dyn_bytes ds) (flat_map dyn_bytes es) one same in
    ap (λ (k : Dyn). k ∷ ds) first ∙ ap (λ (l : List Dyn). e ∷ l) (entries_are ds es fit.1 other.1 (omega arith) rest)

entry_fits : (tag value : ℕ) → tag < 2 ^ 31 → value < 2 ^ 64 → EntryFits (entry tag value)
entry_fits tag value low fits = record { tag = search rules; value = fits }

-- those of the descriptors, and the last one
last_fit : (place : ℕ) (ds : List ℕ) → place < 2 ^ 64 → length ds < 2 ^ 64 → AllByRecursion EntryFits
    (descriptor_entries place ds ++ entry 0 0 ∷ [])
last_fit place [] low few = (entry_fits 0 0 (omega arith) (omega arith), tt)
last_fit place (d ∷ ds) low few = (
  entry_fits 0x7000000d place (omega arith) low,
  (
    entry_fits 0x7000000f (length (d ∷ ds)) (omega arith) few,
    (
      entry_fits 0 0
          (omega arith) (omega arith),
      tt,
    ),
  ),
)

pub entries_fit : (p : Image) → IsValid p → AllByRecursion EntryFits (dynamic_entries p)
entries_fit p valid =
    let w : Within p = within p valid in
    let relocs : 24 * length p.relocs < 2 ^ 64 = omega arith in
    let e = λ (tag value : ℕ). entry_fits tag value in (
      entry_fits 5 0x138 (omega arith) (omega arith),
      (
        entry_fits 6 0x120 (omega arith) (omega arith),
        (
          entry_fits 10 1 (omega arith)
              (omega arith),
          (
            entry_fits 11 24 (omega arith) (omega arith),
            (
              entry_fits 7 0x140 (omega arith) (omega arith),
              (
                entry_fits 8
                    (24 * length p.relocs) (omega arith) relocs,
                (
                  entry_fits 9 24 (omega arith) (omega arith),
                  (
                    entry_fits 0x70000009 0 (omega arith) (omega arith),
                    (
                      entry_fits 0x7000000b 0
                          (omega arith) (omega arith),
                      (
                        entry_fits 0x7000000c 1 (omega arith) (omega arith),
                        last_fit (descriptors_place p) p.descriptors (omega arith) (omega arith),
                      ),
                    ),
                  ),
                ),
              ),
            ),
          ),
        ),
      ),
    )

-- how many descriptor bytes the last entries say there are
described : (a b : ℕ) (ds es : List ℕ) → dynamic_count ds ≡ dynamic_count es → (descriptor_entries a ds ++ entry 0 0 ∷ []) ≡
    (descriptor_entries b es ++ entry 0 0 ∷ [])
    → length ds ≡ length es
described a b [] [] count same = refl
described a b [] (e ∷ es) count same = absurd (omega arith)
described a b (d ∷ ds) [] count same = absurd (omega arith)
described a b (d ∷ ds) (e ∷ es) count same =
    let second : entry 0x7000000f (length (d ∷ ds)) ≡ entry 0x7000000f (length (e ∷ es)) = cc in
    ap (λ (x : Dyn). x.value) second

-- how many bytes the entries say there are: of relocations and of descriptors
record Sizes (p q : Image) : Type 0 where
  relocs : 24 * length p.relocs ≡ 24 * length q.relocs
  descriptors : length p.descriptors ≡ length q.descriptors

sizes : (p q : Image) → dynamic_count p.descriptors ≡ dynamic_count q.descriptors → dynamic_entries p ≡ dynamic_entries q → Sizes p q
sizes p q count same =
    let sixth : entry 8 (24 * length p.relocs) ≡ entry 8 (24 * length q.relocs) = cc in
    let last : (descriptor_entries (descriptors_place p) p.descriptors ++ entry 0 0 ∷ []) ≡ (descriptor_entries
    (descriptors_place q) q.descriptors ++ entry 0 0 ∷ []) = cc in
    record {
      relocs = ap (λ (x : Dyn). x.value) sixth;
      descriptors = described (descriptors_place p)
          (descriptors_place q) p.descriptors q.descriptors count last;
    }

-- ---- the whole

-- the numbers of the program headers and of the header fit
pub header_fits : (p : Image) → p.entry < 2 ^ 64 → FieldsFit (ehdr_fields (header p))
header_fits p entry_low = (
  refl,
  (
    omega arith,
    (
      omega arith,
      (
        omega arith,
        (
          omega arith,
          (
            omega arith,
            (
              omega arith,
              (
                omega arith,
                (
                  omega arith,
                  (
                    omega arith,
                    (
                      omega arith,
                      (omega arith, (omega arith, (omega arith, tt))),
                    ),
                  ),
                ),
              ),
            ),
          ),
        ),
      ),
    ),
  ),
)

pub load_fits : (flags place filesz memsz : ℕ) → flags < 8 → place < 2 ^ 64 → filesz < 2 ^ 64 → memsz < 2 ^ 64 → FieldsFit (phdr_fields
    (load flags place filesz memsz))
load_fits flags place filesz memsz a b c d =
    (omega arith, (omega arith, (omega arith, (omega arith, (omega arith, (omega arith, (omega arith, (omega arith, tt))))))))

pub dynamic_fits : (place bytes : ℕ) → place < 2 ^ 64 → bytes < 2 ^ 64 → FieldsFit (phdr_fields (dynamic_at place bytes))
dynamic_fits place bytes a b =
    (omega arith, (omega arith, (omega arith, (omega arith, (omega arith, (omega arith, (omega arith, (omega arith, tt))))))))

-- what the headers of one file say of two images
record Headed (p q : Image) : Type 0 where
  entry_is : p.entry ≡ q.entry
  rodata : rodata_end p ≡ rodata_end q
  code : code_place p ≡ code_place q
  words : 4 * length p.words ≡ 4 * length q.words
  dynamic : dynamic_place p ≡ dynamic_place q
  filesz : file_end p - dynamic_place p ≡ file_end q - dynamic_place q
  memsz : memory_end p - dynamic_place p ≡ memory_end q - dynamic_place q
  entries : 16 * dynamic_count p.descriptors ≡ 16 * dynamic_count q.descriptors

headed : (file : List ℕ) (p q : Image) → IsFileOf p file → IsFileOf q file → Headed p q
headed file p q a b =
    let w : Within p = within p a.is_file.valid in
    let v : Within q = within q b.is_file.valid in
    let o : InOrder p = in_order p in
    let n : InOrder q = in_order q in
    let sp = a.is_file.laid_out.stand in
    let sq = b.is_file.laid_out.stand in
    let one = segment file 64 (read_only_part p) (read_only_part q) (load_fits 4 0 (rodata_end p) (rodata_end p) (omega arith)
    (omega arith) (omega arith) (omega arith))
    (load_fits 4 0 (rodata_end q) (rodata_end q) (omega arith) (omega arith) (omega arith) (omega arith)) sp.1.0 sq.1.0 in
    let two = segment file 120 (code_part p) (code_part q) (load_fits 5 (code_place p) (4 * length p.words) (4 * length p.words)
    (omega arith) (omega arith) (omega arith) (omega arith))
    (load_fits 5 (code_place q) (4 * length q.words) (4 * length q.words) (omega arith) (omega arith) (omega arith)
    (omega arith)) sp.1.1.0 sq.1.1.0 in
    let three = segment file 176 (writable_part p) (writable_part q)
    (load_fits 6 (dynamic_place p) (file_end p - dynamic_place p) (memory_end p - dynamic_place p) (omega arith) (omega arith)
    (omega arith) (omega arith))
    (load_fits 6 (dynamic_place q) (file_end q - dynamic_place q) (memory_end q - dynamic_place q) (omega arith) (omega arith)
    (omega arith) (omega arith)) sp.1.1.1.0 sq.1.1.1.0 in
    let four = segment file 232 (dynamic_part p) (dynamic_part q) (dynamic_fits (dynamic_place p) (16 * dynamic_count p.descriptors)
    (omega arith) (omega arith))
    (dynamic_fits (dynamic_place q) (16 * dynamic_count q.descriptors) (omega arith) (omega arith)) sp.1.1.1.1.0 sq.1.1.1.1.0 in
    record {
      entry_is = entry_is file (header p) (header q) refl refl (header_fits p a.ranges.entry) (header_fits q b.ranges.entry) sp.0 sq.0;
      rodata = one.filesz;
      code = two.offset;
      words = two.filesz;
      dynamic = three.offset;
      filesz = three.filesz;
      memsz = three.memsz;
      entries = four.filesz;
    }

-- the parts of one file are the same
record SameParts (p q : Image) : Type 0 where
  entry_is : p.entry ≡ q.entry
  relocs : p.relocs ≡ q.relocs
  descriptors : p.descriptors ≡ q.descriptors
  rodata : p.rodata ≡ q.rodata
  words : p.words ≡ q.words
  filled : p.filled ≡ q.filled
  zero_bytes : p.zero_bytes ≡ q.zero_bytes

rodata_place_is : (p q : Image) → descriptors_place p ≡ descriptors_place q → length p.descriptors ≡ length q.descriptors →
    rodata_place p ≡ rodata_place q
unfolding rodata_place
rodata_place_is p q place len = ap round16 (omega arith)

filled_place_is : (p q : Image) → dynamic_end p ≡ dynamic_end q → filled_place p ≡ filled_place q
unfolding filled_place
filled_place_is p q same = ap round16 same

same_parts : (file : List ℕ) (p q : Image) → IsFileOf p file → IsFileOf q file → SameParts p q
same_parts file p q a b =
    let h : Headed p q = headed file p q a b in
    let o : InOrder p = in_order p in
    let n : InOrder q = in_order q in
    let sp = a.is_file.laid_out.stand in
    let sq = b.is_file.laid_out.stand in
    let count : dynamic_count p.descriptors ≡ dynamic_count q.descriptors = omega (arith, h.entries) in
    let lengths : length (entries_bytes (dynamic_entries p)) ≡ length (entries_bytes (dynamic_entries q)) =
    length-dynamic_entries p ∙ h.entries ∙ sym (length-dynamic_entries q) in
    let bytes = stands_once file (dynamic_place p) (dynamic_place q) (entries_bytes (dynamic_entries p)) (entries_bytes (dynamic_entries q))
    sp.1.1.1.1.1.1.1.1.1.1.0 sq.1.1.1.1.1.1.1.1.1.1.0 h.dynamic lengths in
    let as_many : length (dynamic_entries p) ≡ length (dynamic_entries q) =
    omega (arith, lengths, length-entries_bytes (dynamic_entries p), length-entries_bytes (dynamic_entries q)) in
    let entries = entries_are (dynamic_entries p) (dynamic_entries q) (entries_fit p a.is_file.valid)
    (entries_fit q b.is_file.valid) as_many bytes in
    let s : Sizes p q = sizes p q count entries in
    let relocs : length p.relocs ≡ length q.relocs = omega (arith, s.relocs) in
    let place : descriptors_place p ≡ descriptors_place q = omega arith in
    let rodata : rodata_place p ≡ rodata_place q = rodata_place_is p q place s.descriptors in
    let ends : dynamic_end p ≡ dynamic_end q = omega arith in
    let filled : filled_place p ≡ filled_place q = filled_place_is p q ends in
    let file_ends : file_end p ≡ file_end q = sym a.is_file.laid_out.len ∙ b.is_file.laid_out.len in
    let below_p : dynamic_place p ≤ memory_end p = omega arith in
    let below_q : dynamic_place q ≤ memory_end q = omega arith in
    let reloc_bytes_are = stands_once file 0x140 0x140 (flat_map reloc_bytes p.relocs)
    (flat_map reloc_bytes q.relocs) sp.1.1.1.1.1.1.0 sq.1.1.1.1.1.1.0 refl
    (omega (arith, length-relocs p.relocs, length-relocs q.relocs)) in
    let code_bytes = stands_once file (code_place p) (code_place q) (flat_map word_bytes p.words) (flat_map word_bytes q.words)
    sp.1.1.1.1.1.1.1.1.1.0 sq.1.1.1.1.1.1.1.1.1.0 h.code (length-words p.words ∙ h.words ∙ sym (length-words q.words)) in
    record {
      entry_is = h.entry_is;
      relocs = relocs_are p.relocs q.relocs a.ranges.relocs b.ranges.relocs relocs reloc_bytes_are;
      descriptors = stands_once file (descriptors_place p)
          (descriptors_place q) p.descriptors q.descriptors sp.1.1.1.1.1.1.1.0 sq.1.1.1.1.1.1.1.0 place s.descriptors;
      rodata = stands_once file (rodata_place p) (rodata_place q) p.rodata q.rodata sp.1.1.1.1.1.1.1.1.0 sq.1.1.1.1.1.1.1.1.0 rodata
          (omega (arith, h.rodata));
      words = words_are p.words q.words a.ranges.words b.ranges.words (omega (arith, h.words)) code_bytes;
      filled = stands_once file (filled_place p)
          (filled_place q) p.filled q.filled sp.1.1.1.1.1.1.1.1.1.1.1.0 sq.1.1.1.1.1.1.1.1.1.1.1.0 filled (omega arith);
      zero_bytes = omega (arith, h.memsz, h.dynamic);
    }

-- two images with one file are equal
pub one_image : (p q : Image) (file : List ℕ) → IsFileOf p file → IsFileOf q file → p ≡ q
one_image p q file a b =
    let s : SameParts p q = same_parts file p q a b in
    λ i. record {
      entry = s.entry_is i;
      relocs = s.relocs i;
      descriptors = s.descriptors i;
      rodata = s.rodata i;
      words = s.words i;
      filled = s.filled i;
      zero_bytes = s.zero_bytes i;
    }
