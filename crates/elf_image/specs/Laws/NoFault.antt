-- The file of an image has no fault.
use Rattle.std.proofs.Common.{◌≡◌, ℕ, ◌+◌, ◌-◌, ◌*◌, ◌/◌, ◌%◌, ◌≤◌, ◌<◌, List, [], ◌∷◌, ◌++◌, length, take, drop, get_or, replicate, refl}
use Rattle.std.proofs.Common.{sym, ap, ◌∙◌, subst, inl, inr, arith, append_assoc}
use Rattle.std.proofs.lemmas.Bool.{cases_lt}
use Rattle.std.proofs.lemmas.List.{get_or-replicate}
use Rattle.std.specs.Prelude.{◌==◌, true, if◌then◌else◌}
use Rattle.std.specs.List.{flat_map}
use Rattle.mt_base.specs.Granules.{round16}
use Rattle.elf_base.specs.declared.header.Ehdr.{Ehdr}
use Rattle.elf_base.specs.declared.segment.Phdr.{Phdr}
use Rattle.elf_base.specs.declared.dynamic.Dyn.{Dyn}
use Rattle.elf_base.specs.Field.{raw, number, field_bytes, bytes_of, StandsAt}
use Rattle.elf_base.specs.Layout.{Piece, piece, AllStand, IsGap, word_bytes}
use Rattle.elf_base.specs.Records.{ehdr_fields, phdr_fields, identification}
use Rattle.elf_base.specs.Standing.{ehdr_at, phdr_at}
use Rattle.elf_base.specs.Laws.LaidOut.{AreInOrder}
use Rattle.elf_base.specs.Laws.OneLayout.{byte_of}
use Rattle.elf_base.specs.Laws.RecordsStand.{begins_there, ehdr_again, phdr_again}
use Rattle.elf_base.specs.Conditions.{first_fault}
use Rattle.elf_base.specs.Laws.Zeros.{zero_between}
use Rattle.elf_base.specs.Laws.Conditions.{none_fails}
use Rattle.elf_base.specs.Laws.Lengths.{length-words}
use Rattle.elf_image.specs.declared.heads.Heads.{Heads}
use Rattle.elf_image.specs.Image.{Image}
use Rattle.elf_image.specs.Ranges.{IsFileOf}
use Rattle.elf_image.specs.Heads.{heads_of, heads_at, entry_at, reloc_bytes_at, descriptor_bytes_at}
use Rattle.elf_image.specs.Places.{IsValid, round_page, dynamic_count, descriptors_place, rodata_place, rodata_end, code_place, code_end}
use Rattle.elf_image.specs.Places.{dynamic_place, dynamic_end, filled_place, file_end, memory_end}
use Rattle.elf_image.specs.Records.{header_with, load, dynamic_at}
use Rattle.elf_image.specs.Pieces.{header, read_only_part, code_part, writable_part, dynamic_part}
use Rattle.elf_image.specs.Pieces.{entries_bytes, dynamic_entries, reloc_bytes, header_pieces, table_pieces, loaded_pieces, pieces}
use Rattle.elf_image.specs.Faults.{agrees, are_relative, conditions, fault_of, no_fault}
use Rattle.elf_image.specs.Laws.Entries.{length-dynamic_entries}
use Rattle.elf_image.specs.Laws.Gaps.{gap_between, in_order_front}
use Rattle.elf_image.specs.Laws.Holds.{holds}
use Rattle.elf_image.specs.Laws.Items.{AreEntries, entries_again, relocs_relative}
use Rattle.elf_image.specs.Laws.OneImage.{header_fits, load_fits, dynamic_fits, entries_fit}
use Rattle.elf_image.specs.Laws.Order.{InOrder, in_order, Within, within}
use Rattle.elf_image.specs.Laws.ReadBack.{count_some, count_none, all_some, all_none, code_place_eq, dynamic_place_eq, filled_place_eq}
use Rattle.elf_image.specs.Laws.ReadBack.{rodata_place_eq, granules_behind}
use Rattle.elf_image.specs.Laws.Right.{Right, RightHeads, RightSizes, RightTables, RightGaps, RightEntries, described, plain, rodata_at}
use Rattle.elf_image.specs.Laws.Right.{tables_of, described_of, plain_of}
use Rattle.elf_image.specs.Laws.Tests.{agrees_front}
use Rattle.elf_image.specs.Laws.Whole.{length-relocs, pieces_in_order}

-- what the headers of an image's file say
abbrev pub heads_from : Image → Heads
heads_from p = record {
  header = header p;
  read_only = read_only_part p;
  code = code_part p;
  writable = writable_part p;
  dynamic = dynamic_part p;
}

heads_are : (p : Image) (file : List ℕ) → IsFileOf p file → heads_at file ≡ heads_from p
heads_are p file f =
    let w : Within p = within p f.is_file.valid in
    let o : InOrder p = in_order p in
    let all = f.is_file.laid_out.stand in
    let e : ehdr_at 0 file ≡ header p = ehdr_again file 0 (header p) (header_fits p f.ranges.entry) all.0 in
    let one : phdr_at 64 file ≡ read_only_part p =
    phdr_again file 64 (read_only_part p) (load_fits 4 0 (rodata_end p) (rodata_end p) (omega arith) (omega arith) (omega arith)
    (omega arith)) all.1.0 in
    let two : phdr_at 120 file ≡ code_part p =
    phdr_again file 120 (code_part p) (load_fits 5 (code_place p) (4 * length p.words) (4 * length p.words) (omega arith) (omega arith)
    (omega arith) (omega arith)) all.1.1.0 in
    let three : phdr_at 176 file ≡ writable_part p =
    phdr_again file 176 (writable_part p) (load_fits 6 (dynamic_place p) (file_end p - dynamic_place p) (memory_end p - dynamic_place p)
    (omega arith) (omega arith) (omega arith) (omega arith)) all.1.1.1.0 in
    let four : phdr_at 232 file ≡ dynamic_part p =
    phdr_again file 232 (dynamic_part p) (dynamic_fits (dynamic_place p) (16 * dynamic_count p.descriptors) (omega arith) (omega arith))
    all.1.1.1.1.0 in
    ap (λ (h : Ehdr). heads_of h file) e
    ∙ (λ i. record { header = header p; read_only = one i; code = two i; writable = three i; dynamic = four i })

-- ---- the gaps are zero

gap_zero : (p : Image) (file : List ℕ) → IsFileOf p file → (i : ℕ) → IsGap i (pieces p) → get_or file i 0 ≡ 0
gap_zero p file f i gap = f.is_file.laid_out.gaps i gap

-- the pieces up to the relocations, and those up to the read-only data
abbrev to_symbols : Image → List Piece
to_symbols p = header_pieces p ++ piece 0x120 (replicate 25 0) ∷ []

abbrev to_descriptors : Image → List Piece
to_descriptors p =
    header_pieces p ++ piece 0x120 (replicate 25 0) ∷ piece 0x140 (flat_map reloc_bytes p.relocs) ∷ piece
    (descriptors_place p) p.descriptors ∷ []

abbrev to_rodata : Image → List Piece
to_rodata p = header_pieces p ++ table_pieces p

abbrev to_code : Image → List Piece
to_code p = header_pieces p ++ table_pieces p ++ piece (code_place p) (flat_map word_bytes p.words) ∷ []

module _ (p : Image) (file : List ℕ) (f : IsFileOf p file) where
  order : AreInOrder 0 (pieces p)
  order = pieces_in_order p

  o : InOrder p
  o = in_order p

  symbols_zero : (i : ℕ) → 0x120 ≤ i → i < 0x140 → get_or file i 0 ≡ 0
  symbols_zero i low high = elim (cases_lt i 0x139) [
    | inl symbol ↦
        let all = f.is_file.laid_out.stand in
        byte_of file 0x120 (replicate 25 0) i all.1.1.1.1.1.0 low (omega arith)
        ∙ get_or-replicate 25 (i - 0x120) 0 0 (omega arith)
    | inr behind ↦
        let back = piece (descriptors_place p) p.descriptors ∷ piece (rodata_place p) p.rodata ∷ loaded_pieces p in
        let relocs = piece 0x140 (flat_map reloc_bytes p.relocs) in
        gap_zero p file f i (gap_between (to_symbols p) relocs back 0 i order (in_order_front (to_symbols p) (relocs ∷ back) 0 order)
        (omega arith) high)
  ]

  rodata_zero : (i : ℕ) → descriptors_place p + length p.descriptors ≤ i → i < rodata_place p → get_or file i 0 ≡ 0
  rodata_zero i low high =
      let rodata = piece (rodata_place p) p.rodata in
      gap_zero p file f i (gap_between (to_descriptors p) rodata (loaded_pieces p) 0 i order
      (in_order_front (to_descriptors p) (rodata ∷ loaded_pieces p) 0 order) low high)

  code_zero : (i : ℕ) → rodata_end p ≤ i → i < code_place p → get_or file i 0 ≡ 0
  code_zero i low high =
      let code = piece (code_place p) (flat_map word_bytes p.words) in
      let back = piece (dynamic_place p) (entries_bytes (dynamic_entries p)) ∷ piece (filled_place p) p.filled ∷ [] in
      gap_zero p file f i (gap_between (to_rodata p) code back 0 i order
      (in_order_front (to_rodata p) (code ∷ back) 0 order) (omega (arith, o.rodata, low)) high)

  writable_zero : (i : ℕ) → code_place p + 4 * length p.words ≤ i → i < dynamic_place p → get_or file i 0 ≡ 0
  writable_zero i low high =
      let entries = piece (dynamic_place p) (entries_bytes (dynamic_entries p)) in
      let back = piece (filled_place p) p.filled ∷ [] in
      gap_zero p file f i (gap_between (to_code p) entries back 0 i order
      (in_order_front (to_code p) (entries ∷ back) 0 order) (omega (arith, low, length-words p.words)) high)

-- ---- the entries

chosen : (n v : ℕ) → n ≡ 208 → (if n == 208 then v else 0) ≡ v
chosen n v e = ap (λ (k : ℕ). if k == 208 then v else 0) e

not_chosen : (n v : ℕ) → n ≡ 176 → (if n == 208 then v else 0) ≡ 0
not_chosen n v e = ap (λ (k : ℕ). if k == 208 then v else 0) e

module _ (p : Image) (file : List ℕ) (f : IsFileOf p file) where
  entries : AreEntries file (dynamic_place p) 0 (dynamic_entries p)
  entries =
      let all = f.is_file.laid_out.stand in
      let place : dynamic_place p + 16 * 0 ≡ dynamic_place p = omega arith in
      entries_again (dynamic_entries p) (dynamic_place p) 0 file
      (drop (length (entries_bytes (dynamic_entries p))) (drop (dynamic_place p) file))
      (entries_fit p f.is_file.valid)
      (ap (λ (k : ℕ). drop k file) place ∙ begins_there file (dynamic_place p)
      (entries_bytes (dynamic_entries p)) all.1.1.1.1.1.1.1.1.1.1.0)

  relocs_are : reloc_bytes_at file (heads_from p) ≡ 24 * length p.relocs
  relocs_are = ap (λ (d : Dyn). d.value) entries.1.1.1.1.1.0

  described_by : 1 ≤ length p.descriptors
      → AreEntries file (dynamic_place p) 0 (tables_of (24 * length p.relocs) ++ described_of (24 * length p.relocs) (length p.descriptors))
  described_by some =
      subst (AreEntries file (dynamic_place p) 0)
      (all_some p (24 * length p.relocs) (length p.descriptors) refl (in_order p).relocs refl some) entries

  descriptors_some : 1 ≤ length p.descriptors → descriptor_bytes_at file (heads_from p) ≡ length p.descriptors
  descriptors_some some =
      let are = described_by some in
      chosen (16 * dynamic_count p.descriptors) (entry_at file (heads_from p) 11).value (count_some p.descriptors some)
      ∙ ap (λ (d : Dyn). d.value) are.1.1.1.1.1.1.1.1.1.1.1.0

  descriptors_none : length p.descriptors ≡ 0 → descriptor_bytes_at file (heads_from p) ≡ 0
  descriptors_none none =
      not_chosen (16 * dynamic_count p.descriptors) (entry_at file (heads_from p) 11).value (count_none p.descriptors none)

  right_entries : RightEntries file (heads_from p)
  right_entries =
      let h = heads_from p in
      let place : descriptors_place p ≡ 0x140 + reloc_bytes_at file h = omega (arith, (in_order p).relocs, relocs_are) in
      elim (cases_lt 0 (length p.descriptors)) [
        | inl some ↦ described (count_some p.descriptors some) (omega (arith, descriptors_some some, some))
            (subst (AreEntries file (dynamic_place p) 0)
            (all_some p (reloc_bytes_at file h) (descriptor_bytes_at file h) (sym relocs_are) place (sym (descriptors_some some))
            (omega (arith, descriptors_some some, some))) entries)
        | inr few ↦
            let none : length p.descriptors ≡ 0 = omega (arith, few) in
            plain (count_none p.descriptors none) (descriptors_none none)
            (subst (AreEntries file (dynamic_place p) 0) (all_none p (reloc_bytes_at file h) (sym relocs_are) none) entries)
      ]

  descriptors_are : descriptor_bytes_at file (heads_from p) ≡ length p.descriptors
  descriptors_are = elim (cases_lt 0 (length p.descriptors)) [
    | inl some ↦ descriptors_some some
    | inr few ↦ let none : length p.descriptors ≡ 0 = omega (arith, few) in descriptors_none none ∙ sym none
  ]

-- ---- the whole

filled_behind : (p : Image) → filled_place p ≡ dynamic_place p + 16 * dynamic_count p.descriptors
filled_behind p =
    let size = 16 * dynamic_count p.descriptors in
    let whole : size % 16 ≡ 0 = omega arith in
    let begins : dynamic_place p ≡ round_page (code_end p) = dynamic_place_eq p (code_end p) refl in
    filled_place_eq p (round_page (code_end p) + size) ((in_order p).entries ∙ ap (λ (n : ℕ). n + size) begins)
    ∙ granules_behind (code_end p) size whole ∙ ap (λ (n : ℕ). n + size) (sym begins)

begins_so : (file front tail rest : List ℕ) → file ≡ (front ++ tail) ++ rest → agrees file front ≡ true
begins_so file front tail rest is =
    subst (λ (l : List ℕ). agrees l front ≡ true) (sym (is ∙ append_assoc front tail rest)) (agrees_front front (tail ++ rest))

-- the file begins with the identification
identified : (p : Image) (file : List ℕ) → IsFileOf p file → agrees file identification ≡ true
unfolding field_bytes
identified p file f =
    begins_so file identification (drop 16 (bytes_of (ehdr_fields (header p))))
    (drop (length (bytes_of (ehdr_fields (header p)))) (drop 0 file))
    (begins_there file 0 (bytes_of (ehdr_fields (header p))) f.is_file.laid_out.stand.0)

module _ (p : Image) (file : List ℕ) (f : IsFileOf p file) where
  right_tables : RightTables file (heads_from p)
  right_tables =
      let h = heads_from p in
      let order : InOrder p = in_order p in
      let relocs = relocs_are p file f in
      let descriptors = descriptors_are p file f in
      let place : rodata_at file h ≡ rodata_place p =
      sym (rodata_place_eq p (0x140 + reloc_bytes_at file h + descriptor_bytes_at file h)
      (omega (arith, order.relocs, relocs, descriptors))) in
      let count : reloc_bytes_at file h / 24 ≡ length p.relocs = omega (arith, relocs) in
      let relative = relocs_relative p.relocs 0x140 file _ f.ranges.relocs
      (begins_there file 0x140 (flat_map reloc_bytes p.relocs) f.is_file.laid_out.stand.1.1.1.1.1.1.0) in
      record {
        relocs = omega (arith, relocs);
        relocs_within = omega (arith, relocs, order.relocs, order.descriptors, order.rodata);
        rodata_within = omega (arith, place, order.rodata);
        relative = subst (λ (k : ℕ). are_relative k 0x140 file ≡ true) (sym count) relative;
      }

  right_sizes : RightSizes file (heads_from p)
  right_sizes =
      let order : InOrder p = in_order p in
      let len : length file ≡ file_end p = f.is_file.laid_out.len in
      let filled = filled_behind p in
      let valid : IsValid p = f.is_file.valid in
      record {
        tables = omega (arith, order.relocs, order.descriptors, order.rodata);
        read_only_within = omega arith;
        words = omega arith;
        code_within = omega arith;
        entries = omega arith;
        granules = omega arith;
        more = omega arith;
        zeros = omega arith;
        limit = omega arith;
        end = omega arith;
      }

  right_heads : RightHeads file (heads_from p)
  right_heads =
      let order : InOrder p = in_order p in
      let len : length file ≡ file_end p = f.is_file.laid_out.len in
      record {
        header = refl;
        headers = omega arith;
        read_only = refl;
        code = ap (λ (a : ℕ). load 5 a (4 * length p.words) (4 * length p.words)) (code_place_eq p (rodata_end p) refl);
        writable = ap (λ (a : ℕ). load 6 a (file_end p - dynamic_place p) (memory_end p - dynamic_place p))
            (dynamic_place_eq p (code_place p + 4 * length p.words) order.words);
        dynamic = refl;
      }

  right_gaps : RightGaps file (heads_from p)
  right_gaps =
      let h = heads_from p in
      let order : InOrder p = in_order p in
      let relocs = relocs_are p file f in
      let descriptors = descriptors_are p file f in
      let place : rodata_at file h ≡ rodata_place p =
      sym (rodata_place_eq p (0x140 + reloc_bytes_at file h + descriptor_bytes_at file h)
      (omega (arith, order.relocs, relocs, descriptors))) in
      record {
        tables = zero_between file 0x120 0x140 (symbols_zero p file f);
        rodata = zero_between file (0x140 + reloc_bytes_at file h + descriptor_bytes_at file h) (rodata_at file h)
            (λ i low high. rodata_zero p file f i (omega (arith, low, order.relocs, relocs, descriptors)) (omega (arith, high, place)));
        code = zero_between file (rodata_end p) (code_place p) (code_zero p file f);
        writable = zero_between file (code_place p + 4 * length p.words) (dynamic_place p) (writable_zero p file f);
      }

-- the file of an image has no fault
pub no_fault_of : (p : Image) (file : List ℕ) → IsFileOf p file → fault_of file ≡ no_fault
unfolding fault_of
no_fault_of p file f =
    let h = heads_from p in
    let r : Right file h = record {
      heads = right_heads p file f;
      sizes = right_sizes p file f;
      tables = right_tables p file f;
      gaps = right_gaps p file f;
      entries = right_entries p file f;
    } in
    ap (λ (g : Heads). first_fault (conditions file g)) (heads_are p file f)
    ∙ none_fails (conditions file h) (holds file h r (identified p file f))
