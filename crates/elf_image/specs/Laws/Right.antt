-- What holds of the headers and the bytes of a file without a fault.
use Rattle.std.proofs.Common.{◌≡◌, ℕ, ◌+◌, ◌*◌, ◌/◌, ◌%◌, ◌≤◌, ◌⊎◌, List, [], ◌∷◌, ◌++◌, length, take, drop, refl, sym, ap, ◌∙◌, subst}
use Rattle.std.proofs.Common.{inl, inr, arith, length-take, length-drop}
use Rattle.std.specs.Prelude.{Bool, true, false, ◌&&◌, ◌||◌, ◌==◌, nat_le, if◌then◌else◌}
use Rattle.std.proofs.lemmas.Bool.{leb-true, eqb-true, cases_Bool, false≢true}
use Rattle.mt_base.specs.Granules.{round16}
use Rattle.mt_base.specs.Laws.Granules.{round16-covers}
use Rattle.elf_base.specs.declared.dynamic.Dyn.{Dyn}
use Rattle.elf_base.specs.Standing.{ehdr_at, dyn_at}
use Rattle.elf_base.specs.Conditions.{Condition}
use Rattle.elf_base.specs.Zeros.{is_zero_between}
use Rattle.elf_base.specs.Laws.Tests.{both}
use Rattle.elf_base.specs.Laws.Conditions.{EachHolds, each_holds, holds_front, holds_back}
use Rattle.elf_image.specs.declared.heads.Heads.{Heads}
use Rattle.elf_image.specs.Heads.{heads_at, entry_at, reloc_bytes_at, descriptor_bytes_at}
use Rattle.elf_image.specs.Places.{round_page}
use Rattle.elf_image.specs.Records.{header_with, load, dynamic_at, entry, table_entries, mode_entries, described_entries, last_entries}
use Rattle.elf_image.specs.Faults.{are_relative, same_header, same_segment, same_entry, reaches, is_read_only, is_code, is_writable}
use Rattle.elf_image.specs.Faults.{is_dynamic, is_reloc_size, is_descriptor_size, opening, contents, segments, asks, reloc_asks}
use Rattle.elf_image.specs.Faults.{table_asks, mode_asks, last_asks, gap_asks, conditions, fault_of, no_fault}
use Rattle.elf_image.specs.Laws.Tests.{header_is, segment_is, entry_is}
use Rattle.elf_image.specs.Laws.Items.{AreEntries, entries_append}
use Rattle.elf_image.specs.declared.refusal.ImageRefusal.{ImageRefusal}

-- where the read-only data begins, by the sizes in the dynamic entries
abbrev pub rodata_at : List ℕ → Heads → ℕ
rodata_at file h = round16 (0x140 + reloc_bytes_at file h + descriptor_bytes_at file h)

-- the entries up to MEMTAG_STACK, and those after it, by the number of bytes of the descriptors
abbrev pub tables_of : ℕ → List Dyn
tables_of relocs = table_entries relocs ++ mode_entries

abbrev pub described_of : ℕ → ℕ → List Dyn
described_of relocs descriptors = described_entries (0x140 + relocs) descriptors ++ last_entries

abbrev pub plain_of : List Dyn
plain_of = last_entries

-- the headers, with the sizes that they say
pub record RightHeads (file : List ℕ) (h : Heads) : Type 0 where
  pub header : h.header ≡ header_with h.header.entry
  pub headers : h.header.phoff + 224 ≤ length file
  pub read_only : h.read_only ≡ load 4 0 h.read_only.filesz h.read_only.filesz
  pub code : h.code ≡ load 5 (round_page h.read_only.filesz) h.code.filesz h.code.filesz
  pub writable : h.writable ≡ load 6 (round_page (h.code.offset + h.code.filesz)) h.writable.filesz h.writable.memsz
  pub dynamic : h.dynamic ≡ dynamic_at h.writable.offset h.dynamic.filesz

-- the sizes
pub record RightSizes (file : List ℕ) (h : Heads) : Type 0 where
  pub tables : 0x140 ≤ h.read_only.filesz
  pub read_only_within : h.read_only.offset + h.read_only.filesz ≤ length file
  pub words : h.code.filesz % 4 ≡ 0
  pub code_within : h.code.offset + h.code.filesz ≤ length file
  pub entries : h.dynamic.filesz ≤ h.writable.filesz
  pub granules : h.writable.filesz % 16 ≡ 0
  pub more : h.writable.filesz ≤ h.writable.memsz
  pub zeros : h.writable.memsz % 16 ≡ 0
  pub limit : h.writable.offset + h.writable.memsz ≤ 268435456
  pub end : length file ≡ h.writable.offset + h.writable.filesz

-- the sizes in the dynamic entries, and what stands in the first part
pub record RightTables (file : List ℕ) (h : Heads) : Type 0 where
  pub relocs : reloc_bytes_at file h % 24 ≡ 0
  pub relocs_within : 0x140 + reloc_bytes_at file h ≤ h.read_only.filesz
  pub rodata_within : rodata_at file h ≤ h.read_only.filesz
  pub relative : are_relative (reloc_bytes_at file h / 24) 0x140 file ≡ true

-- the gaps
pub record RightGaps (file : List ℕ) (h : Heads) : Type 0 where
  pub tables : is_zero_between file 0x120 0x140 ≡ true
  pub rodata : is_zero_between file (0x140 + reloc_bytes_at file h + descriptor_bytes_at file h) (rodata_at file h) ≡ true
  pub code : is_zero_between file h.read_only.filesz h.code.offset ≡ true
  pub writable : is_zero_between file (h.code.offset + h.code.filesz) h.writable.offset ≡ true

-- the dynamic entries, with descriptors or without
pub data RightEntries (file : List ℕ) (h : Heads) : Type 0 where
  described : h.dynamic.filesz ≡ 208 → 1 ≤ descriptor_bytes_at file h
      → AreEntries file h.dynamic.offset 0 (tables_of (reloc_bytes_at file h) ++ described_of (reloc_bytes_at file h)
      (descriptor_bytes_at file h))
      → RightEntries file h
  plain : h.dynamic.filesz ≡ 176 → descriptor_bytes_at file h ≡ 0
      → AreEntries file h.dynamic.offset 0 (tables_of (reloc_bytes_at file h) ++ plain_of) → RightEntries file h

pub record Right (file : List ℕ) (h : Heads) : Type 0 where
  pub heads : RightHeads file h
  pub sizes : RightSizes file h
  pub tables : RightTables file h
  pub gaps : RightGaps file h
  pub entries : RightEntries file h

-- ---- each group of conditions

right_heads : (file : List ℕ) (h : Heads) → length h.header.ident ≡ 16 → EachHolds (opening file h) → EachHolds (segments file h)
    → RightHeads file h
right_heads file h ident o s =
    let read_only = both _ (is_zero_between file 0x120 0x140) s.1.0 in
    let read_only_is = both (same_segment h.read_only (load 4 0 h.read_only.filesz h.read_only.filesz)) _ read_only.0 in
    let code = both _ (is_zero_between file h.read_only.filesz h.code.offset) s.1.1.0 in
    let words = both _ (h.code.filesz % 4 == 0) code.0 in
    let code_is = both (same_segment h.code (load 5 h.code.offset h.code.filesz h.code.filesz))
    (round_page h.read_only.filesz == h.code.offset) words.0 in
    let w1 = both _ (is_zero_between file (h.code.offset + h.code.filesz) h.writable.offset) s.1.1.1.0 in
    let w2 = both _ (nat_le (h.writable.offset + h.writable.memsz) 268435456) w1.0 in
    let w3 = both _ (h.writable.memsz % 16 == 0) w2.0 in
    let w4 = both _ (nat_le h.writable.filesz h.writable.memsz) w3.0 in
    let w5 = both _ (h.writable.filesz % 16 == 0) w4.0 in
    let w6 = both _ (nat_le 176 h.writable.filesz) w5.0 in
    let w7 = both (same_segment h.writable (load 6 h.writable.offset h.writable.filesz h.writable.memsz))
    (round_page (h.code.offset + h.code.filesz) == h.writable.offset) w6.0 in
    let d1 = both _ (nat_le h.dynamic.filesz h.writable.filesz) s.1.1.1.1.0 in
    let d2 = both (same_segment h.dynamic (dynamic_at h.writable.offset h.dynamic.filesz)) _ d1.0 in
    record {
      header = header_is h.header (header_with h.header.entry) ident s.0;
      headers = leb-true (h.header.phoff + 224) (length file) o.1.1.1.0;
      read_only = segment_is h.read_only (load 4 0 h.read_only.filesz h.read_only.filesz) read_only_is.0;
      code = segment_is h.code (load 5 h.code.offset h.code.filesz h.code.filesz) code_is.0
          ∙ ap (λ (a : ℕ). load 5 a h.code.filesz h.code.filesz) (sym (eqb-true (round_page h.read_only.filesz) h.code.offset code_is.1));
      writable = segment_is h.writable (load 6 h.writable.offset h.writable.filesz h.writable.memsz) w7.0
          ∙ ap (λ (a : ℕ). load 6 a h.writable.filesz h.writable.memsz)
          (sym (eqb-true (round_page (h.code.offset + h.code.filesz)) h.writable.offset w7.1));
      dynamic = segment_is h.dynamic (dynamic_at h.writable.offset h.dynamic.filesz) d2.0;
    }

pub right_sizes : (file : List ℕ) (h : Heads) → EachHolds (contents file h) → EachHolds (segments file h) → RightSizes file h
right_sizes file h c s =
    let read_only = both _ (is_zero_between file 0x120 0x140) s.1.0 in
    let tables = both _ (nat_le 0x140 h.read_only.filesz) read_only.0 in
    let code = both _ (is_zero_between file h.read_only.filesz h.code.offset) s.1.1.0 in
    let words = both _ (h.code.filesz % 4 == 0) code.0 in
    let w1 = both _ (is_zero_between file (h.code.offset + h.code.filesz) h.writable.offset) s.1.1.1.0 in
    let w2 = both _ (nat_le (h.writable.offset + h.writable.memsz) 268435456) w1.0 in
    let w3 = both _ (h.writable.memsz % 16 == 0) w2.0 in
    let w4 = both _ (nat_le h.writable.filesz h.writable.memsz) w3.0 in
    let w5 = both _ (h.writable.filesz % 16 == 0) w4.0 in
    let d1 = both _ (nat_le h.dynamic.filesz h.writable.filesz) s.1.1.1.1.0 in
    let there = leb-true (h.writable.offset + h.writable.filesz) (length file) c.1.1.0 in
    let no_more = leb-true (length file) (h.writable.offset + h.writable.filesz) s.1.1.1.1.1.0 in
    record {
      tables = leb-true 0x140 h.read_only.filesz tables.1;
      read_only_within = leb-true (h.read_only.offset + h.read_only.filesz) (length file) c.0;
      words = eqb-true (h.code.filesz % 4) 0 words.1;
      code_within = leb-true (h.code.offset + h.code.filesz) (length file) c.1.0;
      entries = leb-true h.dynamic.filesz h.writable.filesz d1.1;
      granules = eqb-true (h.writable.filesz % 16) 0 w5.1;
      more = leb-true h.writable.filesz h.writable.memsz w4.1;
      zeros = eqb-true (h.writable.memsz % 16) 0 w3.1;
      limit = leb-true (h.writable.offset + h.writable.memsz) 268435456 w2.1;
      end = omega (arith, there, no_more);
    }

right_gaps : (file : List ℕ) (h : Heads) → EachHolds (segments file h) → EachHolds (gap_asks file h) → RightGaps file h
right_gaps file h s g = record {
  tables = (both _ (is_zero_between file 0x120 0x140) s.1.0).1;
  rodata = g.0;
  code = (both _ (is_zero_between file h.read_only.filesz h.code.offset) s.1.1.0).1;
  writable = (both _ (is_zero_between file (h.code.offset + h.code.filesz) h.writable.offset) s.1.1.1.0).1;
}

-- ---- the dynamic entries

pub either : (a b : Bool) → (a || b) ≡ true → (a ≡ true) ⊎ (b ≡ true)
either true b h = inl refl
either false b h = inr h

-- what a test chooses
those : (b : Bool) (cs ds : List (Condition ImageRefusal)) → b ≡ true → EachHolds (if b then cs else ds) → EachHolds cs
those true cs ds h all = all
those false cs ds h all = absurd (false≢true h)

others : (b : Bool) (cs ds : List (Condition ImageRefusal)) → b ≡ false → EachHolds (if b then cs else ds) → EachHolds ds
others true cs ds h all = absurd (false≢true (sym h))
others false cs ds h all = all

pub that : (b x y : Bool) → b ≡ true → (if b then x else y) ≡ true → x ≡ true
that true x y h holds = holds
that false x y h holds = absurd (false≢true h)

pub other : (b x y : Bool) → b ≡ false → (if b then x else y) ≡ true → y ≡ true
other true x y h holds = absurd (false≢true (sym h))
other false x y h holds = holds

none_of : (b : Bool) (n : ℕ) → b ≡ false → (if b then n else 0) ≡ 0
none_of true n h = absurd (false≢true (sym h))
none_of false n h = refl

-- entries that are as asked stand there
asked : (file : List ℕ) (h : Heads) (i : ℕ) (ds : List Dyn) → EachHolds (asks file h i ds) → AreEntries file h.dynamic.offset i ds
asked file h i [] all = tt
asked file h i (d ∷ ds) all = (entry_is (entry_at file h i) d all.0, asked file h (i + 1) ds all.1)

-- the entries, the sizes that they say, and the relocations
pub record RightLast (file : List ℕ) (h : Heads) : Type 0 where
  pub tables : RightTables file h
  pub entries : RightEntries file h

module _ (file : List ℕ) (h : Heads) (t : EachHolds (table_asks file h)) (m : EachHolds (mode_asks file h))
    (l : EachHolds (last_asks file h)) where
  size_fits : (reloc_bytes_at file h % 24 == 0) ≡ true
      × ((if h.dynamic.filesz == 208 then nat_le (0x140 + reloc_bytes_at file h) h.read_only.filesz else
      nat_le (round16 (0x140 + reloc_bytes_at file h)) h.read_only.filesz) ≡ true)
  size_fits = both (reloc_bytes_at file h % 24 == 0) _ t.1.1.1.1.1.1.0

  -- the first ten entries and others
  with_tables : (ds : List Dyn) → EachHolds (asks file h 10 ds)
      → AreEntries file h.dynamic.offset 0 (tables_of (reloc_bytes_at file h) ++ ds)
  with_tables ds rest =
      let tables = holds_front (asks file h 0 (table_entries (reloc_bytes_at file h))) (reloc_asks file h) t in
      let relocs = reloc_bytes_at file h in
      entries_append (table_entries relocs) (mode_entries ++ ds) h.dynamic.offset 0 file
      (asked file h 0 (table_entries relocs) tables)
      (entries_append mode_entries ds h.dynamic.offset 6 file (asked file h 6 mode_entries m) (asked file h 10 ds rest))

  with_descriptors : (h.dynamic.filesz == 208) ≡ true → RightLast file h
  with_descriptors with =
      let last = those (h.dynamic.filesz == 208) _ _ with l in
      let fits = both (nat_le 1 (descriptor_bytes_at file h)) _ last.1.1.0 in
      record {
        tables = record {
          relocs = eqb-true (reloc_bytes_at file h % 24) 0 size_fits.0;
          relocs_within = leb-true (0x140 + reloc_bytes_at file h) h.read_only.filesz (that (h.dynamic.filesz == 208) _ _ with size_fits.1);
          rodata_within = leb-true (rodata_at file h) h.read_only.filesz fits.1;
          relative = t.1.1.1.1.1.1.1.0;
        };
        entries = described (eqb-true h.dynamic.filesz 208 with) (leb-true 1 (descriptor_bytes_at file h) fits.0)
            (with_tables (described_of (reloc_bytes_at file h) (descriptor_bytes_at file h)) (last.0, (last.1.0, last.1.1.1)));
      }

  without_descriptors : (h.dynamic.filesz == 208) ≡ false → h.dynamic.filesz ≡ 176 → RightLast file h
  without_descriptors without size =
      let last = others (h.dynamic.filesz == 208) _ _ without l in
      let none : descriptor_bytes_at file h ≡ 0 = none_of (h.dynamic.filesz == 208) _ without in
      let fits : round16 (0x140 + reloc_bytes_at file h) ≤ h.read_only.filesz =
      leb-true (round16 (0x140 + reloc_bytes_at file h)) h.read_only.filesz (other (h.dynamic.filesz == 208) _ _ without size_fits.1) in
      let place : rodata_at file h ≡ round16 (0x140 + reloc_bytes_at file h) = ap round16 (omega (arith, none)) in
      record {
        tables = record {
          relocs = eqb-true (reloc_bytes_at file h % 24) 0 size_fits.0;
          relocs_within = omega (arith, fits, round16-covers (0x140 + reloc_bytes_at file h));
          rodata_within = omega (arith, fits, place);
          relative = t.1.1.1.1.1.1.1.0;
        };
        entries = plain size none (with_tables plain_of last);
      }

  pub right_last : EachHolds (segments file h) → RightLast file h
  right_last s =
      let d1 = both _ (nat_le h.dynamic.filesz h.writable.filesz) s.1.1.1.1.0 in
      let d2 = both (same_segment h.dynamic (dynamic_at h.writable.offset h.dynamic.filesz))
      (h.dynamic.filesz == 176 || h.dynamic.filesz == 208) d1.0 in
      elim (cases_Bool (h.dynamic.filesz == 208)) [
        | inl with ↦ with_descriptors with
        | inr without ↦ elim (either (h.dynamic.filesz == 176) (h.dynamic.filesz == 208) d2.1) [
          | inl small ↦ without_descriptors without (eqb-true h.dynamic.filesz 176 small)
          | inr large ↦ absurd (false≢true (sym without ∙ large))
        ]
      ]

-- ---- the whole

-- a file without a fault has right headers and bytes
pub right : (file : List ℕ) → fault_of file ≡ no_fault → Right file (heads_at file)
unfolding fault_of
right file none =
    let h = heads_at file in
    let all : EachHolds (conditions file h) = each_holds (conditions file h) none in
    let r5 = last_asks file h ++ gap_asks file h in
    let r4 = mode_asks file h ++ r5 in
    let r3 = table_asks file h ++ r4 in
    let r2 = segments file h ++ r3 in
    let r1 = contents file h ++ r2 in
    let o = holds_front (opening file h) r1 all in
    let after_o = holds_back (opening file h) r1 all in
    let c = holds_front (contents file h) r2 after_o in
    let after_c = holds_back (contents file h) r2 after_o in
    let s = holds_front (segments file h) r3 after_c in
    let after_s = holds_back (segments file h) r3 after_c in
    let t = holds_front (table_asks file h) r4 after_s in
    let after_t = holds_back (table_asks file h) r4 after_s in
    let m = holds_front (mode_asks file h) r5 after_t in
    let after_m = holds_back (mode_asks file h) r5 after_t in
    let l = holds_front (last_asks file h) (gap_asks file h) after_m in
    let g = holds_back (last_asks file h) (gap_asks file h) after_m in
    let long = leb-true 64 (length file) o.1.0 in
    let ident : length h.header.ident ≡ 16 = omega (arith, length-take 16 (drop 0 file), length-drop 0 file, long) in
    let last = right_last file h t m l s in
    record {
      heads = right_heads file h ident o s;
      sizes = right_sizes file h c s;
      tables = last.tables;
      gaps = right_gaps file h s g;
      entries = last.entries;
    }
