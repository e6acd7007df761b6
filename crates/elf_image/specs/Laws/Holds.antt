-- A file whose headers and bytes are right has no fault.
use Rattle.std.proofs.Common.{◌≡◌, ℕ, ◌+◌, ◌*◌, ◌/◌, ◌%◌, ◌≤◌, List, [], ◌∷◌, ◌++◌, length, refl, sym, ap, ◌∙◌, subst, arith}
use Rattle.std.specs.Prelude.{Bool, true, false, ◌&&◌, ◌||◌, ◌==◌, nat_le, if◌then◌else◌}
use Rattle.std.proofs.lemmas.Bool.{le-leb, eq-eqb, false≢true}
use Rattle.mt_base.specs.Granules.{round16}
use Rattle.elf_base.specs.declared.header.Ehdr.{Ehdr}
use Rattle.elf_base.specs.declared.segment.Phdr.{Phdr}
use Rattle.elf_base.specs.declared.dynamic.Dyn.{Dyn}
use Rattle.elf_base.specs.Conditions.{Condition}
use Rattle.elf_base.specs.Records.{identification}
use Rattle.elf_base.specs.Laws.Tests.{both_hold}
use Rattle.elf_base.specs.Laws.Conditions.{EachHolds, holds_append}
use Rattle.elf_image.specs.declared.heads.Heads.{Heads}
use Rattle.elf_image.specs.Heads.{heads_at, entry_at, reloc_bytes_at, descriptor_bytes_at}
use Rattle.elf_image.specs.Places.{round_page}
use Rattle.elf_image.specs.Records.{header_with, load, dynamic_at, table_entries, mode_entries}
use Rattle.elf_image.specs.Faults.{agrees, same_header, same_segment, same_entry, is_reloc_size, opening, contents, segments, asks}
use Rattle.elf_image.specs.Faults.{reloc_asks, table_asks, mode_asks, last_asks, gap_asks, conditions}
use Rattle.elf_image.specs.Laws.Tests.{header_same, segment_same, entry_same}
use Rattle.elf_image.specs.Laws.Items.{AreEntries, entries_front, entries_back}
use Rattle.elf_image.specs.Laws.Right.{Right, RightHeads, RightSizes, RightEntries, described, plain, rodata_at, tables_of, described_of}
use Rattle.elf_image.specs.Laws.Right.{plain_of}
use Rattle.elf_image.specs.declared.refusal.ImageRefusal.{ImageRefusal}

same_as : (p q : Phdr) → p ≡ q → same_segment p q ≡ true
same_as p q e = subst (λ (r : Phdr). same_segment p r ≡ true) e (segment_same p)

same_header_as : (h g : Ehdr) → h ≡ g → same_header h g ≡ true
same_header_as h g e = subst (λ (r : Ehdr). same_header h r ≡ true) e (header_same h)

same_entry_as : (d e : Dyn) → d ≡ e → same_entry d e ≡ true
same_entry_as d e is = subst (λ (r : Dyn). same_entry d r ≡ true) is (entry_same d)

choose_those : (b : Bool) (cs ds : List (Condition ImageRefusal)) → b ≡ true → EachHolds cs → EachHolds (if b then cs else ds)
choose_those true cs ds h all = all
choose_those false cs ds h all = absurd (false≢true h)

choose_others : (b : Bool) (cs ds : List (Condition ImageRefusal)) → b ≡ false → EachHolds ds → EachHolds (if b then cs else ds)
choose_others true cs ds h all = absurd (false≢true (sym h))
choose_others false cs ds h all = all

choose_that : (b x y : Bool) → b ≡ true → x ≡ true → (if b then x else y) ≡ true
choose_that true x y h holds = holds
choose_that false x y h holds = absurd (false≢true h)

choose_other : (b x y : Bool) → b ≡ false → y ≡ true → (if b then x else y) ≡ true
choose_other true x y h holds = absurd (false≢true (sym h))
choose_other false x y h holds = holds

or_left : (a b : Bool) → a ≡ true → (a || b) ≡ true
or_left true b h = refl
or_left false b h = absurd (false≢true h)

or_right : (a b : Bool) → b ≡ true → (a || b) ≡ true
or_right true b h = refl
or_right false b h = h

differs : (n : ℕ) → n ≡ 176 → (n == 208) ≡ false
differs n e = ap (λ (k : ℕ). k == 208) e

-- ---- the groups

opening_holds : (file : List ℕ) (h : Heads) → RightHeads file h → agrees file identification ≡ true → EachHolds (opening file h)
opening_holds file h r begins =
    let kind : h.header.kind ≡ 3 = ap (λ (e : Ehdr). e.kind) r.header in
    let machine : h.header.machine ≡ 183 = ap (λ (e : Ehdr). e.machine) r.header in
    let phoff : h.header.phoff ≡ 64 = ap (λ (e : Ehdr). e.phoff) r.header in
    let headers : h.header.phoff + 224 ≤ length file = r.headers in (
      begins,
      (
        le-leb 64 (length file) (omega arith),
        (
          both_hold (h.header.kind == 3) (h.header.machine == 183) (eq-eqb h.header.kind 3 kind) (eq-eqb h.header.machine 183 machine),
          (le-leb (h.header.phoff + 224) (length file) headers, tt),
        ),
      ),
    )

contents_hold : (file : List ℕ) (h : Heads) → RightHeads file h → RightSizes file h → EachHolds (contents file h)
contents_hold file h r s =
    let dynamic : h.dynamic.offset ≡ h.writable.offset = ap (λ (p : Phdr). p.offset) r.dynamic in (
      le-leb (h.read_only.offset + h.read_only.filesz) (length file) s.read_only_within,
      (
        le-leb (h.code.offset + h.code.filesz) (length file) s.code_within,
        (
          le-leb (h.writable.offset + h.writable.filesz) (length file) (omega (arith, s.end)),
          (le-leb (h.dynamic.offset + h.dynamic.filesz) (length file) (omega (arith, dynamic, s.entries, s.end)), tt),
        ),
      ),
    )

count_holds : (file : List ℕ) (h : Heads) → RightEntries file h → (h.dynamic.filesz == 176 || h.dynamic.filesz == 208) ≡ true
count_holds file h (described size some are) = or_right (h.dynamic.filesz == 176) (h.dynamic.filesz == 208)
    (eq-eqb h.dynamic.filesz 208 size)
count_holds file h (plain size none are) = or_left (h.dynamic.filesz == 176) (h.dynamic.filesz == 208) (eq-eqb h.dynamic.filesz 176 size)

room : (file : List ℕ) (h : Heads) → RightEntries file h → 176 ≤ h.dynamic.filesz
room file h (described size some are) = omega (arith, size)
room file h (plain size none are) = omega (arith, size)

segments_hold : (file : List ℕ) (h : Heads) → Right file h → EachHolds (segments file h)
segments_hold file h r =
    let heads = r.heads in
    let s = r.sizes in
    let code_at : h.code.offset ≡ round_page h.read_only.filesz = ap (λ (p : Phdr). p.offset) heads.code in
    let writable_at : h.writable.offset ≡ round_page (h.code.offset + h.code.filesz) = ap (λ (p : Phdr). p.offset) heads.writable in
    let code_is = same_as h.code (load 5 h.code.offset h.code.filesz h.code.filesz)
    (heads.code ∙ ap (λ (a : ℕ). load 5 a h.code.filesz h.code.filesz) (sym code_at)) in
    let code_page = eq-eqb (round_page h.read_only.filesz) h.code.offset (sym code_at) in
    let writable_is = same_as h.writable (load 6 h.writable.offset h.writable.filesz h.writable.memsz)
    (heads.writable ∙ ap (λ (a : ℕ). load 6 a h.writable.filesz h.writable.memsz) (sym writable_at)) in
    let writable_page = eq-eqb (round_page (h.code.offset + h.code.filesz)) h.writable.offset (sym writable_at) in
    let enough = le-leb 176 h.writable.filesz (omega (arith, room file h r.entries, s.entries)) in
    let granules = eq-eqb (h.writable.filesz % 16) 0 s.granules in
    let more = le-leb h.writable.filesz h.writable.memsz s.more in
    let zeros = eq-eqb (h.writable.memsz % 16) 0 s.zeros in
    let limit = le-leb (h.writable.offset + h.writable.memsz) 268435456 s.limit in (
      same_header_as h.header (header_with h.header.entry) heads.header,
      (
        both_hold _ _ (both_hold _ _ (same_as h.read_only (load 4 0 h.read_only.filesz h.read_only.filesz) heads.read_only)
            (le-leb 0x140 h.read_only.filesz s.tables)) r.gaps.tables,
        (
          both_hold _ _ (both_hold _ _ (both_hold _ _ code_is code_page) (eq-eqb (h.code.filesz % 4) 0 s.words)) r.gaps.code,
          (
            both_hold _ _ (both_hold _ _ (both_hold _ _
                (both_hold _ _ (both_hold _ _ (both_hold _ _ (both_hold _ _ writable_is writable_page) enough) granules) more) zeros)
                limit) r.gaps.writable,
            (
              both_hold _ _ (both_hold _ _ (same_as h.dynamic (dynamic_at h.writable.offset h.dynamic.filesz) heads.dynamic)
                  (count_holds file h r.entries))
                  (le-leb h.dynamic.filesz h.writable.filesz s.entries),
              (le-leb (length file) (h.writable.offset + h.writable.filesz) (omega (arith, s.end)), tt),
            ),
          ),
        ),
      ),
    )

-- entries that stand there are as asked
as_asked : (file : List ℕ) (h : Heads) (i : ℕ) (ds : List Dyn) → AreEntries file h.dynamic.offset i ds → EachHolds (asks file h i ds)
as_asked file h i [] are = tt
as_asked file h i (d ∷ ds) are = (same_entry_as (entry_at file h i) d are.0, as_asked file h (i + 1) ds are.1)

module _ (file : List ℕ) (h : Heads) (ds : List Dyn)
    (are : AreEntries file h.dynamic.offset 0 (tables_of (reloc_bytes_at file h) ++ ds)) where
  tables_hold : is_reloc_size h (reloc_bytes_at file h) ≡ true → Right file h → EachHolds (table_asks file h)
  tables_hold size r =
      let tables = table_entries (reloc_bytes_at file h) in
      holds_append (asks file h 0 tables) (reloc_asks file h)
      (as_asked file h 0 tables (entries_front tables (mode_entries ++ ds) h.dynamic.offset 0 file are))
      (size, (r.tables.relative, tt))

  behind_relocs : AreEntries file h.dynamic.offset 6 (mode_entries ++ ds)
  behind_relocs = entries_back (table_entries (reloc_bytes_at file h)) (mode_entries ++ ds) h.dynamic.offset 0 file are

  modes_hold : EachHolds (mode_asks file h)
  modes_hold = as_asked file h 6 mode_entries (entries_front mode_entries ds h.dynamic.offset 6 file behind_relocs)

  behind_tables : EachHolds (asks file h 10 ds)
  behind_tables = as_asked file h 10 ds (entries_back mode_entries ds h.dynamic.offset 6 file behind_relocs)

-- the entries, and the sizes that they say
record EntriesHold (file : List ℕ) (h : Heads) : Type 0 where
  tables : EachHolds (table_asks file h)
  modes : EachHolds (mode_asks file h)
  last : EachHolds (last_asks file h)

entries_hold : (file : List ℕ) (h : Heads) → Right file h → RightEntries file h → EntriesHold file h
entries_hold file h r (described size some are) =
    let ds = described_of (reloc_bytes_at file h) (descriptor_bytes_at file h) in
    let rest = behind_tables file h ds are in
    let with = eq-eqb h.dynamic.filesz 208 size in
    let fits = both_hold (reloc_bytes_at file h % 24 == 0) _ (eq-eqb (reloc_bytes_at file h % 24) 0 r.tables.relocs)
    (choose_that (h.dynamic.filesz == 208) (nat_le (0x140 + reloc_bytes_at file h) h.read_only.filesz)
    (nat_le (round16 (0x140 + reloc_bytes_at file h)) h.read_only.filesz) with
    (le-leb (0x140 + reloc_bytes_at file h) h.read_only.filesz r.tables.relocs_within)) in
    let described_size = both_hold (nat_le 1 (descriptor_bytes_at file h)) (nat_le (rodata_at file h) h.read_only.filesz)
    (le-leb 1 (descriptor_bytes_at file h) some) (le-leb (rodata_at file h) h.read_only.filesz r.tables.rodata_within) in
    record {
      tables = tables_hold file h ds are fits r;
      modes = modes_hold file h ds are;
      last = choose_those (h.dynamic.filesz == 208) _ _ with (rest.0, (rest.1.0, (described_size, rest.1.1)));
    }
entries_hold file h r (plain size none are) =
    let rest = behind_tables file h plain_of are in
    let without = differs h.dynamic.filesz size in
    let place : rodata_at file h ≡ round16 (0x140 + reloc_bytes_at file h) = ap round16 (omega (arith, none)) in
    let fits = both_hold (reloc_bytes_at file h % 24 == 0) _ (eq-eqb (reloc_bytes_at file h % 24) 0 r.tables.relocs)
    (choose_other (h.dynamic.filesz == 208) (nat_le (0x140 + reloc_bytes_at file h) h.read_only.filesz)
    (nat_le (round16 (0x140 + reloc_bytes_at file h)) h.read_only.filesz) without
    (le-leb (round16 (0x140 + reloc_bytes_at file h)) h.read_only.filesz (omega (arith, r.tables.rodata_within, place)))) in
    record {
      tables = tables_hold file h plain_of are fits r;
      modes = modes_hold file h plain_of are;
      last = choose_others (h.dynamic.filesz == 208) _ _ without rest;
    }

-- each condition holds
pub holds : (file : List ℕ) (h : Heads) → Right file h → agrees file identification ≡ true → EachHolds (conditions file h)
holds file h r begins =
    let e = entries_hold file h r r.entries in
    let r5 = last_asks file h ++ gap_asks file h in
    let r4 = mode_asks file h ++ r5 in
    let r3 = table_asks file h ++ r4 in
    let r2 = segments file h ++ r3 in
    let r1 = contents file h ++ r2 in
    let h5 = holds_append (last_asks file h) (gap_asks file h) e.last (r.gaps.rodata, tt) in
    let h4 = holds_append (mode_asks file h) r5 e.modes h5 in
    let h3 = holds_append (table_asks file h) r4 e.tables h4 in
    let h2 = holds_append (segments file h) r3 (segments_hold file h r) h3 in
    let h1 = holds_append (contents file h) r2 (contents_hold file h r.heads r.sizes) h2 in
    holds_append (opening file h) r1 (opening_holds file h r.heads begins) h1
