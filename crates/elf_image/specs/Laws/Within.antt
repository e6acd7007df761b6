-- What is within a file whose headers have been judged so far, and the first condition that fails by its number.
use Rattle.std.proofs.Common.{◌≡◌, ℕ, zero, suc, ◌+◌, ◌*◌, ◌/◌, ◌%◌, ◌≤◌, ◌⊎◌, List, [], ◌∷◌, length, take, get_or, sym, ap}
use Rattle.std.proofs.Common.{◌∙◌, inl, inr, arith}
use Rattle.std.specs.Prelude.{true, false, ◌||◌, ◌==◌, nat_le}
use Rattle.std.proofs.lemmas.Bool.{leb-true, eqb-true, cases_Bool, false≢true}
use Rattle.mt_base.specs.Granules.{round16}
use Rattle.mt_base.specs.Laws.Granules.{round16-covers}
use Rattle.elf_base.specs.declared.segment.Phdr.{Phdr}
use Rattle.elf_base.specs.Conditions.{Condition, condition, first_fault}
use Rattle.elf_base.specs.Zeros.{is_zero_between}
use Rattle.elf_base.specs.Laws.Tests.{both}
use Rattle.elf_base.specs.Laws.Conditions.{EachHolds, each_holds, fails_is, holds_is}
use Rattle.elf_image.specs.declared.heads.Heads.{Heads}
use Rattle.elf_image.specs.declared.refusal.ImageRefusal.{ImageRefusal}
use Rattle.elf_image.specs.declared.refusal.ImageRefusal.TheVariants.{NotElf}
use Rattle.elf_image.specs.Heads.{heads_at, reloc_bytes_at, descriptor_bytes_at}
use Rattle.elf_image.specs.Places.{round_page}
use Rattle.elf_image.specs.Records.{load, dynamic_at}
use Rattle.elf_image.specs.Faults.{same_segment, contents, segments, table_asks, mode_asks, last_asks}
use Rattle.elf_image.specs.Faults.{fault_of, no_fault, fault_is}
use Rattle.elf_image.specs.Laws.Tests.{segment_is}
use Rattle.elf_image.specs.Laws.Right.{Right, RightEntries, described, plain, right, right_sizes, right_last, rodata_at, that}
use Rattle.elf_image.specs.Laws.Right.{other, either}
use Rattle.elf_image.specs.Laws.Order.{le-round_page}

-- the bytes that the program headers name
pub record Reaching (file : List ℕ) (h : Heads) : Type 0 where
  pub read_only : h.read_only.offset + h.read_only.filesz ≤ length file
  pub code : h.code.offset + h.code.filesz ≤ length file
  pub writable : h.writable.offset + h.writable.filesz ≤ length file
  pub dynamic : h.dynamic.offset + h.dynamic.filesz ≤ length file

pub reaching : (file : List ℕ) (h : Heads) → first_fault (contents file h) ≡ no_fault → Reaching file h
reaching file h none =
    let c = each_holds (contents file h) none in
    record {
      read_only = leb-true (h.read_only.offset + h.read_only.filesz) (length file) c.0;
      code = leb-true (h.code.offset + h.code.filesz) (length file) c.1.0;
      writable = leb-true (h.writable.offset + h.writable.filesz) (length file) c.1.1.0;
      dynamic = leb-true (h.dynamic.offset + h.dynamic.filesz) (length file) c.1.1.1.0;
    }

-- where the segments lie, all below the limit, and how many dynamic entries there are
pub record Lying (file : List ℕ) (h : Heads) : Type 0 where
  pub first : h.read_only.offset ≡ 0
  pub tables : 0x140 ≤ h.read_only.filesz
  pub code : h.read_only.filesz ≤ h.code.offset
  pub writable : h.code.offset + h.code.filesz ≤ h.writable.offset
  pub dynamic : h.dynamic.offset ≡ h.writable.offset
  pub limit : h.writable.offset ≤ 268435456
  pub count : (h.dynamic.filesz ≡ 176) ⊎ (h.dynamic.filesz ≡ 208)
  pub entries : h.dynamic.filesz ≤ h.writable.filesz
  pub end : length file ≡ h.writable.offset + h.writable.filesz

size_of : (n : ℕ) → (n == 176 || n == 208) ≡ true → (n ≡ 176) ⊎ (n ≡ 208)
size_of n h = elim (either (n == 176) (n == 208) h) [
  | inl small ↦ inl (eqb-true n 176 small)
  | inr large ↦ inr (eqb-true n 208 large)
]

pub lying : (file : List ℕ) (h : Heads) → first_fault (contents file h) ≡ no_fault → first_fault (segments file h) ≡ no_fault → Lying file h
lying file h none no_other =
    let c = each_holds (contents file h) none in
    let s = each_holds (segments file h) no_other in
    let sizes = right_sizes file h c s in
    let read_only = both _ (is_zero_between file 0x120 0x140) s.1.0 in
    let read_only_is = both (same_segment h.read_only (load 4 0 h.read_only.filesz h.read_only.filesz)) _ read_only.0 in
    let first : h.read_only.offset ≡ 0 =
    ap (λ (q : Phdr). q.offset) (segment_is h.read_only (load 4 0 h.read_only.filesz h.read_only.filesz) read_only_is.0) in
    let code = both _ (is_zero_between file h.read_only.filesz h.code.offset) s.1.1.0 in
    let words = both _ (h.code.filesz % 4 == 0) code.0 in
    let code_is = both _ (round_page h.read_only.filesz == h.code.offset) words.0 in
    let code_at : round_page h.read_only.filesz ≡ h.code.offset = eqb-true (round_page h.read_only.filesz) h.code.offset code_is.1 in
    let w1 = both _ (is_zero_between file (h.code.offset + h.code.filesz) h.writable.offset) s.1.1.1.0 in
    let w2 = both _ (nat_le (h.writable.offset + h.writable.memsz) 268435456) w1.0 in
    let w3 = both _ (h.writable.memsz % 16 == 0) w2.0 in
    let w4 = both _ (nat_le h.writable.filesz h.writable.memsz) w3.0 in
    let w5 = both _ (h.writable.filesz % 16 == 0) w4.0 in
    let w6 = both _ (nat_le 176 h.writable.filesz) w5.0 in
    let w7 = both _ (round_page (h.code.offset + h.code.filesz) == h.writable.offset) w6.0 in
    let writable_at : round_page (h.code.offset + h.code.filesz) ≡ h.writable.offset =
    eqb-true (round_page (h.code.offset + h.code.filesz)) h.writable.offset w7.1 in
    let d1 = both _ (nat_le h.dynamic.filesz h.writable.filesz) s.1.1.1.1.0 in
    let d2 = both (same_segment h.dynamic (dynamic_at h.writable.offset h.dynamic.filesz))
    (h.dynamic.filesz == 176 || h.dynamic.filesz == 208) d1.0 in
    record {
      first = first;
      tables = sizes.tables;
      code = omega arith;
      writable = omega arith;
      dynamic = ap (λ (q : Phdr). q.offset) (segment_is h.dynamic (dynamic_at h.writable.offset h.dynamic.filesz) d2.0);
      limit = omega (arith, sizes.limit);
      count = size_of h.dynamic.filesz d2.1;
      entries = sizes.entries;
      end = sizes.end;
    }

-- where the parts lie that are read
pub record Room (file : List ℕ) (h : Heads) : Type 0 where
  pub dynamic : h.dynamic.offset ≡ h.writable.offset
  pub dynamic_within : h.dynamic.offset + h.dynamic.filesz ≤ length file
  pub count : (h.dynamic.filesz ≡ 176) ⊎ (h.dynamic.filesz ≡ 208)
  pub relocs : 0x140 + 24 * (reloc_bytes_at file h / 24) ≤ length file
  pub descriptors : 0x140 + reloc_bytes_at file h + descriptor_bytes_at file h ≤ rodata_at file h
  pub rodata : rodata_at file h ≤ h.read_only.filesz
  pub read_only : h.read_only.filesz ≤ length file
  pub small : h.read_only.filesz ≤ 268435456
  pub words : h.code.offset + 4 * (h.code.filesz / 4) ≤ length file
  pub entries : h.dynamic.filesz ≤ h.writable.filesz
  pub writable : h.writable.offset + h.writable.filesz ≡ length file
  pub zeros : h.writable.filesz ≤ h.writable.memsz

counted : (file : List ℕ) (h : Heads) → RightEntries file h → (h.dynamic.filesz ≡ 176) ⊎ (h.dynamic.filesz ≡ 208)
counted file h (described size some are) = inr size
counted file h (plain size none are) = inl size

pub room : (file : List ℕ) → fault_of file ≡ no_fault → Room file (heads_at file)
room file none = of (heads_at file) (right file none)
  where
    of : (h : Heads) → Right file h → Room file h
    of h r =
        let first : h.read_only.offset ≡ 0 = ap (λ (q : Phdr). q.offset) r.heads.read_only in
        let dynamic : h.dynamic.offset ≡ h.writable.offset = ap (λ (q : Phdr). q.offset) r.heads.dynamic in
        let code_at : h.code.offset ≡ round_page h.read_only.filesz = ap (λ (q : Phdr). q.offset) r.heads.code in
        let writable_at : h.writable.offset ≡ round_page (h.code.offset + h.code.filesz) = ap (λ (q : Phdr). q.offset) r.heads.writable in
        let s = r.sizes in
        let t = r.tables in
        let covers = round16-covers (0x140 + reloc_bytes_at file h + descriptor_bytes_at file h) in
        record {
          dynamic = dynamic;
          dynamic_within = omega (arith, dynamic, s.entries, s.end);
          count = counted file h r.entries;
          relocs = omega (arith, t.relocs, t.relocs_within, s.read_only_within, first);
          descriptors = covers;
          rodata = t.rodata_within;
          read_only = omega (arith, s.read_only_within, first);
          small = omega (
            arith,
            s.limit,
            code_at,
            writable_at,
            le-round_page h.read_only.filesz,
            le-round_page (h.code.offset + h.code.filesz),
          );
          words = omega (arith, s.words, s.code_within);
          entries = s.entries;
          writable = sym s.end;
          zeros = s.more;
        }

-- ---- the first condition that fails, by its number

abbrev pub no_condition : Condition ImageRefusal
no_condition = condition true NotElf

-- those before the condition of that number hold, and it does not
pub fails_at : (k : ℕ) (cs : List (Condition ImageRefusal)) → EachHolds (take k cs) → (get_or cs k no_condition).holds ≡ false
    → first_fault cs ≡ fault_is (get_or cs k no_condition).refusal
fails_at k [] before fails = absurd (false≢true (sym (none k fails)))
  where
    none : (k : ℕ) → (get_or [] k no_condition).holds ≡ false → true ≡ false
    none zero h = h
    none (suc k) h = h
fails_at zero (c ∷ cs) before fails = fails_is c.holds c.refusal (first_fault cs) fails
fails_at (suc k) (c ∷ cs) before fails = holds_is c.holds c.refusal (first_fault cs) before.0 ∙ fails_at k cs before.1 fails

-- ---- what the entries that were judged say

pub relocs_fit : (file : List ℕ) (h : Heads) → first_fault (table_asks file h) ≡ no_fault
    → 0x140 + reloc_bytes_at file h ≤ h.read_only.filesz
relocs_fit file h none =
    let t = each_holds (table_asks file h) none in
    let fits = both (reloc_bytes_at file h % 24 == 0) _ t.1.1.1.1.1.1.0 in
    let covers = round16-covers (0x140 + reloc_bytes_at file h) in
    elim (cases_Bool (h.dynamic.filesz == 208)) [
      | inl with ↦ leb-true (0x140 + reloc_bytes_at file h) h.read_only.filesz (that (h.dynamic.filesz == 208) _ _ with fits.1)
      | inr without ↦
          let within = leb-true (round16 (0x140 + reloc_bytes_at file h)) h.read_only.filesz
          (other (h.dynamic.filesz == 208) _ _ without fits.1) in
          omega (arith, covers, within)
    ]

pub rodata_fits : (file : List ℕ) (h : Heads) → first_fault (segments file h) ≡ no_fault → first_fault (table_asks file h) ≡ no_fault
    → first_fault (mode_asks file h) ≡ no_fault → first_fault (last_asks file h) ≡ no_fault → rodata_at file h ≤ h.read_only.filesz
rodata_fits file h s t m l =
    let last = right_last file h (each_holds (table_asks file h) t) (each_holds (mode_asks file h) m) (each_holds (last_asks file h) l)
    (each_holds (segments file h) s) in
    last.tables.rodata_within
