-- Bytes of which no condition fails are the file of the object that they claim to be.
use Rattle.std.proofs.Common.{◌≡◌, ℕ, ◌+◌, ◌-◌, ◌*◌, ◌/◌, ◌<◌, ◌≤◌, ◌^◌, inl, inr, true, false, List, [], ◌++◌, length, get_or, replicate}
use Rattle.std.proofs.Common.{refl, sym, ap, subst, arith, None, ◌⊎◌}
use Rattle.std.specs.List.{flat_map}
use Rattle.std.proofs.lemmas.List.{length-replicate, get_or_past}
use Rattle.std.proofs.lemmas.Bool.{cases_lt}
use Rattle.mt_base.specs.Granules.{round16}
use Rattle.elf_base.specs.Field.{StandsAt}
use Rattle.elf_base.specs.Layout.{Piece, piece, AllStand, IsGap}
use Rattle.elf_base.specs.Laws.Lengths.{IsBytes, length-ehdr}
use Rattle.elf_base.specs.Laws.Conditions.{head_holds}
use Rattle.elf_base.specs.Laws.Zeros.{zero_there}
use Rattle.elf_base.specs.Zeros.{is_zero_between}
use Rattle.elf_base.specs.Conditions.{first_fault}
use Rattle.elf_obj.specs.declared.refusal.ObjectRefusal.TheVariants.{BadSymbol}
use Rattle.elf_obj.specs.declared.sizes.Sizes.{Sizes}
use Rattle.elf_obj.specs.Object.{Object}
use Rattle.elf_obj.specs.Sections.{sections, sizes_of, names_end, contents_end, headers_place, file_size, headers_of}
use Rattle.elf_obj.specs.Records.{header, symbols_bytes}
use Rattle.elf_obj.specs.Contents.{contents, header_bytes, pieces}
use Rattle.elf_obj.specs.Rules.{reloc_rule}
use Rattle.elf_obj.specs.ObjectFile.{ObjectFile, IsFileOf}
use Rattle.elf_obj.specs.Claimed.{headers_at, offset_of, size_of, names_of, claimed}
use Rattle.elf_obj.specs.ObjectFault.{fixed_parts, sizes_in, symbol_conditions, contents_conditions, conditions, symbol_spot}
use Rattle.elf_obj.specs.Laws.Lengths.{contents_are_as_long}
use Rattle.elf_obj.specs.Laws.Whole.{first_bytes, last_bytes, length-last}
use Rattle.elf_obj.specs.Laws.ClaimsFit.{ClaimsFit, claims_fit}
use Rattle.elf_obj.specs.Laws.ClaimedRanges.{size_fits, claimed_ranges}
use Rattle.elf_obj.specs.Laws.Together.{stands-both, words_stand, zeros_stand}
use Rattle.elf_obj.specs.Laws.RecordsHold.{relocs_hold, tags_hold, SymbolsHold, symbols_hold}
use Rattle.elf_obj.specs.Laws.SectionsHold.{SectionsHold, AllReach, AllTrue, AllHere, sections_hold, fixed_hold, contents_stand}
use Rattle.elf_obj.specs.Laws.SectionsHold.{headers_stand, gap_zero, gap_last}
use Rattle.elf_obj.specs.Laws.NamesHold.{names_stand}
use Rattle.elf_obj.specs.Laws.OneFile.{HasFault, all_or_first}
use Rattle.elf_obj.specs.Laws.AllHold.{AllHold, all_hold, Headed, headed_at, Ended, ended_at, StringsHold, strings_hold, content_stands}
use Rattle.elf_obj.specs.Laws.AllHold.{content_low, section_names_stand}

-- ---- the records

record TableHolds (file : List ℕ) : Type 0 where
  empty : is_zero_between file (offset_of file 5) (offset_of file 5 + 24) ≡ true
  symbols : SymbolsHold file (sizes_of (claimed file)) (offset_of file 5 + 24) 1 [] (claimed file).symbols

table_holds : (file : List ℕ) → AllHold file → TableHolds file
table_holds file q =
    let p : Object = claimed file in
    let rest = symbol_conditions file (sizes_of p) (symbol_spot (offset_of file 5 + 24) 1 []) 1 p.symbols in
    let parts = head_holds (is_zero_between file (offset_of file 5) (offset_of file 5 + 24)) (BadSymbol 0) (first_fault rest) q.table in
    record { empty = parts.0; symbols = symbols_hold file (sizes_of p) (offset_of file 5 + 24) 1 1 [] p.symbols parts.1 }

-- ---- the sections

fixed_true : (file : List ℕ) → AllHold file → AllTrue (fixed_parts file)
unfolding contents_conditions
fixed_true file q = fixed_hold file 64 1 (sections (sizes_in file)) (fixed_parts file) refl q.contents

abbrev with_strings : Object → ℕ → Sizes
with_strings p n = record (sizes_of p) { strings = n }

-- the names are as long as their header says
names_end_is : (file : List ℕ) → AllHold file → names_end 1 (claimed file).symbols ≡ size_of file 6
names_end_is file q =
    let strings : StringsHold file = strings_hold file (fixed_true file q).1.1.1.1.1.0 in
    let low : names_end 1 (claimed file).symbols ≤ size_of file 6 = (table_holds file q).symbols.ends strings.some in
    omega (arith, low, strings.high)

all_reach : (file : List ℕ) → IsBytes file → length file < 2 ^ 63 → AllHold file → AllReach file 0 (sections (sizes_of (claimed file)))
all_reach file fits short q =
    let h = q.held in
    let small = (claims_fit file fits short h).small in (
      (inr (refl, h.text), small.words),
      (
        (inr (refl, h.rodata), omega (arith, content_low file 2, short)),
        (
          (inr (refl, h.init), omega (arith, content_low file 3, short)),
          (
            (inl refl, size_fits file 4 fits),
            (
              (inr (refl, h.symbols), small.symbols),
              (
                (inr (refl, h.strings), small.names),
                (
                  (inr (refl, h.names), omega arith),
                  (
                    (inr (refl, h.text_relocs), small.text_relocs),
                    (
                      (inr (refl, h.init_relocs), small.init_relocs),
                      (
                        (inl refl, omega arith),
                        ((inr (refl, h.tagged), small.tagged), tt),
                      ),
                    ),
                  ),
                ),
              ),
            ),
          ),
        ),
      ),
    )

all_sections : (file : List ℕ) → IsBytes file → length file < 2 ^ 63 → AllHold file
    → SectionsHold file 64 1 (sections (sizes_of (claimed file)))
unfolding contents_conditions
all_sections file fits short q =
    let p : Object = claimed file in
    let same : sizes_in file ≡ sizes_of p = ap (with_strings p) (sym (names_end_is file q)) in
    let none : first_fault (contents_conditions file (sizes_of p)) ≡ None =
    subst (λ (z : Sizes). first_fault (contents_conditions file z) ≡ None) same q.contents in
    sections_hold file 64 0 (sections (sizes_of p)) (fixed_parts file) (all_reach file fits short q) short (omega arith) refl none

all_here : (file : List ℕ) → IsBytes file → length file < 2 ^ 63 → AllHold file → AllHere file 1 (contents (claimed file))
unfolding names_of
all_here file fits short q =
    let p : Object = claimed file in
    let h = q.held in
    let table : TableHolds file = table_holds file q in
    let fixed = fixed_true file q in
    let strings : StringsHold file = strings_hold file fixed.1.1.1.1.1.0 in
    let hold = all_sections file fits short q in
    let size : size_of file 5 ≡ 24 * (length p.symbols + 1) = hold.1.1.1.1.0.size in
    let symbols : StandsAt file (offset_of file 5) (replicate 24 0 ++ symbols_bytes 1 p.symbols) =
    stands-both file (offset_of file 5) 24 (replicate 24 0) (symbols_bytes 1 p.symbols) (length-replicate {A = ℕ} 24 0)
    (zeros_stand file (offset_of file 5) 24 table.empty (omega (arith, size, h.symbols))) table.symbols.stand in
    let code = relocs_hold file (reloc_rule true (sizes_of p).text (length p.symbols)) (offset_of file 8) 0 0 p.text_relocs q.code in
    let others = relocs_hold file (reloc_rule false (sizes_of p).init (length p.symbols)) (offset_of file 9) 0
    (length p.text_relocs) p.init_relocs q.data_relocs in
    let tags = tags_hold file p.symbols (offset_of file 11) [] 0 (length p.text_relocs + length p.init_relocs) p.tagged q.tagged in (
      words_stand (size_of file 1 / 4) (offset_of file 1) file fits (omega (arith, h.text)),
      (
        content_stands file 2 h.rodata,
        (
          content_stands file 3 h.init,
          (
            refl,
            (
              symbols,
              (
                names_stand file (size_of file 5 / 24 - 1) (offset_of file 5 + 24) p.symbols refl
                    (names_end_is file q) h.strings strings.empty,
                (
                  section_names_stand file fixed.1.1.1.1.1.1.0 h.names,
                  (
                    code.stand,
                    (
                      others.stand,
                      (
                        refl,
                        (tags.stand, tt),
                      ),
                    ),
                  ),
                ),
              ),
            ),
          ),
        ),
      ),
    )

-- ---- the whole

record Framed (file : List ℕ) (z : Sizes) : Type 0 where
  end : offset_of file 11 + size_of file 11 ≡ contents_end 64 (sections z)
  head : Headed file (headers_place z)
  last : Ended file

sum_is : (a b c d : ℕ) → a ≡ c → b ≡ d → a + b ≡ c + d
sum_is a b c d e f = omega (arith, e, f)

framed : (file : List ℕ) → IsBytes file → length file < 2 ^ 63 → AllHold file → Framed file (sizes_of (claimed file))
unfolding headers_place
framed file fits short q =
    let z : Sizes = sizes_of (claimed file) in
    let hold = all_sections file fits short q in
    let s11 = hold.1.1.1.1.1.1.1.1.1.1.0 in
    let end : offset_of file 11 + size_of file 11 ≡ contents_end 64 (sections z) =
    sum_is (offset_of file 11) (size_of file 11) _ _ s11.offset s11.size in
    let low : round16 (offset_of file 11 + size_of file 11) < 2 ^ 64 = omega (arith, q.held.tagged, short) in
    record {
      end = end;
      head = subst (λ (n : ℕ). Headed file (round16 n)) end (headed_at file q.headed low);
      last = ended_at file q.ended;
    }

pub claimed_file : (file : List ℕ) → IsBytes file → length file < 2 ^ 63 → AllHold file → ObjectFile (claimed file) file
unfolding file_size
claimed_file file fits short q =
    let p : Object = claimed file in
    let z : Sizes = sizes_of p in
    let f : Framed file z = framed file fits short q in
    let head = f.head in
    let last = f.last in
    let hold = all_sections file fits short q in
    let fit : ClaimsFit file = claims_fit file fits short q.held in
    let table : TableHolds file = table_holds file q in
    let headers : List ℕ = flat_map header_bytes (headers_of 64 (sections z)) in
    let len : length file ≡ headers_place z + 768 = omega (arith, last.len, head.there) in
    let end_bytes : StandsAt file (headers_at file) (last_bytes p) =
    stands-both file (headers_at file) 64 (replicate 64 0) headers (length-replicate {A = ℕ} 64 0)
    (zeros_stand file (headers_at file) 64 head.empty (omega (arith, last.len))) (headers_stand file 64 1 (sections z) hold) in
    let end_piece : Piece = piece (headers_place z) (last_bytes p) in
    let end_stands : StandsAt file (headers_place z) (last_bytes p) =
    subst (λ (n : ℕ). StandsAt file n (last_bytes p)) head.there end_bytes in
    let stand : AllStand file (pieces p) =
    (head.stand, contents_stand file 64 1 (sections z) (contents p) end_piece hold (all_here file fits short q) end_stands) in
    let wide : length (first_bytes p) ≡ 64 = length-ehdr (header (headers_place z)) refl in
    let gap_of : (i : ℕ) → IsGap i (pieces p) → get_or file i 0 ≡ 0 = λ i gap. elim gap.0 [
      | inl none ↦ absurd (omega (arith, none))
      | inr from ↦ elim (cases_lt i (length file)) [
        | inr past ↦ get_or_past file i 0 past
        | inl within ↦ elim (cases_lt i (contents_end 64 (sections z))) [
          | inl inside ↦ gap_zero file 64 1 (sections z) (contents p) end_piece i hold (contents_are_as_long p)
              (omega (arith, from, wide)) inside within gap.1
          | inr behind ↦ elim (gap_last 64 (sections z) (contents p) end_piece i gap.1).0 [
            | inl before ↦ zero_there file (offset_of file 11 + size_of file 11) (headers_at file) last.gap i
                (omega (arith, behind, f.end)) (omega (arith, before, head.there))
            | inr after ↦ absurd (omega (arith, after, len, within, length-last p))
          ]
        ]
      ]
    ] in
    record {
      valid = record {
        symbols = table.symbols.keep;
        text_relocs = (relocs_hold file (reloc_rule true z.text (length p.symbols)) (offset_of file 8) 0 0 p.text_relocs q.code).keep;
        init_relocs = (relocs_hold file (reloc_rule false z.init (length p.symbols)) (offset_of file 9) 0
            (length p.text_relocs) p.init_relocs q.data_relocs).keep;
        tagged = (tags_hold file p.symbols (offset_of file 11) [] 0 (length p.text_relocs + length p.init_relocs) p.tagged q.tagged).keep;
        numbers = record {
          names = table.symbols.fit;
          globals = hold.1.1.1.1.0.info;
          text_relocs = fit.text_counted;
          init_relocs = fit.init_counted;
          tagged = fit.numbered;
        };
        small = omega (arith, len, short);
      };
      laid_out = record { len = len; stand = stand; gaps = gap_of };
    }

-- the bytes are the file of what they claim
pub file_of_claims : (file : List ℕ) → IsBytes file → length file < 2 ^ 63 → first_fault (conditions file) ≡ None
    → IsFileOf (claimed file) file
file_of_claims file fits short none = record {
  is_file = claimed_file file fits short (all_hold file none);
  ranges = claimed_ranges file fits;
}

-- bytes are the file of some object, or they have a first fault
pub file_or_fault : (file : List ℕ) → IsBytes file → length file < 2 ^ 63 → IsFileOf (claimed file) file ⊎ HasFault file
file_or_fault file fits short = elim (all_or_first file) [
  | inl none ↦ inl (file_of_claims file fits short none)
  | inr fault ↦ inr fault
]
