-- No condition on the file of an object fails.
use Rattle.std.proofs.Common.{◌≡◌, ℕ, ◌+◌, ◌≤◌, true, false, List, [], ◌∷◌, ◌++◌, length, take, replicate, refl, sym, ap, subst, ◌∙◌}
use Rattle.std.proofs.Common.{arith, None}
use Rattle.std.specs.Prelude.{◌==◌}
use Rattle.std.specs.List.{flat_map}
use Rattle.std.specs.Str.{bytes_eq}
use Rattle.std.proofs.lemmas.List.{length-replicate, take_all}
use Rattle.std.proofs.lemmas.Slice.Eq.{bytes_eq-Decides}
use Rattle.mt_base.specs.Granules.{round16}
use Rattle.elf_base.specs.declared.header.Ehdr.{Ehdr}
use Rattle.elf_base.specs.Field.{bytes_of, StandsAt}
use Rattle.elf_base.specs.Place.{number_at}
use Rattle.elf_base.specs.Records.{ehdr_fields, identification}
use Rattle.elf_base.specs.Laws.Tests.{both_hold, le_is, same_is}
use Rattle.elf_base.specs.Laws.Conditions.{EachHolds, none_fails, holds_append}
use Rattle.elf_base.specs.Zeros.{is_zero_between}
use Rattle.elf_base.specs.Conditions.{condition, first_fault}
use Rattle.elf_obj.specs.declared.refusal.ObjectRefusal.TheVariants.{BadSection}
use Rattle.elf_obj.specs.declared.sizes.Sizes.{Sizes}
use Rattle.elf_obj.specs.Object.{Object}
use Rattle.elf_obj.specs.Sections.{sections, sizes_of, names_end, contents_end, headers_place}
use Rattle.elf_obj.specs.Records.{header, symbols_bytes, name_bytes}
use Rattle.elf_obj.specs.Contents.{section_names}
use Rattle.elf_obj.specs.Rules.{reloc_rule}
use Rattle.elf_obj.specs.ObjectFile.{IsFileOf}
use Rattle.elf_obj.specs.Claimed.{headers_at, offset_of, size_of, content_of, claimed}
use Rattle.elf_obj.specs.Conditions.{stands}
use Rattle.elf_obj.specs.ObjectFault.{is_held, all_held, is_headed, is_strings, is_names, fixed_parts, sizes_in, is_ended}
use Rattle.elf_obj.specs.ObjectFault.{start_conditions, section_conditions, contents_conditions, all_section_conditions, table_conditions}
use Rattle.elf_obj.specs.ObjectFault.{code_conditions, data_conditions, tagged_conditions, object_conditions, conditions}
use Rattle.elf_obj.specs.Laws.Fields.{is-stands}
use Rattle.elf_obj.specs.Laws.SectionsHold.{AllTrue}
use Rattle.elf_obj.specs.Laws.ZerosBetween.{zeros_between}
use Rattle.elf_obj.specs.Laws.ReadAgain.{apart}
use Rattle.elf_obj.specs.Laws.RecordsAgain.{relocs_good, tags_good, symbols_good}
use Rattle.elf_obj.specs.Laws.SectionsAgain.{sections_good}
use Rattle.elf_obj.specs.Laws.Ends.{names_grow}
use Rattle.elf_obj.specs.Laws.Again.{Frame, frame, hold_again, within_again, all_again, content_again, claims}

-- ---- the start

ident_is : (file : List ℕ) → take 16 file ≡ identification → 16 ≤ length file
    → bytes_eq (take 16 file) (take (length file) identification) ≡ true
ident_is file is long =
    (bytes_eq-Decides (take 16 file) (take (length file) identification)).1 (is ∙ sym (take_all (length file) identification long))

held_is : (file : List ℕ) (k : ℕ) → offset_of file k + size_of file k ≤ length file → is_held file k ≡ true
unfolding is_held
held_is file k h = le_is (offset_of file k + size_of file k) (length file) h

held_again : (p : Object) (file : List ℕ) → IsFileOf p file → all_held file ≡ true
unfolding all_held
held_again p file f =
    let q : Frame (sizes_of p) file = frame p file f in
    let w = within_again p file f in
    let headers : headers_at file + 768 ≤ length file = omega (arith, q.there, q.len) in
    let h0 = le_is (headers_at file + 768) (length file) headers in
    let h1 = both_hold _ _ h0 (held_is file 1 (w.0 refl)) in
    let h2 = both_hold _ _ h1 (held_is file 2 (w.1.0 refl)) in
    let h3 = both_hold _ _ h2 (held_is file 3 (w.1.1.0 refl)) in
    let h5 = both_hold _ _ h3 (held_is file 5 (w.1.1.1.1.0 refl)) in
    let h6 = both_hold _ _ h5 (held_is file 6 (w.1.1.1.1.1.0 refl)) in
    let h7 = both_hold _ _ h6 (held_is file 7 (w.1.1.1.1.1.1.0 refl)) in
    let h8 = both_hold _ _ h7 (held_is file 8 (w.1.1.1.1.1.1.1.0 refl)) in
    let h9 = both_hold _ _ h8 (held_is file 9 (w.1.1.1.1.1.1.1.1.0 refl)) in
    both_hold _ _ h9 (held_is file 11 (w.1.1.1.1.1.1.1.1.1.1.0 refl))

starts_good : (p : Object) (file : List ℕ) → IsFileOf p file → EachHolds (start_conditions file)
starts_good p file f =
    let q : Frame (sizes_of p) file = frame p file f in
    let len = q.len in
    let ident : take 16 file ≡ identification = ap (λ (h : Ehdr). h.ident) q.head in
    let kind : (number_at 2 16 file == 1) ≡ true = ap (λ (h : Ehdr). h.kind == 1) q.head in
    let machine : (number_at 2 18 file == 183) ≡ true = ap (λ (h : Ehdr). h.machine == 183) q.head in (
      ident_is file ident (omega (arith, len)),
      (
        le_is 64 (length file) (omega (arith, len)),
        (both_hold (number_at 2 16 file == 1) (number_at 2 18 file == 183) kind machine, (held_again p file f, tt)),
      ),
    )

-- ---- the sections

headed_is : (file : List ℕ) (place : ℕ) → round16 (offset_of file 11 + size_of file 11) ≡ place → headers_at file ≡ place
    → StandsAt file 0 (bytes_of (ehdr_fields (header place))) → is_zero_between file place (place + 64) ≡ true → is_headed file ≡ true
unfolding is_headed
headed_is file place end there stand empty =
    let header_stands : stands (ehdr_fields (header (round16 (offset_of file 11 + size_of file 11)))) 0 file ≡ true =
    ap (λ (n : ℕ). stands (ehdr_fields (header n)) 0 file) end ∙ is-stands (ehdr_fields (header place)) 0 file stand in
    let zeros : is_zero_between file (headers_at file) (headers_at file + 64) ≡ true =
    ap (λ (n : ℕ). is_zero_between file n (n + 64)) there ∙ empty in
    both_hold _ _ header_stands zeros

ended_is : (file : List ℕ) (place end : ℕ) → offset_of file 11 + size_of file 11 ≡ end → headers_at file ≡ place
    → is_zero_between file end place ≡ true
    → length file ≡ place + 768 → is_ended file ≡ true
unfolding is_ended
ended_is file place end ends there gap len =
    let zeros : is_zero_between file (offset_of file 11 + size_of file 11) (headers_at file) ≡ true =
    ap (λ (n : ℕ). is_zero_between file n (headers_at file)) ends ∙ ap (is_zero_between file end) there ∙ gap in
    both_hold _ _ zeros (same_is (length file) (headers_at file + 768) (omega (arith, len, there)))

strings_is : (file : List ℕ) (p : Object) → claimed file ≡ p → size_of file 6 ≡ names_end 1 p.symbols
    → StandsAt file (offset_of file 6) (0 ∷ flat_map name_bytes p.symbols) → is_strings file ≡ true
unfolding is_strings
strings_is file p is size stand =
    let parts = apart file (offset_of file 6) 1 (0 ∷ []) (flat_map name_bytes p.symbols) refl stand in
    let some : 1 ≤ size_of file 6 = omega (arith, size, names_grow 1 p.symbols) in
    let same : names_end 1 (claimed file).symbols ≡ names_end 1 p.symbols = ap (λ (o : Object). names_end 1 o.symbols) is in
    both_hold _ _ (both_hold _ _ (le_is 1 (size_of file 6) some) (zeros_between file (offset_of file 6) 1 parts.0))
    (le_is (size_of file 6) (names_end 1 (claimed file).symbols) (omega (arith, size, same)))

names_is : (file : List ℕ) → content_of file 7 ≡ section_names → is_names file ≡ true
unfolding is_names
names_is file is = (bytes_eq-Decides (content_of file 7) section_names).1 is

fixed_good : (p : Object) (file : List ℕ) → IsFileOf p file → AllTrue (fixed_parts file)
fixed_good p file f =
    let hold = hold_again p file f in
    let here = all_again p file f in
    let strings : is_strings file ≡ true = strings_is file p (claims p file f) hold.1.1.1.1.1.0.size here.1.1.1.1.1.0 in
    let names : is_names file ≡ true = names_is file (content_again file 7 section_names hold.1.1.1.1.1.1.0.size here.1.1.1.1.1.1.0) in
    (refl, (refl, (refl, (refl, (refl, (strings, (names, (refl, (refl, (refl, (refl, tt)))))))))))

abbrev with_strings : Object → ℕ → Sizes
with_strings p n = record (sizes_of p) { strings = n }

sizes_are : (p : Object) (file : List ℕ) → IsFileOf p file → sizes_in file ≡ sizes_of p
sizes_are p file f =
    let hold = hold_again p file f in
    let size : size_of file 6 ≡ names_end 1 p.symbols = hold.1.1.1.1.1.0.size in
    ap (λ (o : Object). with_strings o (size_of file 6)) (claims p file f) ∙ ap (with_strings p) size

contents_good : (p : Object) (file : List ℕ) → IsFileOf p file → EachHolds (contents_conditions file (sizes_in file))
unfolding contents_conditions
contents_good p file f =
    subst (λ (z : Sizes). EachHolds (section_conditions file 64 1 (sections z) (fixed_parts file))) (sym (sizes_are p file f))
    (sections_good file 64 1 (sections (sizes_of p)) (fixed_parts file) (frame p file f).good (fixed_good p file f))

end_is : (a b c d : ℕ) → a ≡ c → b ≡ d → a + b ≡ c + d
end_is a b c d e f = omega (arith, e, f)

tables_end : (p : Object) (file : List ℕ) → IsFileOf p file → offset_of file 11 + size_of file 11 ≡ contents_end 64 (sections (sizes_of p))
tables_end p file f =
    let last = (hold_again p file f).1.1.1.1.1.1.1.1.1.1.0 in
    end_is (offset_of file 11) (size_of file 11) _ _ last.offset last.size

rounded : (z : Sizes) (n : ℕ) → n ≡ contents_end 64 (sections z) → round16 n ≡ headers_place z
unfolding headers_place
rounded z n h = ap round16 h

all_sections_good : (p : Object) (file : List ℕ) → IsFileOf p file → EachHolds (all_section_conditions file)
all_sections_good p file f =
    let z : Sizes = sizes_of p in
    let q : Frame z file = frame p file f in
    let end = tables_end p file f in
    let headed : is_headed file ≡ true =
    headed_is file (headers_place z) (rounded z (offset_of file 11 + size_of file 11) end) q.there q.stand q.empty in
    let ended : is_ended file ≡ true = ended_is file (headers_place z) (contents_end 64 (sections z)) end q.there q.gap q.len in (
      headed,
      holds_append (contents_conditions file (sizes_in file)) (condition (is_ended file) (BadSection 12) ∷ [])
          (contents_good p file f) (ended, tt),
    )

-- ---- the records

records_good : (p : Object) (file : List ℕ) → IsFileOf p file → EachHolds (object_conditions file p)
records_good p file f =
    let z : Sizes = sizes_of p in
    let valid = f.is_file.valid in
    let hold = hold_again p file f in
    let here = all_again p file f in
    let size : size_of file 6 ≡ names_end 1 p.symbols = hold.1.1.1.1.1.0.size in
    let parts = apart file (offset_of file 5) 24 (replicate 24 0) (symbols_bytes 1 p.symbols)
    (length-replicate {A = ℕ} 24 0) here.1.1.1.1.0 in
    let table : EachHolds (table_conditions file p) = (
      zeros_between file (offset_of file 5) 24 parts.0,
      symbols_good file z (offset_of file 5 + 24) 1 1 [] p.symbols valid.numbers.names parts.1 (omega (arith, size)) valid.symbols,
    ) in
    let code : EachHolds (code_conditions file p) =
    relocs_good file (reloc_rule true z.text (length p.symbols))
    (offset_of file 8) 0 0 p.text_relocs here.1.1.1.1.1.1.1.0 valid.text_relocs in
    let data_relocs : EachHolds (data_conditions file p) =
    relocs_good file (reloc_rule false z.init (length p.symbols)) (offset_of file 9) 0
    (length p.text_relocs) p.init_relocs here.1.1.1.1.1.1.1.1.0 valid.init_relocs in
    let tagged : EachHolds (tagged_conditions file p) =
    tags_good file p.symbols (offset_of file 11) [] 0
    (length p.text_relocs + length p.init_relocs) p.tagged here.1.1.1.1.1.1.1.1.1.1.0 valid.tagged in
    holds_append (table_conditions file p ++ code_conditions file p ++ data_conditions file p) (tagged_conditions file p)
    (holds_append (table_conditions file p ++ code_conditions file p) (data_conditions file p)
    (holds_append (table_conditions file p) (code_conditions file p) table code) data_relocs) tagged

-- no condition fails
pub no_fault : (p : Object) (file : List ℕ) → IsFileOf p file → first_fault (conditions file) ≡ None
unfolding conditions
no_fault p file f =
    let records : EachHolds (object_conditions file (claimed file)) =
    subst (λ (o : Object). EachHolds (object_conditions file o)) (sym (claims p file f)) (records_good p file f) in
    none_fails (start_conditions file ++ all_section_conditions file ++ object_conditions file (claimed file))
    (holds_append (start_conditions file ++ all_section_conditions file) (object_conditions file (claimed file))
    (holds_append (start_conditions file) (all_section_conditions file) (starts_good p file f) (all_sections_good p file f)) records)
