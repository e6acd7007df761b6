-- What is wrong with bytes that are the file of no object: the first condition that fails, and its place.
use Rattle.std.specs.Prelude.{◌≡◌, ℕ, ◌+◌, ◌*◌, Bool, true, false, ◌&&◌, ◌==◌, nat_le, nat_lt, List, [], ◌∷◌, ◌++◌, length, take, Some}
use Rattle.std.specs.Str.{bytes_eq}
use Rattle.mt_base.specs.Granules.{round16}
use Rattle.elf_base.specs.Place.{number_at}
use Rattle.elf_base.specs.Records.{ehdr_fields, shdr_fields, sym_fields, rela_fields, identification}
use Rattle.elf_base.specs.Index.{told_index}
use Rattle.elf_base.specs.Zeros.{is_zero_between}
use Rattle.elf_base.specs.Conditions.{Condition, condition, first_fault}
use Rattle.elf_obj.specs.declared.parts.Symbol.{Symbol}
use Rattle.elf_obj.specs.declared.parts.Reloc.{Reloc}
use Rattle.elf_obj.specs.declared.refusal.ObjectRefusal.{ObjectRefusal}
use Rattle.elf_obj.specs.declared.refusal.ObjectRefusal.TheVariants.{NotElf, NotThisMachine, Truncated, BadSection, BadSymbol}
use Rattle.elf_obj.specs.declared.refusal.ObjectRefusal.TheVariants.{BadRelocation}
use Rattle.elf_obj.specs.declared.section.Section.{Section}
use Rattle.elf_obj.specs.declared.sizes.Sizes.{Sizes}
use Rattle.elf_obj.specs.Object.{Object}
use Rattle.elf_obj.specs.Sections.{sections, names_end, sizes_of, header_of}
use Rattle.elf_obj.specs.Records.{header, symbol_record, reloc_record, tag_record}
use Rattle.elf_obj.specs.Contents.{section_names}
use Rattle.elf_obj.specs.Rules.{symbol_keeps, reloc_rule, tag_keeps}
use Rattle.elf_obj.specs.Claimed.{headers_at, offset_of, size_of, content_of, claimed}
use Rattle.elf_obj.specs.Conditions.{stands}

-- ---- the start

-- the content of a section does not pass the end
unfoldable pub is_held : List ℕ → ℕ → Bool
is_held file k = nat_le (offset_of file k + size_of file k) (length file)

-- nor do the section headers, and the contents of all sections that stand in the file, also those of no bytes
unfoldable pub all_held : List ℕ → Bool
all_held file =
    nat_le (headers_at file + 768) (length file) && is_held file 1 && is_held file 2 && is_held file 3 && is_held file 5
    && is_held file 6 && is_held file 7 && is_held file 8 && is_held file 9 && is_held file 11

abbrev pub start_conditions : List ℕ → List (Condition ObjectRefusal)
start_conditions file =
    condition (bytes_eq (take 16 file) (take (length file) identification)) NotElf
    ∷ condition (nat_le 64 (length file)) (Truncated (length file))
    ∷ condition ((number_at 2 16 file == 1) && (number_at 2 18 file == 183)) NotThisMachine
    ∷ condition (all_held file) (Truncated (length file))
    ∷ []

-- ---- the sections

-- the file's header, in which the section headers stand behind the last section, and the empty section header
unfoldable pub is_headed : List ℕ → Bool
is_headed file =
    stands (ehdr_fields (header (round16 (offset_of file 11 + size_of file 11)))) 0 file
    && is_zero_between file (headers_at file) (headers_at file + 64)

-- .strtab begins with a zero byte, and has no bytes behind the last name
unfoldable pub is_strings : List ℕ → Bool
is_strings file =
    nat_le 1 (size_of file 6) && is_zero_between file (offset_of file 6) (offset_of file 6 + 1)
    && nat_le (size_of file 6) (names_end 1 (claimed file).symbols)

-- .shstrtab is always the same
unfoldable pub is_names : List ℕ → Bool
is_names file = bytes_eq (content_of file 7) section_names

-- what is fixed in the content of each section
abbrev pub fixed_parts : List ℕ → List Bool
fixed_parts file =
    true ∷ true ∷ true ∷ true ∷ true ∷ is_strings file ∷ is_names file ∷ true ∷ true ∷ true ∷ true ∷ []

-- how much each part is that is claimed; .strtab is as long as its header says
abbrev pub sizes_in : List ℕ → Sizes
sizes_in file = record (sizes_of (claimed file)) { strings = size_of file 6 }

-- the header of a section, and the zeros before the section, which follows what ends at a place
unfoldable pub is_section : List ℕ → ℕ → ℕ → Section → Bool
is_section file at k s =
    nat_lt s.info 4294967296 && stands (shdr_fields (header_of s (round16 at))) (headers_at file + 64 * k) file
    && is_zero_between file at (round16 at)

-- sections of these numbers, the first of which follows what ends at a place
abbrev pub section_conditions : List ℕ → ℕ → ℕ → List Section → List Bool → List (Condition ObjectRefusal)
section_conditions file at k [] fixed = []
section_conditions file at k (s ∷ ss) [] = []
section_conditions file at k (s ∷ ss) (f ∷ fs) =
    condition (is_section file at k s && f) (BadSection k) ∷ section_conditions file (round16 at + s.bytes) (k + 1) ss fs

-- the sections 1 to 11
unfoldable pub contents_conditions : List ℕ → Sizes → List (Condition ObjectRefusal)
contents_conditions file z = section_conditions file 64 1 (sections z) (fixed_parts file)

-- zeros stand before the section headers, with which the file ends
unfoldable pub is_ended : List ℕ → Bool
is_ended file =
    is_zero_between file (offset_of file 11 + size_of file 11) (headers_at file) && (length file == headers_at file + 768)

-- ---- the symbols

-- where the record of a symbol stands and where its name does, and the symbols before it
pub record SymbolSpot : Type 0 where
  pub at : ℕ
  pub name : ℕ
  pub earlier : List Symbol

abbrev pub symbol_spot : ℕ → ℕ → List Symbol → SymbolSpot
symbol_spot at name earlier = record { at = at; name = name; earlier = earlier }

-- the record of a symbol and its name stand where they should, and it keeps the rules
unfoldable pub is_symbol : List ℕ → Sizes → SymbolSpot → Symbol → Bool
is_symbol file z spot s =
    nat_lt spot.name 4294967296 && stands (sym_fields (symbol_record spot.name s)) spot.at file
    && nat_le (spot.name + length s.name + 1) (size_of file 6) && symbol_keeps z spot.earlier s

-- symbols of which the first stands so and has this number
abbrev pub symbol_conditions : List ℕ → Sizes → SymbolSpot → ℕ → List Symbol → List (Condition ObjectRefusal)
symbol_conditions file z spot k [] = []
symbol_conditions file z spot k (s ∷ ss) =
    condition (is_symbol file z spot s) (BadSymbol (told_index k))
    ∷ symbol_conditions file z (symbol_spot (spot.at + 24) (spot.name + length s.name + 1) (spot.earlier ++ s ∷ [])) (k + 1) ss

-- ---- the relocations

-- where the record of a relocation stands, and the first place that it may name
pub record RelocSpot : Type 0 where
  pub at : ℕ
  pub least : ℕ

abbrev pub reloc_spot : ℕ → ℕ → RelocSpot
reloc_spot at least = record { at = at; least = least }

unfoldable pub is_reloc : List ℕ → ℕ → Reloc → Bool
is_reloc file at r = stands (rela_fields (reloc_record r)) at file

-- relocations under a rule, of which the first stands so and has this number
abbrev pub reloc_conditions : List ℕ → (ℕ → Reloc → Bool) → RelocSpot → ℕ → List Reloc → List (Condition ObjectRefusal)
reloc_conditions file rule spot k [] = []
reloc_conditions file rule spot k (r ∷ rs) =
    condition (is_reloc file spot.at r && rule spot.least r) (BadRelocation (told_index k))
    ∷ reloc_conditions file rule (reloc_spot (spot.at + 24) (r.offset + 1)) (k + 1) rs

-- where the record of a tagged symbol stands, the tagged symbols before it, and the first number that it may have
pub record TagSpot : Type 0 where
  pub at : ℕ
  pub earlier : List ℕ
  pub least : ℕ

abbrev pub tag_spot : ℕ → List ℕ → ℕ → TagSpot
tag_spot at earlier least = record { at = at; earlier = earlier; least = least }

unfoldable pub is_tag : List ℕ → ℕ → ℕ → Bool
is_tag file at t = stands (rela_fields (tag_record t)) at file

-- tagged symbols among these, of which the first stands so and has this number
abbrev pub tag_conditions : List ℕ → List Symbol → TagSpot → ℕ → List ℕ → List (Condition ObjectRefusal)
tag_conditions file symbols spot k [] = []
tag_conditions file symbols spot k (t ∷ ts) =
    condition (is_tag file spot.at t && tag_keeps symbols spot.earlier spot.least t) (BadRelocation (told_index k))
    ∷ tag_conditions file symbols (tag_spot (spot.at + 24) (spot.earlier ++ t ∷ []) (t + 1)) (k + 1) ts

-- ---- all of them, in their order

-- the empty symbol, and the others
abbrev pub table_conditions : List ℕ → Object → List (Condition ObjectRefusal)
table_conditions file p =
    condition (is_zero_between file (offset_of file 5) (offset_of file 5 + 24)) (BadSymbol 0)
    ∷ symbol_conditions file (sizes_of p) (symbol_spot (offset_of file 5 + 24) 1 []) 1 p.symbols

-- the relocations of the instructions, of the filled data, and those that name tagged symbols
abbrev pub code_conditions : List ℕ → Object → List (Condition ObjectRefusal)
code_conditions file p =
    reloc_conditions file (reloc_rule true (sizes_of p).text (length p.symbols)) (reloc_spot (offset_of file 8) 0) 0 p.text_relocs

abbrev pub data_conditions : List ℕ → Object → List (Condition ObjectRefusal)
data_conditions file p =
    reloc_conditions file (reloc_rule false (sizes_of p).init (length p.symbols)) (reloc_spot (offset_of file 9) 0) (length p.text_relocs)
    p.init_relocs

abbrev pub tagged_conditions : List ℕ → Object → List (Condition ObjectRefusal)
tagged_conditions file p =
    tag_conditions file p.symbols (tag_spot (offset_of file 11) [] 0) (length p.text_relocs + length p.init_relocs) p.tagged

abbrev pub object_conditions : List ℕ → Object → List (Condition ObjectRefusal)
object_conditions file p = table_conditions file p ++ code_conditions file p ++ data_conditions file p ++ tagged_conditions file p

abbrev pub all_section_conditions : List ℕ → List (Condition ObjectRefusal)
all_section_conditions file =
    condition (is_headed file) (BadSection 0)
    ∷ contents_conditions file (sizes_in file)
    ++ condition (is_ended file) (BadSection 12) ∷ []

unfoldable pub conditions : List ℕ → List (Condition ObjectRefusal)
conditions file = start_conditions file ++ all_section_conditions file ++ object_conditions file (claimed file)

-- the bytes are the file of no object, and this is the first condition that fails
abbrev pub ObjectFault : List ℕ → ObjectRefusal → Type 0
ObjectFault file fault = first_fault (conditions file) ≡ Some fault
