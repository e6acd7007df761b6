-- Which symbols and relocations an object may have, as tests that compute (this project's own).
use Rattle.std.specs.Prelude.{ℕ, ℤ, pos, negsuc, ◌+◌, ◌%◌, Bool, true, false, not, ◌&&◌, ◌||◌, ◌==◌, nat_le, nat_lt, List, [], ◌∷◌, ◌++◌}
use Rattle.std.specs.Prelude.{slice_get}
use Rattle.std.specs.Prelude.{Option, Some, None}
use Rattle.std.specs.List.{list_all, list_any}
use Rattle.std.specs.Str.{bytes_eq}
use Rattle.elf_obj.specs.declared.parts.Symbol.{Symbol}
use Rattle.elf_obj.specs.declared.parts.Reloc.{Reloc}
use Rattle.elf_obj.specs.declared.parts.Home.{Home}
use Rattle.elf_obj.specs.declared.parts.Home.TheVariants.{Undef, Text, Rodata, Init, Zero}
use Rattle.elf_obj.specs.declared.sizes.Sizes.{Sizes}
use Rattle.elf_obj.specs.Records.{home_number}

-- ---- symbols

-- local symbols come before the others
abbrev pub is_in_order : List Symbol → Symbol → Bool
is_in_order earlier s = not s.local || list_all (λ e. e.local) earlier

abbrev pub is_empty : List ℕ → Bool
is_empty [] = true
is_empty (b ∷ bs) = false

-- a name has no zero byte, and only that of a local symbol is empty
abbrev pub is_named : Symbol → Bool
is_named s = not (list_any (λ b. b == 0) s.name) && (s.local || not (is_empty s.name))

-- the other symbol is seen by other objects, under the same name
abbrev pub is_namesake : Symbol → Symbol → Bool
is_namesake s e = not e.local && bytes_eq e.name s.name

-- symbols that other objects see have names of their own
abbrev pub is_new : List Symbol → Symbol → Bool
is_new earlier s = s.local || not (list_any (is_namesake s) earlier)

-- what another object defines is neither local nor a function, and has no place and no size
abbrev pub is_reference : Symbol → Bool
is_reference s = not s.local && not s.function && (s.value == 0) && (s.size == 0)

-- an object is some whole granules
abbrev pub is_whole : Symbol → Bool
is_whole s = s.function || ((s.value % 16 == 0) && (s.size % 16 == 0) && nat_lt 0 s.size)

-- what is defined lies within its section
abbrev pub is_within : ℕ → Symbol → Bool
is_within bytes s = nat_le (s.value + s.size) bytes && is_whole s

abbrev pub has_place : Sizes → Home → Symbol → Bool
has_place z Undef s = is_reference s
has_place z Text s = is_within z.text s
has_place z Rodata s = is_within z.rodata s
has_place z Init s = is_within z.init s
has_place z Zero s = is_within z.zero s

-- a symbol behind others
unfoldable pub symbol_keeps : Sizes → List Symbol → Symbol → Bool
symbol_keeps z earlier s = is_in_order earlier s && is_named s && is_new earlier s && has_place z s.home s

-- each symbol behind those before it
abbrev pub symbols_keep : Sizes → List Symbol → List Symbol → Bool
symbols_keep z earlier [] = true
symbols_keep z earlier (s ∷ ss) = symbol_keeps z earlier s && symbols_keep z (earlier ++ s ∷ []) ss

-- ---- relocations

-- a field of so many bytes, at a multiple of them, within the section, and not before a place
abbrev pub is_field : ℕ → ℕ → ℕ → ℕ → Bool
is_field width bytes least offset = (offset % width == 0) && nat_le (offset + width) bytes && nat_le least offset

-- R_AARCH64_ADR_GOT_PAGE and LD64_GOT_LO12_NC
abbrev pub is_got_kind : ℕ → Bool
is_got_kind kind = (kind == 311) || (kind == 312)

-- these, R_AARCH64_ADR_PREL_PG_HI21, ADD_ABS_LO12_NC, JUMP26 and CALL26
abbrev pub is_code_kind : ℕ → Bool
is_code_kind kind = (kind == 275) || (kind == 277) || (kind == 282) || (kind == 283) || is_got_kind kind

abbrev pub is_zero : ℤ → Bool
is_zero (pos n) = n == 0
is_zero (negsuc n) = false

-- a relocation of a word, in so many bytes of code and with so many symbols
unfoldable pub code_reloc_keeps : ℕ → ℕ → ℕ → Reloc → Bool
code_reloc_keeps bytes count least r =
    is_code_kind r.kind && is_field 4 bytes least r.offset && nat_lt r.symbol count && (not (is_got_kind r.kind) || is_zero r.addend)

-- a relocation of an address in the data, R_AARCH64_ABS64
unfoldable pub data_reloc_keeps : ℕ → ℕ → ℕ → Reloc → Bool
data_reloc_keeps bytes count least r = (r.kind == 257) && is_field 8 bytes least r.offset && nat_lt r.symbol count

-- the rule of the relocations of the instructions, or of the filled data
abbrev pub reloc_rule : Bool → ℕ → ℕ → ℕ → Reloc → Bool
reloc_rule true bytes count = code_reloc_keeps bytes count
reloc_rule false bytes count = data_reloc_keeps bytes count

-- each relocation stands behind the one before
abbrev pub relocs_keep : (ℕ → Reloc → Bool) → ℕ → List Reloc → Bool
relocs_keep rule least [] = true
relocs_keep rule least (r ∷ rs) = rule least r && relocs_keep rule (r.offset + 1) rs

-- ---- tagged symbols

-- the two have a byte in common
abbrev pub shares_byte : Symbol → Symbol → Bool
shares_byte s e = (home_number s.home == home_number e.home) && nat_lt s.value (e.value + e.size) && nat_lt e.value (s.value + s.size)

abbrev pub is_variable : Home → Bool
is_variable Undef = false
is_variable Text = false
is_variable Rodata = false
is_variable Init = true
is_variable Zero = true

abbrev pub shares_found : Symbol → Option Symbol → Bool
shares_found s None = false
shares_found s (Some e) = shares_byte s e

-- no symbol of an earlier number shares a byte with this one
abbrev pub is_apart : List Symbol → List ℕ → Symbol → Bool
is_apart symbols earlier s = not (list_any (λ e. shares_found s (slice_get symbols e)) earlier)

-- a defined object that may be written, apart from those of earlier numbers
abbrev pub can_be_tagged : List Symbol → List ℕ → Option Symbol → Bool
can_be_tagged symbols earlier None = false
can_be_tagged symbols earlier (Some s) =
    is_variable s.home && not s.function && is_apart symbols earlier s

-- tagged symbols have increasing numbers
unfoldable pub tag_keeps : List Symbol → List ℕ → ℕ → ℕ → Bool
tag_keeps symbols earlier least t = nat_le least t && can_be_tagged symbols earlier (slice_get symbols t)

abbrev pub tags_keep : List Symbol → List ℕ → ℕ → List ℕ → Bool
tags_keep symbols earlier least [] = true
tags_keep symbols earlier least (t ∷ ts) = tag_keeps symbols earlier least t && tags_keep symbols (earlier ++ t ∷ []) (t + 1) ts
