-- The global offset table (ELF for the Arm 64-bit architecture): which symbols have a word in it, and in which order (this project's own).
use Rattle.std.specs.Prelude.{ℕ, ◌+◌, ◌*◌, not, List, [], ◌∷◌, ◌++◌, Option, None, length, if◌then◌else◌}
use Rattle.std.specs.List.{filter, filter_map, position_or_len}
use Rattle.elf_obj.specs.declared.parts.Symbol.{Symbol}
use Rattle.elf_obj.specs.declared.parts.Reloc.{Reloc}
use Rattle.elf_obj.specs.Object.{Object}
use Rattle.elf_obj.specs.Rules.{is_got_kind}
use Rattle.linker.specs.Names.{NumberedSymbol, is_same, target}

-- the symbol that a relocation uses through the table, R_AARCH64_ADR_GOT_PAGE or LD64_GOT_LO12_NC
abbrev pub used_by : List Object → ℕ → List Symbol → Reloc → Option NumberedSymbol
used_by objects k symbols r = if is_got_kind r.kind then target objects k symbols r.symbol else None

-- the symbols that the relocations of objects use through the table, in their order; the objects are counted from a number
abbrev pub uses_from : List Object → ℕ → List Object → List NumberedSymbol
uses_from objects k [] = []
uses_from objects k (o ∷ os) = filter_map (used_by objects k o.symbols) o.text_relocs ++ uses_from objects (k + 1) os

-- each symbol of a list once, where it comes first
abbrev pub firsts : List NumberedSymbol → List NumberedSymbol
firsts [] = []
firsts (e ∷ es) = e ∷ filter (λ f. not (is_same e f)) (firsts es)

-- the symbols that have a word in the table, in its order
unfoldable pub got : List Object → List NumberedSymbol
got objects = firsts (uses_from objects 0 objects)

-- the number of a symbol's word, from 0
abbrev pub got_number : List Object → NumberedSymbol → ℕ
got_number objects e = position_or_len (is_same e) (got objects)

-- how many bytes the table has: 8 a word
abbrev pub got_bytes : List Object → ℕ
got_bytes objects = 8 * length (got objects)
