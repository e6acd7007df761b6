-- The instruction of a word as a function, which computes. It is `Row` both ways, as `decode` says.
use Rattle.std.specs.Prelude.{ℕ, ◌==◌, Bool, true, false, List, [], ◌++◌, map, Option, bit_and}
use Rattle.std.specs.Option.{option_map}
use Rattle.std.specs.List.{find, filter}
use Rattle.a64_code.specs.declared.instr.Instr.{Instr}
use Rattle.a64_code.specs.Field.{values, fields_of, bits_beside}
use Rattle.a64_code.specs.Line.{has_narrow}
use Rattle.a64_code.specs.Entry.{Form, form, made}
use Rattle.a64_code.specs.Table.{Encoding, row, table}

-- All rows of the table: those on 64 bits, or of one form, and then those on 32.
abbrev pub forms : List Form
forms = map (form true) table ++ map (form false) (filter has_narrow table)

-- A row with all fields zero.
abbrev pub blank : Form → Encoding
blank f = row f []

-- The bits beside the fields are those of the base word.
abbrev pub fits : ℕ → Form → Bool
fits word f = bit_and word (bits_beside 32 (blank f).fields) == (blank f).base

-- The instruction of a row, with its fields as a word has them.
abbrev pub reading : ℕ → Form → Instr
reading word f = made f (values (fields_of word (blank f).fields))

-- The instruction of the row that fits, if one does. A word has 32 bits.
abbrev pub decoded : ℕ → Option Instr
decoded word = option_map (reading word) (find (fits word) forms)
