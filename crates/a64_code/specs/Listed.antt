-- The table as the program keeps it: four fields a line, of which the last may be none.
use Rattle.std.specs.Prelude.{ℕ, Bool, ◌&&◌, nat_le, List, [], ◌∷◌, None, unwrap_or, slice_index_or, slice_index}
use Rattle.std.specs.List.{list_all}
use Rattle.a64_code.specs.declared.line.TableLine.{TableLine}
use Rattle.a64_code.specs.declared.place.Place.{Place}
use Rattle.a64_code.specs.declared.rows.TableRow.{TableRow}
use Rattle.a64_code.specs.Field.{Field, at, bits_beside}
use Rattle.a64_code.specs.Sound.{is_sound}
use Rattle.a64_code.specs.Line.{FieldPlace, Number, Line, by_width}
use Rattle.a64_code.specs.Entry.{Form, made}
use Rattle.a64_code.specs.Decoded.{blank}

-- A row,
abbrev pub listed : Form → TableRow
listed f = record {
  base = (blank f).base;
  fixed = bits_beside 32 (blank f).fields;
  blank = made f [];
}

-- A field that holds nothing.
abbrev pub nothing : FieldPlace
nothing = record { low = 0; wide = 0; narrow = 0; held = Number; sp = None }

-- the k-th field of a line, or nothing where there are fewer,
abbrev pub place_at : List FieldPlace → ℕ → Place
place_at ps k = let p = slice_index_or ps k nothing in record { low = p.low; wide = p.wide; narrow = p.narrow; sp = p.sp }

-- and a line.
abbrev pub listed_line : Line → TableLine
listed_line l = record {
  base = l.base;
  narrow = unwrap_or l.narrow l.base;
  places = (place_at l.places 0, place_at l.places 1, place_at l.places 2, place_at l.places 3);
}

-- The values of an instruction's fields, and zeros up to four.
abbrev pub four_values : List ℕ → ℕ × ℕ × ℕ × ℕ
four_values v = (slice_index v 0, slice_index v 1, slice_index v 2, slice_index v 3)

-- The base word of a form.
abbrev pub base_of : TableLine → Bool → ℕ
base_of l wide = by_width wide l.base l.narrow

-- A field with a value,
abbrev pub at_place : Place → Bool → ℕ → Field
at_place p wide value = at p.low (by_width wide p.wide p.narrow) value

-- and a form with values in its fields.
abbrev pub filled : TableLine → Bool → ℕ × ℕ × ℕ × ℕ → List Field
filled l wide v = let p = l.places in at_place p.0 wide v.0 ∷ at_place p.1 wide v.1 ∷ at_place p.2 wide v.2 ∷ at_place p.3 wide v.3 ∷ []

-- No field is a whole word.
abbrev pub are_narrow : List Field → Bool
are_narrow fs = list_all (λ f. nat_le f.width 31 && nat_le f.low 31) fs

-- The fields stand apart in 32 bits.
abbrev pub has_room : ℕ → List Field → Bool
has_room base fs = is_sound base fs && are_narrow fs

-- A place of at most so many bits, which is not a whole word.
abbrev pub holds_at_most : ℕ → Place → Bool
holds_at_most bits p = nat_le p.low 31 && (nat_le p.wide bits && nat_le p.narrow bits)
