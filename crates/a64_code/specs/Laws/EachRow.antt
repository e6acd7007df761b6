-- What holds of every row: each fact is computed, instruction by instruction or over the list of all rows.
use Rattle.std.proofs.Common.{◌≡◌, ℕ, ◌+◌, ◌==◌, Bool, true, false, not, ◌&&◌, ◌||◌, cond, List, [], ◌∷◌, map, length, Some, None, refl}
use Rattle.std.proofs.Common.{ap, ◌∙◌, bit_and, IsTrue, slice_index_or}
use Rattle.std.specs.List.{slice_get, list_all}
use denote.Enum.Declared.{tag_of}
use Rattle.a64_code.specs.contracts.instr.Instr.{the_type}
use Rattle.a64_code.specs.declared.instr.Instr.{Instr}
use Rattle.a64_code.specs.declared.instr.Instr.TheVariants.{Svc}
use Rattle.a64_code.specs.declared.rows.TheConstants.{ROWS}
use Rattle.a64_code.specs.Field.{Field, at, values, fields_of, bits_beside}
use Rattle.a64_code.specs.Sound.{is_sound}
use Rattle.a64_code.specs.Line.{by_width, has_narrow}
use Rattle.a64_code.specs.Entry.{Form, form, made}
use Rattle.a64_code.specs.Table.{table, entry, encoding}
use Rattle.a64_code.specs.Decoded.{forms, blank, reading}
use Rattle.a64_code.specs.Listed.{listed, listed_line, base_of, filled, four_values, has_room}

-- An instruction is made again from its row and the values of its fields.
pub made-values : (i : Instr) → made (entry i).form (values (encoding i).fields) ≡ i
made-values (Svc imm16) = refl
made-values _ = refl

-- What is read of a word by the row of an instruction has that row, and the fields of the word.
pub encoding-reading : (i : Instr) (word : ℕ) →
    encoding (reading word (entry i).form)
    ≡ record { base = (blank (entry i).form).base; fields = fields_of word (blank (entry i).form).fields }
encoding-reading (Svc imm16) word = refl
encoding-reading _ word = refl

-- Each row is that of its own instruction.
pub own_rows : map (λ f. (entry (made f [])).form) forms ≡ forms
own_rows = refl

-- Each row has its place in the table.
abbrev pub place_of : Instr → ℕ
place_of i = by_width (entry i).form.wide (tag_of the_type i) (length table + tag_of the_type i)

listed_wide : (i : Instr) → slice_get forms (tag_of the_type i)
    ≡ cond (has_narrow (entry i).form.line || true) (Some (form true (entry i).form.line)) None
listed_wide (Svc imm16) = refl
listed_wide _ = refl

listed_narrow : (i : Instr) → slice_get forms (length table + tag_of the_type i)
    ≡ cond (has_narrow (entry i).form.line || false) (Some (form false (entry i).form.line)) None
listed_narrow (Svc imm16) = refl
listed_narrow _ = refl

listed_by : (i : Instr) (wide : Bool) → slice_get forms (by_width wide (tag_of the_type i) (length table + tag_of the_type i))
    ≡ cond (has_narrow (entry i).form.line || wide) (Some (form wide (entry i).form.line)) None
listed_by i true = listed_wide i
listed_by i false = listed_narrow i

is_listed : (i : Instr) → has_narrow (entry i).form.line || (entry i).form.wide ≡ true
is_listed (Svc imm16) = refl
is_listed _ = refl

own_form : (i : Instr) → form (entry i).form.wide (entry i).form.line ≡ (entry i).form
own_form (Svc imm16) = refl
own_form _ = refl

pub place_of-form : (i : Instr) → slice_get forms (place_of i) ≡ Some (entry i).form
place_of-form i = listed_by i (entry i).form.wide ∙ rw (is_listed i) (ap (λ f. Some f) (own_form i))

-- The fields of a row stand apart.
abbrev pub form_sound : Form → Bool
form_sound f = is_sound (blank f).base (blank f).fields

pub all_sound : list_all form_sound forms ≡ true
all_sound = refl

-- Two rows differ in a bit that both have fixed.
abbrev pub mask_of : Form → ℕ
mask_of f = bits_beside 32 (blank f).fields

abbrev pub differ : Form → Form → Bool
differ f g = not (bit_and (blank f).base (mask_of g) == bit_and (blank g).base (mask_of f))

abbrev pub all_differ : List Form → Bool
all_differ [] = true
all_differ (f ∷ fs) = list_all (differ f) fs && all_differ fs

pub forms_differ : IsTrue (all_differ forms)
forms_differ = refl

-- The program's lines have room.
abbrev pub form_has_room : Form → Bool
form_has_room f = let l = listed_line f.line in has_room (base_of l f.wide) (filled l f.wide (0, 0, 0, 0))

pub all_have_room : list_all form_has_room forms ≡ true
all_have_room = refl

-- No instruction has more than four fields.
abbrev pub IsShort : List Field → Type 0
IsShort (a ∷ b ∷ c ∷ d ∷ e ∷ fs) = ⊥
IsShort _ = Unit {0}

pub is_short : (i : Instr) → IsShort (encoding i).fields
is_short (Svc imm16) = tt
is_short _ = tt

-- Up to four fields, and as many that hold nothing as are wanting.
abbrev pub four : Bool → List Field → List Field
four wide fs = let none = at 0 (by_width wide 0 0) 0 in
    slice_index_or fs 0 none ∷ slice_index_or fs 1 none ∷ slice_index_or fs 2 none ∷ slice_index_or fs 3 none ∷ []

pub filled-four : (i : Instr) → filled (listed_line (entry i).form.line) (entry i).form.wide (four_values (entry i).values)
    ≡ four (entry i).form.wide (encoding i).fields
filled-four (Svc imm16) = refl
filled-four _ = refl

pub base-same : (i : Instr) → base_of (listed_line (entry i).form.line) (entry i).form.wide ≡ (encoding i).base
base-same (Svc imm16) = refl
base-same _ = refl

pub table_is : ROWS ≡ map listed forms
table_is = refl
