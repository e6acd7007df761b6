-- `Row` is what the table alone says.
use Rattle.std.proofs.Common.{◌≡◌, ◌↔◌, ℕ, ◌+◌, ◌%◌, ◌^◌, ◌<◌, Bool, true, List, [], ◌∷◌, length, refl, ap, sym, subst, ◌∙◌, arith}
use Rattle.std.proofs.Common.{bit_and}
use Rattle.std.proofs.lemmas.Bool.{eq-eqb}
use Rattle.std.proofs.Math.Nat.{mod-eq_of_lt}
use Rattle.a64_code.specs.declared.instr.Instr.{Instr}
use Rattle.a64_code.specs.declared.instr.Instr.TheVariants.{Svc}
use Rattle.a64_code.specs.Field.{AllFit, values, fields_of, placed, bits_beside}
use Rattle.a64_code.specs.Line.{FieldPlace}
use Rattle.a64_code.specs.Entry.{made}
use Rattle.a64_code.specs.Table.{Encoding, filled, row, entry, encoding}
use Rattle.a64_code.specs.Row.{Row}
use Rattle.a64_code.specs.SomeRow.{SomeRow}
use Rattle.a64_code.specs.Decoded.{forms, fits, reading}
use Rattle.a64_code.specs.Laws.AnyValues.{fields_of-filled, bits_beside-filled, are_apart-filled}
use Rattle.a64_code.specs.Laws.EachRow
use Rattle.a64_code.specs.Laws.Fields.{placed-below, fields_of-placed, masked-placed}
use Rattle.a64_code.specs.Laws.Found.{all_at}
use Rattle.a64_code.specs.Laws.Search.{find-fits}
use Rattle.a64_code.specs.Laws.Decoding.{row_of_form, found-Row}

own_length : (i : Instr) → length (values (encoding i).fields) ≡ length (entry i).form.line.places
own_length (Svc imm16) = refl
own_length _ = refl

own_row : (i : Instr) → row (entry i).form (values (encoding i).fields) ≡ encoding i
own_row (Svc imm16) = refl
own_row _ = refl

to_some_row : (word : ℕ) (i : Instr) → Row word i → SomeRow word i
to_some_row word i h = record {
  form = (entry i).form;
  place = EachRow.place_of i;
  listed = EachRow.place_of-form i;
  values = values (encoding i).fields;
  whole = own_length i;
  within = subst (λ (e : Encoding). AllFit e.fields) (sym (own_row i)) h.within;
  spelled = subst (λ (e : Encoding). word ≡ e.base + placed e.fields) (sym (own_row i)) h.spelled;
  makes = EachRow.made-values i;
}

-- as many values as fields are what the fields hold
values-filled : (wide : Bool) (ps : List FieldPlace) (v : List ℕ) → length v ≡ length ps → values (filled wide ps v) ≡ v
values-filled wide [] [] e = refl
values-filled wide [] (n ∷ v) e = absurd (omega (arith, e))
values-filled wide (p ∷ ps) [] e = absurd (omega (arith, e))
values-filled wide (p ∷ ps) (n ∷ v) e = ap (λ w. n ∷ w) (values-filled wide ps v (omega (arith, e)))

from_some_row : (word : ℕ) (i : Instr) → SomeRow word i → Row word i
from_some_row word i h =
    let f = h.form in
    let e = row f h.values in
    let r = row_of_form f (all_at EachRow.form_sound f forms h.place EachRow.all_sound h.listed) in
    let apart = are_apart-filled 32 e.base f.wide f.line.places h.values ∙ r.apart in
    let base_is = mod-eq_of_lt r.small in
    let is = h.spelled in
    let below = placed-below 32 e.base e.fields apart h.within in
    let short : word < 2 ^ 32 = omega (arith, below, base_is, is) in
    let word_is = mod-eq_of_lt short in
    let fields_are : fields_of word e.fields ≡ e.fields =
    fields_of-placed 32 e.base 0 word e.fields apart h.within (omega (arith, is, base_is)) in
    let whole : bit_and (word % 2 ^ 32) (bits_beside 32 e.fields) + placed (fields_of word e.fields) ≡ word % 2 ^ 32 =
    masked-placed 32 e.base word e.fields apart in
    let part : bit_and word (bits_beside 32 e.fields) + placed e.fields ≡ word = rw (word_is, fields_are) at whole in
    let kept : bit_and word (bits_beside 32 e.fields) ≡ e.base = omega (arith, part, is) in
    let fitting : fits word f ≡ true = eq-eqb _ _ (ap (bit_and word) (sym (bits_beside-filled 32 f.wide f.line.places h.values)) ∙ kept) in
    let found = find-fits word f forms h.place EachRow.forms_differ h.listed fitting in
    let read : reading word f ≡ i =
    ap (λ fs. made f (values fs)) (sym (fields_of-filled word f.wide f.line.places h.values) ∙ fields_are)
    ∙ ap (made f) (values-filled f.wide f.line.places h.values h.whole) ∙ h.makes in
    subst (Row word) read (found-Row word f short found)

pub Row-some_row : (word : ℕ) (i : Instr) → Row word i ↔ SomeRow word i
Row-some_row word i = (to_some_row word i, from_some_row word i)
