-- A search in the program's table finds what is decoded.
use Rattle.std.proofs.Common.{◌≡◌, ℕ, zero, suc, Bool, true, false, cond, List, [], ◌∷◌, map, drop, Some, None, ◌==◌, refl, ap, sym, ◌∙◌}
use Rattle.std.proofs.Common.{bit_and}
use Rattle.std.specs.List.{find}
use Rattle.std.specs.Option.{option_map}
use Rattle.a64_code.specs.declared.instr.Instr.{Instr}
use Rattle.a64_code.specs.declared.rows.TableRow.{TableRow}
use Rattle.a64_code.specs.declared.rows.TheConstants.{ROWS}
use Rattle.a64_code.specs.Field.{values, fields_of}
use Rattle.a64_code.specs.Entry.{Form, made}
use Rattle.a64_code.specs.Table.{entry, encoding}
use Rattle.a64_code.specs.Decoded.{forms, blank, fits, reading, decoded}
use Rattle.a64_code.specs.Listed.{listed}
use Rattle.a64_code.specs.Laws.AnyValues.{fields_of-filled}
use Rattle.a64_code.specs.Laws.EachRow
use Rattle.a64_code.specs.Laws.Found.{kept_found}
use Rattle.a64_code.specs.Laws.Search.{find-drop}

abbrev row_fits : ℕ → TableRow → Bool
row_fits word r = bit_and word r.fixed == r.base

find-map : (word : ℕ) (fs : List Form) → find (row_fits word) (map listed fs) ≡ option_map listed (find (fits word) fs)
find-map word [] = refl
find-map word (f ∷ fs) =
    elim (fits word f) as (λ b. cond b (Some (listed f)) (find (row_fits word) (map listed fs))
    ≡ option_map listed (cond b (Some f) (find (fits word) fs))) [
      | true ↦ refl
      | false ↦ find-map word fs
    ]

found : (word : ℕ) → find (row_fits word) ROWS ≡ option_map listed (find (fits word) forms)
found word = ap (find (row_fits word)) EachRow.table_is ∙ find-map word forms

-- An instruction that is read of a word by the program's row of a form.
pub record IsRead (word : ℕ) (r : TableRow) (i : Instr) : Type 0 where
  pub form_is : (entry i).form ≡ (entry r.blank).form
  pub fields_are : (encoding i).fields ≡ fields_of word (encoding r.blank).fields

read-reading : (word : ℕ) (r : TableRow) (i : Instr) (f : Form) → IsRead word r i → listed f ≡ r → (entry (made f [])).form ≡ f →
    i ≡ reading word f
read-reading word r i f h row_is own =
    let blank_is : r.blank ≡ made f [] = ap (λ (x : TableRow). x.blank) (sym row_is) in
    let form_is : (entry i).form ≡ f = h.form_is ∙ ap (λ j. (entry j).form) blank_is ∙ own in
    let e = entry (made f []) in
    let fields_are : (encoding i).fields ≡ fields_of word (blank f).fields =
    h.fields_are ∙ ap (λ j. fields_of word (encoding j).fields) blank_is ∙ fields_of-filled word e.form.wide e.form.line.places e.values
    ∙ ap (λ g. fields_of word (blank g).fields) own in
    sym (EachRow.made-values i) ∙ ap (λ g. made g (values (encoding i).fields)) form_is ∙ ap (λ fs. made f (values fs)) fields_are

pub decoded-found : (word : ℕ) (r : TableRow) (i : Instr) → find (row_fits word) ROWS ≡ Some r → IsRead word r i → Some i ≡ decoded word
decoded-found word r i h is_read =
    elim (find (fits word) forms) as (λ o. find (fits word) forms ≡ o → option_map listed o ≡ Some r →
    Some i ≡ option_map (reading word) o) [
      | None ↦ λ e none. absurd (cc)
      | Some f ↦ λ e some.
          let row_is : listed f ≡ r = cc in
          ap (λ j. Some j)
          (read-reading word r i f is_read row_is (kept_found (λ g. (entry (made g [])).form) (fits word) f forms EachRow.own_rows e))
    ] refl (sym (found word) ∙ h)

pub decoded_not_found : (word : ℕ) → find (row_fits word) ROWS ≡ None → None ≡ decoded word
decoded_not_found word h =
    elim (find (fits word) forms) as (λ o. option_map listed o ≡ None → None ≡ option_map (reading word) o) [
      | None ↦ λ none. refl
      | Some f ↦ λ some. absurd (cc)
    ] (sym (found word) ∙ h)

drop-map : (n : ℕ) (fs : List Form) → drop n (map listed fs) ≡ map listed (drop n fs)
drop-map zero fs = refl
drop-map (suc n) [] = refl
drop-map (suc n) (f ∷ fs) = drop-map n fs

-- A search may begin anywhere.
pub first-found : (word n : ℕ) (r : TableRow) → find (row_fits word) (drop n ROWS) ≡ Some r → Some r ≡ find (row_fits word) ROWS
first-found word n r h =
    let from_n : option_map listed (find (fits word) (drop n forms)) ≡ Some r =
    sym (find-map word (drop n forms)) ∙ ap (find (row_fits word)) (sym (drop-map n forms))
    ∙ ap (λ rows. find (row_fits word) (drop n rows)) (sym EachRow.table_is) ∙ h in
    elim (find (fits word) (drop n forms)) as (λ o. find (fits word) (drop n forms) ≡ o → option_map listed o ≡ Some r →
    Some r ≡ find (row_fits word) ROWS) [
      | None ↦ λ e none. absurd (cc)
      | Some f ↦ λ e some. sym some ∙ ap (option_map listed) (sym (find-drop word f n forms EachRow.forms_differ e)) ∙ sym (found word)
    ] refl from_n
