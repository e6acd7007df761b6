-- The laws of `decoded`: it is `Row`, both ways.
use Rattle.std.proofs.Common.{◌≡◌, ℕ, ◌+◌, ◌%◌, ◌^◌, ◌<◌, true, List, [], ◌∷◌, Option, Some, None, ◌↔◌, IfNone, refl, ap, sym, subst, ◌∙◌}
use Rattle.std.proofs.Common.{arith, bit_and, IsTrue}
use Rattle.std.specs.List.{find}
use Rattle.std.specs.Option.{option_map}
use Rattle.std.proofs.lemmas.Bool.{eqb-true, eq-eqb, and_parts, ltb-true}
use Rattle.std.proofs.lemmas.Nat.{pow_pos, mod_below}
use Rattle.std.proofs.Math.Nat.{mod-eq_of_lt}
use Rattle.a64_code.specs.declared.instr.Instr.{Instr}
use Rattle.a64_code.specs.Field.{Field, AllFit, placed, values, fields_of, bits_beside}
use Rattle.a64_code.specs.Sound.{are_apart}
use Rattle.a64_code.specs.Entry.{Form, made}
use Rattle.a64_code.specs.Table.{Encoding, entry, encoding}
use Rattle.a64_code.specs.Row.{Row, HasOneRow}
use Rattle.a64_code.specs.Decoded.{forms, blank, fits, reading, decoded}
use Rattle.a64_code.specs.Laws.Fields.{placed-below, fields_of-placed, masked-placed}
use Rattle.a64_code.specs.Laws.AnyValues.{fields_of-filled, bits_beside-filled, are_apart-filled}
use Rattle.a64_code.specs.Laws.EachRow
use Rattle.a64_code.specs.Laws.Found.{all_at, all_found, passes, kept_found}
use Rattle.a64_code.specs.Laws.Search.{find-fits}

-- What is known of a row.
pub record RowOf (e : Encoding) : Type 0 where
  pub apart : IsTrue (are_apart 32 e.base e.fields)
  pub small : e.base < 2 ^ 32

pub row_of_form : (f : Form) → EachRow.form_sound f ≡ true → RowOf (blank f)
row_of_form f h = let p = and_parts (are_apart 32 (blank f).base (blank f).fields) _ h in record { apart = p.0; small = ltb-true _ _ p.1 }

row_of_instr : (i : Instr) → RowOf (encoding i)
row_of_instr i =
    let f = (entry i).form in
    let r = row_of_form f (all_at EachRow.form_sound f forms (EachRow.place_of i) EachRow.all_sound (EachRow.place_of-form i)) in
    record {
      apart = are_apart-filled 32 (encoding i).base f.wide f.line.places (entry i).values ∙ r.apart;
      small = r.small;
    }

pub Row-below : (word : ℕ) (i : Instr) → Row word i → word < 2 ^ 32
Row-below word i h =
    let r = row_of_instr i in
    let below = placed-below 32 (encoding i).base (encoding i).fields r.apart h.within in
    let base_is = mod-eq_of_lt r.small in
    let e = h.spelled in
    omega (arith, below, base_is, e)

-- The fields of a word's instruction are those that stand in the word.
Row-fields : (word : ℕ) (i : Instr) → Row word i → fields_of word (encoding i).fields ≡ (encoding i).fields
Row-fields word i h =
    let r = row_of_instr i in
    let base_is = mod-eq_of_lt r.small in
    let e = h.spelled in
    fields_of-placed 32 (encoding i).base 0 word (encoding i).fields r.apart h.within (omega (arith, e, base_is))

Row-fits : (word : ℕ) (i : Instr) → Row word i → fits word (entry i).form ≡ true
Row-fits word i h =
    let r = row_of_instr i in
    let e = h.spelled in
    let f = (entry i).form in
    let word_is = mod-eq_of_lt (Row-below word i h) in
    let whole : bit_and (word % 2 ^ 32) (bits_beside 32 (encoding i).fields) + placed (fields_of word (encoding i).fields)
    ≡ word % 2 ^ 32 = masked-placed 32 (encoding i).base word (encoding i).fields r.apart in
    let part : bit_and word (bits_beside 32 (encoding i).fields) + placed (encoding i).fields ≡ word =
    rw (word_is, Row-fields word i h) at whole in
    let kept : bit_and word (bits_beside 32 (encoding i).fields) ≡ (encoding i).base = omega (arith, part, e) in
    eq-eqb _ _ (ap (bit_and word) (sym (bits_beside-filled 32 f.wide f.line.places (entry i).values)) ∙ kept)

reading-Row : (word : ℕ) (i : Instr) → Row word i → reading word (entry i).form ≡ i
reading-Row word i h =
    let f = (entry i).form in
    ap (λ fs. made f (values fs)) (sym (fields_of-filled word f.wide f.line.places (entry i).values) ∙ Row-fields word i h)
    ∙ EachRow.made-values i

-- What has a row is decoded,
pub decoded-Row : (word : ℕ) (i : Instr) → Row word i → decoded word ≡ Some i
decoded-Row word i h =
    let found : find (fits word) forms ≡ Some (entry i).form =
    find-fits word (entry i).form forms (EachRow.place_of i) EachRow.forms_differ (EachRow.place_of-form i) (Row-fits word i h) in
    rw found (ap (λ j. Some j) (reading-Row word i h))

fields_of-fit : (word : ℕ) (fs : List Field) → AllFit (fields_of word fs)
fields_of-fit word [] = tt
fields_of-fit word (f ∷ fs) = (mod_below _ _ (pow_pos f.width), fields_of-fit word fs)

pub found-Row : (word : ℕ) (f : Form) → word < 2 ^ 32 → find (fits word) forms ≡ Some f → Row word (reading word f)
found-Row word f small h =
    let r = row_of_form f (all_found EachRow.form_sound (fits word) f forms EachRow.all_sound h) in
    let word_is = mod-eq_of_lt small in
    let kept : bit_and word (bits_beside 32 (blank f).fields) ≡ (blank f).base = eqb-true _ _ (passes (fits word) f forms h) in
    let whole = masked-placed 32 (blank f).base word (blank f).fields r.apart in
    let spelled : word ≡ (blank f).base + placed (fields_of word (blank f).fields) = sym (rw (word_is, kept) at whole) in
    let own : (entry (made f [])).form ≡ f = kept_found (λ g. (entry (made g [])).form) (fits word) f forms EachRow.own_rows h in
    let e : encoding (reading word f) ≡ record { base = (blank f).base; fields = fields_of word (blank f).fields } =
    subst (λ g. encoding (reading word g) ≡ record { base = (blank g).base; fields = fields_of word (blank g).fields }) own
    (EachRow.encoding-reading (made f []) word) in
    record {
      within = subst (λ (x : Encoding). AllFit x.fields) (sym e) (fields_of-fit word (blank f).fields);
      spelled = subst (λ (x : Encoding). word ≡ x.base + placed x.fields) (sym e) spelled;
    }

-- and what is decoded has that row.
pub Row-decoded : (word : ℕ) (i : Instr) → word < 2 ^ 32 → decoded word ≡ Some i → Row word i
Row-decoded word i small h =
    elim (find (fits word) forms) as (λ o. find (fits word) forms ≡ o → option_map (reading word) o ≡ Some i → Row word i) [
      | None ↦ λ e same. absurd (cc)
      | Some f ↦ λ e same. let s : reading word f ≡ i = cc in subst (Row word) s (found-Row word f small e)
    ] refl h

pub one_row : (word : ℕ) → HasOneRow word
one_row word i j hi hj = let e : Some i ≡ Some j = sym (decoded-Row word i hi) ∙ decoded-Row word j hj in cc

-- The clauses of `decode`, for an answer that is `decoded`.
pub decode-row : (word : ℕ) (o : Option Instr) → word < 2 ^ 32 → o ≡ decoded word → (i : Instr) → (o ≡ Some i) ↔ Row word i
decode-row word o small e i = (λ h. Row-decoded word i small (sym e ∙ h), λ h. e ∙ decoded-Row word i h)

pub decode-none : (word : ℕ) (o : Option Instr) → word < 2 ^ 32 → o ≡ decoded word → IfNone o ((i : Instr) → ¬ Row word i)
decode-none word None small e = λ i h. let f : None ≡ Some i = e ∙ decoded-Row word i h in absurd (cc)
decode-none word (Some i) small e = tt
