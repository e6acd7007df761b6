-- The word of an instruction by the program's table is that of its row.
use Rattle.std.proofs.Common.{◌≡◌, ℕ, ◌+◌, Bool, IsTrue, Option, Some, None, ◌↔◌, SomeIff, IfNone, unwrap_or, List, [], ◌∷◌, refl, ap}
use Rattle.std.proofs.Common.{sym, subst, ◌∙◌, arith}
use Rattle.std.proofs.lemmas.Nat.{pow_pos}
use Rattle.a64_code.specs.declared.instr.Instr.{Instr}
use Rattle.a64_code.specs.declared.line.TableLine.{TableLine}
use Rattle.a64_code.specs.Field.{Field, AllFit, placed}
use Rattle.a64_code.specs.Line.{by_width}
use Rattle.a64_code.specs.Table.{entry, encoding}
use Rattle.a64_code.specs.Row.{Row}
use Rattle.a64_code.specs.Decoded.{forms}
use Rattle.a64_code.specs.Listed.{listed_line, base_of, filled, four_values, has_room}
use Rattle.a64_code.specs.Laws.EachRow.{IsShort, is_short, four, filled-four, base-same, place_of, place_of-form, all_have_room}
use Rattle.a64_code.specs.Laws.EachRow.{form_has_room}
use Rattle.a64_code.specs.Laws.Found.{all_at}

-- What the program has of an instruction: its line, its form, and four values.
pub record Of (instr : Instr) (line : TableLine) (wide : Bool) (v : ℕ × ℕ × ℕ × ℕ) : Type 0 where
  pub line_is : line ≡ listed_line (entry instr).form.line
  pub wide_is : wide ≡ (entry instr).form.wide
  pub values_are : v ≡ four_values (entry instr).values

-- It has room.
pub has_room-of : {instr : Instr} {line : TableLine} {wide : Bool} {v : ℕ × ℕ × ℕ × ℕ} → Of instr line wide v →
    IsTrue (has_room (base_of line wide) (filled line wide v))
has_room-of {instr = instr} {v = v} parts =
    let room : IsTrue (form_has_room (entry instr).form) =
    all_at form_has_room (entry instr).form forms (place_of instr) all_have_room (place_of-form instr) in
    rw (parts.line_is, parts.wide_is) room

-- At most four fields, and as many that hold nothing as are wanting.
record Same (fs gs : List Field) : Type 0 where
  pub fits : AllFit fs → AllFit gs
  pub fits_back : AllFit gs → AllFit fs
  pub same : placed fs ≡ placed gs

four-same : (wide : Bool) (fs : List Field) → IsShort fs → Same (four wide fs) fs
four-same wide [] h = let none = pow_pos (by_width wide 0 0) in
    record { fits = λ _. tt; fits_back = λ _. (none, (none, (none, (none, tt)))); same = refl }
four-same wide (a ∷ []) h = let none = pow_pos (by_width wide 0 0) in
    record { fits = λ f. (f.0, tt); fits_back = λ f. (f.0, (none, (none, (none, tt)))); same = omega arith }
four-same wide (a ∷ b ∷ []) h = let none = pow_pos (by_width wide 0 0) in
    record { fits = λ f. (f.0, (f.1.0, tt)); fits_back = λ f. (f.0, (f.1.0, (none, (none, tt)))); same = omega arith }
four-same wide (a ∷ b ∷ c ∷ []) h = let none = pow_pos (by_width wide 0 0) in
    record { fits = λ f. (f.0, (f.1.0, (f.1.1.0, tt))); fits_back = λ f. (f.0, (f.1.0, (f.1.1.0, (none, tt)))); same = omega arith }
four-same wide (a ∷ b ∷ c ∷ d ∷ []) h = record { fits = λ f. f; fits_back = λ f. f; same = refl }
four-same wide (a ∷ b ∷ c ∷ d ∷ e ∷ fs) h = absurd h

-- The answer of a line.
abbrev pub Answers : Option ℕ → TableLine → Bool → ℕ × ℕ × ℕ × ℕ → Type 0
Answers o line wide v = SomeIff o (AllFit (filled line wide v)) (base_of line wide + placed (filled line wide v))

abbrev IsWord : Option ℕ → Instr → Type 0
IsWord o i = SomeIff o (AllFit (encoding i).fields) ((encoding i).base + placed (encoding i).fields)

abbrev own_fields : Instr → List Field
own_fields i = filled (listed_line (entry i).form.line) (entry i).form.wide (four_values (entry i).values)

is_word : (o : Option ℕ) (i : Instr) → Answers o (listed_line (entry i).form.line) (entry i).form.wide (four_values (entry i).values) →
    IsWord o i
is_word None i h =
    let s = four-same (entry i).form.wide (encoding i).fields (is_short i) in
    let at_four : ¬ AllFit (four (entry i).form.wide (encoding i).fields) = subst (λ fs. ¬ AllFit fs) (filled-four i) h in
    λ fit. at_four (s.fits_back fit)
is_word (Some w) i h =
    let s = four-same (entry i).form.wide (encoding i).fields (is_short i) in
    let fit : AllFit (four (entry i).form.wide (encoding i).fields) = subst AllFit (filled-four i) h.0 in
    let base_is = base-same i in
    let fields_are : placed (own_fields i) ≡ placed (encoding i).fields = ap placed (filled-four i) ∙ s.same in
    let word_is : w ≡ (encoding i).base + placed (encoding i).fields = h.1 ∙ cc in
    (s.fits fit, word_is)

by_answer : (o : Option ℕ) (i : Instr) (word : ℕ) → IsWord o i → (o ≡ Some word) ↔ Row word i
by_answer None i word g = (λ e. absurd (cc), λ row. absurd (g row.within))
by_answer (Some w) i word g =
    (λ e. record { within = g.0; spelled = sym (ap (λ o. unwrap_or o 0) e) ∙ g.1 }, λ row. ap (λ n. Some n) (g.1 ∙ sym row.spelled))

-- The clauses of `encode`.
pub encode-row : (o : Option ℕ) (i : Instr) (line : TableLine) (wide : Bool) (v : ℕ × ℕ × ℕ × ℕ) → Of i line wide v →
    Answers o line wide v → (word : ℕ) → (o ≡ Some word) ↔ Row word i
encode-row o i line wide v parts h word =
    let by_line = subst (λ l. Answers o l wide v) parts.line_is h in
    let by_form = subst (λ w. Answers o (listed_line (entry i).form.line) w v) parts.wide_is by_line in
    by_answer o i word
    (is_word o i (subst (λ u. Answers o (listed_line (entry i).form.line) (entry i).form.wide u) parts.values_are by_form))

pub encode-none : (o : Option ℕ) (i : Instr) → ((word : ℕ) → (o ≡ Some word) ↔ Row word i) → IfNone o ((word : ℕ) → ¬ Row word i)
encode-none None i h = λ word row. let e = (h word).1 row in absurd (cc)
encode-none (Some w) i h = tt
