-- A record that stands somewhere has its fields there.
use Rattle.std.proofs.Common.{◌≡◌, ℕ, ◌+◌, ◌<◌, ◌^◌, true, List, [], ◌∷◌, ◌++◌, length, take, drop, refl, sym, ap, ◌∙◌, append_assoc}
use Rattle.std.proofs.Common.{take-append-drop, drop_at, drop-drop}
use Rattle.std.proofs.lemmas.Slice.Eq.{bytes_eq-Decides}
use Rattle.byteorder.specs.Endian.{little_bytes}
use Rattle.elf_base.specs.Field.{Field, number, field_bytes, bytes_of, StandsAt}
use Rattle.elf_base.specs.Place.{number_at}
use Rattle.elf_base.specs.Laws.Reads.{number_at-little_bytes}
use Rattle.elf_obj.specs.Conditions.{stands}

pub stands-is : (fs : List Field) (at : ℕ) (file : List ℕ) → stands fs at file ≡ true → StandsAt file at (bytes_of fs)
stands-is fs at file h = (bytes_eq-Decides (take (length (bytes_of fs)) (drop at file)) (bytes_of fs)).0 h

pub is-stands : (fs : List Field) (at : ℕ) (file : List ℕ) → StandsAt file at (bytes_of fs) → stands fs at file ≡ true
is-stands fs at file h = (bytes_eq-Decides (take (length (bytes_of fs)) (drop at file)) (bytes_of fs)).1 h

bytes_of-append : (fs gs : List Field) → bytes_of (fs ++ gs) ≡ bytes_of fs ++ bytes_of gs
bytes_of-append [] gs = refl
bytes_of-append (f ∷ fs) gs =
    ap (λ (l : List ℕ). field_bytes f ++ l) (bytes_of-append fs gs) ∙ sym (append_assoc (field_bytes f) (bytes_of fs) (bytes_of gs))

-- the number of a field, behind other fields
pub field_there : (before after : List Field) (width n at : ℕ) (file : List ℕ) → n < 256 ^ width
    → StandsAt file at (bytes_of (before ++ number width n ∷ after))
    → number_at width (at + length (bytes_of before)) file ≡ n
unfolding field_bytes
field_there before after width n at file fits h =
    let whole : List ℕ = bytes_of (before ++ number width n ∷ after) in
    let rest : List ℕ = drop (length whole) (drop at file) in
    let split : drop at file ≡ whole ++ rest = sym (take-append-drop (length whole) (drop at file)) ∙ ap (λ (l : List ℕ). l ++ rest) h in
    let parts : whole ≡ bytes_of before ++ (little_bytes width n ++ bytes_of after) = bytes_of-append before (number width n ∷ after) in
    let here : drop (length (bytes_of before)) (drop at file) ≡ little_bytes width n ++ (bytes_of after ++ rest) =
    ap (drop (length (bytes_of before))) (split ∙ ap (λ (l : List ℕ). l ++ rest) parts
    ∙ append_assoc (bytes_of before) (little_bytes width n ++ bytes_of after) rest)
    ∙ drop_at (bytes_of before) ((little_bytes width n ++ bytes_of after) ++ rest) (length (bytes_of before)) refl
    ∙ append_assoc (little_bytes width n) (bytes_of after) rest in
    let place : drop (at + length (bytes_of before)) file ≡ little_bytes width n ++ (bytes_of after ++ rest) =
    sym (drop-drop (length (bytes_of before)) at file) ∙ here in
    number_at-little_bytes width (at + length (bytes_of before)) n file (bytes_of after ++ rest) fits place
