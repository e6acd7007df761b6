-- The first file of a name: where it stands, what it holds, and what a write there or a new file behind leaves.
use Rattle.std.proofs.Common.{◌≡◌, ◌≢◌, ℕ, zero, suc, ◌<◌, ◌≤◌, List, [], ◌∷◌, ◌++◌, length, get_or, set, Some, None, Option, Bool, true}
use Rattle.std.proofs.Common.{false, cond, not, refl, ap, arith, rules, string_bytes, ltb}
use Rattle.std.proofs.lemmas.Bool.Decides.{nat_tests}
use Rattle.std.specs.Str.{bytes_eq}
use Rattle.std.specs.List.{position_or_len}
use Rattle.std.proofs.lemmas.Slice.Eq.{bytes_eq-Decides}
use Rattle.std.proofs.lemmas.List.Quantifiers.{position-Some}
use Rattle.std.proofs.lemmas.List.Sums.{prefix_len_passes}
use Rattle.mt_outside.specs.declared.mem_files.MemFile.{MemFile}
use Rattle.mt_outside.specs.MemFiles.{first_bytes, first_place}

abbrev pub HasName : MemFile → List ℕ → Bool
HasName file name = bytes_eq (string_bytes file.name) name

-- the first file of the name stands at this place
abbrev pub IsFirstAt : List MemFile → List ℕ → ℕ → Type 0
IsFirstAt [] name place = ⊥
IsFirstAt (file ∷ files) name zero = HasName file name ≡ true
IsFirstAt (file ∷ files) name (suc place) = (HasName file name ≡ false) × IsFirstAt files name place

IsFirstAt-from_index : (files : List MemFile) (name : List ℕ) (place : ℕ) (d : MemFile) → place < length files
    → HasName (get_or files place d) name ≡ true → ((k : ℕ) → k < place → HasName (get_or files k d) name ≡ false)
    → IsFirstAt files name place
IsFirstAt-from_index [] name place d within named before = absurd (omega arith)
IsFirstAt-from_index (file ∷ files) name zero d within named before = named
IsFirstAt-from_index (file ∷ files) name (suc place) d within named before =
    (before 0 (omega arith), IsFirstAt-from_index files name place d (omega arith) named (λ k below. before (suc k) (omega arith)))

pub IsFirstAt-from_place : (files : List MemFile) (name : List ℕ) (place : ℕ) (d : MemFile) → first_place files name ≡ Some place
    → IsFirstAt files name place
IsFirstAt-from_place files name place d is =
    let at = position-Some (λ file. HasName file name) files place d is in
    IsFirstAt-from_index files name place d at.0 at.1 at.2

pub first_bytes-first_at : (files : List MemFile) (name : List ℕ) (place : ℕ) (d : MemFile) → IsFirstAt files name place
    → first_bytes files name ≡ Some (get_or files place d).bytes.items
first_bytes-first_at [] name place d first = absurd first
first_bytes-first_at (file ∷ files) name zero d first = rw first
first_bytes-first_at (file ∷ files) name (suc place) d first = rw first.0 (first_bytes-first_at files name place d first.1)

pub name-first_at : (files : List MemFile) (name : List ℕ) (place : ℕ) (d : MemFile) → IsFirstAt files name place
    → string_bytes (get_or files place d).name ≡ name
name-first_at [] name place d first = absurd first
name-first_at (file ∷ files) name zero d first = (bytes_eq-Decides (string_bytes file.name) name).0 first
name-first_at (file ∷ files) name (suc place) d first = name-first_at files name place d first.1

HasName-own : (file : MemFile) (name : List ℕ) → string_bytes file.name ≡ name → HasName file name ≡ true
HasName-own file name is = (bytes_eq-Decides (string_bytes file.name) name).1 is

HasName-other : (file : MemFile) (name other : List ℕ) → string_bytes file.name ≡ name → other ≢ name → HasName file other ≡ false
HasName-other file name other is differ = search (rules, bytes_eq-Decides)

pub first_bytes-set : (files : List MemFile) (name : List ℕ) (place : ℕ) (new : MemFile) → IsFirstAt files name place
    → string_bytes new.name ≡ name → first_bytes (set files place new) name ≡ Some new.bytes.items
first_bytes-set [] name place new first is = absurd first
first_bytes-set (file ∷ files) name zero new first is = rw (HasName-own new name is)
first_bytes-set (file ∷ files) name (suc place) new first is = rw first.0 (first_bytes-set files name place new first.1 is)

pub first_bytes-set_other : (files : List MemFile) (name : List ℕ) (place : ℕ) (new : MemFile) → IsFirstAt files name place
    → string_bytes new.name ≡ name → (other : List ℕ) → other ≢ name → first_bytes (set files place new) other ≡ first_bytes files other
first_bytes-set_other [] name place new first is other differ = absurd first
first_bytes-set_other (file ∷ files) name zero new first is other differ =
    rw (
      HasName-other new name other is differ,
      HasName-other file name other
          ((bytes_eq-Decides (string_bytes file.name) name).0 first) differ,
    )
first_bytes-set_other (file ∷ files) name (suc place) new first is other differ =
    ap (λ (rest : Option (List ℕ)). cond (HasName file other) (Some file.bytes.items) rest)
    (first_bytes-set_other files name place new first.1 is other differ)

-- no file has the name
abbrev pub IsNowhere : List MemFile → List ℕ → Type 0
IsNowhere [] name = Unit {0}
IsNowhere (file ∷ files) name = (HasName file name ≡ false) × IsNowhere files name

IsNowhere-from_index : (files : List MemFile) (name : List ℕ)
    → ((k : ℕ) (d : MemFile) → k < length files → HasName (get_or files k d) name ≡ false) → IsNowhere files name
IsNowhere-from_index [] name each = tt
IsNowhere-from_index (file ∷ files) name each =
    (each 0 file (omega arith), IsNowhere-from_index files name (λ k d below. each (suc k) d (omega arith)))

no_position : (n len : ℕ) → cond (ltb n len) (Some n) None ≡ None → len ≤ n
no_position n len none = grind (arith, nat_tests)

false-from_not : (b : Bool) → not b ≡ true → b ≡ false
false-from_not true is = cc
false-from_not false is = refl

pub IsNowhere-from_place : (files : List MemFile) (name : List ℕ) → first_place files name ≡ None → IsNowhere files name
IsNowhere-from_place files name none =
    let all : length files ≤ position_or_len (λ file. HasName file name) files = no_position _ _ none in
    IsNowhere-from_index files name (λ k d below.
    false-from_not _ (prefix_len_passes (λ file. not (HasName file name)) files k d (omega arith)))

pub first_bytes-nowhere : (files : List MemFile) (name : List ℕ) → IsNowhere files name → first_bytes files name ≡ None
first_bytes-nowhere [] name nowhere = refl
first_bytes-nowhere (file ∷ files) name nowhere = rw nowhere.0 (first_bytes-nowhere files name nowhere.1)

pub first_bytes-push : (files : List MemFile) (name : List ℕ) (new : MemFile) → IsNowhere files name → string_bytes new.name ≡ name
    → first_bytes (files ++ new ∷ []) name ≡ Some new.bytes.items
first_bytes-push [] name new nowhere is = rw (HasName-own new name is)
first_bytes-push (file ∷ files) name new nowhere is = rw nowhere.0 (first_bytes-push files name new nowhere.1 is)

pub first_bytes-push_other : (files : List MemFile) (name : List ℕ) (new : MemFile) → string_bytes new.name ≡ name → (other : List ℕ)
    → other ≢ name → first_bytes (files ++ new ∷ []) other ≡ first_bytes files other
first_bytes-push_other [] name new is other differ = rw (HasName-other new name other is differ)
first_bytes-push_other (file ∷ files) name new is other differ =
    ap (λ (rest : Option (List ℕ)). cond (HasName file other) (Some file.bytes.items) rest)
    (first_bytes-push_other files name new is other differ)
