-- How many words items become, and where each of them stands (this project's own).
use Rattle.std.specs.Prelude.{◌≡◌, ℕ, zero, suc, ◌+◌, ◌≤◌, Bool, true, false, List, [], ◌∷◌, length, map, take, slice_get, Some}
use Rattle.std.specs.Prelude.{refl}
use Rattle.std.proofs.Common.{arith, ap, length-append}
use Rattle.sym_code.specs.declared.item.SymItem.{SymItem}
use Rattle.sym_code.specs.declared.item.SymItem.TheVariants as item
use Rattle.gen_unit.specs.Labels.{end_of, words_in}
use Rattle.gen_unit.specs.Words.{Targets, Form, item_words, item_length, whole, branch_words}
use Rattle.a64_laws.specs.Branches.{Branch}

length_branch : (long : Bool) (taken contrary : Branch) (at to at_too to_too : ℕ) →
    length (map whole (branch_words long taken contrary at to)) ≡ length (map whole (branch_words long taken contrary at_too to_too))
length_branch false taken contrary at to at_too to_too = refl
length_branch true taken contrary at to at_too to_too = refl

-- wherever it stands
pub length-item : (f : Form) (ts : Targets) (at : ℕ) (i : SymItem) → length (item_words f ts at i) ≡ item_length f i
length-item f ts at (item.Plain i) = refl
length-item f ts at (item.Label n) = refl
length-item f ts at (item.Jump n) = refl
length-item f ts at (item.JumpIfZero r n) = length_branch f.long _ _ at (ts.label n) 0 0
length-item f ts at (item.JumpIfNotZero r n) = length_branch f.long _ _ at (ts.label n) 0 0
length-item f ts at (item.SlotAddress n r) = refl
length-item f ts at (item.GlobalAddress n r) = refl
length-item f ts at (item.ExternAddress n r) = refl
length-item f ts at (item.TextAddress n r) = refl
length-item f ts at (item.CallFunction n) = refl
length-item f ts at (item.CallExtern n) = refl
length-item f ts at item.Leave = refl
length-item f ts at (item.EnterScope slots) = refl
length-item f ts at (item.LeaveScope first last) = refl

pub length-words : (f : Form) (ts : Targets) (at : ℕ) (is : List SymItem) → at + length (words_in f ts at is) ≡ end_of f at is
length-words f ts at [] = omega arith
length-words f ts at (i ∷ is) = omega (
  arith,
  length-append (item_words f ts at i) (words_in f ts (at + item_length f i) is),
  length-item f ts at i,
  length-words f ts (at + item_length f i) is,
)

-- where the one at a position stands
abbrev pub place_of : Form → ℕ → List SymItem → ℕ → ℕ
place_of f at is k = end_of f at (take k is)

pub place-behind : (f : Form) (at : ℕ) (is : List SymItem) (k : ℕ) (i : SymItem) → slice_get is k ≡ Some i →
    place_of f at is (suc k) ≡ place_of f at is k + item_length f i
place-behind f at [] k i there = absurd (cc)
place-behind f at (j ∷ is) zero i there = ap (λ x. at + item_length f x) (let e : j ≡ i = cc in e)
place-behind f at (j ∷ is) (suc k) i there = place-behind f (at + item_length f j) is k i there

pub place-end : (f : Form) (at : ℕ) (is : List SymItem) → place_of f at is (length is) ≡ end_of f at is
place-end f at [] = refl
place-end f at (i ∷ is) = place-end f (at + item_length f i) is

pub end-least : (f : Form) (at : ℕ) (is : List SymItem) → at ≤ end_of f at is
end-least f at [] = omega arith
end-least f at (i ∷ is) = omega (arith, end-least f (at + item_length f i) is)

pub place-within : (f : Form) (at : ℕ) (is : List SymItem) (k : ℕ) → place_of f at is k ≤ end_of f at is
place-within f at [] zero = omega arith
place-within f at [] (suc k) = omega arith
place-within f at (i ∷ is) zero = omega (arith, end-least f (at + item_length f i) is)
place-within f at (i ∷ is) (suc k) = place-within f (at + item_length f i) is k
