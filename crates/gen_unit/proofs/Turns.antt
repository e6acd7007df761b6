-- The loop over items that appends their words.
use Rattle.std.proofs.Common.{◌≡◌, ℕ, zero, suc, ◌+◌, ◌-◌, ◌^◌, ◌<◌, ◌≤◌, Bool, true, false, List, []}
use Rattle.std.proofs.Common.{◌∷◌, ◌++◌, length, drop, get_or, map}
use Rattle.std.proofs.Common.{refl, ap, sym, ◌∙◌, arith, drop-cons, append_assoc, append-nil}
use Rattle.a64_laws.specs.Branches.{Branch, OnZero, OnOther}
use Rattle.sym_code.specs.declared.item.SymItem.{SymItem}
use Rattle.sym_code.specs.declared.item.SymItem.TheVariants as item
use Rattle.gen_unit.specs.declared.output.Output.{Output}
use Rattle.gen_unit.specs.Appended.{Gains}
use Rattle.gen_unit.specs.Labels.{words_in}
use Rattle.gen_unit.specs.Words.{Word, Targets, Form, whole, branch_words, item_words, item_length}
use Rattle.gen_unit.proofs.Gains.{gains_none, gains_then, gains_as, gains_length}

-- ---- how many words an item becomes hangs on neither its place nor that of labels

branch_length : (long : Bool) (taken contrary : Branch) (at to from there : ℕ) →
    length (map whole (branch_words long taken contrary at to)) ≡ length (map whole (branch_words long taken contrary from there))
branch_length false taken contrary at to from there = refl
branch_length true taken contrary at to from there = refl

pub item_words-length : (f : Form) (ts : Targets) (at : ℕ) (i : SymItem) → length (item_words f ts at i) ≡ item_length f i
item_words-length f ts at (item.Plain i) = refl
item_words-length f ts at (item.Label n) = refl
item_words-length f ts at (item.Jump n) = refl
item_words-length f ts at (item.JumpIfZero r n) = branch_length f.long (OnZero true r) (OnOther true r) at (ts.label n) 0 0
item_words-length f ts at (item.JumpIfNotZero r n) = branch_length f.long (OnOther true r) (OnZero true r) at (ts.label n) 0 0
item_words-length f ts at (item.SlotAddress n r) = refl
item_words-length f ts at (item.GlobalAddress n r) = refl
item_words-length f ts at (item.ExternAddress n r) = refl
item_words-length f ts at (item.TextAddress n r) = refl
item_words-length f ts at (item.CallFunction n) = refl
item_words-length f ts at (item.CallExtern n) = refl
item_words-length f ts at item.Leave = refl
item_words-length f ts at (item.EnterScope slots) = refl
item_words-length f ts at (item.LeaveScope first last) = refl

-- ---- the loop

pub drop-here : {A : Type 0} (xs : List A) (i : ℕ) (x : A) → i < length xs → x ≡ get_or xs i x → drop i xs ≡ x ∷ drop (i + 1) xs
drop-here xs i x within is =
    let next : suc i ≡ i + 1 = omega arith in
    drop-cons xs i x within ∙ ap (λ j. get_or xs i x ∷ drop j xs) next ∙ ap (λ y. y ∷ drop (i + 1) xs) (sym is)

pub drop-all : {A : Type 0} (xs : List A) (i : ℕ) → length xs ≤ i → drop i xs ≡ []
drop-all [] zero past = refl
drop-all [] (suc i) past = refl
drop-all (x ∷ xs) zero past = absurd (omega (arith, past))
drop-all (x ∷ xs) (suc i) past = drop-all xs i (omega (arith, past))

-- some words are appended, and those of the items that are left, from a place on, are the rest of all
pub record Standing (f : Form) (ts : Targets) (at : ℕ) (is : List SymItem) (k place : ℕ) (old new : Output) : Type 0 where
  pub words : List Word
  pub gained : Gains old words new
  pub left : words ++ words_in f ts place (drop k is) ≡ words_in f ts at is
  pub near : place < 2 ^ 25

pub stands_first : (f : Form) (ts : Targets) (at : ℕ) (is : List SymItem) (out : Output) → at < 2 ^ 25 →
    Standing f ts at is 0 at out out
stands_first f ts at is out near = record { words = []; gained = gains_none out; left = refl; near = near }

pub stands_next : (f : Form) (ts : Targets) (at : ℕ) (is : List SymItem) (k place next : ℕ) (i : SymItem) (a b c : Output) →
    k < length is → i ≡ get_or is k i → Standing f ts at is k place a b → Gains b (item_words f ts place i) c →
    next ≡ place + (length c.words.items - length b.words.items) → next < 2 ^ 25 → Standing f ts at is (k + 1) next a c
stands_next f ts at is k place next i a b c within there before turn next_is near = record {
  words = before.words ++ item_words f ts place i;
  gained = gains_then before.gained turn;
  left =
      append_assoc before.words (item_words f ts place i) (words_in f ts next (drop (k + 1) is))
      ∙ ap (λ n. before.words ++ (item_words f ts place i ++ words_in f ts n (drop (k + 1) is))) place_is
      ∙ ap (λ is. before.words ++ words_in f ts place is) (sym (drop-here is k i within there))
      ∙ before.left;
  near = near;
}
  where
    place_is : next ≡ place + item_length f i
    place_is = omega (arith, next_is, gains_length turn, item_words-length f ts place i)

pub stands_last : (f : Form) (ts : Targets) (at : ℕ) (is : List SymItem) (k place : ℕ) (old new : Output) → length is ≤ k →
    Standing f ts at is k place old new → Gains old (words_in f ts at is) new
stands_last f ts at is k place old new past stands =
    gains_as
    (sym (append-nil stands.words)
    ∙ ap (λ is. stands.words ++ words_in f ts place is) (sym (drop-all is k past))
    ∙ stands.left)
    stands.gained
