-- Slots by their numbers, after a change, after a new one, and without the latest.
use Rattle.std.proofs.Common.{◌≡◌, ◌≢◌, refl, sym, subst, ap, ◌∙◌, ℕ, zero, suc, Bool, nat_eq, List, [], ◌∷◌, ◌++◌, Option, Some, None}
use Rattle.std.proofs.Common.{get_or, if◌then◌else◌}
use Rattle.std.proofs.lemmas.Bool.{eq-eqb, ne_eqb}
use Rattle.std.proofs.lemmas.Option.{get_or_from_slice_get}
use Rattle.std.specs.Prelude.{slice_get, slice_set}
use Rattle.mean_memory.specs.declared.slot.Slot.{Slot}
use Rattle.mean_memory.specs.Laws.Places.{none_not_some, some_same}
use Rattle.mean_memory.specs.Shown.{slot_with, Apart, StandsAt}

abbrev chosen : Slot → Option Slot → Bool → Option Slot
chosen x o b = (if b then Some x else o)

pub with_same : (x : Slot) (xs : List Slot) (n : ℕ) → x.number ≡ n → slot_with (x ∷ xs) n ≡ Some x
with_same x xs n is = ap (chosen x (slot_with xs n)) (eq-eqb x.number n is)

pub with_other : (x : Slot) (xs : List Slot) (n : ℕ) → x.number ≢ n → slot_with (x ∷ xs) n ≡ slot_with xs n
with_other x xs n differs = ap (chosen x (slot_with xs n)) (ne_eqb x.number n differs)

none_head : (x : Slot) (xs : List Slot) (n : ℕ) → slot_with (x ∷ xs) n ≡ None → x.number ≢ n
none_head x xs n none = λ e. none_not_some (sym none ∙ with_same x xs n e)

none_tail : (x : Slot) (xs : List Slot) (n : ℕ) → slot_with (x ∷ xs) n ≡ None → slot_with xs n ≡ None
none_tail x xs n none = sym (with_other x xs n (none_head x xs n none)) ∙ none

-- a number that a slot has is not that of none
two_differ : (xs : List Slot) (m n : ℕ) (s : Slot) → slot_with xs m ≡ None → slot_with xs n ≡ Some s → m ≢ n
two_differ xs m n s none some = λ e. none_not_some (sym (subst (λ k. slot_with xs k ≡ None) e none) ∙ some)

-- ---- a change

-- what stands at an index is what has its number
pub stands_with : (slots : List Slot) (i : ℕ) (s : Slot) → Apart slots → slice_get slots i ≡ Some s → slot_with slots s.number ≡ Some s
stands_with [] i s apart at = absurd (none_not_some at)
stands_with (x ∷ xs) zero s apart at =
    subst (λ t. slot_with (x ∷ xs) t.number ≡ Some t) (some_same at) (with_same x xs x.number refl)
stands_with (x ∷ xs) (suc i) s apart at =
    let below : slot_with xs s.number ≡ Some s = stands_with xs i s apart.1 at in
    with_other x xs s.number (two_differ xs x.number s.number s apart.0 below) ∙ below

pub set_other : (slots : List Slot) (i : ℕ) (s s' : Slot) → slice_get slots i ≡ Some s → s'.number ≡ s.number → (n : ℕ) → s.number ≢ n →
    slot_with (slice_set slots i s') n ≡ slot_with slots n
set_other [] i s s' at named n differs = refl
set_other (x ∷ xs) zero s s' at named n differs =
    let same : x ≡ s = some_same at in
    with_other s' xs n (λ e. differs (sym named ∙ e)) ∙ sym (with_other x xs n (λ e. differs (ap (λ t. t.number) (sym same) ∙ e)))
set_other (x ∷ xs) (suc i) s s' at named n differs =
    ap (λ o. chosen x o (nat_eq x.number n)) (set_other xs i s s' at named n differs)

pub set_same : (slots : List Slot) (i : ℕ) (s s' : Slot) → Apart slots → slice_get slots i ≡ Some s → s'.number ≡ s.number →
    slot_with (slice_set slots i s') s'.number ≡ Some s'
set_same [] i s s' apart at named = absurd (none_not_some at)
set_same (x ∷ xs) zero s s' apart at named = with_same s' xs s'.number refl
set_same (x ∷ xs) (suc i) s s' apart at named =
    let below = stands_with xs i s apart.1 at in
    let differs : x.number ≢ s.number = two_differ xs x.number s.number s apart.0 below in
    with_other x (slice_set xs i s') s'.number (λ e. differs (e ∙ named)) ∙ set_same xs i s s' apart.1 at named

pub set_apart : (slots : List Slot) (i : ℕ) (s s' : Slot) → Apart slots → slice_get slots i ≡ Some s → s'.number ≡ s.number →
    Apart (slice_set slots i s')
set_apart [] i s s' apart at named = tt
set_apart (x ∷ xs) zero s s' apart at named =
    let same : x ≡ s = some_same at in
    (ap (slot_with xs) (named ∙ ap (λ t. t.number) (sym same)) ∙ apart.0, apart.1)
set_apart (x ∷ xs) (suc i) s s' apart at named =
    let below = stands_with xs i s apart.1 at in
    let differs : x.number ≢ s.number = two_differ xs x.number s.number s apart.0 below in
    (set_other xs i s s' at named x.number (λ e. differs (sym e)) ∙ apart.0, set_apart xs i s s' apart.1 at named)

-- ---- one more

pub push_other : (slots : List Slot) (s : Slot) (n : ℕ) → s.number ≢ n → slot_with (slots ++ s ∷ []) n ≡ slot_with slots n
push_other [] s n differs = with_other s [] n differs
push_other (x ∷ xs) s n differs = ap (λ o. chosen x o (nat_eq x.number n)) (push_other xs s n differs)

pub push_same : (slots : List Slot) (s : Slot) → slot_with slots s.number ≡ None → slot_with (slots ++ s ∷ []) s.number ≡ Some s
push_same [] s none = with_same s [] s.number refl
push_same (x ∷ xs) s none =
    with_other x (xs ++ s ∷ []) s.number (none_head x xs s.number none) ∙ push_same xs s (none_tail x xs s.number none)

pub push_apart : (slots : List Slot) (s : Slot) → Apart slots → slot_with slots s.number ≡ None → Apart (slots ++ s ∷ [])
push_apart [] s apart none = (refl, tt)
push_apart (x ∷ xs) s apart none =
    let differs : x.number ≢ s.number = none_head x xs s.number none in
    (push_other xs s x.number (λ e. differs (sym e)) ∙ apart.0, push_apart xs s apart.1 (none_tail x xs s.number none))

-- ---- without the latest

-- the others are apart, and none has its number
pub front_apart : (slots : List Slot) (s : Slot) → Apart (slots ++ s ∷ []) → Apart slots × (slot_with slots s.number ≡ None)
front_apart [] s apart = (tt, refl)
front_apart (x ∷ xs) s apart =
    let below : Apart xs × (slot_with xs s.number ≡ None) = front_apart xs s apart.1 in
    let differs : x.number ≢ s.number = two_differ (xs ++ s ∷ []) x.number s.number s apart.0 (push_same xs s below.1) in
    ((sym (push_other xs s x.number (λ e. differs (sym e))) ∙ apart.0, below.0), with_other x xs s.number differs ∙ below.1)

-- what stands where a slot of a number was found
pub stands_found : (slots : List Slot) (n i : ℕ) → StandsAt slots n i → Apart slots → slice_get slots i ≡ slot_with slots n
stands_found slots n i stands apart =
    stands.is ∙ sym (stands_with slots i stands.slot apart stands.is) ∙ ap (slot_with slots) stands.named

-- what is read at an index where a slot of a number stands
pub read_there : {slots whole : List Slot} (n i : ℕ) (s : Slot) → slots ≡ whole → StandsAt slots n i → s ≡ get_or whole i s →
    (slice_get whole i ≡ Some s) × (s.number ≡ n)
read_there {whole = whole} n i s same stands is =
    let at : slice_get whole i ≡ Some stands.slot = ap (λ l. slice_get l i) (sym same) ∙ stands.is in
    let there : s ≡ stands.slot = is ∙ get_or_from_slice_get whole i stands.slot s at in
    (at ∙ ap Some (sym there), ap (λ t. t.number) there ∙ stands.named)

-- the slot at an index where one of a number stands has the number
pub found_there : {slots whole : List Slot} {n i : ℕ} {s : Slot} → slots ≡ whole → StandsAt slots n i → slice_get whole i ≡ Some s →
    s.number ≡ n
found_there {i = i} same stands at =
    ap (λ t. t.number) (some_same (sym at ∙ ap (λ l. slice_get l i) (sym same) ∙ stands.is)) ∙ stands.named
