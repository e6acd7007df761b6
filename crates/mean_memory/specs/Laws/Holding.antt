-- Slots and blocks that change together.
use Rattle.std.proofs.Common.{◌≡◌, ◌≢◌, refl, sym, subst, ap, ◌∙◌, arith, ℕ, ◌+◌, false, List, [], ◌∷◌, ◌++◌, length, Option, Some, None}
use Rattle.std.proofs.Common.{inl, inr}
use Rattle.std.proofs.lemmas.Bool.Decides.{eqb_tells}
use Rattle.std.proofs.lemmas.List.{length-set, length-append}
use Rattle.std.proofs.lemmas.Option.{slice_get_past}
use Rattle.std.specs.Prelude.{slice_get, slice_set}
use Rattle.block_meaning.specs.Access.{is_null_block}
use Rattle.block_meaning.specs.declared.access.Access.{Access}
use Rattle.block_meaning.specs.declared.reason.Reason.{Reason}
use Rattle.block_meaning.specs.declared.cell.Cell.{Cell}
use Rattle.block_meaning.specs.declared.value.Pointer.{Pointer}
use Rattle.block_meaning.specs.Blocks.{Block, ended, changed, with_block, with_cells_in, stored}
use Rattle.mean_memory.specs.declared.slot.Slot.{Slot}
use Rattle.mean_memory.specs.Laws.Owning.{order_set, order_push, order_front}
use Rattle.mean_memory.specs.Laws.Places.{some_same, set_there, get_new, get_old, get_set_same, get_set_other}
use Rattle.mean_memory.specs.Laws.Slots.{stands_with, set_other, set_same, set_apart, push_other, push_same, push_apart, front_apart}
use Rattle.mean_memory.specs.Owners.{owner, UpTo}
use Rattle.mean_memory.specs.Shown.{block_in, slot_with, IsShown, Holds, written_block, written_or_kept}

data Decision (m n : ℕ) : Type 0 where
  Same : m ≡ n → Decision m n
  Differ : m ≢ n → Decision m n

decision : (m n : ℕ) → Decision m n
decision m n = elim (eqb_tells m n) [ inl it ↦ Same it.1 | inr it ↦ Differ it.1 ]

shown_as : {o o' : Option Slot} {b b' : Option Block} → o ≡ o' → b ≡ b' → IsShown o' b' → IsShown o b
shown_as {o' = o'} {b = b} of_slot of_block shown =
    subst (λ s. IsShown s b) (sym of_slot) (subst (IsShown o') (sym of_block) shown)

block_of_slot : (s : Slot) (o : Option Block) → IsShown (Some s) o → o ≡ Some (block_in s)
block_of_slot s None shown = absurd shown
block_of_slot s (Some b) shown = ap Some shown

-- the block of the slot at an index
pub block_at : {slots : List Slot} {next : ℕ} {blocks : List Block} → Holds slots next blocks → (i : ℕ) (s : Slot) →
    slice_get slots i ≡ Some s → slice_get blocks s.number ≡ Some (block_in s)
block_at {slots = slots} {blocks = blocks} holds i s at = block_of_slot s (slice_get blocks s.number)
    (subst (λ o. IsShown o (slice_get blocks s.number)) (stands_with slots i s holds.apart at) (holds.each s.number))

set_shown : {slots : List Slot} {next : ℕ} {blocks : List Block} → Holds slots next blocks → (i : ℕ) (s s' : Slot) →
    slice_get slots i ≡ Some s → s'.number ≡ s.number → (n : ℕ) → Decision s.number n →
    IsShown (slot_with (slice_set slots i s') n) (slice_get (slice_set blocks s.number (block_in s')) n)
set_shown {slots = slots} {blocks = blocks} holds i s s' at named n (Same is) = subst
    (λ k. IsShown (slot_with (slice_set slots i s') k) (slice_get (slice_set blocks s.number (block_in s')) k)) is
    (shown_as (ap (slot_with (slice_set slots i s')) (sym named) ∙ set_same slots i s s' holds.apart at named)
    (get_set_same blocks s.number (block_in s) (block_in s') (block_at holds i s at)) refl)
set_shown {slots = slots} {blocks = blocks} holds i s s' at named n (Differ differs) =
    shown_as (set_other slots i s s' at named n differs) (get_set_other blocks s.number n (block_in s') differs) (holds.each n)

-- a slot changes, and its block with it
pub holds_set : {slots : List Slot} {next : ℕ} {blocks : List Block} → Holds slots next blocks → (i : ℕ) (s s' : Slot) →
    slice_get slots i ≡ Some s → s'.number ≡ s.number → s'.kind ≡ s.kind →
    Holds (slice_set slots i s') next (slice_set blocks s.number (block_in s'))
holds_set {slots = slots} {blocks = blocks} holds i s s' at named kind = record {
  count = holds.count ∙ sym (length-set blocks s.number (block_in s'));
  each = λ n. set_shown holds i s s' at named n (decision s.number n);
  apart = set_apart slots i s s' holds.apart at named;
  in_order = order_set slots i s s' at kind holds.in_order;
}

-- no block, and no slot
pub holds_none : Holds [] 0 []
holds_none = record { count = refl; each = λ n. tt; apart = tt; in_order = tt }

no_slot : (o : Option Slot) → IsShown o None → o ≡ None
no_slot None shown = refl
no_slot (Some s) shown = absurd shown

-- no slot has the number of the next block
pub next_free : {slots : List Slot} {next : ℕ} {blocks : List Block} → Holds slots next blocks → slot_with slots next ≡ None
next_free {slots = slots} {next = next} {blocks = blocks} holds =
    let count = holds.count in
    no_slot (slot_with slots next) (subst (IsShown (slot_with slots next)) (slice_get_past blocks next (omega arith)) (holds.each next))

push_shown : {slots : List Slot} {next : ℕ} {blocks : List Block} → Holds slots next blocks → (s : Slot) → s.number ≡ next → (n : ℕ) →
    Decision s.number n → IsShown (slot_with (slots ++ s ∷ []) n) (slice_get (blocks ++ block_in s ∷ []) n)
push_shown {slots = slots} {blocks = blocks} holds s named n (Same is) = subst
    (λ k. IsShown (slot_with (slots ++ s ∷ []) k) (slice_get (blocks ++ block_in s ∷ []) k)) is
    (shown_as (push_same slots s (ap (slot_with slots) named ∙ next_free holds))
    (ap (slice_get (blocks ++ block_in s ∷ [])) (named ∙ holds.count) ∙ get_new blocks (block_in s)) refl)
push_shown {slots = slots} {blocks = blocks} holds s named n (Differ differs) =
    shown_as (push_other slots s n differs) (get_old blocks (block_in s) n (λ e. differs (named ∙ holds.count ∙ sym e))) (holds.each n)

-- a block more, of an owner that is no earlier
pub holds_push : {slots : List Slot} {next : ℕ} {blocks : List Block} → Holds slots next blocks → (s : Slot) → s.number ≡ next →
    UpTo (owner s.kind) slots → Holds (slots ++ s ∷ []) (next + 1) (blocks ++ block_in s ∷ [])
holds_push {slots = slots} {blocks = blocks} holds s named most = record {
  count = ap (λ n. n + 1) holds.count ∙ sym (length-append blocks (block_in s ∷ []));
  each = λ n. push_shown holds s named n (decision s.number n);
  apart = push_apart slots s holds.apart (ap (slot_with slots) named ∙ next_free holds);
  in_order = order_push slots s holds.in_order most;
}

pop_shown : {next : ℕ} {blocks : List Block} (front : List Slot) (s : Slot) → Holds (front ++ s ∷ []) next blocks →
    is_null_block s.kind ≡ false → slice_get blocks s.number ≡ Some (block_in s) → (n : ℕ) → Decision s.number n →
    IsShown (slot_with front n) (slice_get (slice_set blocks s.number (ended (block_in s))) n)
pop_shown {blocks = blocks} front s holds no_null at n (Same is) = subst
    (λ k. IsShown (slot_with front k) (slice_get (slice_set blocks s.number (ended (block_in s))) k)) is
    (shown_as ((front_apart front s holds.apart).1) (get_set_same blocks s.number (block_in s) (ended (block_in s)) at)
    (record { dead = refl; no_cells = refl; no_null = no_null }))
pop_shown {blocks = blocks} front s holds no_null at n (Differ differs) =
    shown_as (sym (push_other front s n differs)) (get_set_other blocks s.number n (ended (block_in s)) differs) (holds.each n)

-- the latest block that is alive ends
pub holds_pop : {next : ℕ} {blocks : List Block} (front : List Slot) (s : Slot) → Holds (front ++ s ∷ []) next blocks →
    is_null_block s.kind ≡ false → Holds front next (with_block s.number ended blocks)
holds_pop {next = next} {blocks = blocks} front s holds no_null =
    let at : slice_get blocks s.number ≡ Some (block_in s) = block_at holds (length front) s (get_new front s) in
    let is : with_block s.number ended blocks ≡ slice_set blocks s.number (ended (block_in s)) =
    ap (λ o. changed ended o s.number blocks) at in
    subst (Holds front next) (sym is) (record {
      count = holds.count ∙ sym (length-set blocks s.number (ended (block_in s)));
      each = λ n. pop_shown front s holds no_null at n (decision s.number n);
      apart = (front_apart front s holds.apart).0;
      in_order = order_front front s holds.in_order;
    })

pub holds_as : {slots slots' : List Slot} {next next' : ℕ} {blocks : List Block} → slots' ≡ slots → next' ≡ next → Holds slots next blocks →
    Holds slots' next' blocks
holds_as {slots = slots} {next' = next'} {blocks = blocks} of_slots of_next holds =
    subst (λ l. Holds l next' blocks) (sym of_slots) (subst (λ n. Holds slots n blocks) (sym of_next) holds)

-- cells of a block change, in its slot too
pub holds_stored : {slots : List Slot} {next : ℕ} {blocks : List Block} → Holds slots next blocks → (p : Pointer) (cells : List Cell)
    (i : ℕ) (s s' : Slot) → slice_get slots i ≡ Some s → s.number ≡ p.block → s'.number ≡ s.number →
    block_in s' ≡ with_cells_in p.offset cells (block_in s) → Holds (slice_set slots i s') next (stored p cells blocks)
holds_stored {slots = slots} {next = next} {blocks = blocks} holds p cells i s s' at place named is =
    let f : Block → Block = with_cells_in p.offset cells in
    let there : slice_get blocks s.number ≡ Some (block_in s) = block_at holds i s at in
    let same : slice_set blocks s.number (block_in s') ≡ changed f (slice_get blocks s.number) s.number blocks =
    ap (slice_set blocks s.number) is ∙ ap (λ o. changed f o s.number blocks) (sym there) in
    subst (λ n. Holds (slice_set slots i s') next (changed f (slice_get blocks n) n blocks)) place
    (subst (Holds (slice_set slots i s') next) same (holds_set holds i s s' at named (ap (λ b. b.kind) is)))

-- the block of a slot is the one of its number
pub block_found : {slots : List Slot} {next : ℕ} {blocks : List Block} → Holds slots next blocks → (i n : ℕ) (s : Slot) (b : Block) →
    slice_get slots i ≡ Some s → s.number ≡ n → slice_get blocks n ≡ Some b → b ≡ block_in s
block_found {blocks = blocks} holds i n s b at named is =
    some_same (sym is ∙ ap (slice_get blocks) (sym named) ∙ block_at holds i s at)

-- after a write, by the reason against it
pub holds_written : {slots : List Slot} {next : ℕ} {blocks : List Block} → Holds slots next blocks → (a : Access) (cells : List Cell)
    (i : ℕ) (s s' : Slot) (answer : Option Reason) → slice_get slots i ≡ Some s → s.number ≡ a.at.block → s'.number ≡ s.number →
    block_in s' ≡ written_block a cells (block_in s) answer → Holds (slice_set slots i s') next (written_or_kept a cells blocks answer)
holds_written holds a cells i s s' None at place named is = holds_stored holds a.at cells i s s' at place named is
holds_written {slots = slots} {next = next} {blocks = blocks} holds a cells i s s' (Some why) at place named is =
    let there : slice_get blocks s.number ≡ Some (block_in s) = block_at holds i s at in
    subst (Holds (slice_set slots i s') next)
    (ap (slice_set blocks s.number) is ∙ set_there blocks s.number (block_in s) there)
    (holds_set holds i s s' at named (ap (λ b. b.kind) is))
