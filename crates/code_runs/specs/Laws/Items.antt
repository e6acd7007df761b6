-- Items in pieces, the steps that they are, and where branches go (this project's own).
use Rattle.std.specs.Prelude.{◌≡◌, ℕ, zero, suc, ◌+◌, ◌*◌, ◌%◌, ◌^◌, ◌<◌, List, [], ◌∷◌, ◌++◌}
use Rattle.std.specs.Prelude.{length, map, Some}
use Rattle.std.proofs.Common.{arith, sym, ◌∙◌, subst, length-append}
use Rattle.a64_code.specs.declared.instr.Instr.{Instr}
use Rattle.a64_code.specs.State.{State}
use Rattle.a64_code.specs.Stepped.{Leads}
use Rattle.a64_code.specs.Effect.{effect}
use Rattle.mte_machine.specs.Run.{Steps}
use Rattle.code_runs.specs.Laws.CodeAt.{instruction_at, HasCode, HasCode-first, HasCode-rest, HasCode-kept, SameAt, SameAt-within}
use Rattle.code_runs.specs.Laws.CodeAt.{Steps-at}
use Rattle.code_runs.specs.Items.{Item, instr_of, JumpsInReach, AllInReach, StandAt, HasAt, item_at, IsAt}

-- ---- in pieces

pub HasAt-rest : {loaded : State} {at : ℕ} {item : Item} {items : List Item} → HasAt loaded at (item ∷ items) →
    HasAt loaded (at + 4) items
HasAt-rest has = record { stand = has.stand.2; below = omega (arith, has.below) }

stand-front : (s : State) (at : ℕ) (xs ys : List Item) → StandAt s at (xs ++ ys) → StandAt s at xs
stand-front s at [] ys stand = tt
stand-front s at (x ∷ xs) ys stand = (stand.0, stand.1, stand-front s (at + 4) xs ys stand.2)

stand-back : (s : State) (at : ℕ) (xs ys : List Item) → StandAt s at (xs ++ ys) → StandAt s (at + 4 * length xs) ys
stand-back s at [] ys stand = subst (λ (a : ℕ). StandAt s a ys) (omega arith) stand
stand-back s at (x ∷ xs) ys stand = subst (λ (a : ℕ). StandAt s a ys) (omega arith) (stand-back s (at + 4) xs ys stand.2)

pub HasAt-front : {loaded : State} {at : ℕ} (xs ys : List Item) → HasAt loaded at (xs ++ ys) → HasAt loaded at xs
HasAt-front {loaded} {at} xs ys has =
    record { stand = stand-front loaded at xs ys has.stand; below = omega (arith, has.below, length-append xs ys) }

pub HasAt-back : {loaded : State} {at : ℕ} (xs ys : List Item) → HasAt loaded at (xs ++ ys) → HasAt loaded (at + 4 * length xs) ys
HasAt-back {loaded} {at} xs ys has =
    record { stand = stand-back loaded at xs ys has.stand; below = omega (arith, has.below, length-append xs ys) }

stand-append : (s : State) (at : ℕ) (xs ys : List Item) → StandAt s at xs → StandAt s (at + 4 * length xs) ys → StandAt s at (xs ++ ys)
stand-append s at [] ys first rest = subst (λ (a : ℕ). StandAt s a ys) (omega arith) rest
stand-append s at (x ∷ xs) ys first rest =
    (first.0, first.1, stand-append s (at + 4) xs ys first.2 (subst (λ (a : ℕ). StandAt s a ys) (omega arith) rest))

pub HasAt-append : {loaded : State} {at : ℕ} (xs ys : List Item) → HasAt loaded at xs → HasAt loaded (at + 4 * length xs) ys →
    HasAt loaded at (xs ++ ys)
HasAt-append {loaded} {at} xs ys first rest = record {
  stand = stand-append loaded at xs ys first.stand rest.stand;
  below = omega (arith, rest.below, length-append xs ys);
}

-- the items stand where their instructions do
stand-code : (s : State) (at : ℕ) (items : List Item) → HasCode s at (map instr_of items) → AllInReach at items → StandAt s at items
stand-code s at [] code reach = tt
stand-code s at (item ∷ items) code reach = (HasCode-first code, reach.0, stand-code s (at + 4) items (HasCode-rest code) reach.1)

pub HasAt-code : (loaded : State) (at : ℕ) (items : List Item) → HasCode loaded at (map instr_of items) → AllInReach at items →
    at + 4 * length items < 2 ^ 64 → HasAt loaded at items
HasAt-code loaded at items code reach below = record { stand = stand-code loaded at items code reach; below = below }

-- ---- one item

-- what stands at a position
pub record StandsThere (s : State) (at : ℕ) (item : Item) : Type 0 where
  pub instr : instruction_at s at ≡ Some (instr_of item)
  pub reach : JumpsInReach at item

stand-item : (s : State) (at : ℕ) (items : List Item) (k : ℕ) (item : Item) → item_at items k ≡ Some item → StandAt s at items →
    StandsThere s (at + 4 * k) item
stand-item s at [] k item is stand = absurd (cc)
stand-item s at (first ∷ items) zero item is stand =
    let same : first ≡ item = cc in
    subst (λ (x : Item). StandsThere s (at + 4 * zero) x) same
    (subst (λ (a : ℕ). StandsThere s a first) (omega arith) (record { instr = stand.0; reach = stand.1 }))
stand-item s at (first ∷ items) (suc k) item is stand =
    subst (λ (a : ℕ). StandsThere s a item) (omega arith) (stand-item s (at + 4) items k item is stand.2)

item_at-lt : (items : List Item) (k : ℕ) (item : Item) → item_at items k ≡ Some item → k < length items
item_at-lt [] k item is = absurd (cc)
item_at-lt (first ∷ items) zero item is = omega arith
item_at-lt (first ∷ items) (suc k) item is = omega (arith, item_at-lt items k item is)

-- what stands in memory as it was loaded stands there still
stands_still : {s t : State} {at : ℕ} {instr : Instr} → SameAt at 4 s t → instruction_at s at ≡ Some instr →
    instruction_at t at ≡ Some instr
stands_still {instr = instr} same stands = HasCode-first (HasCode-kept {instrs = instr ∷ []} same (record { stand = (stands, tt) }))

-- the item at PC, and what is known there
pub item-there : {loaded s : State} {at : ℕ} {items : List Item} (k : ℕ) {item : Item} → HasAt loaded at items →
    IsAt loaded at (4 * length items) k s → item_at items k ≡ Some item →
    StandsThere s s.pc item
item-there {loaded} {s} {at} {items} k {item} has is_at is =
    let there = stand-item loaded at items k item is has.stand in
    subst (λ (a : ℕ). StandsThere s a item) (sym is_at.pc)
    (record {
      instr = stands_still (SameAt-within is_at.code (omega arith) (omega (arith, item_at-lt items k item is))) there.instr;
      reach = there.reach;
    })

-- its effect is a step
pub Steps-item : {loaded s t : State} {at : ℕ} {items : List Item} (k : ℕ) {item : Item} → HasAt loaded at items →
    IsAt loaded at (4 * length items) k s → item_at items k ≡ Some item →
    effect (instr_of item) s ≡ Leads t → Steps 1 s t
Steps-item k {item} has is_at is leads = Steps-at (instr_of item) (item-there k has is_at is).instr leads

-- ---- where PC is then

SameAt-then : {at bytes : ℕ} {r s t : State} → SameAt at bytes r s → SameAt at bytes s t → SameAt at bytes r t
SameAt-then first rest =
    record { regions = rest.regions ∙ first.regions; bytes = λ a from below. rest.bytes a from below ∙ first.bytes a from below }

-- at the next item
pub IsAt-next : {loaded s t : State} {at : ℕ} {items : List Item} {k : ℕ} → HasAt loaded at items →
    IsAt loaded at (4 * length items) k s → k < length items →
    SameAt at (4 * length items) s t → t.pc ≡ (s.pc + 4) % 2 ^ 64 → IsAt loaded at (4 * length items) (k + 1) t
IsAt-next has is_at within same pc = record {
  code = SameAt-then is_at.code same;
  pc = pc ∙ omega (arith, is_at.pc, has.below, within);
}
