-- Code as items of one instruction each, with branches that pass a number of items, and where it stands (this project's own).
use Rattle.std.specs.Prelude.{◌≡◌, ℕ, zero, suc, ◌+◌, ◌*◌, ◌^◌, ◌<◌, List, [], ◌∷◌, length, Option, Some, None}
use Rattle.a64_code.specs.declared.instr.Instr.{Instr}
use Rattle.a64_code.specs.State.{State}
use Rattle.code_runs.specs.Laws.CodeAt.{instruction_at, SameAt}
use Rattle.a64_laws.specs.Branches.{Way, Branch, field_bits, jump_instr, IsInReach}

pub data Item : Type 0 where
  Plain : Instr → Item
  Jump : Branch → Way → Item

-- ---- the instruction of an item

abbrev pub instr_of : Item → Instr
instr_of (Plain instr) = instr
instr_of (Jump branch way) = jump_instr branch way

-- its branch reaches the item where it goes
abbrev pub JumpsInReach : ℕ → Item → Type 0
JumpsInReach at (Plain instr) = Unit {0}
JumpsInReach at (Jump branch way) = IsInReach (field_bits branch) at way

-- the same of several, one behind another
abbrev pub AllInReach : ℕ → List Item → Type 0
AllInReach at [] = Unit {0}
AllInReach at (item ∷ items) = JumpsInReach at item × AllInReach (at + 4) items

-- ---- where items stand

-- one behind another from an address on, each branch in reach of its item
abbrev pub StandAt : State → ℕ → List Item → Type 0
StandAt s at [] = Unit {0}
StandAt s at (item ∷ items) = (instruction_at s at ≡ Some (instr_of item)) × JumpsInReach at item × StandAt s (at + 4) items

-- the items stand there in memory as it was loaded, below the end of addresses
pub record HasAt (loaded : State) (at : ℕ) (items : List Item) : Type 0 where
  pub stand : StandAt loaded at items
  pub below : at + 4 * length items < 2 ^ 64

-- the item at a position
abbrev pub item_at : List Item → ℕ → Option Item
item_at [] k = None
item_at (item ∷ items) zero = Some item
item_at (item ∷ items) (suc k) = item_at items k

-- PC is at a position of items that stand at an address, of which so many bytes are as they were loaded
pub record IsAt (loaded : State) (at bytes position : ℕ) (s : State) : Type 0 where
  pub code : SameAt at bytes loaded s
  pub pc : s.pc ≡ at + 4 * position
