-- To which call the blocks that are alive belong.
use Rattle.std.specs.Prelude.{ℕ, ◌+◌, ◌≤◌, List, [], ◌∷◌}
use Rattle.block_meaning.specs.declared.kind.Kind.{Kind}
use Rattle.block_meaning.specs.declared.kind.Kind.TheVariants.{Local}
use Rattle.mean_memory.specs.declared.slot.Slot.{Slot}

-- 0 for a block of a file, and else one more than the number of the call whose parameter or local it is
abbrev pub owner : Kind → ℕ
owner (Local call number) = call + 1
owner _ = 0

-- none belongs to an earlier owner
abbrev pub From : ℕ → List Slot → Type 0
From n [] = Unit {0}
From n (s ∷ ss) = (n ≤ owner s.kind) × From n ss

-- none belongs to a later owner
abbrev pub UpTo : ℕ → List Slot → Type 0
UpTo n [] = Unit {0}
UpTo n (s ∷ ss) = (owner s.kind ≤ n) × UpTo n ss

-- in the order of their owners
abbrev pub InOrder : List Slot → Type 0
InOrder [] = Unit {0}
InOrder (s ∷ ss) = From (owner s.kind) ss × InOrder ss
