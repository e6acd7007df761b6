-- The sixteen tags as a ring, on which 15 is followed by 0, and the choice of one that is not excluded.
use Rattle.std.specs.Prelude.{ℕ, zero, suc, ◌+◌, ◌%◌, List, [], ◌∷◌, length, slice_index, Bool, ◌==◌}
use Rattle.std.specs.List.{filter}
use Rattle.std.specs.Int.{bit_at}

-- bit t of the mask of excluded tags is clear
abbrev pub is_allowed : ℕ → ℕ → Bool
is_allowed exclude t = bit_at exclude t == 0

-- so many tags in their order round the ring, from the tag `from` on
abbrev pub ring : ℕ → ℕ → List ℕ
ring from zero = []
ring from (suc count) = from % 16 ∷ ring (from + 1) count

-- the tags that are not excluded, each once, in their order round the ring from the tag `from` on
unfoldable pub allowed_from : ℕ → ℕ → List ℕ
allowed_from exclude from = filter (is_allowed exclude) (ring from 16)

-- the tag at a place of such a list, which is gone round as often as needed; 0 where no tag is allowed
abbrev pub chosen_at : List ℕ → ℕ → ℕ
chosen_at tags place = slice_index tags (place % length tags)

-- `AArch64.ChooseNonExcludedTag` of the Arm ARM. Offset 0 gives the first tag from `tag` on that is not excluded, which
-- may be `tag` itself, and any other offset n the n-th such tag after it.
abbrev pub next_tag : ℕ → ℕ → ℕ → ℕ
next_tag tag zero exclude = slice_index (allowed_from exclude tag) 0
next_tag tag (suc more) exclude = chosen_at (allowed_from exclude (tag + 1)) more

-- the mask that excludes the tag 0 alone
abbrev pub zero_excluded : ℕ
zero_excluded = 1

-- the base tag of a frame that draws this choice
abbrev pub base : ℕ → ℕ
base choice = next_tag choice 0 zero_excluded

-- the tag of the slot with this index in that frame
abbrev pub slot_tag : ℕ → ℕ → ℕ
slot_tag choice index = next_tag (base choice) index zero_excluded
