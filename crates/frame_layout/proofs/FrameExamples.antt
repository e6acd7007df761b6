-- Frames of given parts.
use Rattle.std.proofs.Common.{◌≡◌, refl, ℕ, List, [], ◌∷◌, false, lit≤}
use Rattle.slot_safety.specs.declared.kind.Kind.{Kind}
use Rattle.slot_safety.specs.declared.kind.Kind.TheVariants.{Safe, Tagged}
use Rattle.mt_base.specs.Tags.{slot_tag}
use Rattle.frame_layout.specs.declared.placed.Part.{Part}
use Rattle.frame_layout.specs.declared.frame.Slot.{Slot}
use Rattle.frame_layout.specs.Needs.{arguments}
use Rattle.frame_layout.specs.Frames.{frame_by}
use Rattle.frame_layout.specs.Neighbours.{Access, Neighbour, tag_there}

abbrev part : ℕ → ℕ → Kind → Part
part bytes align kind = record { bytes = bytes; align = align; kind = kind; inner = false }

abbrev slot : ℕ → ℕ → Kind → ℕ → Slot
slot start bytes kind index = record { start = start; bytes = bytes; kind = kind; index = index; inner = false }

-- char a[16]; char b[16]; int i; where a and b are tagged, with two words
abbrev three : List Part
three = part 16 1 Tagged ∷ part 16 1 Tagged ∷ part 4 4 Safe ∷ []

three_slots : (frame_by 2 three).slots ≡ slot 48 16 Tagged 0 ∷ slot 64 16 Tagged 1 ∷ slot 40 4 Safe 0 ∷ []
three_slots = refl

three_bytes : (frame_by 2 three).bytes ≡ 80
three_bytes = refl

-- a safe slot at the next multiple of its alignment
aligned : (frame_by 1 (part 1 1 Safe ∷ part 8 8 Safe ∷ part 5 1 Tagged ∷ [])).slots ≡
    slot 32 1 Safe 0 ∷ slot 40 8 Safe 0 ∷ slot 48 16 Tagged 0 ∷ []
aligned = refl

-- 48 bytes and 262,096 are the largest frame, and one byte more is one granule more
largest : (frame_by 2 (part 262096 1 Tagged ∷ [])).bytes ≡ 262144
largest = refl

too_large : (frame_by 2 (part 262097 1 Tagged ∷ [])).bytes ≡ 262160
too_large = refl

nothing : (frame_by 0 []).bytes ≡ 32
nothing = refl

-- three arguments wait for the call, and the third needs two words while two wait
arguments_wait : arguments (0 ∷ 1 ∷ 2 ∷ []) ≡ 4
arguments_wait = refl

-- a[16] is b[0], where all locals are live, or b is not
abbrev behind_a : List ℕ → Access
behind_a live = record { live = live; number = 0; offset = 16; size = 1 }

abbrev all_live : List ℕ
all_live = 0 ∷ 1 ∷ 2 ∷ []

abbrev b_dead : List ℕ
b_dead = 0 ∷ 2 ∷ []

abbrev b_is_neighbour : (live : List ℕ) → Neighbour (frame_by 2 three) (behind_a live)
b_is_neighbour live = record {
  slot = slot 48 16 Tagged 0;
  is = refl;
  tagged = refl;
  aligned = refl;
  within = lit≤ tt;
  other_index = refl;
}

tag_of_b : tag_there 5 (b_is_neighbour all_live) ≡ slot_tag 5 1
tag_of_b = refl

tag_of_b_dead : tag_there 5 (b_is_neighbour b_dead) ≡ 0
tag_of_b_dead = refl

-- i, below a, is safe: its memory has the tag 0
abbrev below_a : Access
below_a = record { live = all_live; number = 0; offset = 18446744073709551608; size = 4 }

abbrev i_is_neighbour : Neighbour (frame_by 2 three) below_a
i_is_neighbour = record {
  slot = slot 48 16 Tagged 0;
  is = refl;
  tagged = refl;
  aligned = refl;
  within = lit≤ tt;
  other_index = refl;
}

tag_of_i : tag_there 5 i_is_neighbour ≡ 0
tag_of_i = refl
