-- What code keeps of the frames of the open calls (this project's own).
use Rattle.std.specs.Prelude.{◌≡◌, ℕ, ◌+◌, ◌*◌, ◌<◌, List, [], ◌∷◌}
use Rattle.mt_base.specs.Memory.{load}
use Rattle.c_type_base.specs.declared.typed.Typed.{Typed}
use Rattle.a64_code.specs.State.{State}
use Rattle.block_meaning.specs.Running.{Call}
use Rattle.code_relation.specs.Calls.{lowest, frame_of}

-- so many bytes above the lowest address of a call's frame, eight bytes are a number that is the same in both states
abbrev pub SameWord : State → State → Call → ℕ → Type 0
SameWord s t c offset = load 8 t.byte (lowest c + offset) ≡ load 8 s.byte (lowest c + offset)

-- the saved X29 and X30
abbrev pub SamePair : State → State → Call → Type 0
SamePair s t c = SameWord s t c 0 × SameWord s t c 8

-- the temps before one
abbrev pub SameTemps : State → State → Call → ℕ → Type 0
SameTemps s t c first = (k : ℕ) → k < first → SameWord s t c (24 + 8 * k)

-- of each of some calls all temps, and the saved pair
abbrev pub KeepsAll : List Typed → State → State → List Call → Type 0
KeepsAll units s t [] = Unit {0}
KeepsAll units s t (c ∷ cs) = SamePair s t c × SameTemps s t c (frame_of units c.function).temps × KeepsAll units s t cs

-- the same, but in the innermost call only the temps before the first one that may be used
abbrev pub KeepsFrom : List Typed → ℕ → State → State → List Call → Type 0
KeepsFrom units first s t [] = Unit {0}
KeepsFrom units first s t (c ∷ cs) = SamePair s t c × SameTemps s t c first × KeepsAll units s t cs
