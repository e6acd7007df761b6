-- What of frames is kept is kept by one part of the code and then another, and where bytes are the same (this project's own).
use Rattle.std.specs.Prelude.{◌≡◌, ℕ, ◌+◌, ◌*◌, ◌≤◌, List, [], ◌∷◌}
use Rattle.std.proofs.Common.{arith, ap, ◌∙◌}
use Rattle.mt_base.specs.Memory.{load}
use Rattle.c_type_base.specs.declared.typed.Typed.{Typed}
use Rattle.a64_code.specs.State.{State}
use Rattle.block_meaning.specs.Running.{Call}
use Rattle.code_relation.specs.Calls.{lowest, frame_of}
use Rattle.code_relation.specs.Kept.{SameWord, KeepsAll, KeepsFrom}

SameWord-bytes : (s t : State) (c : Call) (offset : ℕ) → t.byte ≡ s.byte → SameWord s t c offset
SameWord-bytes s t c offset same = ap (λ byte. load 8 byte (lowest c + offset)) same

-- ---- bytes that are the same

pub KeepsAll-bytes : (units : List Typed) (s t : State) (cs : List Call) → t.byte ≡ s.byte → KeepsAll units s t cs
KeepsAll-bytes units s t [] same = tt
KeepsAll-bytes units s t (c ∷ cs) same = (
  (SameWord-bytes s t c 0 same, SameWord-bytes s t c 8 same),
  λ k below. SameWord-bytes s t c (24 + 8 * k) same,
  KeepsAll-bytes units s t cs same,
)

pub KeepsFrom-bytes : (units : List Typed) (first : ℕ) (s t : State) (cs : List Call) → t.byte ≡ s.byte → KeepsFrom units first s t cs
KeepsFrom-bytes units first s t [] same = tt
KeepsFrom-bytes units first s t (c ∷ cs) same = (
  (SameWord-bytes s t c 0 same, SameWord-bytes s t c 8 same),
  λ k below. SameWord-bytes s t c (24 + 8 * k) same,
  KeepsAll-bytes units s t cs same,
)

-- ---- one part and then another

pub KeepsAll-then : (units : List Typed) (s t u : State) (cs : List Call) → KeepsAll units s t cs → KeepsAll units t u cs →
    KeepsAll units s u cs
KeepsAll-then units s t u [] first rest = tt
KeepsAll-then units s t u (c ∷ cs) first rest = (
  (rest.0.0 ∙ first.0.0, rest.0.1 ∙ first.0.1),
  λ k below. rest.1 k below ∙ first.1 k below,
  KeepsAll-then units s t u cs first.2 rest.2,
)

-- The second part may use temps from another one on: what both keep is kept.
pub KeepsFrom-then : (units : List Typed) (least first second : ℕ) (s t u : State) (cs : List Call) → least ≤ first → least ≤ second →
    KeepsFrom units first s t cs → KeepsFrom units second t u cs → KeepsFrom units least s u cs
KeepsFrom-then units least first second s t u [] one two before behind = tt
KeepsFrom-then units least first second s t u (c ∷ cs) one two before behind = (
  (behind.0.0 ∙ before.0.0, behind.0.1 ∙ before.0.1),
  λ k below. behind.1 k (omega (arith, below, two)) ∙ before.1 k (omega (arith, below, one)),
  KeepsAll-then units s t u cs before.2 behind.2,
)

-- what keeps all temps keeps those before one
pub KeepsAll-from : (units : List Typed) (first : ℕ) (s t : State) (c : Call) (cs : List Call) →
    first ≤ (frame_of units c.function).temps →
    KeepsAll units s t (c ∷ cs) → KeepsFrom units first s t (c ∷ cs)
KeepsAll-from units first s t c cs within keeps = (keeps.0, λ k below. keeps.1 k (omega (arith, below, within)), keeps.2)
