-- Bytes of the innermost frame are changed: what is kept of the frames of the open calls, and their base words (this project's own).
use Rattle.std.specs.Prelude.{◌≡◌, ℕ, ◌+◌, ◌-◌, ◌*◌, ◌<◌, ◌≤◌, List, [], ◌∷◌}
use Rattle.std.proofs.Common.{arith, ◌∙◌}
use Rattle.mt_base.specs.Laws.Memory.{load_same}
use Rattle.c_type_base.specs.declared.typed.Typed.{Typed}
use Rattle.a64_code.specs.State.{State}
use Rattle.block_meaning.specs.Meaning.{open_bytes}
use Rattle.block_meaning.specs.Running.{Call}
use Rattle.code_relation.specs.Bases.{HaveBaseWords}
use Rattle.code_relation.specs.Calls.{stack_end, lowest, frame_of, LieInOrder}
use Rattle.code_relation.specs.Kept.{SameWord, KeepsAll, KeepsFrom}
use Rattle.code_relation.specs.Sites.{Given, units_of}

-- memory is the same but for the bytes from one address on, below another
pub record ChangesWithin (from to : ℕ) (s t : State) : Type 0 where
  pub below : (a : ℕ) → a < from → t.byte a ≡ s.byte a
  pub above : (a : ℕ) → to ≤ a → t.byte a ≡ s.byte a

-- words that end before them, and words that start behind them
pub SameWord-below : {from to : ℕ} (s t : State) (c : Call) (offset : ℕ) → ChangesWithin from to s t → lowest c + offset + 8 ≤ from →
    SameWord s t c offset
SameWord-below s t c offset changes ends =
    load_same 8 t.byte s.byte (lowest c + offset) (λ k less. changes.below (lowest c + offset + k) (omega (arith, less, ends)))

pub SameWord-above : {from to : ℕ} (s t : State) (c : Call) (offset : ℕ) → ChangesWithin from to s t → to ≤ lowest c →
    SameWord s t c offset
SameWord-above s t c offset changes starts =
    load_same 8 t.byte s.byte (lowest c + offset) (λ k less. changes.above (lowest c + offset + k) (omega (arith, starts)))

-- ---- where frames lie

frame_below : (top place outer bytes other : ℕ) → place ≡ outer + bytes → other ≤ outer → place ≤ top →
    top - place + bytes ≤ top - other
frame_below top place outer bytes other is less within = omega (arith, is, less, within)

-- the frame of the innermost call, within the stack, ends before those of calls that opened before it
pub frame-ends : (units : List Typed) (c d : Call) (cs : List Call) → LieInOrder units (c ∷ cs) → c.place ≤ stack_end →
    d.place ≤ open_bytes cs → lowest c + (frame_of units c.function).bytes ≤ lowest d
frame-ends units c d cs lie within less =
    frame_below stack_end c.place (open_bytes cs) (frame_of units c.function).bytes d.place lie.0 less within

-- ---- the calls that opened before

-- each of these frames starts at an address or above it
abbrev pub StartFrom : ℕ → List Call → Type 0
StartFrom to [] = Unit {0}
StartFrom to (d ∷ ds) = (to ≤ lowest d) × StartFrom to ds

start_from : (units : List Typed) (c : Call) (cs ds : List Call) → LieInOrder units (c ∷ cs) → c.place ≤ stack_end →
    LieInOrder units ds → open_bytes ds ≤ open_bytes cs → StartFrom (lowest c + (frame_of units c.function).bytes) ds
start_from units c cs [] lie within order less = tt
start_from units c cs (d ∷ ds) lie within order less =
    (frame-ends units c d cs lie within less, start_from units c cs ds lie within order.1 (omega (arith, order.0, less)))

pub StartFrom-frame : (units : List Typed) (c : Call) (cs : List Call) → LieInOrder units (c ∷ cs) → c.place ≤ stack_end →
    StartFrom (lowest c + (frame_of units c.function).bytes) cs
StartFrom-frame units c cs lie within = start_from units c cs cs lie within lie.1 (omega arith)

StartFrom_less : (less to : ℕ) (ds : List Call) → less ≤ to → StartFrom to ds → StartFrom less ds
StartFrom_less less to [] lower start = tt
StartFrom_less less to (d ∷ ds) lower start = (omega (arith, lower, start.0), StartFrom_less less to ds lower start.1)

pub keeps_above : {from to : ℕ} (units : List Typed) (s t : State) (ds : List Call) → ChangesWithin from to s t → StartFrom to ds →
    KeepsAll units s t ds
keeps_above units s t [] changes start = tt
keeps_above units s t (d ∷ ds) changes start = (
  (SameWord-above s t d 0 changes start.0, SameWord-above s t d 8 changes start.0),
  λ k below. SameWord-above s t d (24 + 8 * k) changes start.0,
  keeps_above units s t ds changes start.1,
)

pub words_above : {from to : ℕ} (g : Given) (calls : List Call) (s t : State) (ds : List Call) → ChangesWithin from to s t →
    StartFrom to ds → HaveBaseWords g calls s ds → HaveBaseWords g calls t ds
words_above g calls s t [] changes start words = tt
words_above g calls s t (d ∷ ds) changes start words = (
  λ tagged. SameWord-above s t d 16 changes start.0 ∙ words.0 tagged,
  words_above g calls s t ds changes start.1 words.1,
)

-- ---- the whole

-- a change in the innermost frame, behind so many temps
pub record InFrame (units : List Typed) (c : Call) (cs : List Call) (first from to : ℕ) : Type 0 where
  pub lie : LieInOrder units (c ∷ cs)
  pub within : c.place ≤ stack_end
  pub from_on : lowest c + (24 + 8 * first) ≤ from
  pub before : to ≤ lowest c + (frame_of units c.function).bytes

-- The saved pair, these temps and all of the calls that opened before are kept.
pub KeepsFrom-within : (units : List Typed) (first : ℕ) {from to : ℕ} (s t : State) (c : Call) (cs : List Call) →
    InFrame units c cs first from to → ChangesWithin from to s t → KeepsFrom units first s t (c ∷ cs)
KeepsFrom-within units first {from} {to} s t c cs inside changes = (
  (SameWord-below s t c 0 changes (omega (arith, inside.from_on)), SameWord-below s t c 8 changes (omega (arith, inside.from_on))),
  λ k below. SameWord-below s t c (24 + 8 * k) changes (omega (arith, below, inside.from_on)),
  keeps_above units s t cs changes
      (StartFrom_less to (lowest c + (frame_of units c.function).bytes) cs inside.before
      (StartFrom-frame units c cs inside.lie inside.within)),
)

-- And the base words are the same.
pub HaveBaseWords-within : (g : Given) (calls : List Call) (first : ℕ) {from to : ℕ} (s t : State) (c : Call) (cs : List Call) →
    InFrame (units_of g) c cs first from to → ChangesWithin from to s t → HaveBaseWords g calls s (c ∷ cs) →
    HaveBaseWords g calls t (c ∷ cs)
HaveBaseWords-within g calls first {from} {to} s t c cs inside changes words = (
  λ tagged. SameWord-below s t c 16 changes (omega (arith, inside.from_on)) ∙ words.0 tagged,
  words_above g calls s t cs changes
      (StartFrom_less to (lowest c + (frame_of (units_of g) c.function).bytes) cs inside.before
      (StartFrom-frame (units_of g) c cs inside.lie inside.within)) words.1,
)
