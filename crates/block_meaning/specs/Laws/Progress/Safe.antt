-- Runs that are not stuck: they use blocks that exist, keep all blocks, and leave pointers to such blocks alone.
use Rattle.std.proofs.Common.{◌≡◌, refl, sym, subst, ℕ, zero, suc, ◌≤◌, ◌<◌, arith, Bool, true, false, List, length, Option, Some}
use Rattle.std.specs.List.{All}
use Rattle.c_ast.specs.declared.token.Span.{Span}
use Rattle.block_meaning.specs.declared.reason.Reason.{Reason}
use Rattle.block_meaning.specs.declared.access.Access.{Access}
use Rattle.block_meaning.specs.declared.cell.Cell.{Cell}
use Rattle.block_meaning.specs.declared.cell.Cell.TheVariants.{Part}
use Rattle.block_meaning.specs.Blocks.{Block}
use Rattle.block_meaning.specs.Laws.Settled.{IsStop}
use Rattle.block_meaning.specs.Running.{Stop, State, Result, Goes, Stops, Run, gives, stops, goes_on, and_then, one_of, unit_then}
use Rattle.block_meaning.specs.Running.{choice, with_some, by_blocks, with_blocks, Context, undefined}

-- ---- pointers in memory name blocks that exist, of so many

abbrev pub CellWithin : ℕ → Cell → Type 0
CellWithin n (Part k block offset) = block < n
CellWithin n _ = Unit {0}

abbrev pub CellsWithin : ℕ → List Cell → Type 0
CellsWithin n = All (CellWithin n)

abbrev pub BlockWithin : ℕ → Block → Type 0
BlockWithin n b = CellsWithin n b.cells

abbrev pub BlocksWithin : ℕ → List Block → Type 0
BlocksWithin n = All (BlockWithin n)

-- a state with at least so many blocks and at most so much work
pub record Kept (n w : ℕ) (now : State) : Type 0 where
  pub blocks : n ≤ length now.blocks
  pub work : now.work ≤ w
  pub within : BlocksWithin (length now.blocks) now.blocks

-- a run went from a state to a later one with a value, of which something holds by the number of blocks there
pub record Went {A : Type 0} (P : ℕ → A → Type 0) (now : State) (a : A) (later : State) : Type 0 where
  pub blocks : length now.blocks ≤ length later.blocks
  pub work : later.work ≤ now.work
  pub within : BlocksWithin (length later.blocks) later.blocks
  pub value : P (length later.blocks) a

abbrev pub Ends : {A : Type 0} → (ℕ → A → Type 0) → State → Result A → Type 0
Ends P now (Goes a later) = Went P now a later
Ends P now (Stops why later) = IsStop why

-- from a state with at least so many blocks and at most so much work it is not stuck
pub record Safe {A : Type 0} (n w : ℕ) (m : Run A) (P : ℕ → A → Type 0) : Type 0 where
  pub ends : (now : State) → Kept n w now → Ends P now (m now)

-- nothing is asked of a value
abbrev pub Any : {A : Type 0} → ℕ → A → Type 0
Any n a = Unit {0}

stays : {n w : ℕ} {A : Type 0} {P : ℕ → A → Type 0} {a : A} {now : State} → Kept n w now → P (length now.blocks) a → Went P now a now
stays kept p = record { blocks = omega arith; work = omega arith; within = kept.within; value = p }

pub safe-gives : {A : Type 0} {n w : ℕ} {P : ℕ → A → Type 0} (a : A) → ((k : ℕ) → n ≤ k → P k a) → Safe n w (gives a) P
safe-gives a fits = record { ends = λ now kept. stays kept (fits (length now.blocks) kept.blocks) }

pub safe-stops : {A : Type 0} {n w : ℕ} {P : ℕ → A → Type 0} (why : Stop) → IsStop why → Safe n w (stops {A = A} why) P
safe-stops why is = record { ends = λ now kept. is }

pub safe-undefined : {A : Type 0} {n w : ℕ} {P : ℕ → A → Type 0} (here : Context) (span : Span) (access : Option Access) (why : Reason) →
    Safe n w (undefined {A = A} here span access why) P
safe-undefined here span access why = record { ends = λ now kept. tt }

-- ---- one after another

pub further : {A B : Type 0} {P : ℕ → A → Type 0} (Q : ℕ → B → Type 0) {now later : State} {a : A} → Went P now a later → (r : Result B) →
    Ends Q later r → Ends Q now r
further Q went (Goes b last) more = record {
  blocks = omega (arith, went.blocks, more.blocks);
  work = omega (arith, went.work, more.work);
  within = more.within;
  value = more.value;
}
further Q went (Stops why last) stop = stop

goes_safe : {A B : Type 0} {n w : ℕ} (P : ℕ → A → Type 0) (Q : ℕ → B → Type 0) {f : A → Run B} →
    ((k : ℕ) → n ≤ k → (a : A) → P k a → Safe k w (f a) Q) → (now : State) → Kept n w now → (r : Result A) → Ends P now r →
    Ends Q now (goes_on r f)
goes_safe P Q {f = f} each now kept (Goes a later) went =
    let longer : length later.blocks ≤ length later.blocks = omega arith in
    let safe = each (length later.blocks) (omega (arith, kept.blocks, went.blocks)) a went.value in
    further Q went (f a later)
    (safe.ends later (record { blocks = longer; work = omega (arith, kept.work, went.work); within = went.within }))
goes_safe P Q each now kept (Stops why later) stop = stop

pub safe-then : {A B : Type 0} {n w : ℕ} {P : ℕ → A → Type 0} {Q : ℕ → B → Type 0} {m : Run A} {f : A → Run B} → Safe n w m P →
    ((k : ℕ) → n ≤ k → (a : A) → P k a → Safe k w (f a) Q) → Safe n w (and_then m f) Q
safe-then {P = P} {Q = Q} {m = m} first each = record { ends = λ now kept. goes_safe P Q each now kept (m now) (first.ends now kept) }

-- more may be known of the value
weaker : {A : Type 0} {n : ℕ} (P Q : ℕ → A → Type 0) → ((k : ℕ) → n ≤ k → (a : A) → P k a → Q k a) → (now : State) →
    n ≤ length now.blocks → (r : Result A) → Ends P now r → Ends Q now r
weaker P Q fits now longer (Goes a later) went = record {
  blocks = went.blocks;
  work = went.work;
  within = went.within;
  value = fits (length later.blocks) (omega (arith, longer, went.blocks)) a went.value;
}
weaker P Q fits now longer (Stops why later) stop = stop

pub safe-weaker : {A : Type 0} {n w : ℕ} {P Q : ℕ → A → Type 0} {m : Run A} → Safe n w m P →
    ((k : ℕ) → n ≤ k → (a : A) → P k a → Q k a) → Safe n w m Q
safe-weaker {P = P} {Q = Q} {m = m} safe fits = record { ends = λ now kept. weaker P Q fits now kept.blocks (m now) (safe.ends now kept) }

-- ---- work

spent : {A : Type 0} (P : ℕ → A → Type 0) (now : State) (rest : ℕ) → rest ≤ now.work → (r : Result A) →
    Ends P (record now { work = rest }) r → Ends P now r
spent P now rest less (Goes a later) went =
    record { blocks = went.blocks; work = omega (arith, less, went.work); within = went.within; value = went.value }
spent P now rest less (Stops why later) stop = stop

one_safe : {A : Type 0} {n w : ℕ} {P : ℕ → A → Type 0} {m : Run A} → ((v : ℕ) → v < w → Safe n v m P) → (work : ℕ) (now : State) →
    now.work ≡ work → Kept n w now → Ends P now (one_of work m now)
one_safe each zero now is kept = tt
one_safe {P = P} {m = m} each (suc rest) now is kept =
    let less : rest < now.work = omega (arith, is) in
    let safe = each rest (omega (arith, less, kept.work)) in
    spent P now rest (omega (arith, less)) (m (record now { work = rest }))
    (safe.ends (record now { work = rest }) (record { blocks = kept.blocks; work = omega arith; within = kept.within }))

-- less work is left after a unit
pub safe-unit : {A : Type 0} {n w : ℕ} {P : ℕ → A → Type 0} {m : Run A} → ((v : ℕ) → v < w → Safe n v m P) → Safe n w (unit_then m) P
safe-unit each = record { ends = λ now kept. one_safe each now.work now refl kept }

one_first : {A B : Type 0} (P : ℕ → B → Type 0) (m : Run A) (f : A → Run B) (work : ℕ) (now : State) →
    Ends P now (one_of work (and_then m f) now) → Ends P now (goes_on (one_of work m now) f)
one_first P m f zero now ends = ends
one_first P m f (suc rest) now ends = ends

-- what comes after a unit and something comes after the unit too
pub safe-unit_first : {A B : Type 0} {n w : ℕ} {P : ℕ → B → Type 0} (m : Run A) (f : A → Run B) → Safe n w (unit_then (and_then m f)) P →
    Safe n w (and_then (unit_then m) f) P
safe-unit_first {P = P} m f safe = record { ends = λ now kept. one_first P m f now.work now (safe.ends now kept) }

-- ---- choices

pub safe-choice : {A : Type 0} {n w : ℕ} {P : ℕ → A → Type 0} {l m : Run A} (b : Bool) → Safe n w l P → Safe n w m P →
    Safe n w (choice b l m) P
safe-choice true holds fails = record { ends = λ now kept. holds.ends now kept }
safe-choice false holds fails = record { ends = λ now kept. fails.ends now kept }

pub safe-some : {A B : Type 0} {n w : ℕ} {P : ℕ → B → Type 0} {o : Option A} (f : A → Run B) (a : A) → o ≡ Some a → Safe n w (f a) P →
    Safe n w (with_some o f) P
safe-some {n = n} {w = w} {P = P} f a is safe = subst (λ o. Safe n w (with_some o f) P) (sym is) safe

-- ---- blocks

pub safe-blocks : {A : Type 0} {n w : ℕ} {P : ℕ → A → Type 0} {f : List Block → Run A} →
    ((blocks : List Block) → n ≤ length blocks → BlocksWithin (length blocks) blocks → Safe (length blocks) w (f blocks) P) →
    Safe n w (by_blocks f) P
safe-blocks each = record {
  ends = λ now kept. (each now.blocks kept.blocks kept.within).ends now
      (record { blocks = omega arith; work = kept.work; within = kept.within });
}

-- the blocks are changed to as many or more
pub record Changes (before after : List Block) : Type 0 where
  pub longer : length before ≤ length after
  pub within : BlocksWithin (length after) after

pub safe-with_blocks : {n w : ℕ} (f : List Block → List Block) →
    ((blocks : List Block) → n ≤ length blocks → BlocksWithin (length blocks) blocks → Changes blocks (f blocks)) →
    Safe n w (with_blocks f) Any
safe-with_blocks f each = record {
  ends = λ now kept. let changes = each now.blocks kept.blocks kept.within in
      record { blocks = changes.longer; work = omega arith; within = changes.within; value = tt };
}
