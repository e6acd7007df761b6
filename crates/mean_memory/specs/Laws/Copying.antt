-- Cells that are copied from one slot to another, and from block to block.
use Rattle.std.proofs.Common.{◌≡◌, ◌≢◌, refl, sym, subst, ap, ◌∙◌, arith, ℕ, zero, suc, ◌<◌, true, List, [], ◌∷◌, ◌++◌, length, take, drop}
use Rattle.std.proofs.Common.{set, get_or, Some}
use Rattle.std.proofs.lemmas.List.{length-set, take_at}
use Rattle.std.proofs.lemmas.Option.{slice_get-get_or}
use Rattle.std.specs.Prelude.{slice_get, slice_set}
use Rattle.block_meaning.specs.declared.cell.Cell.{Cell}
use Rattle.block_meaning.specs.declared.kind.Kind.{Kind}
use Rattle.block_meaning.specs.declared.value.Pointer.{Pointer}
use Rattle.block_meaning.specs.Blocks.{Block, cells_in, cells_at, cells_at_block, with_cells, with_cells_in, stored}
use Rattle.block_meaning.specs.Memory.{copied}
use Rattle.mean_memory.specs.declared.copying.Part.{Part}
use Rattle.mean_memory.specs.declared.slot.Slot.{Slot}
use Rattle.mean_memory.specs.Copied.{IsCopied}
use Rattle.mean_memory.specs.Laws.Holding.{block_at, holds_stored}
use Rattle.mean_memory.specs.Laws.Places.{some_same, get_set_same, get_set_other}
use Rattle.mean_memory.specs.Shown.{block_in, Holds}

-- ---- from slot to slot, while the cells of the second are out of it

read_after : (slots : List Slot) (i j : ℕ) (bare d : Slot) → i < length slots →
    slice_get (set slots j bare) i ≡ Some (get_or (set slots j bare) i d)
read_after slots i j bare d within =
    let same = length-set slots j bare in
    slice_get-get_or (set slots j bare) i d (omega arith)

set_twice : (slots : List Slot) (i : ℕ) (s t : Slot) → set (set slots i s) i t ≡ set slots i t
set_twice [] i s t = refl
set_twice (x ∷ xs) zero s t = refl
set_twice (x ∷ xs) (suc i) s t = ap (λ l. x ∷ l) (set_twice xs i s t)

block_as : (k l : Kind) (cells there : List Cell) (n : ℕ) → k ≡ l → cells ≡ there → length cells ≡ n →
    ◌≡◌ {A = Block} (record { kind = k; size = length cells; live = true; cells = cells })
    (record { kind = l; size = n; live = true; cells = there })
block_as k l cells there n of_kind of_cells of_size = cc

-- what the code has in hand at the end: slots as they are read, the second without its cells, and with its new ones
pub copied_between : (slots : List Slot) (source target : ℕ) (part : Part) (d e f bare after : Slot) → source < length slots →
    target < length slots → source ≢ target → bare.number ≡ (get_or slots target d).number → bare.kind ≡ (get_or slots target d).kind →
    after.number ≡ (get_or (set slots target bare) target f).number → after.kind ≡ (get_or (set slots target bare) target f).kind →
    after.cells.items ≡ with_cells part.target (cells_in (block_in (get_or (set slots target bare) source e)) part.source part.bytes)
    (get_or slots target d).cells.items →
    length after.cells.items ≡ length (get_or slots target d).cells.items →
    IsCopied slots (set (set slots target bare) target after) source target part
copied_between slots source target part d e f bare after of_source of_target apart bare_number bare_kind after_number after_kind cells len =
    let from : Slot = get_or (set slots target bare) source e in
    let to : Slot = get_or slots target d in
    let last : Slot = get_or (set slots target bare) target f in
    let there : slice_get slots target ≡ Some to = slice_get-get_or slots target d of_target in
    let same : last ≡ bare = some_same (sym (read_after slots target target bare f of_target) ∙ get_set_same slots target to bare there) in
    record {
      from = from;
      to = to;
      after = after;
      from_is = sym (get_set_other slots target source bare (λ e. apart (sym e))) ∙ read_after slots source target bare e of_source;
      to_is = there;
      is = set_twice slots target bare after;
      number = after_number ∙ ap (λ s. s.number) same ∙ bare_number;
      block = block_as after.kind to.kind after.cells.items
          (with_cells part.target (cells_in (block_in from) part.source part.bytes) to.cells.items) (length to.cells.items)
          (after_kind ∙ ap (λ s. s.kind) same ∙ bare_kind) cells len;
    }

-- ---- from block to block

-- the cells of the block of a slot
cells_of_slot : {slots : List Slot} {next : ℕ} {blocks : List Block} → Holds slots next blocks → (p : Pointer) (bytes i : ℕ) (s : Slot) →
    slice_get slots i ≡ Some s → s.number ≡ p.block → cells_at blocks p bytes ≡ cells_in (block_in s) p.offset bytes
cells_of_slot {blocks = blocks} holds p bytes i s at place = ap (λ o. cells_at_block o p.offset bytes)
    (subst (λ n. slice_get blocks n ≡ Some (block_in s)) place (block_at holds i s at))

pub holds_copied : {slots : List Slot} {next : ℕ} {blocks : List Block} → Holds slots next blocks → (source target : Pointer)
    (bytes i j : ℕ) (s t t' : Slot) → slice_get slots i ≡ Some s → s.number ≡ source.block → slice_get slots j ≡ Some t →
    t.number ≡ target.block → t'.number ≡ t.number →
    block_in t' ≡ with_cells_in target.offset (cells_in (block_in s) source.offset bytes) (block_in t) →
    Holds (slice_set slots j t') next (copied source target bytes blocks)
holds_copied {slots = slots} {next = next} {blocks = blocks} holds source target bytes i j s t t' from from_place to to_place named is =
    subst (λ cells. Holds (slice_set slots j t') next (stored target cells blocks))
    (sym (cells_of_slot holds source bytes i s from from_place))
    (holds_stored holds target (cells_in (block_in s) source.offset bytes) j t t' to to_place named is)

-- slots that were lent as a whole and came back
pub came_back : (old new : List Slot) (len : ℕ) → length old ≡ len → length new ≡ length old → take len (new ++ drop (length new) old) ≡ new
came_back old new len is same = take_at new (drop (length new) old) len (same ∙ is)
