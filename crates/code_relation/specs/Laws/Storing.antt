-- A part of a block gets new cells: what then has to be shown, and a number that is stored there (this project's own).
use Rattle.std.specs.Prelude.{◌≡◌, ◌≢◌, ℕ, zero, suc, ◌+◌, ◌/◌, ◌≤◌, ◌<◌, true}
use Rattle.std.specs.Prelude.{false, List, ◌++◌, take, drop, length, slice_get, slice_index, Some, refl}
use Rattle.std.proofs.Common.{arith, ap, sym, subst, ◌∙◌, length-append, length-drop}
use Rattle.std.proofs.lemmas.Bool.Decides.{nat_tests}
use Rattle.mt_base.specs.Memory.{is_between, bytes_of, store}
use Rattle.mt_base.specs.Laws.Memory.{length-bytes_of, store_bytes_inside}
use Rattle.a64_code.specs.State.{State}
use Rattle.a64_laws.specs.Laws.Effects.InRange.{IsInRange}
use Rattle.block_meaning.specs.declared.cell.Cell.{Cell}
use Rattle.block_meaning.specs.declared.cell.Cell.TheVariants.{Byte}
use Rattle.block_meaning.specs.Blocks.{Block, with_cells, with_cells_in}
use Rattle.block_meaning.specs.Running.{Context, State as MeaningState}
use Rattle.block_meaning.specs.Values.{number_cells}
use Rattle.code_relation.specs.Bases.{HaveBaseWords}
use Rattle.code_relation.specs.Cells.{IsCell, HasCells}
use Rattle.code_relation.specs.Injects.{Injects}
use Rattle.code_relation.specs.Loaded.{on_stack, NoObjectAt}
use Rattle.code_relation.specs.Sites.{Given, Lives, site_of, has_byte}
use Rattle.code_relation.specs.Laws.Changing.{Change, changed}
use Rattle.code_relation.specs.Laws.Lists.{get_take, get_drop, get_within, get_joined, length-front, InJoined, front, back}
use Rattle.code_relation.specs.Laws.Reading.{AreCells}
use Rattle.code_relation.specs.Laws.Writing.{IsWritten, SameButBytes, Injects-written}

-- ---- where a cell of a block with new ones comes from

pub data Found (offset : ℕ) (new cells : List Cell) (k : ℕ) (c : Cell) : Type 0 where
  before : k < offset → slice_get cells k ≡ Some c → Found offset new cells k c
  among : (j : ℕ) → k ≡ offset + j → j < length new → slice_get new j ≡ Some c → Found offset new cells k c
  behind : offset + length new ≤ k → slice_get cells k ≡ Some c → Found offset new cells k c

found_front : (offset : ℕ) (new cells : List Cell) (k : ℕ) (c : Cell) → offset ≤ length cells → InJoined (take offset cells) new k c →
    Found offset new cells k c
found_front offset new cells k c within (front is) =
    before (omega (arith, get_within (take offset cells) k c is, length-front offset cells within)) (get_take offset k cells c is)
found_front offset new cells k c within (back j same is) =
    among j (omega (arith, same, length-front offset cells within)) (get_within new j c is) is

found_any : (offset : ℕ) (new cells : List Cell) (k : ℕ) (c : Cell) → offset ≤ length cells →
    InJoined (take offset cells ++ new) (drop (offset + length new) cells) k c → Found offset new cells k c
found_any offset new cells k c within (front is) =
    found_front offset new cells k c within (get_joined (take offset cells) new k c is)
found_any offset new cells k c within (back i same is) =
    let place : offset + length new + i ≡ k =
    omega (arith, same, length-append (take offset cells) new, length-front offset cells within) in
    behind (omega (arith, place))
    (subst (λ n. slice_get cells n ≡ Some c) place (get_drop (offset + length new) i cells c is))

found : (offset : ℕ) (new cells : List Cell) (k : ℕ) (c : Cell) → offset ≤ length cells →
    slice_get (with_cells offset new cells) k ≡ Some c → Found offset new cells k c
found offset new cells k c within is =
    found_any offset new cells k c within (get_joined (take offset cells ++ new) (drop (offset + length new) cells) k c is)

-- with as many new ones as old ones, a list has as many
pub length-with_cells : (offset : ℕ) (new cells : List Cell) → offset + length new ≤ length cells →
    length (with_cells offset new cells) ≡ length cells
length-with_cells offset new cells within = omega (
  arith,
  within,
  length-append (take offset cells ++ new) (drop (offset + length new) cells),
  length-append (take offset cells) new,
  length-front offset cells (omega (arith, within)),
  length-drop (offset + length new) cells,
)

-- ---- what has to be shown

-- the change of a block's cells from an offset on
abbrev pub with_new : {g : Given} {now : MeaningState} {number : ℕ} {b : Block} → Lives now number b → ℕ → List Cell → Change g now
with_new {number = number} {b} lives offset new = record {
  number = number;
  before = b;
  after = with_cells_in offset new b;
  lives = lives;
  same = record { kind = refl; size = refl; live = refl };
}

-- Memory has the new cells where they belong, and elsewhere what it had. The block is on the stack or a file-scope object, and base
-- words are as they were.
pub record IsStored (g : Given) (here : Context) (now : MeaningState) (number : ℕ) (b : Block) (offset : ℕ) (new : List Cell)
    (s t : State) : Type 0 where
  pub not_null : number ≢ 0
  pub whole : length b.cells ≡ b.size
  pub within : offset + length new ≤ b.size
  pub new_cells : AreCells g now new t.byte ((site_of g now number b).start + offset)
  pub others : (a : ℕ) → is_between ((site_of g now number b).start + offset) (length new) a ≡ false → t.byte a ≡ s.byte a
  pub own : (a : ℕ) → has_byte g now number b a ≡ true → on_stack g a ≡ false → NoObjectAt g a → ⊥
  pub words : HaveBaseWords g now.calls t here.open_calls

pub IsWritten-stored : {g : Given} {here : Context} {now : MeaningState} {number : ℕ} {b : Block} {offset : ℕ} {new : List Cell}
    {s t : State} (lives : Lives now number b) → HasCells g now s → IsStored g here now number b offset new s t →
    IsWritten g here now (with_new lives offset new) s t
IsWritten-stored {g} {here} {now} {number} {b} {offset} {new} {s} {t} lives has stored = record {
  whole = length-with_cells offset new b.cells (omega (arith, stored.within, stored.whole)) ∙ stored.whole;
  not_null = stored.not_null;
  cells = λ k c is. by_place k c (found offset new b.cells k c (omega (arith, stored.within, stored.whole)) is);
  others = λ a outside. stored.others a (narrower (site_of g now number b).start offset (length new) b.size a stored.within outside);
  own = stored.own;
  words = stored.words;
}
  where
    narrower : (start offset n size a : ℕ) → offset + n ≤ size → is_between start size a ≡ false → is_between (start + offset) n a ≡ false
    narrower start offset n size a within outside = grind (arith, nat_tests)

    below : (start offset n k : ℕ) → k < offset → is_between (start + offset) n (start + k) ≡ false
    below start offset n k less = grind (arith, nat_tests)

    above : (start offset n k : ℕ) → offset + n ≤ k → is_between (start + offset) n (start + k) ≡ false
    above start offset n k more = grind (arith, nat_tests)

    by_place : (k : ℕ) (c : Cell) → Found offset new b.cells k c → IsCell g now c (t.byte ((site_of g now number b).start + k))
    by_place k c (before less is) =
        subst (λ byte. IsCell g now c byte)
        (sym (stored.others ((site_of g now number b).start + k) (below (site_of g now number b).start offset (length new) k less)))
        (has.cell number b k c lives is)
    by_place k c (among j same less is) =
        subst (λ a. IsCell g now c (t.byte a)) (omega (arith, same)) (stored.new_cells.each j c is)
    by_place k c (behind more is) =
        subst (λ byte. IsCell g now c byte)
        (sym (stored.others ((site_of g now number b).start + k) (above (site_of g now number b).start offset (length new) k more)))
        (has.cell number b k c lives is)

-- ---- a number

-- a cell of a number is the byte of it that is stored there
number_cell : (n value j : ℕ) (c : Cell) → slice_get (number_cells n value) j ≡ Some c → c ≡ Byte (slice_index (bytes_of n value) j)
unfolding bytes_of
number_cell zero value j c is = absurd (cc)
number_cell (suc n) value zero c is = cc
number_cell (suc n) value (suc j) c is = number_cell n (value / 256) j c is

pub length-number_cells : (n value : ℕ) → length (number_cells n value) ≡ n
length-number_cells zero value = refl
length-number_cells (suc n) value = ap suc (length-number_cells n (value / 256))

-- A number of so many bytes is stored: its cells are there.
pub AreCells-store : (g : Given) (now : MeaningState) (n : ℕ) (byte : ℕ → ℕ) (at value : ℕ) →
    AreCells g now (number_cells n value) (store n byte at value) at
AreCells-store g now n byte at value = record {
  each = λ j c is.
      let within : j < length (bytes_of n value) =
      omega (arith, get_within (number_cells n value) j c is, length-number_cells n value, length-bytes_of n value) in
      subst (λ cell. IsCell g now cell (store n byte at value (at + j))) (sym (number_cell n value j c is))
      (store_bytes_inside byte at (bytes_of n value) j within);
}

-- A number is stored where a block that is alive has room for it, and the relation holds on.
pub Injects-number : {g : Given} {here : Context} {now : MeaningState} {number : ℕ} {b : Block} {s t : State} (lives : Lives now number b)
    (offset n value : ℕ) → IsStored g here now number b offset (number_cells n value) s t → SameButBytes s t → IsInRange t →
    Injects g here now s → Injects g here (changed (with_new {g = g} lives offset (number_cells n value))) t
Injects-number lives offset n value stored same range injects =
    Injects-written (IsWritten-stored lives injects.cells stored) same range injects
