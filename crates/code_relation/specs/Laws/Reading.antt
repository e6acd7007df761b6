-- What memory has where the meaning reads: a number of so many bytes, and so an integer (this project's own).
use Rattle.std.specs.Prelude.{◌≡◌, ℕ, suc, ◌+◌, ◌*◌, ◌≤◌, Bool, true, false, List, [], ◌∷◌, length, slice_get, Option, Some, None, refl}
use Rattle.std.specs.Prelude.{if◌then◌else◌, drop}
use Rattle.std.specs.List.{list_any}
use Rattle.std.proofs.Common.{arith, subst}
use Rattle.std.proofs.lemmas.Bool.Decides.{nat_tests}
use Rattle.mt_base.specs.Memory.{load}
use Rattle.c_ast.specs.declared.int_type.IntType.{IntType}
use Rattle.c_type_base.specs.declared.ty.Ty.{Ty, out-Ty}
use Rattle.c_type_base.specs.declared.ty.Ty.TheOpen.{Ty-F}
use Rattle.c_type_base.specs.Conversions.{wrap}
use Rattle.c_type_base.specs.Types.{TyLayer}
use Rattle.a64_code.specs.State.{State}
use Rattle.block_meaning.specs.declared.access.Access.{Access}
use Rattle.block_meaning.specs.declared.cell.Cell.{Cell}
use Rattle.block_meaning.specs.declared.cell.Cell.TheVariants.{Nothing, Byte, Part}
use Rattle.block_meaning.specs.declared.reason.Reason.{Reason}
use Rattle.block_meaning.specs.declared.reason.Reason.TheVariants.{Indeterminate}
use Rattle.block_meaning.specs.declared.value.Value.{Value}
use Rattle.block_meaning.specs.declared.value.Value.TheVariants.{Number}
use Rattle.block_meaning.specs.Access.{ReadResult, ReadsAs, UndefinedBy, whole_or_part, scalar_in, unless_reason, reason_against, read_in}
use Rattle.block_meaning.specs.Blocks.{Block, cells_in}
use Rattle.block_meaning.specs.Running.{State as MeaningState}
use Rattle.block_meaning.specs.Values.{number_of_cells, with_byte, number_value, scalar_of_cells, value_of_cells, is_nothing}
use Rattle.code_relation.specs.Cells.{IsCell, HasCells}
use Rattle.code_relation.specs.Sites.{Given, Lives, site_of}
use Rattle.code_relation.specs.Laws.Lists.{get_take, get_drop, length-part}

-- the bytes from an address on are these cells
pub record AreCells (g : Given) (now : MeaningState) (cells : List Cell) (byte : ℕ → ℕ) (at : ℕ) : Type 0 where
  pub each : (k : ℕ) (c : Cell) → slice_get cells k ≡ Some c → IsCell g now c (byte (at + k))

pub AreCells-rest : {g : Given} {now : MeaningState} {c : Cell} {cells : List Cell} {byte : ℕ → ℕ} {at : ℕ} →
    AreCells g now (c ∷ cells) byte at → AreCells g now cells byte (at + 1)
AreCells-rest {g} {now} {byte = byte} {at} are = record {
  each = λ k d is. subst (λ a. IsCell g now d (byte a)) (omega arith) (are.each (suc k) d is);
}

-- the cells of a live block from an offset on
pub AreCells-block : {g : Given} {now : MeaningState} {s : State} {number : ℕ} {b : Block} (offset bytes : ℕ) → HasCells g now s →
    Lives now number b → AreCells g now (cells_in b offset bytes) s.byte ((site_of g now number b).start + offset)
AreCells-block {g} {now} {s} {number} {b} offset bytes has lives = record {
  each = λ k c is.
      subst (λ a. IsCell g now c (s.byte a)) (omega arith)
      (has.cell number b (offset + k) c lives (get_drop offset k b.cells c (get_take bytes k (drop offset b.cells) c is)));
}

-- ---- numbers

more_bytes : (b : ℕ) (known : Option ℕ) (n : ℕ) → with_byte b known ≡ Some n → (m : ℕ) × (known ≡ Some m) × (n ≡ b + 256 * m)
more_bytes b None n is = absurd (cc)
more_bytes b (Some m) n is = (m, refl, by_some n (b + 256 * m) is)
  where
    by_some : (n k : ℕ) → Some k ≡ Some n → n ≡ k
    by_some n k is = cc

-- the number that some cells are is what is loaded there
pub load-cells : {g : Given} {now : MeaningState} {byte : ℕ → ℕ} (cells : List Cell) (at n : ℕ) → AreCells g now cells byte at →
    number_of_cells cells ≡ Some n → load (length cells) byte at ≡ n
unfolding load
load-cells [] at n are is = by_none n is
  where
    by_none : (n : ℕ) → Some 0 ≡ Some n → 0 ≡ n
    by_none n is = cc
load-cells {g} {now} {byte} (Byte b ∷ cells) at n are is =
    let known = more_bytes b (number_of_cells cells) n is in
    let here : byte at ≡ b = subst (λ a. byte a ≡ b) (omega arith) (are.each 0 (Byte b) refl) in
    let there : load (length cells) byte (at + 1) ≡ known.0 = load-cells cells (at + 1) known.0 (AreCells-rest are) known.1 in
    omega (arith, there, known.2, here)
load-cells (Nothing ∷ cells) at n are is = absurd (cc)
load-cells (Part k block offset ∷ cells) at n are is = absurd (cc)

-- ---- integers

-- where an access has no reason against it, its bytes are in the block
pub within_block : (b : Block) (a : Access) → reason_against b a ≡ None → a.at.offset + a.size ≤ b.size
within_block b a none = grind (arith, nat_tests)

pub unless_read : (why : Option Reason) (r : ReadResult) (v : Value) → unless_reason why r ≡ ReadsAs v → (why ≡ None) × (r ≡ ReadsAs v)
unless_read None r v is = (refl, is)
unless_read (Some why) r v is = absurd (cc)

-- an integer that is read is the number there, wrapped to its type
pub record ReadsInteger (t : IntType) (v : Value) (loaded : ℕ) : Type 0 where
  pub is : v ≡ Number (wrap t loaded)

read_number : (t : IntType) (n : Option ℕ) (v : Value) → whole_or_part (number_value (wrap t) n) ≡ ReadsAs v → (m : ℕ) × (n ≡ Some m) ×
    (v ≡ Number (wrap t m))
read_number t None v is = absurd (cc)
read_number t (Some m) v is = (m, refl, by_value v is)
  where
    by_value : (v : Value) → ReadsAs (Number (wrap t m)) ≡ ReadsAs v → v ≡ Number (wrap t m)
    by_value v is = cc

pub read_cells : (any : Bool) (r : ReadResult) (why : Reason) (v : Value) → (if any then UndefinedBy why else r) ≡ ReadsAs v → r ≡ ReadsAs v
read_cells true r why v is = absurd (cc)
read_cells false r why v is = is

module _ {g : Given} {now : MeaningState} {s : State} {number : ℕ} {b : Block} (has : HasCells g now s) (lives : Lives now number b)
    (whole : length b.cells ≡ b.size) (t : IntType) (a : Access) where
  by_level : (l : TyLayer) → l ≡ Ty-F.Int t → (cells : List Cell) → length cells ≡ a.size → AreCells g now cells s.byte
      ((site_of g now number b).start + a.at.offset) → (v : Value) →
      whole_or_part (scalar_of_cells l cells) ≡ ReadsAs v →
      ReadsInteger t v (load a.size s.byte ((site_of g now number b).start + a.at.offset))
  by_level (Ty-F.Int u) same cells as_many are v is =
      let read = read_number u (number_of_cells cells) v is in
      let loaded : load (length cells) s.byte ((site_of g now number b).start + a.at.offset) ≡ read.0 =
      load-cells cells ((site_of g now number b).start + a.at.offset) read.0 are read.1 in
      let value : v ≡ Number (wrap u read.0) = read.2 in
      record { is = cc }
  by_level _ same cells as_many are v is = absurd cc

  -- What the meaning reads as an integer is what memory has there, wrapped to its type.
  pub read-integer : (ty : Ty) → out-Ty ty ≡ Ty-F.Int t → (v : Value) → read_in b ty a ≡ ReadsAs v →
      ReadsInteger t v (load a.size s.byte ((site_of g now number b).start + a.at.offset))
  read-integer ty of_int v is =
      let judged = unless_read (reason_against b a) (scalar_in ty (cells_in b a.at.offset a.size)) v is in
      by_level (out-Ty ty) of_int (cells_in b a.at.offset a.size)
      (length-part a.at.offset a.size b.cells (omega (arith, within_block b a judged.0, whole)))
      (AreCells-block a.at.offset a.size has lives) v
      (read_cells (list_any is_nothing (cells_in b a.at.offset a.size))
      (whole_or_part (value_of_cells ty (cells_in b a.at.offset a.size))) Indeterminate v judged.1)
