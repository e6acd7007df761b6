-- Bytes are stored to a live block: the relation holds on, and what is kept of frames is kept (this project's own).
use Rattle.std.specs.Prelude.{◌≡◌, ℕ, ◌+◌, ◌≤◌, false, List, [], ◌∷◌, length, Some, refl}
use Rattle.std.proofs.Common.{arith, ap, sym, subst, ◌∙◌}
use Rattle.mt_base.specs.Memory.{is_between, bytes_of, store, store_bytes}
use Rattle.mt_base.specs.Laws.Memory.{length-bytes_of}
use Rattle.c_type_base.specs.declared.typed.Typed.{Typed}
use Rattle.a64_code.specs.State.{State}
use Rattle.a64_laws.specs.Forms.{puts_bytes}
use Rattle.a64_laws.specs.Laws.Effects.InRange.{IsInRange}
use Rattle.block_meaning.specs.declared.cell.Cell.{Cell}
use Rattle.block_meaning.specs.Blocks.{Block}
use Rattle.block_meaning.specs.Locals.{latest}
use Rattle.block_meaning.specs.Running.{Call, Context, State as MeaningState}
use Rattle.code_relation.specs.Calls.{frame_of}
use Rattle.code_relation.specs.Kept.{KeepsAll, KeepsFrom}
use Rattle.code_relation.specs.Relates.{Relates}
use Rattle.code_relation.specs.Sites.{Given, Lives, site_of}
use Rattle.code_relation.specs.Laws.Changing.{changed}
use Rattle.code_relation.specs.Laws.Keeps.{KeepsAll-from}
use Rattle.code_relation.specs.Laws.Reading.{AreCells}
use Rattle.code_relation.specs.Laws.Storing.{IsStored, IsWritten-stored, with_new}
use Rattle.code_relation.specs.Laws.Stores.{Writes}
use Rattle.code_relation.specs.Laws.Writing.{SameButBytes, Injects-written}

other_bytes : (byte : ℕ → ℕ) (at n : ℕ) (bytes : List ℕ) (a : ℕ) → length bytes ≡ n → is_between at n a ≡ false →
    store_bytes byte at bytes a ≡ byte a
unfolding store_bytes
other_bytes byte at n bytes a many outside = rw many (rw outside refl)

SameButBytes-put : (byte : ℕ → ℕ) (s : State) → SameButBytes s (puts_bytes byte s)
unfolding puts_bytes
SameButBytes-put byte s =
    record { sp = refl; base = refl; tag = refl; regions = refl; guard = refl; choices = refl; drawn = refl }

-- as many cells as bytes are stored, so far into a block
pub Writes-put : {g : Given} {now : MeaningState} {s : State} (number : ℕ) (b : Block) (offset n at value : ℕ) (new : List Cell) →
    (site_of g now number b).start + offset ≡ at → offset + n ≤ b.size → length new ≡ n → AreCells g now new (store n s.byte at value) at →
    Writes g now number b offset new s (puts_bytes (store n s.byte at value) s)
unfolding puts_bytes
Writes-put {g} {now} {s} number b offset n at value new at_is within many are = record {
  within = omega (arith, many, within);
  new_cells = subst (λ place. AreCells g now new (store n s.byte at value) place) (sym at_is) are;
  others = λ a outside. other_bytes s.byte at n (bytes_of n value) a (length-bytes_of n value)
      (ap (λ place. is_between place n a) (sym at_is)
      ∙ ap (λ k. is_between ((site_of g now number b).start + offset) k a) (sym many) ∙ outside);
}

pub Relates-put : {g : Given} {here : Context} {now : MeaningState} {s : State} {number : ℕ} {b : Block} {offset : ℕ} {new : List Cell}
    (lives : Lives now number b) (byte : ℕ → ℕ) → IsStored g here now number b offset new s (puts_bytes byte s) →
    IsInRange (puts_bytes byte s) → Relates g here now s → Relates g here (changed (with_new {g = g} lives offset new)) (puts_bytes byte s)
unfolding puts_bytes
Relates-put {s = s} lives byte stored range relates = record {
  injects = Injects-written (IsWritten-stored lives relates.injects.cells stored) (SameButBytes-put byte s) range relates.injects;
  outside = record {
    output = relates.outside.output;
    input = relates.outside.input;
    bytes = relates.outside.bytes;
    takes = relates.outside.takes;
    puts = relates.outside.puts;
  };
}

-- what keeps all temps keeps those before one of the latest call's
pub KeepsFrom-all : (units : List Typed) (first : ℕ) (s t : State) (cs : List Call) (c : Call) → latest cs ≡ Some c →
    first ≤ (frame_of units c.function).temps → KeepsAll units s t cs → KeepsFrom units first s t cs
KeepsFrom-all units first s t [] c is within keeps = tt
KeepsFrom-all units first s t (d ∷ ds) c is within keeps =
    let same : d ≡ c = cc in
    KeepsAll-from units first s t d ds (subst (λ x. first ≤ (frame_of units x.function).temps) (sym same) within) keeps
