-- The end of a call: the blocks of its locals end, and all others are as they were (this project's own).
use Rattle.std.specs.Prelude.{◌≡◌, ℕ, zero, suc, Bool, true, false, ◌||◌}
use Rattle.std.specs.Prelude.{List, [], ◌∷◌, length, slice_get, Some, refl, if◌then◌else◌}
use Rattle.std.specs.List.{list_any}
use Rattle.std.proofs.Common.{ap, sym, ◌∙◌}
use Rattle.block_meaning.specs.declared.cell.Cell.{Cell}
use Rattle.block_meaning.specs.declared.cell.Cell.TheVariants.{Nothing, Byte, Part}
use Rattle.block_meaning.specs.declared.kind.Kind.{Kind}
use Rattle.block_meaning.specs.declared.kind.Kind.TheVariants.{NullBlock, Global, Text, Code, Local}
use Rattle.block_meaning.specs.declared.value.Pointer.{Pointer}
use Rattle.block_meaning.specs.declared.value.Value.{Value}
use Rattle.block_meaning.specs.declared.value.Value.TheVariants.{Number, Address, Struct, NoValue}
use Rattle.block_meaning.specs.Blocks.{Block, ended}
use Rattle.block_meaning.specs.Meaning.{is_of_call, end_call}
use Rattle.block_meaning.specs.Running.{Call, State as MeaningState}
use Rattle.code_relation.specs.Cells.{IsCell}
use Rattle.code_relation.specs.Numbers.{number_at, IsNumber, Holds}
use Rattle.code_relation.specs.Sites.{Given, Lives, site_by, is_of_file}
use Rattle.code_relation.specs.Sites.{is_tagged_by}
use Rattle.frame_layout.specs.declared.frame.Slot.{Slot}
use Rattle.frame_layout.specs.WellFormed.{is_tagged_slot}
use Rattle.unit_follows.specs.Laws.Spares.Runs.{Moment}

-- ---- blocks

-- the blocks after the end of a call
abbrev pub with_ended : Call → MeaningState → MeaningState
with_ended c done = record done { blocks = end_call c.number done.blocks }

-- as the call was made
abbrev pub moment : MeaningState → Moment
moment now = record { blocks = length now.blocks; calls = length now.calls }

abbrev pub after : ℕ → Block → Block
after call b = if is_of_call call b.kind then ended b else b

-- a block was there before the end, the same in kind and size
pub record Was (call : ℕ) (blocks : List Block) (number : ℕ) (b : Block) : Type 0 where
  pub block : Block
  pub is : slice_get blocks number ≡ Some block
  pub ended_is : after call block ≡ b

pub was : (call : ℕ) (blocks : List Block) (number : ℕ) (b : Block) → slice_get (end_call call blocks) number ≡ Some b →
    Was call blocks number b
was call [] number b is = absurd (cc)
was call (x ∷ xs) zero b is = record { block = x; is = refl; ended_is = let e : after call x ≡ b = cc in e }
was call (x ∷ xs) (suc number) b is =
    let w = was call xs number b is in record { block = w.block; is = w.is; ended_is = w.ended_is }

pub becomes : (call : ℕ) (blocks : List Block) (number : ℕ) (b : Block) → slice_get blocks number ≡ Some b →
    slice_get (end_call call blocks) number ≡ Some (after call b)
becomes call [] number b is = absurd (cc)
becomes call (x ∷ xs) zero b is = ap (λ y. Some (after call y)) (let e : x ≡ b = cc in e)
becomes call (x ∷ xs) (suc number) b is = becomes call xs number b is

pub kind_same : (of : Bool) (b : Block) → (if of then ended b else b).kind ≡ b.kind
kind_same true b = refl
kind_same false b = refl

pub size_same : (of : Bool) (b : Block) → (if of then ended b else b).size ≡ b.size
size_same true b = refl
size_same false b = refl

-- a block that is alive after it was so before, and is of another call
pub record Lived (call : ℕ) (done : MeaningState) (number : ℕ) (b : Block) : Type 0 where
  pub lives : Lives done number b
  pub other : is_of_call call b.kind ≡ false

pub lived : (c : Call) (done : MeaningState) (number : ℕ) (b : Block) → Lives (with_ended c done) number b → Lived c.number done number b
lived c done number b lives = by_call (is_of_call c.number w.block.kind) refl
  where
    w : Was c.number done.blocks number b
    w = was c.number done.blocks number b lives.is

    by_call : (of : Bool) → is_of_call c.number w.block.kind ≡ of → Lived c.number done number b
    by_call true is =
        let same : ended w.block ≡ b = ap (λ of. if of then ended w.block else w.block) (sym is) ∙ w.ended_is in
        absurd (let e : false ≡ true = ap (λ (x : Block). x.live) same ∙ lives.live in cc)
    by_call false is =
        let same : w.block ≡ b = ap (λ of. if of then ended w.block else w.block) (sym is) ∙ w.ended_is in
        record {
          lives = record { is = w.is ∙ ap Some same; live = lives.live };
          other = ap (λ (x : Block). is_of_call c.number x.kind) (sym same) ∙ is;
        }

pub stays : (c : Call) (done : MeaningState) (number : ℕ) (b : Block) → Lives done number b → is_of_call c.number b.kind ≡ false →
    Lives (with_ended c done) number b
stays c done number b lives other = record {
  is = becomes c.number done.blocks number b lives.is ∙ ap (λ of. Some (if of then ended b else b)) other;
  live = lives.live;
}

-- a block of a file, or the null block, is of no call
pub of_no_call : (call : ℕ) (kind : Kind) → is_of_file kind ≡ true → is_of_call call kind ≡ false
of_no_call call NullBlock is = refl
of_no_call call (Global unit k) is = refl
of_no_call call (Text unit k) is = refl
of_no_call call (Code unit k) is = refl
of_no_call call (Local c k) is = absurd (cc)

-- ---- numbers and cells

pub IsNumber-ended : {g : Given} (c : Call) {done : MeaningState} {p : Pointer} {n : ℕ} → IsNumber g done p n →
    IsNumber g (with_ended c done) p n
IsNumber-ended {g} c {done} {p} is = record {
  block = after c.number is.block;
  is = becomes c.number done.blocks p.block is.block is.is;
  fits = is.fits;
  number = is.number ∙ ap (λ kind. number_at (site_by g done.calls kind p.block) p.offset)
      (sym (kind_same (is_of_call c.number is.block.kind) is.block));
}

pub Holds-ended : (g : Given) (c : Call) (done : MeaningState) (v : Value) (n : ℕ) → Holds g done v n → Holds g (with_ended c done) v n
Holds-ended g c done (Number m) n holds = holds
Holds-ended g c done (Address p) n holds = IsNumber-ended c holds
Holds-ended g c done (Struct p) n holds = IsNumber-ended c holds
Holds-ended g c done NoValue n holds = tt

pub IsCell-ended : (g : Given) (c : Call) (done : MeaningState) (cell : Cell) (byte : ℕ) → IsCell g done cell byte →
    IsCell g (with_ended c done) cell byte
IsCell-ended g c done Nothing byte is = tt
IsCell-ended g c done (Byte b) byte is = is
IsCell-ended g c done (Part k block offset) byte is = record { number = is.number; is = IsNumber-ended c is.is; byte_is = is.byte_is }

-- ---- slots

pub untagged_slot : (ss : List Slot) (k : ℕ) → list_any is_tagged_slot ss ≡ false → is_tagged_by (slice_get ss k) ≡ false
untagged_slot [] k none = refl
untagged_slot (s ∷ ss) zero none = first (is_tagged_slot s) (list_any is_tagged_slot ss) none
  where
    first : (a b : Bool) → (a || b) ≡ false → a ≡ false
    first true b is = is
    first false b is = refl
untagged_slot (s ∷ ss) (suc k) none = untagged_slot ss k (second (is_tagged_slot s) (list_any is_tagged_slot ss) none)
  where
    second : (a b : Bool) → (a || b) ≡ false → b ≡ false
    second true b is = absurd (cc)
    second false b is = is
