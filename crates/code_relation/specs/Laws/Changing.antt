-- A live block gets other cells, and memory other bytes for them: the relation holds on (this project's own).
use Rattle.std.specs.Prelude.{◌≡◌, ℕ, true, length, slice_get, slice_set, Option, Some, refl}
use Rattle.std.proofs.Common.{ap, sym, subst, inl, inr, ◌∙◌}
use Rattle.std.proofs.lemmas.Bool.{cases_eq}
use Rattle.mt_base.specs.Memory.{is_between}
use Rattle.block_meaning.specs.declared.cell.Cell.{Cell}
use Rattle.block_meaning.specs.declared.cell.Cell.TheVariants.{Nothing, Byte, Part}
use Rattle.block_meaning.specs.declared.kind.Kind.TheVariants.{Local}
use Rattle.block_meaning.specs.declared.value.Pointer.{Pointer}
use Rattle.block_meaning.specs.Blocks.{Block, null_block}
use Rattle.block_meaning.specs.Running.{Call, Context, State as MeaningState}
use Rattle.code_relation.specs.Cells.{IsCell}
use Rattle.code_relation.specs.Numbers.{number_at, IsNumber}
use Rattle.code_relation.specs.Sites.{Given, Lives, site_by, site_of, has_byte, is_tagged_block, is_of_file}
use Rattle.code_relation.specs.Stands.{IsInScope, IsAsOpened, WasOpened, IsLocal, Stands}
use Rattle.code_relation.specs.Laws.Lists.{get_set_same, get_set_other}

-- The block is another in its cells alone.
pub record SameBlock (b c : Block) : Type 0 where
  pub kind : c.kind ≡ b.kind
  pub size : c.size ≡ b.size
  pub live : c.live ≡ b.live

pub SameBlock-same : (b : Block) → SameBlock b b
SameBlock-same b = record { kind = refl; size = refl; live = refl }

-- a change of a live block's cells
pub record Change (g : Given) (now : MeaningState) : Type 0 where
  pub number : ℕ
  pub before : Block
  pub after : Block
  pub lives : Lives now number before
  pub same : SameBlock before after

-- the state after it
abbrev pub changed : {g : Given} {now : MeaningState} → Change g now → MeaningState
changed {now = now} x = record now { blocks = slice_set now.blocks x.number x.after }

-- a block of some state, which is one with other cells at most
pub record Is (now : MeaningState) (number : ℕ) (b : Block) : Type 0 where
  pub block : Block
  pub is : slice_get now.blocks number ≡ Some block
  pub same : SameBlock block b

pub SameBlock-back : {b c : Block} → SameBlock b c → SameBlock c b
SameBlock-back same = record { kind = sym same.kind; size = sym same.size; live = sym same.live }

SameBlock-then : {b c d : Block} → SameBlock b c → c ≡ d → SameBlock b d
SameBlock-then {b} same is = subst (λ x. SameBlock b x) is same

-- what is there after a change was there before it
pub was : {g : Given} {now : MeaningState} (x : Change g now) (i : ℕ) (d : Block) → slice_get (changed x).blocks i ≡ Some d → Is now i d
was {g} {now} x i d is = elim (cases_eq i x.number) [
  | inl here ↦ of_number here (ap (λ n. slice_get (changed x).blocks n) (sym here) ∙ is)
  | inr other ↦ record {
    block = d;
    is = sym (get_set_other now.blocks x.number i x.after (λ s. other (sym s))) ∙ is;
    same = SameBlock-same d;
  }
]
  where
    of_number : i ≡ x.number → slice_get (changed x).blocks x.number ≡ Some d → Is now i d
    of_number here is =
        let found : slice_get (changed x).blocks x.number ≡ Some x.after = get_set_same now.blocks x.number x.before x.after x.lives.is in
        let new : x.after ≡ d = cc in
        record { block = x.before; is = ap (λ n. slice_get now.blocks n) here ∙ x.lives.is; same = SameBlock-then x.same new }

-- and what was there is there after it
pub becomes : {g : Given} {now : MeaningState} (x : Change g now) (i : ℕ) (d : Block) → slice_get now.blocks i ≡ Some d →
    Is (changed x) i d
becomes {g} {now} x i d is = elim (cases_eq i x.number) [
  | inl here ↦ of_number here (ap (λ n. slice_get now.blocks n) (sym here) ∙ is)
  | inr other ↦ record {
    block = d;
    is = get_set_other now.blocks x.number i x.after (λ s. other (sym s)) ∙ is;
    same = SameBlock-same d;
  }
]
  where
    of_number : i ≡ x.number → slice_get now.blocks x.number ≡ Some d → Is (changed x) i d
    of_number here is =
        let there : slice_get now.blocks x.number ≡ Some x.before = x.lives.is in
        let old : x.before ≡ d = cc in
        record {
          block = x.after;
          is = ap (λ n. slice_get (changed x).blocks n) here ∙ get_set_same now.blocks x.number x.before x.after x.lives.is;
          same = subst (λ y. SameBlock x.after y) old (SameBlock-back x.same);
        }

-- ---- what hangs on blocks is the same

pub site_same : (g : Given) (now : MeaningState) (i : ℕ) {b d : Block} → SameBlock b d → site_of g now i d ≡ site_of g now i b
site_same g now i same = ap (λ kind. site_by g now.calls kind i) same.kind

pub has_byte_same : (g : Given) (now : MeaningState) (i : ℕ) {b d : Block} (a : ℕ) → SameBlock b d →
    has_byte g now i d a ≡ has_byte g now i b a
has_byte_same g now i {b} {d} a same =
    ap (λ place. is_between place.start d.size a) (site_same g now i same)
    ∙ ap (λ size. is_between (site_of g now i b).start size a) same.size

pub tagged_same : (g : Given) (now : MeaningState) {b d : Block} → SameBlock b d →
    is_tagged_block g now.calls d.kind ≡ is_tagged_block g now.calls b.kind
tagged_same g now same = ap (λ kind. is_tagged_block g now.calls kind) same.kind

-- a live block was live before the change
pub record Lived (now : MeaningState) (i : ℕ) (d : Block) : Type 0 where
  pub block : Block
  pub lives : Lives now i block
  pub same : SameBlock block d

pub lived : {g : Given} {now : MeaningState} (x : Change g now) {i : ℕ} {d : Block} → Lives (changed x) i d → Lived now i d
lived x {i} {d} lives =
    let before = was x i d lives.is in
    record { block = before.block; lives = record { is = before.is; live = sym before.same.live ∙ lives.live }; same = before.same }

pub lives_on : {g : Given} {now : MeaningState} (x : Change g now) {i : ℕ} {d : Block} → Lives now i d → Lived (changed x) i d
lives_on x {i} {d} lives =
    let after = becomes x i d lives.is in
    record { block = after.block; lives = record { is = after.is; live = sym after.same.live ∙ lives.live }; same = after.same }

pub IsNumber-changed : {g : Given} {now : MeaningState} (x : Change g now) {p : Pointer} {n : ℕ} → IsNumber g now p n →
    IsNumber g (changed x) p n
IsNumber-changed {g} {now} x {p} is =
    let after = becomes x p.block is.block is.is in
    record {
      block = after.block;
      is = after.is;
      fits = is.fits;
      number = is.number ∙ ap (λ place. number_at place p.offset) (site_same g now p.block after.same);
    }

pub IsCell-changed : {g : Given} {now : MeaningState} (x : Change g now) (c : Cell) (byte : ℕ) → IsCell g now c byte →
    IsCell g (changed x) c byte
IsCell-changed x Nothing byte is = tt
IsCell-changed x (Byte b) byte is = is
IsCell-changed x (Part k block offset) byte is =
    record { number = is.number; is = IsNumber-changed x is.is; byte_is = is.byte_is }

-- ---- the meaning's own state

pub Stands-changed : {g : Given} {here : Context} {now : MeaningState} (x : Change g now) → length x.after.cells ≡ x.after.size →
    slice_get (changed x).blocks 0 ≡ Some null_block → Stands g here now → Stands g here (changed x)
Stands-changed {g} {here} {now} x whole null stands = record {
  program_is = stands.program_is;
  numbers = stands.numbers;
  calls = stands.calls;
  unit_is = stands.unit_is;
  scope = λ k number is. in_scope (stands.scope k number is);
  in_scope = λ c number b k is lives local.
      let before = lived x lives in
      stands.in_scope c number before.block k is before.lives (sym before.same.kind ∙ local);
  null_is = null;
  null_alone = λ number b is of_null.
      let before = was x number b is in
      stands.null_alone number before.block before.is (sym before.same.kind ∙ of_null);
  opened = λ number b is. as_opened (stands.opened number b is);
  of_files = λ number b is of. was_opened number b of (was x number b is);
  locals = λ number b call k is local. of_local b call k local (was x number b is);
  cells = λ number b lives. as_many number b lives;
}
  where
    in_scope : {call : Option Call} {k number : ℕ} → IsInScope now call k number → IsInScope (changed x) call k number
    in_scope is =
        let after = lives_on x is.lives in
        record {
          of = is.of;
          call_is = is.call_is;
          block = after.block;
          lives = after.lives;
          kind_is = sym after.same.kind ∙ is.kind_is;
        }

    as_opened : {number : ℕ} {b : Block} → IsAsOpened now number b → IsAsOpened (changed x) number b
    as_opened is =
        let after = lives_on x is.lives in
        record {
          block = after.block;
          lives = after.lives;
          kind_is = sym after.same.kind ∙ is.kind_is;
          size_is = sym after.same.size ∙ is.size_is;
        }

    was_opened : (number : ℕ) (b : Block) → is_of_file b.kind ≡ true → Is now number b → WasOpened g number b
    was_opened number b of before =
        let opened = stands.of_files number before.block before.is (ap is_of_file (sym before.same.kind) ∙ of) in
        record {
          before = opened.before;
          is = opened.is;
          kind_is = before.same.kind ∙ opened.kind_is;
          size_is = before.same.size ∙ opened.size_is;
        }

    of_local : (b : Block) (call k : ℕ) → b.kind ≡ Local call k → {number : ℕ} → Is now number b → IsLocal g (changed x) b call k
    of_local b call k local {number} before =
        let is = stands.locals number before.block call k before.is (sym before.same.kind ∙ local) in
        record {
          made_by = is.made_by;
          call_is = is.call_is;
          function = is.function;
          function_is = is.function_is;
          info = is.info;
          info_is = is.info_is;
          size_is = before.same.size ∙ is.size_is;
        }

    of_number : (b : Block) → slice_get (changed x).blocks x.number ≡ Some b → length b.cells ≡ b.size
    of_number b is =
        let found : slice_get (changed x).blocks x.number ≡ Some x.after =
        get_set_same now.blocks x.number x.before x.after x.lives.is in
        let new : x.after ≡ b = cc in
        subst (λ y. length y.cells ≡ y.size) new whole

    as_many : (number : ℕ) (b : Block) → Lives (changed x) number b → length b.cells ≡ b.size
    as_many number b lives = elim (cases_eq number x.number) [
      | inl here ↦ of_number b (ap (λ n. slice_get (changed x).blocks n) (sym here) ∙ lives.is)
      | inr other ↦ stands.cells number b (record {
        is = sym (get_set_other now.blocks x.number number x.after (λ s. other (sym s))) ∙ lives.is;
        live = lives.live;
      })
    ]
