-- A store to a local that is alive, or to an object, as the relation wants it, and what it keeps of the open frames (this project's own).
use Rattle.std.specs.Prelude.{◌≡◌, ℕ, ◌+◌, ◌≤◌, true, false, List, length, slice_get, Some, refl}
use Rattle.std.proofs.Common.{arith, ap, sym, ◌∙◌}
use Rattle.std.proofs.lemmas.Bool.Decides.{nat_tests}
use Rattle.mt_base.specs.Memory.{is_between}
use Rattle.a64_code.specs.State.{State}
use Rattle.block_meaning.specs.declared.cell.Cell.{Cell}
use Rattle.block_meaning.specs.declared.kind.Kind.{Kind}
use Rattle.block_meaning.specs.declared.kind.Kind.TheVariants.{NullBlock, Global, Local}
use Rattle.block_meaning.specs.Blocks.{Block, null_block}
use Rattle.block_meaning.specs.ProgramsInOrder.{InOrder}
use Rattle.block_meaning.specs.Running.{Context, State as MeaningState}
use Rattle.code_relation.specs.Injects.{Injects}
use Rattle.code_relation.specs.Kept.{KeepsAll}
use Rattle.code_relation.specs.Loaded.{IsFileBlock}
use Rattle.code_relation.specs.Sites.{Given, units_of, Lives, site_by, site_of, has_byte, is_object}
use Rattle.code_relation.specs.Laws.LocalBytes.{local_untouched}
use Rattle.code_relation.specs.Laws.Reading.{AreCells}
use Rattle.code_relation.specs.Laws.Storing.{IsStored}
use Rattle.code_relation.specs.Laws.StoredBytes.{object_untouched, local_on_stack}
use Rattle.code_relation.specs.Laws.Untouched.{Untouched, OthersSame, KeepsAll-untouched, HaveBaseWords-untouched}

-- so many bytes of a block from an offset on are written, and no others
pub record Writes (g : Given) (now : MeaningState) (number : ℕ) (b : Block) (offset : ℕ) (new : List Cell) (s t : State) : Type 0 where
  pub within : offset + length new ≤ b.size
  pub new_cells : AreCells g now new t.byte ((site_of g now number b).start + offset)
  pub others : (a : ℕ) → is_between ((site_of g now number b).start + offset) (length new) a ≡ false → t.byte a ≡ s.byte a

-- the relation's words for it, and what is kept
pub record Stores (g : Given) (here : Context) (now : MeaningState) (number : ℕ) (b : Block) (offset : ℕ) (new : List Cell)
    (s t : State) : Type 0 where
  pub stored : IsStored g here now number b offset new s t
  pub kept : KeepsAll (units_of g) s t here.open_calls

wider : (start offset n size a : ℕ) → offset + n ≤ size → is_between start size a ≡ false → is_between (start + offset) n a ≡ false
wider start offset n size a within outside = grind (arith, nat_tests, within, outside)

module _ {g : Given} {here : Context} {now : MeaningState} {s t : State} (injects : Injects g here now s) (order : InOrder g.program) where
  others_same : (number : ℕ) (b : Block) (offset : ℕ) (new : List Cell) → Writes g now number b offset new s t →
      OthersSame (has_byte g now number b) s t
  others_same number b offset new writes a outside =
      writes.others a (wider (site_of g now number b).start offset (length new) b.size a writes.within outside)

  pub Stores-local : (number : ℕ) (b : Block) (call k offset : ℕ) (new : List Cell) → Lives now number b → b.kind ≡ Local call k →
      Writes g now number b offset new s t → Stores g here now number b offset new s t
  Stores-local number b call k offset new lives kind_is writes =
      let apart : Untouched (units_of g) (has_byte g now number b) here.open_calls =
      local_untouched injects order number b call k lives kind_is in
      record {
        stored = record {
          not_null = λ zero.
              let null_there : slice_get now.blocks number ≡ Some null_block =
              ap (λ n. slice_get now.blocks n) zero ∙ injects.stands.null_is in
              let there : slice_get now.blocks number ≡ Some b = lives.is in
              let same : b ≡ null_block = cc in
              let kinds : NullBlock ≡ Local call k = sym (ap (λ y. y.kind) same) ∙ kind_is in
              absurd (cc);
          whole = injects.stands.cells number b lives;
          within = writes.within;
          new_cells = writes.new_cells;
          others = writes.others;
          own = λ a has off none.
              let on = local_on_stack injects order number b call k lives kind_is a has in
              absurd (cc);
          words = HaveBaseWords-untouched g now.calls (has_byte g now number b) s t here.open_calls
              (others_same number b offset new writes) apart injects.bases.words;
        };
        kept = KeepsAll-untouched (units_of g) (has_byte g now number b) s t here.open_calls (others_same number b offset new writes) apart;
      }

  -- a file-scope object, which is where it was before the call of `main`
  pub Stores-object : (number : ℕ) (b before : Block) (offset : ℕ) (new : List Cell) → Lives now number b → IsFileBlock g number before →
      b.kind ≡ before.kind → b.size ≡ before.size → is_object before.kind ≡ true →
      Writes g now number b offset new s t → Stores g here now number b offset new s t
  Stores-object number b before offset new lives file kind_is size_is object writes =
      let site_is : site_of g now number b ≡ g.starts number = site_of_object number b (ap is_object kind_is ∙ object) in
      let apart : Untouched (units_of g) (has_byte g now number b) here.open_calls =
      object_untouched injects order number b before file object size_is site_is in
      let of_file : (a : ℕ) → has_byte g now number b a ≡ true → is_between (g.starts number).start before.size a ≡ true =
      λ a has. ap (λ y. is_between y.start before.size a) (sym site_is)
      ∙ ap (λ n. is_between (site_of g now number b).start n a) (sym size_is) ∙ has in
      record {
        stored = record {
          not_null = λ zero.
              let null_there : slice_get now.blocks number ≡ Some null_block =
              ap (λ n. slice_get now.blocks n) zero ∙ injects.stands.null_is in
              let there : slice_get now.blocks number ≡ Some b = lives.is in
              let same : b ≡ null_block = cc in
              let kinds : is_object NullBlock ≡ true = ap (λ y. is_object y.kind) (sym same) ∙ ap is_object kind_is ∙ object in
              absurd (cc);
          whole = injects.stands.cells number b lives;
          within = writes.within;
          new_cells = writes.new_cells;
          others = writes.others;
          own = λ a has off none.
              let other = none number before file object in
              let byte : is_between (g.starts number).start before.size a ≡ true = of_file a has in
              absurd (cc);
          words = HaveBaseWords-untouched g now.calls (has_byte g now number b) s t here.open_calls
              (others_same number b offset new writes) apart injects.bases.words;
        };
        kept = KeepsAll-untouched (units_of g) (has_byte g now number b) s t here.open_calls (others_same number b offset new writes) apart;
      }
    where
      site_of_object : (number : ℕ) (b : Block) → is_object b.kind ≡ true → site_of g now number b ≡ g.starts number
      site_of_object number b is = by_kind b.kind is
        where
          by_kind : (kind : Kind) → is_object kind ≡ true → site_by g now.calls kind number ≡ g.starts number
          by_kind (Global unit k) is = refl
          by_kind _ is = absurd (cc)
