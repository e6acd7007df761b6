-- A store to any block that may be written: a local, or a file-scope object (this project's own).
use Rattle.std.specs.Prelude.{◌≡◌, ℕ, ◌≤◌, Bool, true, false, List, refl}
use Rattle.std.proofs.Common.{arith, ap, sym, ◌∙◌}
use Rattle.a64_code.specs.State.{State}
use Rattle.block_meaning.specs.Access.{is_null_block, is_text}
use Rattle.block_meaning.specs.Blocks.{Block}
use Rattle.block_meaning.specs.ProgramsInOrder.{InOrder}
use Rattle.block_meaning.specs.Running.{Context, State as MeaningState}
use Rattle.block_meaning.specs.declared.cell.Cell.{Cell}
use Rattle.block_meaning.specs.declared.kind.Kind.{Kind}
use Rattle.block_meaning.specs.declared.kind.Kind.TheVariants.{NullBlock, Global, Text, Code, Local}
use Rattle.code_relation.specs.Injects.{Injects}
use Rattle.code_relation.specs.Sites.{Given, units_of, Lives, is_object, is_of_file}
use Rattle.code_relation.specs.Stands.{WasOpened}
use Rattle.code_relation.specs.Laws.Stores.{Writes, Stores, Stores-local, Stores-object}
use Rattle.code_follows.specs.Laws.BlockBytes.{is_code, code_empty}

never : {X : Type 0} (b : Bool) → b ≡ true → b ≡ false → X
never true is not = absurd (cc)
never false is not = absurd (cc)

pub stores_any : {g : Given} {here : Context} {now : MeaningState} {s t : State} → Injects g here now s → InOrder g.program →
    (number : ℕ) (b : Block) (offset : ℕ) (new : List Cell) → Lives now number b → is_null_block b.kind ≡ false → is_text b.kind ≡ false →
    1 ≤ b.size → Writes g now number b offset new s t → Stores g here now number b offset new s t
stores_any {g} {here} {now} {s} {t} injects order number b offset new lives not_null not_text some writes = by_kind b.kind refl
  where
    by_kind : (kind : Kind) → b.kind ≡ kind → Stores g here now number b offset new s t
    by_kind NullBlock is = never (is_null_block b.kind) (ap is_null_block is) not_null
    by_kind (Local call k) is = Stores-local injects order number b call k offset new lives is writes
    by_kind (Text unit k) is = never (is_text b.kind) (ap is_text is) not_text
    by_kind (Global unit k) is =
        let was : WasOpened g number b = injects.stands.of_files number b lives.is (ap is_of_file is) in
        Stores-object injects order number b was.before offset new lives
        (record { is = was.is; of_file = ap is_of_file (sym was.kind_is ∙ is) }) was.kind_is was.size_is
        (ap is_object (sym was.kind_is ∙ is)) writes
    by_kind (Code unit k) is =
        let was : WasOpened g number b = injects.stands.of_files number b lives.is (ap is_of_file is) in
        absurd (omega (
          arith,
          some,
          was.size_is,
          code_empty (units_of g) number was.before was.is (ap is_code (sym was.kind_is) ∙ ap is_code is),
        ))
