-- The code of a statement is that of its level (this project's own).
use Rattle.std.specs.Prelude.{◌≡◌, List, [], ◌∷◌, ◌++◌, map, refl}
use Rattle.std.proofs.Common.{ap, ◌∙◌}
use Rattle.block_meaning.specs.Statements.{StmtLayer, ItemLayer, declared_by}
use Rattle.block_meaning.specs.Statements.{declared as declared_in}
use Rattle.c_type_base.specs.Laws.Opened.{given_typed}
use Rattle.c_type_base.specs.declared.statement.TItem.{TItem, out-TItem, map-TItem}
use Rattle.c_type_base.specs.declared.statement.TItem.TheFolds.{fold_out-TItem, fold_out-TStmt}
use Rattle.c_type_base.specs.declared.statement.TItem.TheOpen.{TItem-F}
use Rattle.c_type_base.specs.declared.statement.TStmt.{TStmt, out-TStmt, map-TStmt}
use Rattle.c_type_base.specs.declared.typed.StructInfo.{StructInfo}
use Rattle.frame_layout.specs.declared.frame.Frame.{Frame}
use Rattle.gen_stmt.specs.Loops.{Emits}
use Rattle.gen_stmt.specs.Statements.{ItemCode, declared, item_code, stmt_code, statement_code, coded_item}

abbrev pub layer_code : List StructInfo → Frame → StmtLayer → Emits
layer_code structs f l = stmt_code structs f (map-TStmt TItem TStmt ItemCode Emits (coded_item structs f) (statement_code structs f) l)

abbrev pub layer_item : List StructInfo → Frame → ItemLayer → ItemCode
layer_item structs f l = item_code structs f (map-TItem TItem TStmt ItemCode Emits (coded_item structs f) (statement_code structs f) l)

pub statement-is : (structs : List StructInfo) (f : Frame) (st : TStmt) → statement_code structs f st ≡ layer_code structs f (out-TStmt st)
unfolding given_typed
statement-is structs f st = fold_out-TStmt ItemCode Emits (item_code structs f) (stmt_code structs f) st

pub item-is : (structs : List StructInfo) (f : Frame) (i : TItem) → coded_item structs f i ≡ layer_item structs f (out-TItem i)
unfolding given_typed
item-is structs f i = fold_out-TItem ItemCode Emits (item_code structs f) (stmt_code structs f) i

layer_declares : (structs : List StructInfo) (f : Frame) (l : ItemLayer) → (layer_item structs f l).declares ≡ declared_by l
layer_declares structs f (TItem-F.Local ds) = refl
layer_declares structs f (TItem-F.Stmt st) = refl

-- the locals that the code of a block's parts declares are those of the parts
pub declared-is : (structs : List StructInfo) (f : Frame) (is : List TItem) → declared (map (coded_item structs f) is) ≡ declared_in is
declared-is structs f [] = refl
declared-is structs f (i ∷ is) =
    ap (λ ks. ks ++ declared (map (coded_item structs f) is)) (ap (λ c. c.declares) (item-is structs f i)
    ∙ layer_declares structs f (out-TItem i))
    ∙ ap (λ ks. declared_by (out-TItem i) ++ ks) (declared-is structs f is)
