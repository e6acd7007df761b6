-- The code of statements, one equation a construct, and what a block declares.
use Rattle.std.proofs.Common.{◌≡◌, refl, ap, ◌∙◌, List, [], ◌∷◌, ◌++◌, map, Option, Some, None}
use Rattle.block_meaning.specs.Statements as meaning
use Rattle.block_meaning.specs.Statements.{ItemLayer}
use Rattle.c_type_base.specs.Laws.Opened.{given_typed}
use Rattle.c_type_base.specs.declared.expr.TExpr.{TExpr}
use Rattle.c_type_base.specs.declared.statement.TDecl.{TDecl}
use Rattle.c_type_base.specs.declared.statement.TItem.{TItem, out-TItem}
use Rattle.c_type_base.specs.declared.statement.TStmt.{TStmt}
use Rattle.c_type_base.specs.declared.statement.TStmt.TheVariants as stmt
use Rattle.c_type_base.specs.declared.statement.TItem.TheOpen.{TItem-F, TStmt-F}
use Rattle.c_type_base.specs.declared.statement.TItem.TheFolds.{map-TItem, fold_out-TItem, fold-roll-TStmt}
use Rattle.c_type_base.specs.declared.typed.StructInfo.{StructInfo}
use Rattle.frame_layout.specs.declared.frame.Frame.{Frame}
use Rattle.gen_stmt.specs.Loops.{Emits, for_code}
use Rattle.gen_stmt.specs.Statements.{ItemCode, item_code, stmt_code, coded_item, statement_code, body_code}
use Rattle.gen_stmt.specs.Statements.{declared, scope, if_code, for_scope, value, maybe_value, condition}

module _ (structs : List StructInfo) (f : Frame) where
  -- ---- what a block declares

  level-declares : (i : ItemLayer) →
      (item_code structs f (map-TItem TItem TStmt ItemCode Emits (coded_item structs f) (statement_code structs f) i)).declares
      ≡ meaning.declared_by i
  level-declares (TItem-F.Local ds) = refl
  level-declares (TItem-F.Stmt s) = refl

  item-declares : (i : TItem) → (coded_item structs f i).declares ≡ meaning.declared_by (out-TItem i)
  item-declares i =
      ap (λ c. c.declares) (fold_out-TItem ItemCode Emits (item_code structs f) (stmt_code structs f) i) ∙ level-declares (out-TItem i)

  -- it is what the meaning says
  pub declared-is : (is : List TItem) → declared (map (coded_item structs f) is) ≡ meaning.declared is
  declared-is [] = refl
  declared-is (i ∷ is) =
      ap (λ ks. ks ++ declared (map (coded_item structs f) is)) (item-declares i)
      ∙ ap (λ ks. meaning.declared_by (out-TItem i) ++ ks) (declared-is is)

  -- ---- statements

  pub coded-block : (is : List TItem) → statement_code structs f (stmt.Block is) ≡ scope f (meaning.declared is) (body_code structs f is)
  unfolding given_typed
  coded-block is =
      fold-roll-TStmt ItemCode Emits (item_code structs f) (stmt_code structs f) (TStmt-F.Block is)
      ∙ ap (λ ks. scope f ks (body_code structs f is)) (declared-is is)

  -- with what stands behind `else`, if anything
  pub coded-alone : (e : TExpr) (s : TStmt) (o : Option TStmt) → o ≡ None →
      statement_code structs f (stmt.If e s o) ≡ if_code (value structs f e) (statement_code structs f s) None
  unfolding given_typed
  coded-alone e s o is =
      ap (λ o. statement_code structs f (stmt.If e s o)) is
      ∙ fold-roll-TStmt ItemCode Emits (item_code structs f) (stmt_code structs f) (TStmt-F.If e s None)

  pub coded-either : (e : TExpr) (s other : TStmt) (o : Option TStmt) → o ≡ Some other →
      statement_code structs f (stmt.If e s o)
      ≡ if_code (value structs f e) (statement_code structs f s) (Some (statement_code structs f other))
  unfolding given_typed
  coded-either e s other o is =
      ap (λ o. statement_code structs f (stmt.If e s o)) is
      ∙ fold-roll-TStmt ItemCode Emits (item_code structs f) (stmt_code structs f) (TStmt-F.If e s (Some other))

  pub coded-for : (ds : List TDecl) (a c n : Option TExpr) (s : TStmt) →
      statement_code structs f (stmt.For ds a c n s)
      ≡ for_scope structs f ds a (for_code (condition structs f c) (maybe_value structs f n) (statement_code structs f s))
  unfolding given_typed
  coded-for ds a c n s = fold-roll-TStmt ItemCode Emits (item_code structs f) (stmt_code structs f) (TStmt-F.For ds a c n s)
