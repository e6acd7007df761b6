-- What is appended for a statement, by what it is and by what is appended for its parts.
use Rattle.std.proofs.Common.{◌≡◌, ap, sym, ◌∙◌, List, [], ◌∷◌, length, Option, Some, None, Result, OnOk}
use Rattle.block_meaning.specs.Statements.{declared}
use Rattle.c_type_base.specs.declared.expr.TExpr.{TExpr}
use Rattle.c_type_base.specs.declared.statement.TDecl.{TDecl}
use Rattle.c_type_base.specs.declared.statement.TItem.{TItem}
use Rattle.c_type_base.specs.declared.statement.TStmt.{TStmt}
use Rattle.c_type_base.specs.declared.statement.TStmt.TheVariants as stmt
use Rattle.c_type_base.specs.declared.typed.StructInfo.{StructInfo}
use Rattle.frame_layout.specs.declared.frame.Frame.{Frame}
use Rattle.sym_code.specs.declared.item.SymCode.{SymCode}
use Rattle.gen_base.specs.Code.{Code, Appends, in_turn}
use Rattle.gen_base.specs.Laws.Appending.{first_appended, appended_as}
use Rattle.gen_stmt.specs.Loops.{Around, for_code}
use Rattle.gen_stmt.specs.Statements.{statement_code, body_code, scope, branch, branches, for_scope, value, maybe_value, condition}
use Rattle.gen_stmt.specs.Laws.StatementLaws.{coded-block, coded-alone, coded-either, coded-for}
use Rattle.gen_stmt.proofs.Appended.{last_appended}

module _ {T E : Type 0} (r : Result T E) (structs : List StructInfo) (f : Frame) (st : TStmt) (around : Around) (old new : SymCode) where
  abbrev code : TStmt → Around → Code
  code = statement_code structs f

  abbrev appended : Code → Type 0
  appended c = OnOk r (Appends old c new)

  pub block_appended : (is slice : List TItem) → slice ≡ is → st ≡ stmt.Block is →
      appended (scope f (declared slice) (body_code structs f slice) around) → appended (code st around)
  block_appended is slice same shape =
      let at = length old.items.items in
      appended_as r old new (scope f (declared slice) (body_code structs f slice) around) (code st around)
      (ap (λ is. scope f (declared is) (body_code structs f is) around at) same
      ∙ ap (λ (emits : Around → Code). emits around at) (sym (coded-block structs f is) ∙ ap code (sym shape)))

  pub alone_appended : (e : TExpr) (s given : TStmt) (o : Option TStmt) (mid : SymCode) → given ≡ s → o ≡ None → st ≡ stmt.If e s o →
      Appends old (value structs f e) mid → OnOk r (Appends mid (branch (code given) around) new) → appended (code st around)
  alone_appended e s given o mid same none shape first rest =
      let at = length old.items.items in
      appended_as r old new (in_turn (value structs f e ∷ branch (code given) around ∷ [])) (code st around)
      (ap (λ s. in_turn (value structs f e ∷ branch (code s) around ∷ []) at) same
      ∙ ap (λ (emits : Around → Code). emits around at) (sym (coded-alone structs f e s o none) ∙ ap code (sym shape)))
      (first_appended r old mid new (value structs f e) (branch (code given) around ∷ []) first
      (last_appended r mid new (branch (code given) around) rest))

  pub either_appended : (e : TExpr) (s given t other : TStmt) (o : Option TStmt) (mid : SymCode) → given ≡ s → other ≡ t → o ≡ Some t →
      st ≡ stmt.If e s o → Appends old (value structs f e) mid → OnOk r (Appends mid (branches (code given) (code other) around) new) →
      appended (code st around)
  either_appended e s given t other o mid same same_other some shape first rest =
      let at = length old.items.items in
      appended_as r old new (in_turn (value structs f e ∷ branches (code given) (code other) around ∷ [])) (code st around)
      (ap (λ s. in_turn (value structs f e ∷ branches (code s) (code other) around ∷ []) at) same
      ∙ ap (λ t. in_turn (value structs f e ∷ branches (code s) (code t) around ∷ []) at) same_other
      ∙ ap (λ (emits : Around → Code). emits around at) (sym (coded-either structs f e s t o some) ∙ ap code (sym shape)))
      (first_appended r old mid new (value structs f e) (branches (code given) (code other) around ∷ []) first
      (last_appended r mid new (branches (code given) (code other) around) rest))

  pub for_appended : (ds slice : List TDecl) (a c n : Option TExpr) (s given : TStmt) → slice ≡ ds → given ≡ s → st ≡ stmt.For ds a c n s →
      appended (for_scope structs f slice a (for_code (condition structs f c) (maybe_value structs f n) (code given)) around) →
      appended (code st around)
  for_appended ds slice a c n s given same same_body shape =
      let at = length old.items.items in
      appended_as r old new
      (for_scope structs f slice a (for_code (condition structs f c) (maybe_value structs f n) (code given)) around) (code st around)
      (ap (λ ds. for_scope structs f ds a (for_code (condition structs f c) (maybe_value structs f n) (code given)) around at) same
      ∙ ap (λ s. for_scope structs f ds a (for_code (condition structs f c) (maybe_value structs f n) (code s)) around at) same_body
      ∙ ap (λ (emits : Around → Code). emits around at) (sym (coded-for structs f ds a c n s) ∙ ap code (sym shape)))
