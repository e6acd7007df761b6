-- Other tokens with the lexemes of a statement spell it again, spans aside.
use Rattle.std.specs.Prelude.{◌≡◌, ℕ, List, [], ◌∷◌, ◌++◌, map, Option, Some, None, refl}
use Rattle.std.proofs.Common.{sym, ◌∙◌, ap}
use Rattle.c_ast.specs.Laws.Opened.{given_trees}
use Rattle.c_ast.specs.Tree.{StmtLayer, ItemLayer}
use Rattle.c_ast.specs.Seen.{Seen as Token}
use Rattle.c_ast.specs.declared.expr.Expr.{Expr}
use Rattle.c_ast.specs.declared.declaration.Decl.{Decl}
use Rattle.c_ast.specs.declared.statement.Stmt.{Stmt, roll-Stmt}
use Rattle.c_ast.specs.declared.statement.Stmt.TheVariants as stmt
use Rattle.c_ast.specs.declared.statement.Item.{Item, roll-Item}
use Rattle.c_ast.specs.declared.statement.Item.TheVariants as item
use Rattle.c_ast.specs.declared.statement.Item.TheOpen.{Item-F, Stmt-F}
use Rattle.c_grammar.specs.Statements.{Place, Ending, MaybeExpression, left_out, written, First, first_local, first_expression, Statement}
use Rattle.c_grammar.specs.Statements.{Block, BlockItems, BlockItem}
use Rattle.c_grammar.specs.Statements as grammar
use Rattle.c_print.specs.Spans.{no_span, option_map, bare, bare_decl, bare_item_step, bare_stmt_step, bare_stmt, bare_item}
use Rattle.c_print.specs.Laws.BareLaws.{bare_in_stmt, bare_in_item, stmt_bare, item_bare}
use Rattle.c_print.specs.Laws.Again.{Again, Alike, done, word, before, last, more_alike}
use Rattle.c_print.specs.Laws.ExpressionsAgain.{expression_again}
use Rattle.c_print.specs.Laws.ObjectsAgain.{local_again}

-- a statement of parts that are alike
made : {P : Stmt → List Token → Type 0} (d c : StmtLayer) {us : List Token} → P (roll-Stmt c) us →
    bare_stmt_step (bare_in_stmt c) ≡ bare_stmt_step (bare_in_stmt d) →
    Again P bare_stmt (roll-Stmt d) us
made d c p same = record { tree = roll-Stmt c; word = p; same = stmt_bare c ∙ same ∙ sym (stmt_bare d) }

made_item : {P : Item → List Token → Type 0} (d c : ItemLayer) {us : List Token} → P (roll-Item c) us →
    bare_item_step (bare_in_item c) ≡ bare_item_step (bare_in_item d) →
    Again P bare_item (roll-Item d) us
made_item d c p same = record { tree = roll-Item c; word = p; same = item_bare c ∙ same ∙ sym (item_bare d) }

maybe_again : {n : ℕ} {e : Option Expr} {w : List Token} → MaybeExpression n e w → Alike w (Again (MaybeExpression n) (option_map bare) e)
maybe_again left_out = done (record { tree = None; word = left_out; same = refl })
maybe_again (written d) = last (expression_again d) (λ u a. record { tree = Some a.tree; word = written a.word; same = ap Some a.same })

-- what comes first in a `for`
abbrev Firsts : Type 0
Firsts = List Decl × Option Expr

abbrev FirstWord : ℕ → Firsts → List Token → Type 0
FirstWord n c w = First n c.0 c.1 w

abbrev bare_firsts : Firsts → Firsts
bare_firsts c = (map bare_decl c.0, option_map bare c.1)

first_again : {n : ℕ} {ds : List Decl} {e : Option Expr} {w : List Token} → First n ds e w →
    Alike w (Again (FirstWord n) bare_firsts (ds, e))
first_again (first_local d) = last (local_again d) (λ u a. record {
  tree = (a.tree, None);
  word = first_local a.word;
  same = λ i. (a.same i, None);
})
first_again (first_expression s d p) =
    before (maybe_again d) (λ u a. word s p (λ s p. done (record {
      tree = ([], a.tree);
      word = first_expression s a.word p;
      same = λ i. ([], a.same i);
    })))

mutual
  unfolding given_trees

  pub statement_again : {p : Place} {a : Ending} {n : ℕ} {s : Stmt} {w : List Token} → Statement p a n s w →
      Alike w (Again (Statement p a n) bare_stmt s)
  statement_again (grammar.compound b) = last (block_again b)
      (λ u b. record { tree = b.tree; word = grammar.compound b.word; same = b.same })
  statement_again (grammar.expression {e} z d pz) =
      before (expression_again d) (λ u a. word z pz (λ z pz. done
      (made (Stmt-F.Expr e) (Stmt-F.Expr a.tree) (grammar.expression z a.word pz) (λ i. stmt.Expr (a.same i)))))
  statement_again (grammar.empty z pz) = word z pz (λ z pz. done (made Stmt-F.Empty Stmt-F.Empty (grammar.empty z pz) refl))
  statement_again (grammar.if_then {e} {s = x} t l r kt pl d pr b) =
      word t kt (λ t kt. word l pl (λ l pl. before (expression_again d) (λ u a. word r pr (λ r pr. last (statement_again b) (λ v b.
      made (Stmt-F.If e x None) (Stmt-F.If a.tree b.tree None) (grammar.if_then t l r kt pl a.word pr b.word)
      (λ i. stmt.If (a.same i) (b.same i) None))))))
  statement_again (grammar.if_else {e} {s = x} {o = y} t l r z kt pl d pr b kz c) =
      word t kt (λ t kt. word l pl (λ l pl. before (expression_again d) (λ u a. word r pr (λ r pr. before (statement_again b) (λ v b.
      word z kz (λ z kz. last (statement_again c) (λ w c.
      made (Stmt-F.If e x (Some y)) (Stmt-F.If a.tree b.tree (Some c.tree)) (grammar.if_else t l r z kt pl a.word pr b.word kz c.word)
      (λ i. stmt.If (a.same i) (b.same i) (Some (c.same i))))))))))
  statement_again (grammar.while_loop {e} {s = x} t l r kt pl d pr b) =
      word t kt (λ t kt. word l pl (λ l pl. before (expression_again d) (λ u a. word r pr (λ r pr. last (statement_again b) (λ v b.
      made (Stmt-F.While e x) (Stmt-F.While a.tree b.tree) (grammar.while_loop t l r kt pl a.word pr b.word)
      (λ i. stmt.While (a.same i) (b.same i)))))))
  statement_again (grammar.do_loop {e} {s = y} t x l r z kt b kx pl d pr pz) =
      word t kt (λ t kt. before (statement_again b) (λ u b. word x kx
      (λ x kx. word l pl (λ l pl. before (expression_again d) (λ v a. word r pr (λ r pr. word z pz (λ z pz. done
      (made (Stmt-F.DoWhile y e) (Stmt-F.DoWhile b.tree a.tree) (grammar.do_loop t x l r z kt b.word kx pl a.word pr pz)
      (λ i. stmt.DoWhile (b.same i) (a.same i))))))))))
  statement_again (grammar.for_loop {ds} {e} {c = y} {d = q} {s = x} t l z r kt pl f m pz j pr b) =
      word t kt (λ t kt. word l pl (λ l pl. before (first_again f)
      (λ u f. before (maybe_again m) (λ v m. word z pz (λ z pz. before (maybe_again j) (λ w j.
      word r pr (λ r pr. last (statement_again b) (λ o b.
      made (Stmt-F.For ds e y q x) (Stmt-F.For f.tree.0 f.tree.1 m.tree j.tree b.tree)
      (grammar.for_loop t l z r kt pl f.word m.word pz j.word pr b.word)
      (λ i. stmt.For (f.same i).0 (f.same i).1 (m.same i) (j.same i) (b.same i))))))))))
  statement_again (grammar.return_word {e} t z kt m pz) =
      word t kt (λ t kt. before (maybe_again m) (λ u a. word z pz (λ z pz. done
      (made (Stmt-F.Return e _) (Stmt-F.Return a.tree _) (grammar.return_word t z kt a.word pz) (λ i. stmt.Return (a.same i) no_span)))))
  statement_again (grammar.break_word t z kt pz) = word t kt
      (λ t kt. word z pz (λ z pz. done (made (Stmt-F.Break _) (Stmt-F.Break _) (grammar.break_word t z kt pz) refl)))
  statement_again (grammar.continue_word t z kt pz) =
      word t kt (λ t kt. word z pz (λ z pz. done (made (Stmt-F.Continue _) (Stmt-F.Continue _) (grammar.continue_word t z kt pz) refl)))

  pub block_again : {p : Place} {n : ℕ} {s : Stmt} {w : List Token} → Block p n s w → Alike w (Again (Block p n) bare_stmt s)
  block_again (grammar.block {is} l r pl items pr) =
      word l pl (λ l pl. before (items_again items) (λ u a. word r pr (λ r pr. done
      (made (Stmt-F.Block is) (Stmt-F.Block a.tree) (grammar.block l r pl a.word pr) (λ i. stmt.Block (a.same i))))))

  items_again : {p : Place} {n : ℕ} {is : List Item} {w : List Token} → BlockItems p n is w →
      Alike w (Again (BlockItems p n) (map bare_item) is)
  items_again grammar.no_item = done (record { tree = []; word = grammar.no_item; same = refl })
  items_again (grammar.more_item {is} {i = x} ds d) =
      before (items_again ds) (λ u a. last (item_again d) (λ v b. record {
        tree = a.tree ++ b.tree ∷ [];
        word = grammar.more_item a.word b.word;
        same = more_alike bare_item a.tree is b.tree x a.same b.same;
      }))

  item_again : {p : Place} {n : ℕ} {i : Item} {w : List Token} → BlockItem p n i w → Alike w (Again (BlockItem p n) bare_item i)
  item_again (grammar.local {ds} d) = last (local_again d) (λ u a. made_item (Item-F.Local ds) (Item-F.Local a.tree)
      (grammar.local a.word) (λ i. item.Local (a.same i)))
  item_again (grammar.statement {s = x} d) =
      last (statement_again d) (λ u a. made_item (Item-F.Stmt x) (Item-F.Stmt a.tree) (grammar.statement a.word)
      (λ i. item.Stmt (a.same i)))
