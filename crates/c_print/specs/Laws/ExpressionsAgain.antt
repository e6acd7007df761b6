-- Other tokens with the lexemes of an expression spell it again, spans aside.
use Rattle.std.specs.Prelude.{◌≡◌, ℕ, List, [], ◌∷◌, ◌++◌, map, refl}
use Rattle.std.proofs.Common.{sym, ◌∙◌, ap}
use Rattle.c_ast.specs.Laws.Opened.{given_trees}
use Rattle.c_ast.specs.Tree.{NodeLayer, expr}
use Rattle.c_ast.specs.declared.token.Span.{Span}
use Rattle.c_ast.specs.Seen.{Seen as Token}
use Rattle.c_ast.specs.declared.int_type.IntType.TheVariants as integer
use Rattle.c_ast.specs.declared.expr.Expr.{Expr}
use Rattle.c_ast.specs.declared.expr.Node.{roll-Node}
use Rattle.c_ast.specs.declared.expr.CType.TheOpen.{Node-F}
use Rattle.c_grammar.specs.Words.{span_of}
use Rattle.c_grammar.specs.Expressions.{Texts, one_text, more_text, Primary, Postfix, Arguments, ArgumentList, Unary, Cast, Binary}
use Rattle.c_grammar.specs.Expressions.{Conditional, Expression}
use Rattle.c_grammar.specs.Expressions as grammar
use Rattle.c_print.specs.Spans.{no_span, bare, bare_type}
use Rattle.c_print.specs.Laws.BareLaws.{bare_in_node, expr_bare}
use Rattle.c_print.specs.Laws.Again.{Again, Alike, done, kind, word, before, last, more_alike}
use Rattle.c_print.specs.Laws.TypesAgain.{type_name_again}

-- an expression of parts that are alike
made : {P : Expr → List Token → Type 0} {s : Span} (d c : NodeLayer) {us : List Token} → P (expr (span_of us) (roll-Node c)) us →
    bare_in_node c ≡ bare_in_node d →
    Again P bare (expr s (roll-Node d)) us
made {s = s} d c {us} p same = record {
  tree = expr (span_of us) (roll-Node c);
  word = p;
  same = expr_bare (span_of us) c ∙ ap (λ l. expr no_span (roll-Node l)) same ∙ sym (expr_bare s d);
}

texts_again : {bytes : List ℕ} {w : List Token} → Texts bytes w → Alike w (Texts bytes)
texts_again (one_text t k) = kind t k (λ t k. done (one_text t k))
texts_again (more_text t ts k) = before (texts_again ts) (λ u ts. kind t k (λ t k. done (more_text t ts k)))

mutual
  unfolding given_trees

  pub primary_again : {h : ℕ} {e : Expr} {w : List Token} → Primary h e w → Alike w (Again (Primary h) bare e)
  primary_again (grammar.variable {n} t k) = kind t k (λ t k. done
      (made (Node-F.Variable n) (Node-F.Variable n) (grammar.variable t k) refl))
  primary_again (grammar.number {value} {ty} t k) = kind t k
      (λ t k. done (made (Node-F.Constant value ty) (Node-F.Constant value ty) (grammar.number t k) refl))
  primary_again (grammar.character {value} t k) =
      kind t k (λ t k. done (made (Node-F.Constant value integer.Int) (Node-F.Constant value integer.Int) (grammar.character t k) refl))
  primary_again (grammar.text {bytes} ts) = last (texts_again ts)
      (λ u ts. made (Node-F.Text bytes) (Node-F.Text bytes) (grammar.text ts) refl)
  primary_again (grammar.paren {e} l r pl d pr) =
      word l pl (λ l pl. before (expression_again d) (λ u a. word r pr (λ r pr. done
      (made (Node-F.Paren e) (Node-F.Paren a.tree) (grammar.paren l r pl a.word pr) (λ i. Node-F.Paren (a.same i))))))

  pub postfix_again : {h : ℕ} {e : Expr} {w : List Token} → Postfix h e w → Alike w (Again (Postfix h) bare e)
  postfix_again (grammar.primary d) = last (primary_again d) (λ u a. record { tree = a.tree; word = grammar.primary a.word; same = a.same })
  postfix_again (grammar.index {e} {i = x} l r d pl y pr) =
      before (postfix_again d) (λ u a. word l pl (λ l pl. before (expression_again y) (λ v b. word r pr (λ r pr. done
      (made (Node-F.Index e x) (Node-F.Index a.tree b.tree) (grammar.index l r a.word pl b.word pr)
      (λ i. Node-F.Index (a.same i) (b.same i)))))))
  postfix_again (grammar.call {e} {es} l r d pl xs pr) =
      before (postfix_again d) (λ u a. word l pl (λ l pl. before (arguments_again xs) (λ v b. word r pr (λ r pr. done
      (made (Node-F.Call e es) (Node-F.Call a.tree b.tree) (grammar.call l r a.word pl b.word pr)
      (λ i. Node-F.Call (a.same i) (b.same i)))))))
  postfix_again (grammar.member {e} {n} p t d pd k) =
      before (postfix_again d) (λ u a. word p pd (λ p pd. kind t k (λ t k. done
      (made (Node-F.Member e n) (Node-F.Member a.tree n) (grammar.member p t a.word pd k) (λ i. Node-F.Member (a.same i) n)))))
  postfix_again (grammar.arrow {e} {n} p t d pd k) =
      before (postfix_again d) (λ u a. word p pd (λ p pd. kind t k (λ t k. done
      (made (Node-F.Arrow e n) (Node-F.Arrow a.tree n) (grammar.arrow p t a.word pd k) (λ i. Node-F.Arrow (a.same i) n)))))
  postfix_again (grammar.step_behind {e} {s} t d w) =
      before (postfix_again d) (λ u a. word t w.1 (λ t k. done
      (made (Node-F.Step s e) (Node-F.Step s a.tree) (grammar.step_behind t a.word (w.0, k)) (λ i. Node-F.Step s (a.same i)))))

  pub arguments_again : {h : ℕ} {es : List Expr} {w : List Token} → Arguments h es w → Alike w (Again (Arguments h) (map bare) es)
  arguments_again grammar.no_argument = done (record { tree = []; word = grammar.no_argument; same = refl })
  arguments_again (grammar.arguments d) = last (list_again d)
      (λ u a. record { tree = a.tree; word = grammar.arguments a.word; same = a.same })

  pub list_again : {h : ℕ} {es : List Expr} {w : List Token} → ArgumentList h es w → Alike w (Again (ArgumentList h) (map bare) es)
  list_again (grammar.argument d) = last (expression_again d)
      (λ u a. record { tree = a.tree ∷ []; word = grammar.argument a.word; same = ap (λ e. e ∷ []) a.same })
  list_again (grammar.more_argument {es} {e} c d p x) =
      before (list_again d) (λ u a. word c p (λ c p. last (expression_again x) (λ v b. record {
        tree = a.tree ++ b.tree ∷ [];
        word = grammar.more_argument c a.word p b.word;
        same = more_alike bare a.tree es b.tree e a.same b.same;
      })))

  pub unary_again : {h : ℕ} {e : Expr} {w : List Token} → Unary h e w → Alike w (Again (Unary h) bare e)
  unary_again (grammar.postfix d) = last (postfix_again d) (λ u a. record { tree = a.tree; word = grammar.postfix a.word; same = a.same })
  unary_again (grammar.step_before {e} {s} t w d) =
      word t w.1 (λ t k. last (unary_again d) (λ u a. made (Node-F.Step s e) (Node-F.Step s a.tree)
      (grammar.step_before t (w.0, k) a.word) (λ i. Node-F.Step s (a.same i))))
  unary_again (grammar.operated {e} {o} t w d) =
      word t w (λ t k. last (cast_again d) (λ u a. made (Node-F.Unary o e) (Node-F.Unary o a.tree) (grammar.operated t k a.word)
      (λ i. Node-F.Unary o (a.same i))))
  unary_again (grammar.sizeof_expr {e} t k d) =
      word t k (λ t k. last (unary_again d) (λ u a. made (Node-F.SizeofExpr e) (Node-F.SizeofExpr a.tree)
      (grammar.sizeof_expr t k a.word) (λ i. Node-F.SizeofExpr (a.same i))))
  unary_again (grammar.sizeof_name {ty} t l r k pl n pr) =
      word t k (λ t k. word l pl (λ l pl. before (type_name_again n) (λ u n. word r pr (λ r pr. done
      (made (Node-F.SizeofName ty) (Node-F.SizeofName ty) (grammar.sizeof_name t l r k pl n pr) refl)))))

  pub cast_again : {h : ℕ} {e : Expr} {w : List Token} → Cast h e w → Alike w (Again (Cast h) bare e)
  cast_again (grammar.unary d) = last (unary_again d) (λ u a. record { tree = a.tree; word = grammar.unary a.word; same = a.same })
  cast_again (grammar.cast {ty} {e} l r pl n pr d) =
      word l pl (λ l pl. before (type_name_again n) (λ u n. word r pr (λ r pr. last (cast_again d) (λ v a.
      made (Node-F.Cast ty e) (Node-F.Cast ty a.tree) (grammar.cast l r pl n pr a.word) (λ i. Node-F.Cast (bare_type ty) (a.same i))))))

  pub binary_again : {n h : ℕ} {e : Expr} {w : List Token} → Binary n h e w → Alike w (Again (Binary n h) bare e)
  binary_again (grammar.operand d) = last (cast_again d) (λ u a. record { tree = a.tree; word = grammar.operand a.word; same = a.same })
  binary_again (grammar.tighter d) = last (binary_again d) (λ u a. record { tree = a.tree; word = grammar.tighter a.word; same = a.same })
  binary_again (grammar.operation {o} {a = x} {b = y} t d w c) =
      before (binary_again d) (λ u a. word t w.1 (λ t k. last (binary_again c) (λ v b.
      made (Node-F.Binary o x y) (Node-F.Binary o a.tree b.tree) (grammar.operation t a.word (w.0, k) b.word)
      (λ i. Node-F.Binary o (a.same i) (b.same i)))))

  pub conditional_again : {h : ℕ} {e : Expr} {w : List Token} → Conditional h e w → Alike w (Again (Conditional h) bare e)
  conditional_again (grammar.binary d) = last (binary_again d)
      (λ u a. record { tree = a.tree; word = grammar.binary a.word; same = a.same })
  conditional_again (grammar.choice {c = x} {a = y} {b = z} q s d pq c ps e) =
      before (binary_again d) (λ u a. word q pq (λ q pq. before (expression_again c)
      (λ v b. word s ps (λ s ps. last (conditional_again e) (λ w c.
      made (Node-F.Cond x y z) (Node-F.Cond a.tree b.tree c.tree) (grammar.choice q s a.word pq b.word ps c.word)
      (λ i. Node-F.Cond (a.same i) (b.same i) (c.same i)))))))

  pub expression_again : {h : ℕ} {e : Expr} {w : List Token} → Expression h e w → Alike w (Again (Expression h) bare e)
  expression_again (grammar.conditional d) = last (conditional_again d)
      (λ u a. record { tree = a.tree; word = grammar.conditional a.word; same = a.same })
  expression_again (grammar.assignment {o} {a = x} {b = y} t d k c) =
      before (unary_again d) (λ u a. word t k (λ t k. last (expression_again c) (λ v b.
      made (Node-F.Assign o x y) (Node-F.Assign o a.tree b.tree) (grammar.assignment t a.word k b.word)
      (λ i. Node-F.Assign o (a.same i) (b.same i)))))
