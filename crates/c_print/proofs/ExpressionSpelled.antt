-- The lexemes of an expression spell it.
use Rattle.std.proofs.Common.{refl, ℕ, List, [], map}
use Rattle.std.proofs.lemmas.List.{append-nil, map-append}
use Rattle.c_ast.specs.Laws.Opened.{given_trees}
use Rattle.c_ast.specs.Seen.{Seen as Token}
use Rattle.c_ast.specs.declared.int_type.IntType.TheVariants as integer
use Rattle.c_ast.specs.declared.expr.Expr.{Expr}
use Rattle.c_ast.specs.declared.expr.CType.TheOpen.{Node-F}
use Rattle.c_grammar.specs.Expressions.{Primary, Postfix, Arguments, ArgumentList, Unary, Cast, Binary, Conditional, Expression, one_text}
use Rattle.c_grammar.specs.Expressions as grammar
use Rattle.c_print.specs.Words.{with_commas}
use Rattle.c_print.specs.Laws.SeenTokens.{tokens_of}
use Rattle.c_print.specs.Expressions.{lexemes_of}
use Rattle.c_print.specs.Spans.{bare}
use Rattle.c_print.proofs.Lists.{tokens-append, tokens-inside, tokens-inside_two, tokens-behind, tokens-step_before, tokens-step_behind}
use Rattle.c_print.proofs.Lists.{NonEmpty, nonempty-append, with_commas-append}
use Rattle.c_print.proofs.Made.{expr_made}
use Rattle.c_print.proofs.TypeSpelled.{type_name_spelled}

some_argument : {h : ℕ} {es : List Expr} {w : List Token} → ArgumentList h es w → NonEmpty es
some_argument (grammar.argument {e} d) = record { first = e; rest = []; is = refl }
some_argument (grammar.more_argument {es} {e} c d p x) = nonempty-append es e

mutual
  unfolding given_trees

  pub primary_spelled : {h : ℕ} {e : Expr} {w : List Token} → Primary h e w → Primary h (bare e) (tokens_of (lexemes_of e))
  primary_spelled (grammar.variable {n} t k) = expr_made (Primary 0) _ (Node-F.Variable n) refl (grammar.variable _ refl)
  primary_spelled (grammar.number {value} {ty} t k) = expr_made (Primary 0) _ (Node-F.Constant value ty) refl (grammar.number _ refl)
  primary_spelled (grammar.character {value} t k) = expr_made (Primary 0) _ (Node-F.Constant value integer.Int) refl (grammar.number _ refl)
  primary_spelled (grammar.text {bytes} ts) = expr_made (Primary 0) _ (Node-F.Text bytes) refl (grammar.text (one_text _ refl))
  primary_spelled {h} (grammar.paren {e} l r pl d pr) = expr_made (Primary h) _ (Node-F.Paren e) (tokens-inside _ _ _)
      (grammar.paren _ _ refl (expression_spelled d) refl)

  pub postfix_spelled : {h : ℕ} {e : Expr} {w : List Token} → Postfix h e w → Postfix h (bare e) (tokens_of (lexemes_of e))
  postfix_spelled (grammar.primary d) = grammar.primary (primary_spelled d)
  postfix_spelled {h} (grammar.index {e} {i} l r d pl x pr) =
      expr_made (Postfix h) _ (Node-F.Index e i) (tokens-behind _ _ _ _)
      (grammar.index _ _ (postfix_spelled d) refl (expression_spelled x) refl)
  postfix_spelled {h} (grammar.call {e} {es} l r d pl xs pr) =
      expr_made (Postfix h) _ (Node-F.Call e es) (tokens-behind _ _ _ _)
      (grammar.call _ _ (postfix_spelled d) refl (arguments_spelled xs) refl)
  postfix_spelled {h} (grammar.member {e} {n} p t d pd k) = expr_made (Postfix h) _ (Node-F.Member e n) (tokens-append _ _)
      (grammar.member _ _ (postfix_spelled d) refl refl)
  postfix_spelled {h} (grammar.arrow {e} {n} p t d pd k) = expr_made (Postfix h) _ (Node-F.Arrow e n) (tokens-append _ _)
      (grammar.arrow _ _ (postfix_spelled d) refl refl)
  postfix_spelled {h} (grammar.step_behind {e} {s} t d w) =
      expr_made (Postfix h) _ (Node-F.Step s e) (tokens-step_behind _ _ _ w.0) (grammar.step_behind _ (postfix_spelled d) (w.0, refl))

  pub arguments_spelled : {h : ℕ} {es : List Expr} {w : List Token} → Arguments h es w →
      Arguments h (map bare es) (tokens_of (with_commas (map lexemes_of es)))
  arguments_spelled grammar.no_argument = grammar.no_argument
  arguments_spelled (grammar.arguments d) = grammar.arguments (list_spelled d)

  pub list_spelled : {h : ℕ} {es : List Expr} {w : List Token} → ArgumentList h es w →
      ArgumentList h (map bare es) (tokens_of (with_commas (map lexemes_of es)))
  list_spelled (grammar.argument d) = rw append-nil (grammar.argument (expression_spelled d))
  list_spelled (grammar.more_argument {es} {e} c d p x) =
      rw (map-append, with_commas-append lexemes_of es e (some_argument d), tokens-append)
      (grammar.more_argument _ (list_spelled d) refl (expression_spelled x))

  pub unary_spelled : {h : ℕ} {e : Expr} {w : List Token} → Unary h e w → Unary h (bare e) (tokens_of (lexemes_of e))
  unary_spelled (grammar.postfix d) = grammar.postfix (postfix_spelled d)
  unary_spelled {h} (grammar.step_before {e} {s} t w d) = expr_made (Unary h) _ (Node-F.Step s e) (tokens-step_before _ _ _ w.0)
      (grammar.step_before _ (w.0, refl) (unary_spelled d))
  unary_spelled {h} (grammar.operated {e} {o} t w d) = expr_made (Unary h) _ (Node-F.Unary o e) refl
      (grammar.operated _ refl (cast_spelled d))
  unary_spelled {h} (grammar.sizeof_expr {e} t k d) = expr_made (Unary h) _ (Node-F.SizeofExpr e) refl
      (grammar.sizeof_expr _ refl (unary_spelled d))
  unary_spelled {h} (grammar.sizeof_name {ty} t l r k pl n pr) =
      expr_made (Unary h) _ (Node-F.SizeofName ty) (tokens-inside_two _ _ _ _)
      (grammar.sizeof_name _ _ _ refl refl (type_name_spelled n) refl)

  pub cast_spelled : {h : ℕ} {e : Expr} {w : List Token} → Cast h e w → Cast h (bare e) (tokens_of (lexemes_of e))
  cast_spelled (grammar.unary d) = grammar.unary (unary_spelled d)
  cast_spelled {h} (grammar.cast {ty} {e} l r pl n pr d) =
      expr_made (Cast h) _ (Node-F.Cast ty e) (tokens-inside _ _ _) (grammar.cast _ _ refl (type_name_spelled n) refl (cast_spelled d))

  pub binary_spelled : {n h : ℕ} {e : Expr} {w : List Token} → Binary n h e w → Binary n h (bare e) (tokens_of (lexemes_of e))
  binary_spelled (grammar.operand d) = grammar.operand (cast_spelled d)
  binary_spelled (grammar.tighter d) = grammar.tighter (binary_spelled d)
  binary_spelled {n} {h} (grammar.operation {o} {a} {b} t d w x) =
      expr_made (Binary n h) _ (Node-F.Binary o a b) (tokens-append _ _)
      (grammar.operation _ (binary_spelled d) (w.0, refl) (binary_spelled x))

  pub conditional_spelled : {h : ℕ} {e : Expr} {w : List Token} → Conditional h e w → Conditional h (bare e) (tokens_of (lexemes_of e))
  conditional_spelled (grammar.binary d) = grammar.binary (binary_spelled d)
  conditional_spelled {h} (grammar.choice {c} {a} {b} q s d pq x ps y) =
      expr_made (Conditional h) _ (Node-F.Cond c a b) (tokens-behind _ _ _ _)
      (grammar.choice _ _ (binary_spelled d) refl (expression_spelled x) refl (conditional_spelled y))

  pub expression_spelled : {h : ℕ} {e : Expr} {w : List Token} → Expression h e w → Expression h (bare e) (tokens_of (lexemes_of e))
  expression_spelled (grammar.conditional d) = grammar.conditional (conditional_spelled d)
  expression_spelled {h} (grammar.assignment {o} {a} {b} t d w x) =
      expr_made (Expression h) _ (Node-F.Assign o a b) (tokens-append _ _)
      (grammar.assignment _ (unary_spelled d) refl (expression_spelled x))
