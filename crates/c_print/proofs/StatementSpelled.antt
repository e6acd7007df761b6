-- The lexemes of a statement spell it.
use Rattle.std.proofs.Common.{◌≡◌, refl, ℕ, List, [], ◌∷◌, ◌++◌, map, Option, Some, None, ap, sym, ◌∙◌, subst}
use Rattle.std.proofs.lemmas.List.{append-nil, map-append}
use Rattle.std.proofs.lemmas.Grind.{flat_map-append}
use Rattle.c_ast.specs.Laws.Opened.{given_trees}
use Rattle.c_ast.specs.Tree.{StmtLayer, ItemLayer}
use Rattle.c_ast.specs.declared.token.Lexeme.{Lexeme}
use Rattle.c_ast.specs.Seen.{Seen as Token}
use Rattle.c_ast.specs.declared.expr.Expr.{Expr}
use Rattle.c_ast.specs.declared.declaration.Decl.{Decl}
use Rattle.c_ast.specs.declared.statement.Stmt.{Stmt, roll-Stmt, map-Stmt}
use Rattle.c_ast.specs.declared.statement.Stmt.TheVariants as stmt
use Rattle.c_ast.specs.declared.statement.Item.{Item, roll-Item, map-Item}
use Rattle.c_ast.specs.declared.statement.Item.TheOpen.{Item-F, Stmt-F}
use Rattle.c_ast.specs.declared.statement.Item.TheFolds.{fold-roll-Item, fold-roll-Stmt}
use Rattle.c_ast.specs.declared.keyword.Keyword.TheVariants as key
use Rattle.c_ast.specs.declared.punctuator.Punctuator.TheVariants as mark
use Rattle.c_grammar.specs.Objects as objects
use Rattle.c_grammar.specs.Objects.{Local}
use Rattle.c_grammar.specs.Statements.{Place, Ending, MaybeExpression, left_out, written, First, first_local, first_expression, Statement}
use Rattle.c_grammar.specs.Statements.{Block, BlockItems, BlockItem}
use Rattle.c_grammar.specs.Statements as grammar
use Rattle.c_print.specs.Words.{word, punct}
use Rattle.c_print.specs.Laws.SeenTokens.{token_of, tokens_of}
use Rattle.c_print.specs.Declarations.{objects_of}
use Rattle.c_print.specs.Statements.{maybe_of, first_of_for, joined, item_step, stmt_step, stmt_of, item_of}
use Rattle.c_print.specs.Spans.{option_map, bare, bare_decl, bare_item_step, bare_stmt_step, bare_stmt, bare_item}
use Rattle.c_print.specs.Laws.BareLaws.{bare_in_stmt, bare_in_item, stmt_bare, item_bare}
use Rattle.c_print.proofs.Lists.{tokens-append, tokens-inside, tokens-inside_two, tokens-behind, NonEmpty, placed}
use Rattle.c_print.proofs.ExpressionSpelled.{expression_spelled}
use Rattle.c_print.proofs.ObjectSpelled.{some_object, local_spelled}

abbrev lexemes_in : StmtLayer → Stmt-F (List Lexeme) (List Lexeme)
lexemes_in = map-Stmt Item Stmt (List Lexeme) (List Lexeme) item_of stmt_of

abbrev lexemes_in_item : ItemLayer → Item-F (List Lexeme) (List Lexeme)
lexemes_in_item = map-Item Item Stmt (List Lexeme) (List Lexeme) item_of stmt_of

-- a fact of a statement made of its parts
stmt_made : (P : Stmt → List Token → Type 0) (d : StmtLayer) {w : List Token} → tokens_of (stmt_step (lexemes_in d)) ≡ w →
    P (bare_stmt_step (bare_in_stmt d)) w →
    P (bare_stmt (roll-Stmt d)) (tokens_of (stmt_of (roll-Stmt d)))
stmt_made P d {w} is p =
    let tree = stmt_bare d in
    let words = fold-roll-Stmt (List Lexeme) (List Lexeme) item_step stmt_step d in
    let Q : Stmt → Type 0 = λ s. P s w in
    let R : List Token → Type 0 = P (bare_stmt (roll-Stmt d)) in
    subst R (sym (ap tokens_of words ∙ is)) (subst Q (sym tree) p)

item_made : (P : Item → List Token → Type 0) (d : ItemLayer) →
    P (bare_item_step (bare_in_item d)) (tokens_of (item_step (lexemes_in_item d))) →
    P (bare_item (roll-Item d)) (tokens_of (item_of (roll-Item d)))
item_made P d p =
    let tree = item_bare d in
    let words = fold-roll-Item (List Lexeme) (List Lexeme) item_step stmt_step d in
    let Q : Item → Type 0 = λ s. P s (tokens_of (item_step (lexemes_in_item d))) in
    let R : List Token → Type 0 = P (bare_item (roll-Item d)) in
    subst R (sym (ap tokens_of words)) (subst Q (sym tree) p)

maybe_spelled : {n : ℕ} {e : Option Expr} {w : List Token} → MaybeExpression n e w →
    MaybeExpression n (option_map bare e) (tokens_of (maybe_of e))
maybe_spelled left_out = left_out
maybe_spelled (written d) = written (expression_spelled d)

some_local : {h : ℕ} {ds : List Decl} {w : List Token} → Local h ds w → NonEmpty ds
some_local (objects.local s b os p) = some_object os

first_words : (ds : List Decl) (e : Option Expr) → NonEmpty ds → first_of_for ds e ≡ objects_of ds
first_words ds e some = rw some.is refl

first_spelled : {n : ℕ} {ds : List Decl} {e : Option Expr} {w : List Token} → First n ds e w →
    First n (map bare_decl ds) (option_map bare e) (tokens_of (first_of_for ds e))
first_spelled (first_local {ds} d) = rw (first_words ds None (some_local d)) (first_local (local_spelled d))
first_spelled (first_expression {e} s d p) = rw (tokens-append (maybe_of e) (punct mark.Semicolon ∷ []))
    (first_expression (token_of (punct mark.Semicolon)) (maybe_spelled d) refl)

joined_append : {A : Type 0} (f : A → List Lexeme) (xs : List A) (x : A) → joined (map f (xs ++ x ∷ [])) ≡ joined (map f xs) ++ f x
joined_append f xs x = simp (map-append, flat_map-append, append-nil)

else_tokens : (k l : Lexeme) (e : List Lexeme) (r : Lexeme) (s o : List Lexeme) →
    tokens_of (k ∷ l ∷ e ++ (r ∷ s ++ o)) ≡ token_of k ∷ token_of l ∷ tokens_of e ++ (token_of r ∷ tokens_of s ++ tokens_of o)
else_tokens k l e r s o = ap (λ w. token_of k ∷ token_of l ∷ w) (tokens-behind e r s o)

do_tokens : (k : Lexeme) (s : List Lexeme) (x l : Lexeme) (e r : List Lexeme) →
    tokens_of (k ∷ s ++ (x ∷ l ∷ e ++ r)) ≡ token_of k ∷ tokens_of s ++ (token_of x ∷ token_of l ∷ tokens_of e ++ tokens_of r)
do_tokens k s x l e r = tokens-inside k s (x ∷ l ∷ e ++ r) ∙ ap (λ w. token_of k ∷ tokens_of s ++ w) (tokens-inside_two x l e r)

for_tokens : (k l : Lexeme) (u v : List Lexeme) (z : Lexeme) (w r : List Lexeme) →
    tokens_of (k ∷ l ∷ u ++ (v ++ (z ∷ w ++ r))) ≡ token_of k ∷ token_of l ∷ tokens_of
    u ++ (tokens_of v ++ (token_of z ∷ tokens_of w ++ tokens_of r))
for_tokens k l u v z w r = tokens-inside_two k l u (v ++ (z ∷ w ++ r))
    ∙ ap (λ x. token_of k ∷ token_of l ∷ tokens_of u ++ x) (tokens-behind v z w r)

mutual
  unfolding given_trees

  pub statement_spelled : {p : Place} {a : Ending} {n : ℕ} {s : Stmt} {w : List Token} → Statement p a n s w →
      Statement p a n (bare_stmt s) (tokens_of (stmt_of s))
  statement_spelled (grammar.compound b) = grammar.compound (block_spelled b)
  statement_spelled {p} {a} {n} (grammar.expression {e} z d pz) =
      stmt_made (Statement p a n) (Stmt-F.Expr e) (tokens-append _ _) (grammar.expression _ (expression_spelled d) refl)
  statement_spelled {p} {a} {n} (grammar.empty z pz) = stmt_made (Statement p a n) Stmt-F.Empty refl (grammar.empty _ refl)
  statement_spelled {p} {a} {n} (grammar.if_then {e} {s} t l r kt pl d pr x) =
      stmt_made (Statement p a n) (Stmt-F.If e s None) (tokens-inside_two _ _ _ _)
      (grammar.if_then _ _ _ refl refl (expression_spelled d) refl (statement_spelled x))
  statement_spelled {p} {a} {n} (grammar.if_else {e} {s} {o} t l r x kt pl d pr y kx z) =
      stmt_made (Statement p a n) (Stmt-F.If e s (Some o)) (else_tokens _ _ _ _ _ _)
      (grammar.if_else _ _ _ _ refl refl (expression_spelled d) refl (statement_spelled y) refl (statement_spelled z))
  statement_spelled {p} {a} {n} (grammar.while_loop {e} {s} t l r kt pl d pr x) =
      stmt_made (Statement p a n) (Stmt-F.While e s) (tokens-inside_two _ _ _ _)
      (grammar.while_loop _ _ _ refl refl (expression_spelled d) refl (statement_spelled x))
  statement_spelled {p} {a} {n} (grammar.do_loop {e} {s} t x l r z kt y kx pl d pr pz) =
      stmt_made (Statement p a n) (Stmt-F.DoWhile s e) (do_tokens _ _ _ _ _ _)
      (grammar.do_loop _ _ _ _ _ refl (statement_spelled y) refl refl (expression_spelled d) refl refl)
  statement_spelled {p} {a} {n} (grammar.for_loop {ds} {e} {c} {d} {s} t l z r kt pl f m pz i pr x) =
      stmt_made (Statement p a n) (Stmt-F.For ds e c d s) (for_tokens _ _ _ _ _ _ _)
      (grammar.for_loop _ _ _ _ refl refl (first_spelled f) (maybe_spelled m) refl (maybe_spelled i) refl (statement_spelled x))
  statement_spelled {p} {a} {n} (grammar.return_word {e} t z kt m pz) =
      stmt_made (Statement p a n) (Stmt-F.Return e _) refl
      (placed (λ y w. Statement p a n (stmt.Return (option_map bare e) y) w) (word key.Return ∷ maybe_of e ++ punct mark.Semicolon ∷ [])
      (tokens-inside _ _ _)
      (grammar.return_word (token_of (word key.Return)) (token_of (punct mark.Semicolon)) refl (maybe_spelled m) refl))
  statement_spelled {p} {a} {n} (grammar.break_word t z kt pz) =
      stmt_made (Statement p a n) (Stmt-F.Break _) refl (grammar.break_word (token_of (word key.Break))
      (token_of (punct mark.Semicolon)) refl refl)
  statement_spelled {p} {a} {n} (grammar.continue_word t z kt pz) =
      stmt_made (Statement p a n) (Stmt-F.Continue _) refl (grammar.continue_word (token_of (word key.Continue))
      (token_of (punct mark.Semicolon)) refl refl)

  pub block_spelled : {p : Place} {n : ℕ} {s : Stmt} {w : List Token} → Block p n s w → Block p n (bare_stmt s) (tokens_of (stmt_of s))
  block_spelled {p} {n} (grammar.block {is} l r pl items pr) =
      stmt_made (Block p n) (Stmt-F.Block is) (tokens-inside _ _ _) (grammar.block _ _ refl (items_spelled items) refl)

  items_spelled : {p : Place} {n : ℕ} {is : List Item} {w : List Token} → BlockItems p n is w →
      BlockItems p n (map bare_item is) (tokens_of (joined (map item_of is)))
  items_spelled grammar.no_item = grammar.no_item
  items_spelled (grammar.more_item {is} {i} ds d) =
      rw (map-append bare_item is (i ∷ []), joined_append item_of is i, tokens-append (joined (map item_of is)) (item_of i))
      (grammar.more_item (items_spelled ds) (item_spelled d))

  item_spelled : {p : Place} {n : ℕ} {i : Item} {w : List Token} → BlockItem p n i w → BlockItem p n (bare_item i) (tokens_of (item_of i))
  item_spelled {p} {n} (grammar.local {ds} d) = item_made (BlockItem p n) (Item-F.Local ds) (grammar.local (local_spelled d))
  item_spelled {p} {n} (grammar.statement {s} d) = item_made (BlockItem p n) (Item-F.Stmt s) (grammar.statement (statement_spelled d))
