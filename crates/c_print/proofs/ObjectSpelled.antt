-- The lexemes of a declaration of objects spell it.
use Rattle.std.proofs.Common.{◌≡◌, refl, ℕ, suc, max, List, [], ◌∷◌, ◌++◌, map, Some, None, sym, ◌∙◌, subst}
use Rattle.std.proofs.lemmas.List.{append-nil, map-append}
use Rattle.c_ast.specs.Laws.Opened.{given_trees}
use Rattle.c_ast.specs.declared.token.Lexeme.{Lexeme}
use Rattle.c_ast.specs.declared.token.Lexeme.TheVariants as lexeme
use Rattle.c_ast.specs.Seen.{Seen as Token}
use Rattle.c_ast.specs.declared.token.Span.{Span}
use Rattle.c_ast.specs.declared.expr.CType.{CType}
use Rattle.c_ast.specs.declared.expr.Expr.{Expr}
use Rattle.c_ast.specs.declared.declaration.Init.{Init}
use Rattle.c_ast.specs.declared.declaration.Init.TheVariants as init
use Rattle.c_ast.specs.declared.declaration.Init.TheOpen.{Init-F}
use Rattle.c_ast.specs.declared.declaration.Init.TheFolds.{fold-roll-Init}
use Rattle.c_ast.specs.declared.declaration.Decl.{Decl}
use Rattle.c_ast.specs.declared.punctuator.Punctuator.TheVariants as mark
use Rattle.c_grammar.specs.Objects.{Initial, Initials, Object, Objects, Local}
use Rattle.c_grammar.specs.Objects as grammar
use Rattle.c_print.specs.Words.{punct, with_commas}
use Rattle.c_print.specs.Laws.SeenTokens.{token_of, tokens_of}
use Rattle.c_print.specs.Expressions.{lexemes_of, parts_of}
use Rattle.c_print.specs.Declarations.{init_step, init_of, among, object_of, base_of, objects_of}
use Rattle.c_print.specs.Spans.{no_span, bare, bare_type, bare_init, bare_decl}
use Rattle.c_print.specs.Laws.BareLaws.{one_bare, list_bare}
use Rattle.c_print.proofs.Lists.{tokens-append, tokens-inside, tokens-three, NonEmpty, nonempty-append, with_commas-append, placed}
use Rattle.c_print.proofs.TypeSpelled.{Plain, base_plain, base_spelled}
use Rattle.c_print.proofs.ExpressionSpelled.{expression_spelled}
use Rattle.c_print.proofs.DeclaratorSpelled.{declarator_spelled, declarator_base}

-- a fact of an initialiser made of its parts
value_made : (P : Init → List Token → Type 0) (e : Expr) → P (init.One (bare e)) (tokens_of (lexemes_of e)) →
    P (bare_init (init.One e)) (tokens_of (init_of (init.One e)))
unfolding given_trees
value_made P e p =
    let tree = one_bare e in
    let words = fold-roll-Init (List Lexeme) init_step (Init-F.One e) in
    let Q : Init → Type 0 = λ i. P i (tokens_of (lexemes_of e)) in
    let R : List Lexeme → Type 0 = λ ls. P (bare_init (init.One e)) (tokens_of ls) in
    subst R (sym words) (subst Q (sym tree) p)

list_made : (P : Init → List Token → Type 0) (is : List Init) (s : Span) →
    P (init.List (map bare_init is) no_span) (tokens_of (init_step (Init-F.List (map init_of is) s))) →
    P (bare_init (init.List is s)) (tokens_of (init_of (init.List is s)))
unfolding given_trees
list_made P is s p =
    let tree = list_bare is s in
    let words = fold-roll-Init (List Lexeme) init_step (Init-F.List is s) in
    let Q : Init → Type 0 = λ i. P i (tokens_of (init_step (Init-F.List (map init_of is) s))) in
    let R : List Lexeme → Type 0 = λ ls. P (bare_init (init.List is s)) (tokens_of ls) in
    subst R (sym words) (subst Q (sym tree) p)

some_initial : {h : ℕ} {is : List Init} {w : List Token} → Initials h is w → NonEmpty is
some_initial (grammar.initial {i} d) = record { first = i; rest = []; is = refl }
some_initial (grammar.more_initial {is} {i} c d p x) = nonempty-append is i

braces_spelled : {h : ℕ} (is : List Init) → Initials h (map bare_init is) (tokens_of (with_commas (map init_of is))) → (s : Span) →
    Initial (suc h) (bare_init (init.List is s)) (tokens_of (init_of (init.List is s)))
braces_spelled {h} is d s =
    list_made (Initial (suc h)) is s
    (placed (λ z w. Initial (suc h) (init.List (map bare_init is) z) w) (init_step (Init-F.List (map init_of is) s)) (tokens-inside _ _ _)
    (grammar.braces (token_of (punct mark.LeftBrace)) (token_of (punct mark.RightBrace)) refl d refl))

mutual
  pub initial_spelled : {h : ℕ} {i : Init} {w : List Token} → Initial h i w → Initial h (bare_init i) (tokens_of (init_of i))
  initial_spelled {h} (grammar.value {e} d) = value_made (Initial h) e (grammar.value (expression_spelled d))
  initial_spelled (grammar.braces {is} l r pl d pr) = braces_spelled is (initials_spelled d) _
  initial_spelled (grammar.braces_comma {is} l c r pl d pc pr) = braces_spelled is (initials_spelled d) _

  pub initials_spelled : {h : ℕ} {is : List Init} {w : List Token} → Initials h is w →
      Initials h (map bare_init is) (tokens_of (with_commas (map init_of is)))
  initials_spelled (grammar.initial d) = rw append-nil (grammar.initial (initial_spelled d))
  initials_spelled (grammar.more_initial {is} {i} c d p x) =
      rw (map-append bare_init is (i ∷ []), with_commas-append init_of is i (some_initial d), tokens-append)
      (grammar.more_initial _ (initials_spelled d) refl (initial_spelled x))

object_spelled : {base : CType} {h : ℕ} {d : Decl} {w : List Token} → Plain base → Object base h d w →
    Object (bare_type base) h (bare_decl d) (tokens_of (object_of d))
object_spelled {base} plain (grammar.plain {h} {name} {ty} d) =
    rw append-nil (placed (λ z w. Object (bare_type base) h (record { name = name; ty = bare_type ty; init = None; span = z }) w)
    (among (parts_of ty) (lexeme.Name name ∷ [])) refl (grammar.plain (declarator_spelled plain d)))
object_spelled {base} plain (grammar.initialised {h} {k} {name} {ty} {i} t d p x) =
    placed (λ z w. Object (bare_type base) (max h (suc k)) (record {
      name = name;
      ty = bare_type ty;
      init = Some (bare_init i);
      span = z;
    }) w)
    (among (parts_of ty) (lexeme.Name name ∷ []) ++ punct mark.Equal ∷ init_of i) (tokens-append _ _)
    (grammar.initialised (token_of (punct mark.Equal)) (declarator_spelled plain d) refl (initial_spelled x))

object_base : {base : CType} {h : ℕ} {d : Decl} {w : List Token} → Object base h d w → (parts_of d.ty).base ≡ (parts_of base).base
object_base (grammar.plain d) = declarator_base d
object_base (grammar.initialised t d p x) = declarator_base d

pub some_object : {base : CType} {h : ℕ} {ds : List Decl} {w : List Token} → Objects base h ds w → NonEmpty ds
some_object (grammar.object {d} o) = record { first = d; rest = []; is = refl }
some_object (grammar.more_object {ds} {d} c os p o) = nonempty-append ds d

base_append : (ds : List Decl) (d : Decl) → NonEmpty ds → base_of (ds ++ d ∷ []) ≡ base_of ds
base_append ds d some = rw some.is refl

pub objects_base : {base : CType} {h : ℕ} {ds : List Decl} {w : List Token} → Objects base h ds w → base_of ds ≡ (parts_of base).base
objects_base (grammar.object o) = object_base o
objects_base (grammar.more_object {ds} {d} c os p o) = base_append ds d (some_object os) ∙ objects_base os

pub objects_spelled : {base : CType} {h : ℕ} {ds : List Decl} {w : List Token} → Plain base → Objects base h ds w →
    Objects (bare_type base) h (map bare_decl ds) (tokens_of (with_commas (map object_of ds)))
objects_spelled plain (grammar.object o) = rw append-nil (grammar.object (object_spelled plain o))
objects_spelled plain (grammar.more_object {ds} {d} c os p o) =
    rw (map-append bare_decl ds (d ∷ []), with_commas-append object_of ds d (some_object os), tokens-append)
    (grammar.more_object _ (objects_spelled plain os) refl (object_spelled plain o))

pub local_spelled : {h : ℕ} {ds : List Decl} {w : List Token} → Local h ds w → Local h (map bare_decl ds) (tokens_of (objects_of ds))
local_spelled (grammar.local {ds} s b os p) =
    rw (objects_base os, tokens-three) (grammar.local (token_of (punct mark.Semicolon)) (base_spelled b)
    (objects_spelled (base_plain b) os) refl)
