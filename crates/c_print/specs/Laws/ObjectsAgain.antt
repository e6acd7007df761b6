-- Other tokens with the lexemes of objects and their initialisers spell them again, spans aside.
use Rattle.std.specs.Prelude.{◌≡◌, ℕ, List, [], ◌∷◌, ◌++◌, map, Option, Some, None}
use Rattle.std.proofs.Common.{sym, ◌∙◌, ap}
use Rattle.c_ast.specs.declared.token.Span.{Span}
use Rattle.c_ast.specs.Seen.{Seen as Token}
use Rattle.c_ast.specs.declared.expr.CType.{CType}
use Rattle.c_ast.specs.declared.expr.Expr.{Expr}
use Rattle.c_ast.specs.declared.declaration.Init.{Init}
use Rattle.c_ast.specs.declared.declaration.Init.TheVariants as init
use Rattle.c_ast.specs.declared.declaration.Decl.{Decl}
use Rattle.c_grammar.specs.Words.{span_of}
use Rattle.c_grammar.specs.Objects.{Initial, Initials, Object, Objects, Local}
use Rattle.c_grammar.specs.Objects as grammar
use Rattle.c_print.specs.Spans.{no_span, bare, bare_init, bare_decl}
use Rattle.c_print.specs.Laws.BareLaws.{one_bare, list_bare}
use Rattle.c_print.specs.Laws.Again.{Again, Alike, done, word, before, last, more_alike}
use Rattle.c_print.specs.Laws.TypesAgain.{base_again}
use Rattle.c_print.specs.Laws.ExpressionsAgain.{expression_again}
use Rattle.c_print.specs.Laws.DeclaratorsAgain.{declarator_again}

one_alike : (d e : Expr) → bare d ≡ bare e → bare_init (init.One d) ≡ bare_init (init.One e)
one_alike d e same = one_bare d ∙ ap init.One same ∙ sym (one_bare e)

list_alike : (is js : List Init) (s z : Span) → map bare_init is ≡ map bare_init js →
    bare_init (init.List is s) ≡ bare_init (init.List js z)
list_alike is js s z same = list_bare is s ∙ ap (λ is. init.List is no_span) same ∙ sym (list_bare js z)

mutual
  pub initial_again : {h : ℕ} {i : Init} {w : List Token} → Initial h i w → Alike w (Again (Initial h) bare_init i)
  initial_again (grammar.value {e} d) = last (expression_again d)
      (λ u a. record { tree = init.One a.tree; word = grammar.value a.word; same = one_alike a.tree e a.same })
  initial_again (grammar.braces {is} l r pl d pr) =
      word l pl (λ l pl. before (initials_again d) (λ u a. word r pr (λ r pr. done
      (record { tree = init.List a.tree _; word = grammar.braces l r pl a.word pr; same = list_alike a.tree is _ _ a.same }))))
  initial_again (grammar.braces_comma {is} l c r pl d pc pr) =
      word l pl (λ l pl. before (initials_again d) (λ u a. word c pc (λ c pc. word r pr (λ r pr. done
      (record { tree = init.List a.tree _; word = grammar.braces_comma l c r pl a.word pc pr; same = list_alike a.tree is _ _ a.same })))))

  pub initials_again : {h : ℕ} {is : List Init} {w : List Token} → Initials h is w → Alike w (Again (Initials h) (map bare_init) is)
  initials_again (grammar.initial d) = last (initial_again d)
      (λ u a. record { tree = a.tree ∷ []; word = grammar.initial a.word; same = ap (λ i. i ∷ []) a.same })
  initials_again (grammar.more_initial {is} {i} c d p x) =
      before (initials_again d) (λ u a. word c p (λ c p. last (initial_again x) (λ v b. record {
        tree = a.tree ++ b.tree ∷ [];
        word = grammar.more_initial c a.word p b.word;
        same = more_alike bare_init a.tree is b.tree i a.same b.same;
      })))

abbrev pub declared : List ℕ → CType → Option Init → Span → Decl
declared name ty i s = record { name = name; ty = ty; init = i; span = s }

object_again : {base : CType} {h : ℕ} {d : Decl} {w : List Token} → Object base h d w → Alike w (Again (Object base h) bare_decl d)
object_again (grammar.plain {name} d) =
    last (declarator_again d) (λ u a. record {
      tree = declared name a.tree None (span_of u);
      word = grammar.plain a.word;
      same = λ i. declared name (a.same i) None no_span;
    })
object_again (grammar.initialised {name} t d p x) =
    before (declarator_again d) (λ u a. word t p (λ t p. last (initial_again x) (λ v b. record {
      tree = declared name a.tree (Some b.tree) (span_of (u ++ t ∷ v));
      word = grammar.initialised t a.word p b.word;
      same = λ i. declared name (a.same i) (Some (b.same i)) no_span;
    })))

pub objects_again : {base : CType} {h : ℕ} {ds : List Decl} {w : List Token} → Objects base h ds w →
    Alike w (Again (Objects base h) (map bare_decl) ds)
objects_again (grammar.object d) = last (object_again d) (λ u
    a. record { tree = a.tree ∷ []; word = grammar.object a.word; same = ap (λ d. d ∷ []) a.same })
objects_again (grammar.more_object {ds} {d} c ms p m) =
    before (objects_again ms) (λ u a. word c p (λ c p. last (object_again m) (λ v b. record {
      tree = a.tree ++ b.tree ∷ [];
      word = grammar.more_object c a.word p b.word;
      same = more_alike bare_decl a.tree ds b.tree d a.same b.same;
    })))

pub local_again : {h : ℕ} {ds : List Decl} {w : List Token} → Local h ds w → Alike w (Again (Local h) (map bare_decl) ds)
local_again (grammar.local s b os p) =
    before (base_again b) (λ u b. before (objects_again os) (λ v a. word s p
    (λ s p. done (record { tree = a.tree; word = grammar.local s b a.word p; same = a.same }))))
