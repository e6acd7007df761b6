-- Other tokens with the lexemes of a declarator spell it again, spans aside.
use Rattle.std.specs.Prelude.{◌≡◌, ℕ, suc, ◌+◌, max, List, [], ◌∷◌, ◌++◌, map, length, Option, Some, None, refl}
use Rattle.std.proofs.Common.{sym, ◌∙◌, ap, subst}
use Rattle.std.proofs.lemmas.List.{length-map}
use Rattle.c_ast.specs.Seen.{Seen as Token}
use Rattle.c_ast.specs.declared.expr.CType.{CType}
use Rattle.c_ast.specs.declared.expr.Expr.{Expr}
use Rattle.c_grammar.specs.Declarators.{arrays, Length, Brackets, Declarator}
use Rattle.c_grammar.specs.Declarators as grammar
use Rattle.c_print.specs.Spans.{bare_type}
use Rattle.c_print.specs.Laws.BareLaws.{bare_length, arrays_alike}
use Rattle.c_print.specs.Laws.Again.{Again, Alike, done, kind, word, before, last, more_alike}
use Rattle.c_print.specs.Laws.TypesAgain.{stars_again}
use Rattle.c_print.specs.Laws.ExpressionsAgain.{conditional_again}

length_again : {h : ℕ} {size : Option Expr} {w : List Token} → Length h size w → Alike w (Again (Length h) bare_length size)
length_again grammar.no_length = done (record { tree = None; word = grammar.no_length; same = refl })
length_again (grammar.length_of d) = last (conditional_again d)
    (λ u a. record { tree = Some a.tree; word = grammar.length_of a.word; same = ap Some a.same })

-- there are as many lengths
as_many : (ls ms : List (Option Expr)) → map bare_length ls ≡ map bare_length ms → length ls ≡ length ms
as_many ls ms e = sym (length-map ls bare_length) ∙ ap length e ∙ length-map ms bare_length

pub brackets_again : {above h : ℕ} {lengths : List (Option Expr)} {w : List Token} → Brackets above h lengths w →
    Alike w (Again (Brackets above h) (map bare_length) lengths)
brackets_again grammar.no_bracket = done (record { tree = []; word = grammar.no_bracket; same = refl })
brackets_again {above} (grammar.bracket {h} {k} {lengths} {size} l r b pl n pr) =
    before (brackets_again b) (λ u a. word l pl (λ l pl. before (length_again n) (λ v c. word r pr (λ r pr. done (record {
      tree = a.tree ++ c.tree ∷ [];
      word = subst (λ m. Brackets above (max h (suc (above + m) + k)) (a.tree ++ c.tree ∷ []) (u ++ (l ∷ v ++ r ∷ [])))
          (as_many a.tree lengths a.same) (grammar.bracket l r a.word pl c.word pr);
      same = more_alike bare_length a.tree lengths c.tree size a.same c.same;
    })))))

pub declarator_again : {base : CType} {h : ℕ} {name : List ℕ} {ty : CType} {w : List Token} → Declarator base h name ty w →
    Alike w (Again (Declarator base h name) bare_type ty)
declarator_again (grammar.declarator {ty} {lengths} t s k b) =
    before (stars_again s) (λ u s. kind t k (λ t k. last (brackets_again b) (λ v a. record {
      tree = arrays ty a.tree;
      word = grammar.declarator t s k a.word;
      same = arrays_alike ty a.tree lengths a.same;
    })))
