-- Other tokens with the lexemes of parameters spell them again, spans aside.
use Rattle.std.specs.Prelude.{◌≡◌, ◌≢◌, ℕ, List, [], ◌∷◌, ◌++◌, map, None, refl}
use Rattle.std.proofs.Common.{sym, ◌∙◌, ap, subst}
use Rattle.std.proofs.lemmas.List.Elements.{All-nil, All-cons, All-head, All-tail}
use Rattle.c_ast.specs.Seen.{Seen as Token}
use Rattle.c_ast.specs.declared.declaration.Decl.{Decl}
use Rattle.c_grammar.specs.Words.{span_of}
use Rattle.c_grammar.specs.Declarators.{arrays}
use Rattle.c_grammar.specs.Parameters.{ParameterName, unnamed, named, Parameter, ParameterList, OneVoid, one_void, Parameters, AllNamed}
use Rattle.c_grammar.specs.Parameters as grammar
use Rattle.c_print.specs.Spans.{no_span, bare_type, bare_decl}
use Rattle.c_print.specs.Laws.BareLaws.{arrays_alike, bare_void, void_bare}
use Rattle.c_print.specs.Laws.Again.{Again, Alike, done, kind, word, before, last, more_alike}
use Rattle.c_print.specs.Laws.TypesAgain.{base_again, stars_again}
use Rattle.c_print.specs.Laws.DeclaratorsAgain.{brackets_again}
use Rattle.c_print.specs.Laws.ObjectsAgain.{declared}

-- ---- one `void`

void_cleared : {ds : List Decl} → OneVoid ds → OneVoid (map bare_decl ds)
void_cleared (one_void d n t) = one_void (bare_decl d) n (ap bare_type t ∙ void_bare)

pub void_back : (ds : List Decl) → OneVoid (map bare_decl ds) → OneVoid ds
void_back [] h = elim h [ ]
void_back (d ∷ []) (one_void e n t) = one_void d n (bare_void d.ty t)
void_back (d ∷ e ∷ ds) h = elim h [ ]

-- likewise where they are alike
void_alike : (ds es : List Decl) → map bare_decl es ≡ map bare_decl ds → OneVoid ds → OneVoid es
void_alike ds es same one = void_back es (subst OneVoid (sym same) (void_cleared one))

-- ---- names

-- lists that are alike have the same names
pub all_named : (ds es : List Decl) → map bare_decl es ≡ map bare_decl ds → AllNamed ds → AllNamed es
all_named ds [] same each = All-nil (λ d. d.name ≢ [])
all_named [] (e ∷ es) same each = cc
all_named (d ∷ ds) (e ∷ es) same each =
    let one : bare_decl e ≡ bare_decl d = cc in
    let rest : map bare_decl es ≡ map bare_decl ds = cc in
    All-cons (λ d. d.name ≢ []) e es (λ none. All-head (λ d. d.name ≢ []) d ds each (sym (ap (λ (d : Decl). d.name) one) ∙ none))
    (all_named ds es rest (All-tail (λ d. d.name ≢ []) d ds each))

-- ---- parameters

name_again : {name : List ℕ} {w : List Token} → ParameterName name w → Alike w (ParameterName name)
name_again unnamed = done unnamed
name_again (named t k) = kind t k (λ t k. done (named t k))

parameter_again : {h : ℕ} {d : Decl} {w : List Token} → Parameter h d w → Alike w (Again (Parameter h) bare_decl d)
parameter_again (grammar.parameter {ty} {name} {lengths} b s n x) =
    before (base_again b) (λ u b. before (stars_again s) (λ v s. before (name_again n) (λ w n. last (brackets_again x) (λ x a. record {
      tree = declared name (arrays ty a.tree) None (span_of (u ++ (v ++ (w ++ x))));
      word = grammar.parameter b s n a.word;
      same = λ i. declared name (arrays_alike ty a.tree lengths a.same i) None no_span;
    }))))

list_again : {h : ℕ} {ds : List Decl} {w : List Token} → ParameterList h ds w → Alike w (Again (ParameterList h) (map bare_decl) ds)
list_again (grammar.one_parameter d) = last (parameter_again d)
    (λ u a. record { tree = a.tree ∷ []; word = grammar.one_parameter a.word; same = ap (λ d. d ∷ []) a.same })
list_again (grammar.more_parameter {ds} {d} c ms p m) =
    before (list_again ms) (λ u a. word c p (λ c p. last (parameter_again m) (λ v b. record {
      tree = a.tree ++ b.tree ∷ [];
      word = grammar.more_parameter c a.word p b.word;
      same = more_alike bare_decl a.tree ds b.tree d a.same b.same;
    })))

pub parameters_again : {h : ℕ} {ds : List Decl} {w : List Token} → Parameters h ds w → Alike w (Again (Parameters h) (map bare_decl) ds)
parameters_again (grammar.no_word l r pl pr) = word l pl (λ l pl. word r pr
    (λ r pr. done (record { tree = []; word = grammar.no_word l r pl pr; same = refl })))
parameters_again (grammar.void {ds} l r pl ps one pr) =
    word l pl (λ l pl. before (list_again ps) (λ v a. word r pr (λ r pr. done
    (record { tree = []; word = grammar.void l r pl a.word (void_alike ds a.tree a.same one) pr; same = refl }))))
parameters_again (grammar.parameters {ds} l r pl ps more pr) =
    word l pl (λ l pl. before (list_again ps) (λ v a. word r pr (λ r pr. done
    (record {
      tree = a.tree;
      word = grammar.parameters l r pl a.word (λ one. more (void_alike a.tree ds (sym a.same) one)) pr;
      same = a.same;
    }))))
