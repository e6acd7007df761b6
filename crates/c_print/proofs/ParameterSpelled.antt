-- The lexemes of parameters spell them.
use Rattle.std.proofs.Common.{◌≡◌, refl, ℕ, List, [], ◌∷◌, ◌++◌, map, None, ◌∙◌}
use Rattle.std.proofs.lemmas.List.{append-nil, map-append}
use Rattle.c_ast.specs.Seen.{Seen as Token}
use Rattle.c_ast.specs.declared.declaration.Decl.{Decl}
use Rattle.c_ast.specs.declared.punctuator.Punctuator.TheVariants as mark
use Rattle.c_grammar.specs.Parameters.{ParameterName, unnamed, named, Parameter, ParameterList, Parameters}
use Rattle.c_grammar.specs.Parameters as grammar
use Rattle.c_grammar.specs.Laws.VoidLaws.{void_word}
use Rattle.c_grammar.specs.Declarators.{arrays}
use Rattle.c_print.specs.Words.{punct, with_commas}
use Rattle.c_print.specs.Laws.SeenTokens.{token_of, tokens_of}
use Rattle.c_print.specs.Expressions.{parts_of}
use Rattle.c_print.specs.Declarations.{parameter_name, parameter_of, parameter_words, parameters_of}
use Rattle.c_print.specs.Spans.{bare_type, bare_decl}
use Rattle.c_print.specs.Laws.BareLaws.{bare_length, arrays_bare}
use Rattle.c_print.specs.Laws.ParametersAgain.{void_back}
use Rattle.c_print.proofs.Lists.{tokens-append, tokens-four, NonEmpty, nonempty-append, with_commas-append, placed}
use Rattle.c_print.proofs.TypeSpelled.{base_plain, base_spelled, stars_spelled, stars_base, stars_brackets}
use Rattle.c_print.proofs.DeclaratorSpelled.{arrays_base, arrays_stars, arrays_brackets, brackets_of, brackets_spelled}

name_spelled : (name : List ℕ) → ParameterName name (tokens_of (parameter_name name))
name_spelled [] = unnamed
name_spelled (b ∷ bs) = named _ refl

parameter_spelled : {h : ℕ} {d : Decl} {w : List Token} → Parameter h d w → Parameter h (bare_decl d) (tokens_of (parameter_of d))
parameter_spelled (grammar.parameter {h} {base} {ty} {name} {lengths} b s n br) =
    rw (
      arrays_bare ty lengths,
      arrays_base ty lengths,
      arrays_stars ty lengths,
      arrays_brackets ty lengths
          (stars_brackets s ∙ (base_plain b).brackets),
      stars_base s,
    )
    (placed (λ z w. Parameter h (record { name = name; ty = arrays (bare_type ty) (map bare_length lengths); init = None; span = z }) w)
    ((parts_of base).base ++ ((parts_of ty).stars ++ (parameter_name name ++ brackets_of lengths)))
    (tokens-four (parts_of base).base (parts_of ty).stars (parameter_name name) (brackets_of lengths))
    (grammar.parameter (base_spelled b) (stars_spelled s (base_plain b).stars) (name_spelled name) (brackets_spelled br)))

some_parameter : {h : ℕ} {ds : List Decl} {w : List Token} → ParameterList h ds w → NonEmpty ds
some_parameter (grammar.one_parameter {d} p) = record { first = d; rest = []; is = refl }
some_parameter (grammar.more_parameter {ds} {d} c ps pc p) = nonempty-append ds d

list_spelled : {h : ℕ} {ds : List Decl} {w : List Token} → ParameterList h ds w →
    ParameterList h (map bare_decl ds) (tokens_of (with_commas (map parameter_of ds)))
list_spelled (grammar.one_parameter p) = rw append-nil (grammar.one_parameter (parameter_spelled p))
list_spelled (grammar.more_parameter {ds} {d} c ps pc p) =
    rw (map-append bare_decl ds (d ∷ []), with_commas-append parameter_of ds d (some_parameter ps), tokens-append)
    (grammar.more_parameter _ (list_spelled ps) refl (parameter_spelled p))

some_words : (ds : List Decl) → NonEmpty ds → parameter_words ds ≡ with_commas (map parameter_of ds)
some_words ds some = rw some.is refl

pub parameters_spelled : {h : ℕ} {ds : List Decl} {w : List Token} → Parameters h ds w →
    Parameters h (map bare_decl ds) (tokens_of (parameters_of ds))
parameters_spelled (grammar.no_word l r pl pr) = void_word _ _ _ refl refl refl
parameters_spelled (grammar.void l r pl ps one pr) = void_word _ _ _ refl refl refl
parameters_spelled (grammar.parameters {ds} l r pl ps more pr) =
    rw (some_words ds (some_parameter ps), tokens-append (with_commas (map parameter_of ds)) (punct mark.RightParen ∷ []))
    (grammar.parameters (token_of (punct mark.LeftParen)) (token_of (punct mark.RightParen)) refl (list_spelled ps)
    (λ one. more (void_back ds one)) refl)
