-- The lexemes of a declarator spell it.
use Rattle.std.proofs.Common.{◌≡◌, refl, ℕ, List, [], ◌∷◌, ◌++◌, map, flat_map, Option, Some, None, ap, ◌∙◌}
use Rattle.std.proofs.lemmas.List.{append-nil, map-append, length-map}
use Rattle.std.proofs.lemmas.Grind.{flat_map-append}
use Rattle.c_ast.specs.Laws.Opened.{given_trees}
use Rattle.c_ast.specs.declared.token.Lexeme.{Lexeme}
use Rattle.c_ast.specs.declared.token.Lexeme.TheVariants as lexeme
use Rattle.c_ast.specs.Seen.{Seen as Token}
use Rattle.c_ast.specs.declared.expr.CType.{CType}
use Rattle.c_ast.specs.declared.expr.CType.TheOpen.{CType-F}
use Rattle.c_ast.specs.declared.expr.Expr.{Expr}
use Rattle.c_ast.specs.declared.punctuator.Punctuator.TheVariants as mark
use Rattle.c_grammar.specs.Declarators.{arrays, Length, no_length, length_of, Brackets, no_bracket, bracket, Declarator, declarator}
use Rattle.c_print.specs.Words.{punct}
use Rattle.c_print.specs.Laws.SeenTokens.{token_of, tokens_of}
use Rattle.c_print.specs.Expressions.{parts_of}
use Rattle.c_print.specs.Statements.{maybe_of}
use Rattle.c_print.specs.Declarations.{among}
use Rattle.c_print.specs.Spans.{bare_type}
use Rattle.c_print.specs.Laws.BareLaws.{bare_length, arrays_bare}
use Rattle.c_print.proofs.Lists.{tokens-append, tokens-behind}
use Rattle.c_print.proofs.Made.{type_made}
use Rattle.c_print.proofs.TypeSpelled.{Plain, stars_spelled, stars_base, stars_brackets}
use Rattle.c_print.proofs.ExpressionSpelled.{conditional_spelled}

abbrev pub bracket_of : Option Expr → List Lexeme
bracket_of size = punct mark.LeftBracket ∷ maybe_of size ++ punct mark.RightBracket ∷ []

abbrev pub brackets_of : List (Option Expr) → List Lexeme
brackets_of = flat_map bracket_of

pub arrays_base : (ty : CType) (sizes : List (Option Expr)) → (parts_of (arrays ty sizes)).base ≡ (parts_of ty).base
unfolding given_trees arrays
arrays_base ty [] = refl
arrays_base ty (None ∷ sizes) = type_made (λ t p. p.base ≡ (parts_of ty).base) (CType-F.Array (arrays ty sizes) None) (arrays_base ty sizes)
arrays_base ty (Some e ∷ sizes) = type_made (λ t p. p.base ≡ (parts_of ty).base) (CType-F.Array (arrays ty sizes) (Some e))
    (arrays_base ty sizes)

pub arrays_stars : (ty : CType) (sizes : List (Option Expr)) → (parts_of (arrays ty sizes)).stars ≡ (parts_of ty).stars
unfolding given_trees arrays
arrays_stars ty [] = refl
arrays_stars ty (None ∷ sizes) = type_made (λ t p. p.stars ≡ (parts_of ty).stars) (CType-F.Array (arrays ty sizes) None)
    (arrays_stars ty sizes)
arrays_stars ty (Some e ∷ sizes) = type_made (λ t p. p.stars ≡ (parts_of ty).stars) (CType-F.Array (arrays ty sizes) (Some e))
    (arrays_stars ty sizes)

pub arrays_brackets : (ty : CType) (sizes : List (Option Expr)) → (parts_of ty).brackets ≡ [] →
    (parts_of (arrays ty sizes)).brackets ≡ brackets_of sizes
unfolding given_trees arrays
arrays_brackets ty [] is = is
arrays_brackets ty (None ∷ sizes) is =
    type_made (λ t p. p.brackets ≡ brackets_of (None ∷ sizes)) (CType-F.Array (arrays ty sizes) None)
    (ap (λ w. bracket_of None ++ w) (arrays_brackets ty sizes is))
arrays_brackets ty (Some e ∷ sizes) is =
    type_made (λ t p. p.brackets ≡ brackets_of (Some e ∷ sizes)) (CType-F.Array (arrays ty sizes) (Some e))
    (ap (λ w. bracket_of (Some e) ++ w) (arrays_brackets ty sizes is))

length_spelled : {h : ℕ} {size : Option Expr} {w : List Token} → Length h size w → Length h (bare_length size) (tokens_of (maybe_of size))
length_spelled no_length = no_length
length_spelled (length_of e) = length_of (conditional_spelled e)

brackets_tokens : (sizes : List (Option Expr)) (size : Option Expr) →
    tokens_of (brackets_of (sizes ++ size ∷ [])) ≡ tokens_of
    (brackets_of sizes) ++ (token_of (punct mark.LeftBracket) ∷ tokens_of (maybe_of size) ++ token_of (punct mark.RightBracket) ∷ [])
brackets_tokens sizes size =
    ap tokens_of (flat_map-append bracket_of sizes (size ∷ []) ∙ ap (λ w. brackets_of sizes ++ w) (append-nil (bracket_of size))) ∙
    tokens-behind (brackets_of sizes) (punct mark.LeftBracket) (maybe_of size) (punct mark.RightBracket ∷ [])

pub brackets_spelled : {above h : ℕ} {sizes : List (Option Expr)} {w : List Token} → Brackets above h sizes w →
    Brackets above h (map bare_length sizes) (tokens_of (brackets_of sizes))
brackets_spelled no_bracket = no_bracket
brackets_spelled {above} (bracket {h} {k} {lengths} {size} l r b pl n pr) =
    rw (map-append bare_length lengths (size ∷ []), brackets_tokens lengths size, ← length-map lengths bare_length)
    (bracket (token_of (punct mark.LeftBracket)) (token_of (punct mark.RightBracket)) (brackets_spelled b) refl (length_spelled n) refl)

pub declarator_spelled : {base : CType} {h : ℕ} {name : List ℕ} {ty : CType} {w : List Token} → Plain base → Declarator base h name ty w →
    Declarator (bare_type base) h name (bare_type ty) (tokens_of (among (parts_of ty) (lexeme.Name name ∷ [])))
declarator_spelled plain (declarator {n} {h} {ty} {name} {lengths} t s k b) =
    rw (
      arrays_bare ty lengths,
      arrays_stars ty lengths,
      arrays_brackets ty lengths (stars_brackets s ∙ plain.brackets),
      tokens-append
          (parts_of ty).stars (lexeme.Name name ∷ brackets_of lengths),
    )
    (declarator (token_of (lexeme.Name name)) (stars_spelled s plain.stars) refl (brackets_spelled b))

pub declarator_base : {base : CType} {h : ℕ} {name : List ℕ} {ty : CType} {w : List Token} → Declarator base h name ty w →
    (parts_of ty).base ≡ (parts_of base).base
declarator_base (declarator {ty} {lengths} t s k b) = arrays_base ty lengths ∙ stars_base s
