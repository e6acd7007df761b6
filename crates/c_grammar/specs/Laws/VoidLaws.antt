-- A list of parameters that is one `void` (ISO C11 6.7.6.3 paragraph 10).
use Rattle.std.specs.Prelude.{◌≡◌, ℕ, ◌<◌, List, [], ◌∷◌, length, Option, None, refl}
use Rattle.std.proofs.Common.{ap, arith, length-append}
use Rattle.c_ast.specs.Seen.{Seen as Token}
use Rattle.c_ast.specs.declared.expr.CType.{CType, out-CType}
use Rattle.c_ast.specs.declared.expr.CType.TheVariants as type
use Rattle.c_ast.specs.declared.expr.Expr.{Expr}
use Rattle.c_ast.specs.declared.declaration.Decl.{Decl}
use Rattle.c_ast.specs.declared.keyword.Keyword.TheVariants as key
use Rattle.c_ast.specs.declared.punctuator.Punctuator.TheVariants as mark
use Rattle.c_ast.specs.Laws.Opened.{given_trees}
use Rattle.c_grammar.specs.Words.{IsKeyword, IsPunct, span_of}
use Rattle.c_grammar.specs.Types as types
use Rattle.c_grammar.specs.Types.{Stars}
use Rattle.c_grammar.specs.Declarators.{arrays, Brackets, no_bracket, bracket}
use Rattle.c_grammar.specs.Parameters as grammar
use Rattle.c_grammar.specs.Parameters.{Parameter, ParameterList, Parameters, OneVoid, one_void}

-- "(" "void" ")" is no parameter
pub void_word : (l t r : Token) → IsPunct mark.LeftParen l → IsKeyword key.Void t → IsPunct mark.RightParen r →
    Parameters 0 [] (l ∷ t ∷ r ∷ [])
unfolding arrays
void_word l t r is_left is_void is_right =
    grammar.void l r is_left (grammar.one_parameter (grammar.parameter (types.void t is_void) types.none grammar.unnamed no_bracket))
    (one_void (record { name = []; ty = type.Void; init = None; span = span_of (t ∷ []) }) refl refl) is_right

-- ---- it has no level

no_star : {base ty : CType} {n : ℕ} {w : List Token} → Stars base n ty w → ty ≡ type.Void → n ≡ 0
unfolding given_trees
no_star types.none e = refl
no_star (types.star t s i) e = let l = ap out-CType e in cc

no_bracket_there : {base ty : CType} {n h : ℕ} {lengths : List (Option Expr)} {v w : List Token} → Stars base n ty v →
    Brackets n h lengths w → arrays ty lengths ≡ type.Void → h ≡ 0
unfolding given_trees arrays
no_bracket_there s no_bracket e = no_star s e
no_bracket_there s (bracket {lengths = []} l r br pl m pr) e = let l = ap out-CType e in cc
no_bracket_there s (bracket {lengths = x ∷ xs} l r br pl m pr) e = let l = ap out-CType e in cc

no_level : {h : ℕ} {d : Decl} {w : List Token} → Parameter h d w → d.ty ≡ type.Void → h ≡ 0
no_level (grammar.parameter b s n br) e = no_bracket_there s br e

some_parameter : {h : ℕ} {ds : List Decl} {w : List Token} → ParameterList h ds w → 0 < length ds
some_parameter (grammar.one_parameter m) = omega arith
some_parameter (grammar.more_parameter {ds} {d} c l e m) = omega (arith, length-append ds (d ∷ []))

one_long : {ds : List Decl} → OneVoid ds → length ds ≡ 1
one_long (one_void d n t) = refl

abbrev first_type : List Decl → CType
first_type [] = type.Void
first_type (d ∷ ds) = d.ty

void_first : {ds : List Decl} → OneVoid ds → first_type ds ≡ type.Void
void_first (one_void d n t) = t

pub void_levels : {h : ℕ} {ds : List Decl} {w : List Token} → ParameterList h ds w → OneVoid ds → h ≡ 0
void_levels (grammar.one_parameter m) one = no_level m (void_first one)
void_levels (grammar.more_parameter {ds} {d} c l e m) one =
    absurd (omega (arith, one_long one, length-append ds (d ∷ []), some_parameter l))
