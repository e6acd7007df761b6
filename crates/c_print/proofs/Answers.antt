-- What is printed of a list or a name that is empty, and of one that is not.
use Rattle.std.proofs.Common.{◌≡◌, refl, ℕ, ◌≢◌, List, [], ◌∷◌, ◌++◌, map, length, Option, Some, None, arith, slice_get}
use Rattle.c_ast.specs.declared.token.Lexeme.TheVariants as lexeme
use Rattle.c_ast.specs.declared.expr.Expr.{Expr}
use Rattle.c_ast.specs.declared.declaration.Decl.{Decl}
use Rattle.c_ast.specs.declared.keyword.Keyword.TheVariants as key
use Rattle.c_ast.specs.declared.punctuator.Punctuator.TheVariants as mark
use Rattle.c_print.specs.Words.{word, punct, with_commas}
use Rattle.c_print.specs.Expressions.{parts_of}
use Rattle.c_print.specs.Declarations.{base_of, objects_of, parameter_name, parameter_of, parameter_words}
use Rattle.c_print.specs.Statements.{maybe_of, first_of_for}

pub base_of_first : (ds : List Decl) (d : Decl) → slice_get ds 0 ≡ Some d → base_of ds ≡ (parts_of d.ty).base
base_of_first [] d is = cc
base_of_first (e ∷ ds) d is = let same : Some e ≡ Some d = is in cc

pub base_of_none : (ds : List Decl) → slice_get ds 0 ≡ None → base_of ds ≡ []
base_of_none [] is = refl
base_of_none (e ∷ ds) is = let same : Some e ≡ None = is in cc

pub named_parameter : (name : List ℕ) → length name ≢ 0 → parameter_name name ≡ lexeme.Name name ∷ []
named_parameter [] some = absurd (some refl)
named_parameter (b ∷ bs) some = refl

pub unnamed_parameter : (name : List ℕ) → length name ≡ 0 → parameter_name name ≡ []
unnamed_parameter [] none = refl
unnamed_parameter (b ∷ bs) none = absurd (omega arith)

pub some_parameters : (ds : List Decl) → length ds ≢ 0 → parameter_words ds ≡ with_commas (map parameter_of ds)
some_parameters [] some = absurd (some refl)
some_parameters (d ∷ ds) some = refl

pub no_parameters : (ds : List Decl) → length ds ≡ 0 → parameter_words ds ≡ word key.Void ∷ []
no_parameters [] none = refl
no_parameters (d ∷ ds) none = absurd (omega arith)

pub first_declared : (ds : List Decl) (e : Option Expr) → length ds ≢ 0 → first_of_for ds e ≡ objects_of ds
first_declared [] e some = absurd (some refl)
first_declared (d ∷ ds) e some = refl

pub first_expression : (ds : List Decl) (e : Option Expr) → length ds ≡ 0 → first_of_for ds e ≡ maybe_of e ++ punct mark.Semicolon ∷ []
first_expression [] e none = refl
first_expression (d ∷ ds) e none = absurd (omega arith)
