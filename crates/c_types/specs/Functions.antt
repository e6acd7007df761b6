-- Functions: parameters, heads and bodies (ISO C11 6.7.6.3, 6.9.1, 5.1.2.2.1).
use Rattle.std.specs.Prelude.{ℕ, Bool, true, false, not, ◌&&◌, ◌||◌, leb, List, [], ◌∷◌, length, map, codes, Option, Some, None}
use Rattle.std.specs.Prelude.{if◌then◌else◌}
use Rattle.std.specs.Str.{bytes_eq}
use Rattle.c_ast.specs.declared.int_type.IntType.TheVariants as int
use Rattle.c_ast.specs.declared.declaration.Decl.{Decl}
use Rattle.c_ast.specs.declared.program.Function.{Function}
use Rattle.c_type_base.specs.declared.ty.Ty.{Ty, out-Ty}
use Rattle.c_type_base.specs.declared.ty.Ty.TheVariants as ty
use Rattle.c_type_base.specs.declared.ty.Ty.TheOpen.{Ty-F}
use Rattle.c_type_base.specs.declared.typed.StructInfo.{StructInfo}
use Rattle.c_type_base.specs.Sizes.{size, is_complete, largest}
use Rattle.c_type_base.specs.Types.{TyLayer, same_type, is_void, is_scalar}
use Rattle.c_type_expr.specs.Faults.{Rule, rule}
use Rattle.c_type_expr.specs.declared.scopes.Signature.{Signature}
use Rattle.c_type_expr.specs.Environment.{Env, opened}
use Rattle.c_type_expr.specs.Outcomes.{Judged, on, each, behind, joined}
use Rattle.c_type_base.specs.declared.known.Written.{Written}
use Rattle.c_type_base.specs.declared.known.Written.TheVariants.{Whole, Open}
use Rattle.c_type_expr.specs.Said.{whole}
use Rattle.c_type_expr.specs.Expressions.{written}
use Rattle.c_type_stmt.specs.Declarations.{is_new, declares_local}
use Rattle.c_types.specs.Files.{is_static}

-- ---- parameters

abbrev pub adjusted_level : Ty → TyLayer → Ty
adjusted_level t (Ty-F.Array element n) = ty.Pointer element
adjusted_level t _ = t

-- an array parameter is a pointer (6.7.6.3 paragraph 7)
abbrev pub adjusted : Written → Ty
adjusted (Whole t) = adjusted_level t (out-Ty t)
adjusted (Open element) = ty.Pointer element

-- what stands in the parameter's type and has bytes: of an array its elements
abbrev pub counted_level : Ty → TyLayer → Ty
counted_level t (Ty-F.Array element n) = element
counted_level t _ = t

abbrev pub counted : Written → Ty
counted (Whole t) = counted_level t (out-Ty t)
counted (Open element) = element

abbrev pub parameter_rules : List StructInfo → Option Written → List Rule
parameter_rules structs None = []
parameter_rules structs (Some w) =
    rule 12 (is_scalar (adjusted w)) ∷ rule 15 (is_complete structs (adjusted w)) ∷ rule 17 (leb (size structs (counted w)) largest) ∷ []

abbrev pub adjusted_in : Option Written → Option Ty
adjusted_in None = None
adjusted_in (Some w) = Some (adjusted w)

-- a parameter of a prototype may be without a name, or have the name of the include line's constant
abbrev pub is_new_parameter : Bool → Env → List ℕ → Bool
is_new_parameter defines env [] = true
is_new_parameter true env name = is_new env name
is_new_parameter false env name = is_new (record env { stdio = false }) name

-- a parameter of a type, which is a local of the function
abbrev pub declares_parameter : Bool → Decl → Option Written → Judged Ty
declares_parameter defines d w env =
    declares_local d.name d.span (rule 10 (is_new_parameter defines env d.name) ∷ parameter_rules env.structs w) (adjusted_in w) env

-- a parameter: its type, and then its name
abbrev pub parameter : Bool → Decl → Judged Ty
parameter defines d env =
    let w = written d.ty d.span env in
    let b = declares_parameter defines d w.known (behind w env) in
    joined w b b.known

-- the parameters, in a scope of their own
abbrev pub parameters : Bool → List Decl → Judged (List Ty)
parameters defines ds env = each (map (parameter defines) ds) (opened env)

-- ---- heads

abbrev pub signature_of : Option Ty → Option (List Ty) → Option Signature
signature_of (Some result) (Some params) = Some (record { result = result; params = params })
signature_of _ _ = None

abbrev pub result_rules : Option Ty → List Rule
result_rules None = []
result_rules (Some t) = rule 12 (is_void t || is_scalar t) ∷ []

abbrev pub main_name : List ℕ
main_name = codes "main"

abbrev pub is_int_in : Option Ty → Bool
is_int_in None = true
is_int_in (Some t) = same_type t (ty.Int int.Int)

-- a function `main` is `int main(void)` and not static (5.1.2.2.1)
abbrev pub main_form : Function → Option Ty → Bool
main_form f result =
    (if bytes_eq f.name main_name then is_int_in result && leb (length f.params) 0 && not (is_static f.storage) else true)

-- the rules on the head, but for those on parameters by themselves
abbrev pub head_rules : Function → Bool → Option Ty → List Rule
head_rules f agrees result = rule 10 agrees ∷ rule 14 (leb (length f.params) 8) ∷ rule 19 (main_form f result) ∷ result_rules result

abbrev pub result_type : Function → Judged Ty
result_type f = on (written f.result f.span) (whole f.span)
