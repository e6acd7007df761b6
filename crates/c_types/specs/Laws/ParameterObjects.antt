-- What parameters break are rules of the numbers 9 to 19. Each parameter of a function that breaks none has a type that an object may have:
-- it is a scalar.
use Rattle.std.proofs.Common.{◌≡◌, refl, sym, subst, ℕ, ◌≤◌, Bool, true, List, [], ◌∷◌, map, Option, Some, None, lit≤}
use Rattle.std.specs.Prelude.{leb, ◌||◌}
use Rattle.std.specs.List.{list_all}
use Rattle.c_ast.specs.declared.token.Span.{Span}
use Rattle.c_ast.specs.declared.int_type.IntType.{IntType}
use Rattle.c_ast.specs.declared.int_type.IntType.TheVariants as int
use Rattle.c_ast.specs.declared.declaration.Decl.{Decl}
use Rattle.c_type_base.specs.declared.ty.Ty.{Ty, out-Ty, map-Ty}
use Rattle.c_type_base.specs.declared.ty.Ty.TheOpen.{Ty-F}
use Rattle.c_type_base.specs.declared.ty.Ty.TheFolds.{fold_out-Ty}
use Rattle.c_type_base.specs.declared.typed.StructInfo.{StructInfo}
use Rattle.c_type_base.specs.declared.known.Written.{Written}
use Rattle.c_type_base.specs.Sizes.{int_bytes, size, size_step, is_complete, largest, IsObject, AreObjects}
use Rattle.c_type_base.specs.Types.{TyLayer, is_there, int_of_level, target_of_level, is_scalar}
use Rattle.c_type_expr.specs.Faults.{rule, broken}
use Rattle.c_type_expr.specs.Environment.{opened}
use Rattle.c_type_expr.specs.Outcomes.{behind}
use Rattle.c_type_expr.specs.Expressions.{written}
use Rattle.c_type_stmt.specs.Declarations.{local_info}
use Rattle.c_types.specs.Functions.{adjusted, counted, parameter_rules, adjusted_in, is_new_parameter, declares_parameter, parameter}
use Rattle.c_types.specs.Functions.{parameters}
use Rattle.c_types.specs.Laws.PromiseLaws.{first-kept, rest-kept}
use Rattle.c_types.specs.Laws.QuietRows.{of_rule, broken_rules}
use Rattle.c_types.specs.Laws.QuietLaws.{written_quiet}
use Rattle.c_types.specs.Laws.DeclaredObjects.{object_in, Declares, AllDeclare, none, some, every_none, every_one}
use Rattle.c_types.specs.Laws.DeclaredObjects.{joined_objects, quiet_declares, each_declares}

int_small : (t : IntType) → int_bytes t ≤ largest
int_small int.Char = lit≤ tt
int_small int.SignedChar = lit≤ tt
int_small int.UnsignedChar = lit≤ tt
int_small int.Short = lit≤ tt
int_small int.UShort = lit≤ tt
int_small int.Int = lit≤ tt
int_small int.UInt = lit≤ tt
int_small int.Long = lit≤ tt
int_small int.ULong = lit≤ tt

scalar_level : (structs : List StructInfo) (y : TyLayer) → (is_there (int_of_level y) || is_there (target_of_level y)) ≡ true →
    size_step structs (map-Ty Ty ℕ (size structs) y) ≤ largest
scalar_level structs Ty-F.Void is = absurd (cc)
scalar_level structs (Ty-F.Int t) is = int_small t
scalar_level structs (Ty-F.Pointer t) is = lit≤ tt
scalar_level structs (Ty-F.Array t n) is = absurd (cc)
scalar_level structs (Ty-F.Struct n) is = absurd (cc)

-- a scalar is small enough
scalar_small : (structs : List StructInfo) (t : Ty) → is_scalar t ≡ true → size structs t ≤ largest
scalar_small structs t is =
    subst (λ n. n ≤ largest) (sym (fold_out-Ty ℕ (size_step structs) t)) (scalar_level structs (out-Ty t) is)

parameter_kept : (structs : List StructInfo) (span : Span) (w : Written) → broken span (parameter_rules structs (Some w)) ≡ [] →
    IsObject structs (adjusted w)
parameter_kept structs span w is =
    let small = rule 17 (leb (size structs (counted w)) largest) ∷ [] in
    let complete = rule 15 (is_complete structs (adjusted w)) ∷ small in
    record {
      complete = first-kept span 15 (is_complete structs (adjusted w)) small (rest-kept span 12 (is_scalar (adjusted w)) complete is);
      small = scalar_small structs (adjusted w) (first-kept span 12 (is_scalar (adjusted w)) complete is);
    }

parameter_objects : (structs : List StructInfo) (name : List ℕ) (span : Span) (new : Bool) (w : Option Written) →
    broken span (rule 10 new ∷ parameter_rules structs w) ≡ [] → AreObjects structs (local_info name span (adjusted_in w))
parameter_objects structs name span new None is = every_none (object_in structs)
parameter_objects structs name span new (Some w) is =
    every_one (object_in structs) (record { name = name; ty = adjusted w; span = span })
    (parameter_kept structs span w (rest-kept span 10 new (parameter_rules structs (Some w)) is))

parameter_numbers : (span : Span) (new : Bool) (structs : List StructInfo) (w : Option Written) →
    list_all of_rule (broken span (rule 10 new ∷ parameter_rules structs w)) ≡ true
parameter_numbers span new structs None = broken_rules span (rule 10 new ∷ []) refl
parameter_numbers span new structs (Some w) =
    broken_rules span (rule 10 new ∷ rule 12 (is_scalar (adjusted w)) ∷ rule 15 (is_complete structs (adjusted w)) ∷
    rule 17 (leb (size structs (counted w)) largest) ∷ []) refl

parameter_declares : (defines : Bool) (d : Decl) → Declares (parameter defines d)
parameter_declares defines d env =
    let w = written d.ty d.span env in
    let here = behind w env in
    joined_objects env.structs w (declares_parameter defines d w.known here) _
    (quiet_declares (written d.ty d.span) (written_quiet d.ty d.span) env) (record {
      objects = parameter_objects env.structs d.name d.span (is_new_parameter defines here d.name) w.known;
      rules = parameter_numbers d.span (is_new_parameter defines here d.name) here.structs w.known;
    })

each_parameter : (defines : Bool) (ds : List Decl) → AllDeclare (map (parameter defines) ds)
each_parameter defines [] = none
each_parameter defines (d ∷ ds) = some (parameter_declares defines d) (each_parameter defines ds)

-- parameters are objects
pub parameters_declare : (defines : Bool) (ds : List Decl) → Declares (parameters defines ds)
parameters_declare defines ds env =
    each_declares (map (parameter defines) ds) (each_parameter defines ds) (opened env)
