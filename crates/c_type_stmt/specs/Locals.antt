-- The declaration of a local, once its type is known or not.
use Rattle.std.specs.Prelude.{Option, ◌∷◌}
use Rattle.c_ast.specs.declared.declaration.Decl.{Decl}
use Rattle.c_type_base.specs.declared.ty.Ty.{Ty}
use Rattle.c_type_expr.specs.Faults.{rule}
use Rattle.c_type_expr.specs.Outcomes.{Judged}
use Rattle.c_type_stmt.specs.Declarations.{is_new, object_rules, declares_local}

-- its name is new and its type one of an object
abbrev pub declares_object : Decl → Option Ty → Judged Ty
declares_object d t env = declares_local d.name d.span (rule 10 (is_new env d.name) ∷ object_rules env.structs t) t env
