-- What may be declared again at file scope (ISO C11 6.2.7, 6.7 paragraph 4, 6.9 paragraph 5; that all or none are `static` is this
-- project's own).
use Rattle.std.specs.Prelude.{ℕ, Bool, true, false, not, ◌&&◌, List, [], ◌∷◌, Some, if◌then◌else◌}
use Rattle.std.specs.List.{list_all}
use Rattle.std.specs.Str.{bytes_eq}
use Rattle.c_ast.specs.declared.int_type.IntType.TheVariants as int
use Rattle.c_type_base.specs.declared.ty.Ty.{Ty}
use Rattle.c_type_base.specs.declared.ty.Ty.TheVariants as ty
use Rattle.c_type_base.specs.Types.{same_type}
use Rattle.c_type_expr.specs.declared.scopes.Signature.{Signature}
use Rattle.c_type_stmt.specs.Declarations.{eof_name}
use Rattle.c_types.specs.Files.{FileNames, putchar_name, getchar_name}
-- what a declaration at file scope declares, and its type where that is known
pub use Rattle.c_types.specs.declared.redeclared.Kind.{Kind}
pub use Rattle.c_types.specs.declared.redeclared.Kind.TheVariants.{AnObject, AFunction}
pub use Rattle.c_types.specs.declared.redeclared.Declared.{Declared}

abbrev pub same_types : List Ty → List Ty → Bool
same_types [] [] = true
same_types (s ∷ ss) (t ∷ ts) = same_type s t && same_types ss ts
same_types _ _ = false

abbrev pub same_signature : Signature → Signature → Bool
same_signature f g = same_type f.result g.result && same_types f.params g.params

-- an unknown type is asked nothing
abbrev pub same_kind : Kind → Kind → Bool
same_kind (AnObject (Some s)) (AnObject (Some t)) = same_type s t
same_kind (AnObject _) (AnObject _) = true
same_kind (AFunction (Some f)) (AFunction (Some g)) = same_signature f g
same_kind (AFunction _) (AFunction _) = true
same_kind _ _ = false

abbrev pub equal : Bool → Bool → Bool
equal a b = (if a then b else not b)

-- two declarations of one name agree: one type, all or none static, and at most one defines it
abbrev pub agree : Declared → Declared → Bool
agree new old = same_kind new.kind old.kind && equal new.local old.local && not (new.defined && old.defined)

-- int putchar(int)
abbrev pub putchar_type : Signature
putchar_type = record { result = ty.Int int.Int; params = ty.Int int.Int ∷ [] }

-- int getchar(void)
abbrev pub getchar_type : Signature
getchar_type = record { result = ty.Int int.Int; params = [] }

-- what the include line declares; a body beside it is a second one
abbrev pub library : List ℕ → Signature → Declared
library name s = record { name = name; kind = AFunction (Some s); local = false; defined = true }

-- a declaration of one of its names, in a file with the include line, is judged beside it wherever it stands
abbrev pub agrees_with_library : FileNames → Declared → Bool
agrees_with_library names d =
    (if names.includes then
    not (bytes_eq d.name eof_name)
    && (if bytes_eq d.name putchar_name then agree d (library putchar_name putchar_type) else true)
    && (if bytes_eq d.name getchar_name then agree d (library getchar_name getchar_type) else true)
    else true)

-- it agrees with the earlier declarations of its name
abbrev pub may_stand : FileNames → List Declared → Declared → Bool
may_stand names earlier d = agrees_with_library names d && list_all (λ e. (if bytes_eq e.name d.name then agree d e else true)) earlier
