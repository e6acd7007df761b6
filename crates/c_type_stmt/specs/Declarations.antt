-- Declarations of objects in blocks, and what a declared type is (ISO C11 6.7, 6.7.6.2, 6.7.9 paragraph 22).
use Rattle.std.specs.Prelude.{ℕ, Bool, true, false, not, ◌&&◌, leb, List, [], ◌∷◌, length, codes, Option, Some, None, if◌then◌else◌}
use Rattle.std.specs.Str.{bytes_eq}
use Rattle.c_ast.specs.declared.token.Span.{Span}
use Rattle.c_ast.specs.declared.declaration.Decl.{Decl}
use Rattle.c_type_base.specs.declared.ty.Ty.{Ty}
use Rattle.c_type_base.specs.declared.ty.Ty.TheVariants as ty
use Rattle.c_type_expr.specs.declared.scopes.Place.TheVariants as place
use Rattle.c_type_base.specs.declared.statement.TDecl.{TDecl}
use Rattle.c_type_base.specs.declared.typed.LocalInfo.{LocalInfo}
use Rattle.c_type_base.specs.declared.typed.StructInfo.{StructInfo}
use Rattle.c_type_base.specs.Sizes.{size, is_complete, largest}
use Rattle.c_type_base.specs.Types.{is_char_type, is_there}
use Rattle.c_type_expr.specs.Faults.{Rule, rule, broken, all_kept}
use Rattle.c_type_expr.specs.declared.scopes.Meaning.TheVariants as means
use Rattle.c_type_expr.specs.Environment.{Env, binds, in_scope, innermost}
use Rattle.c_type_expr.specs.Outcomes.{option_map, Judged, sure, not_known, on, behind, joined}
use Rattle.c_type_base.specs.declared.known.Written.{Written}
use Rattle.c_type_base.specs.declared.known.Written.TheVariants.{Whole, Open}
use Rattle.c_type_expr.specs.Expressions.{written}
use Rattle.c_type_stmt.specs.declared.fitted.Fitted.{Fitted}
use Rattle.c_type_stmt.specs.Initials.{InitSaid, initialiser, tree_of}

abbrev pub init_of : Decl → Option InitSaid
init_of d = option_map initialiser d.init

-- ---- the type of an object

abbrev pub text_length : Bool → Option (List ℕ) → Option ℕ
text_length false text = None
text_length true text = option_map length text

abbrev pub or_items : Option ℕ → Option ℕ → Option ℕ
or_items (Some n) text = Some n
or_items None text = text

-- the length that an initialiser gives an array: the number of initialisers of a list, or the bytes of a text (6.7.9 paragraph 22)
abbrev pub given_length : Ty → Option InitSaid → Option ℕ
given_length element None = None
given_length element (Some i) = or_items i.items (text_length (is_char_type element) i.text)

-- an array without a length has the length 0, with which it is not complete
abbrev pub of_length : Ty → Option ℕ → Ty
of_length element None = ty.Array element 0
of_length element (Some n) = ty.Array element n

abbrev pub object_type : Option InitSaid → Written → Ty
object_type i (Whole t) = t
object_type i (Open element) = of_length element (given_length element i)

-- the type that a declaration gives its object
abbrev pub declared_type : Decl → Judged Ty
declared_type d = on (written d.ty d.span) (λ w. sure (object_type (init_of d) w))

-- an object has a complete type of at most so many bytes
abbrev pub object_rules : List StructInfo → Option Ty → List Rule
object_rules structs None = []
object_rules structs (Some t) = rule 15 (is_complete structs t) ∷ rule 17 (leb (size structs t) largest) ∷ []

-- ---- initialisers

-- the initialiser of an object, where its type is known, complete or not
abbrev pub fits_object : Bool → Option Ty → InitSaid → Judged Fitted
fits_object from_start None i = on i.loose (λ x. not_known)
fits_object from_start (Some t) i = i.fitted from_start t

abbrev pub initialised : Bool → Option Ty → Option InitSaid → Judged (Option Fitted)
initialised from_start t None = sure None
initialised from_start t (Some i) = on (fits_object from_start t i) (λ f. sure (Some f))

-- ---- locals

-- the name of the constant of the include line, which no other declaration may have while that is in scope
abbrev pub eof_name : List ℕ
eof_name = codes "EOF"

abbrev pub is_free : Env → List ℕ → Bool
is_free env name = not (env.stdio && bytes_eq name eof_name)

-- in one scope a name is declared once (6.7 paragraph 3)
abbrev pub is_new : Env → List ℕ → Bool
is_new env name = not (is_there (in_scope name (innermost env.scopes))) && is_free env name

abbrev pub local_info : List ℕ → Span → Option Ty → List LocalInfo
local_info name span None = []
local_info name span (Some t) = record { name = name; ty = t; span = span } ∷ []

-- a local is declared: its scope begins here (6.2.1 paragraph 7)
abbrev pub declares_local : List ℕ → Span → List Rule → Option Ty → Judged Ty
declares_local name span rules t env = record {
  faults = broken span rules;
  texts = [];
  locals = local_info name span t;
  names = binds name (means.Object (place.Local env.locals) t) ∷ [];
  known = (if all_kept rules then t else None);
}

abbrev pub tdecl : ℕ → Span → Option Ty → Option (Option Fitted) → Option TDecl
tdecl local span (Some t) (Some init) = Some (record { local = local; init = option_map tree_of init; span = span })
tdecl local span _ _ = None

-- a local: its type, its name, and then its initialiser
abbrev pub local : Decl → Judged TDecl
local d env =
    let t = declared_type d env in
    let here = behind t env in
    let b = declares_local d.name d.span (rule 10 (is_new here d.name) ∷ object_rules here.structs t.known) t.known here in
    let i = initialised false t.known (init_of d) (behind b here) in
    let known = tdecl here.locals d.span b.known i.known in
    joined t (joined b i known) known
