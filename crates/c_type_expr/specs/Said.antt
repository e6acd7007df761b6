-- What is said of an expression and of a type, and the rules on types, names, constants and texts (ISO C11 6.5.1, 6.7.6).
use Rattle.std.specs.Prelude.{ℕ, Bool, true, false, ◌&&◌, leb, List, [], ◌∷◌, length, Option, Some, None, if◌then◌else◌}
use Rattle.c_ast.specs.declared.token.Span.{Span}
use Rattle.c_ast.specs.declared.int_type.IntType.{IntType}
use Rattle.c_ast.specs.declared.int_type.IntType.TheVariants as int
use Rattle.c_ast.specs.declared.expr.CType.TheOpen.{CType-F}
use Rattle.c_type_base.specs.declared.ty.Ty.{Ty}
use Rattle.c_type_base.specs.declared.ty.Ty.TheVariants as ty
use Rattle.c_type_base.specs.declared.expr.TNode.TheVariants as node
use Rattle.c_type_base.specs.declared.typed.Target.TheVariants as target
use Rattle.c_type_base.specs.declared.known.Written.{Written}
use Rattle.c_type_base.specs.declared.known.Written.TheVariants.{Whole, Open}
use Rattle.c_type_base.specs.Sizes.{is_complete, largest}
use Rattle.c_type_base.specs.Types.{int_of, is_void}
use Rattle.c_type_base.specs.Arithmetic.{is_negative}
use Rattle.c_type_expr.specs.Faults.{rule}
use Rattle.c_type_expr.specs.declared.scopes.Place.{Place}
use Rattle.c_type_expr.specs.declared.scopes.Binding.{Binding}
use Rattle.c_type_expr.specs.declared.scopes.Meaning.{Meaning}
use Rattle.c_type_expr.specs.declared.scopes.Meaning.TheVariants as means
use Rattle.c_type_expr.specs.Environment.{node_at, target_at, in_scopes, tag_number}
use Rattle.c_type_expr.specs.Outcomes.{Judged, sure, not_known, both, on, either, asked, ruled, only_kept}
use Rattle.c_type_base.specs.declared.known.Known.{Known}
use Rattle.c_type_base.specs.declared.known.Constancy.{Constancy}
use Rattle.c_type_base.specs.declared.known.Fixed.{Fixed}
use Rattle.c_type_base.specs.declared.known.Constancy.TheVariants.{Is}
use Rattle.c_type_base.specs.Known.{texpr, plain, designates}
use Rattle.c_type_expr.specs.Operators.{breaks}

-- ---- what is said of an expression, and of a type

-- whether it is a name alone or a text alone (its bytes with the final zero), whether its outermost operator may stand in an integer
-- constant expression (6.6 paragraph 6), and what is judged of it. All but the last need no type.
pub record Said : Type 0 where
  pub span : Span
  pub name : Option (List ℕ)
  pub text : Option (List ℕ)
  pub computes : Bool
  pub judged : Judged Known

-- the same of a node, which has no span
pub record NodeSaid : Type 0 where
  pub name : Option (List ℕ)
  pub text : Option (List ℕ)
  pub computes : Bool
  pub judged : Span → Judged Known

abbrev pub said : (Span → Judged Known) → NodeSaid
said judged = record { name = None; text = None; computes = false; judged = judged }

-- of one that may stand in an integer constant expression
abbrev pub computing : (Span → Judged Known) → NodeSaid
computing judged = record { name = None; text = None; computes = true; judged = judged }

-- ---- types (6.7.6); a rule that one breaks belongs to the construct that has the type

abbrev pub pointer_to : Span → Written → Judged Written
pointer_to span (Open t) = breaks 15 span
pointer_to span (Whole t) = ruled span (rule 15 (if is_void t then false else true) ∷ []) (Whole (ty.Pointer t))

-- an integer constant expression of at least 1 (6.7.6.2 paragraph 1)
abbrev pub is_length : Option IntType → Constancy → Bool
is_length (Some t) (Is n) = leb 1 n && (if is_negative t n then false else true)
is_length _ _ = false

abbrev pub length_in : Constancy → ℕ
length_in (Is n) = n
length_in _ = 0

abbrev pub length_known : Span → Known → Judged ℕ
length_known span k = only_kept span (rule 12 (is_length (int_of k.tree.ty) k.constant) ∷ []) (length_in k.constant)

-- The rule on a length belongs to the length's expression. That a name, a call or a member is none needs no type.
abbrev pub judged_length : Said → Judged ℕ
judged_length e =
    either e.judged (asked e.span (rule 12 e.computes ∷ [])) (length_known e.span)

abbrev pub array_of : Span → Option ℕ → Written → Judged Written
array_of span length (Open t) = breaks 15 span
array_of span None (Whole t) = λ env. ruled span (rule 15 (is_complete env.structs t) ∷ []) (Open t) env
array_of span (Some n) (Whole t) = λ env. ruled span (rule 15 (is_complete env.structs t) ∷ []) (Whole (ty.Array t n)) env

-- a tag that is not declared is that of a struct without a body: its number is the next, which the table does not have
abbrev pub tag_of : Span → ℕ → Option ℕ → Judged Written
tag_of span next None = ruled span (rule 9 false ∷ []) (Whole (ty.Struct next))
tag_of span next (Some number) = sure (Whole (ty.Struct number))

abbrev pub struct_tag : Span → List ℕ → Judged Written
struct_tag span tag env = tag_of span (length env.structs) (tag_number env.structs tag) env

abbrev pub type_step : CType-F (Span → Judged Written) NodeSaid Said → Span → Judged Written
type_step CType-F.Void span = sure (Whole ty.Void)
type_step (CType-F.Int t) span = sure (Whole (ty.Int t))
type_step (CType-F.Struct tag) span = struct_tag span tag
type_step (CType-F.Pointer t) span = on (t span) (pointer_to span)
type_step (CType-F.Array t None) span = on (t span) (array_of span None)
type_step (CType-F.Array t (Some length)) span =
    on (both (judged_length length) (t span)) (λ (n, element). array_of span (Some n) element)

-- the type in a cast or behind `sizeof`, which has no brackets
abbrev pub whole : Span → Written → Judged Ty
whole span (Whole t) = sure t
whole span (Open t) = breaks 15 span

-- ---- names, constants and texts (6.5.1)

-- an integer constant
abbrev pub constant_known : Span → ℕ → IntType → Known
constant_known span n t = plain (texpr span (ty.Int t) (node.Constant n t)) (Is n)

-- an int of value -1
abbrev pub eof_value : ℕ
eof_value = 18446744073709551615

abbrev pub fixed_at : Option target.the_data → Option Fixed
fixed_at None = None
fixed_at (Some t) = Some (record { target = Some t; offset = 0 })

-- an object by its name
abbrev pub object_known : Span → Place → Ty → Known
object_known span place t = designates (texpr span t (node_at place)) (fixed_at (target_at place))

-- a name that is not called: rule 9 where nothing is declared, rule 13 where a function is
abbrev pub name_row : Span → Option Meaning → Judged Known
name_row span None = breaks 9 span
name_row span (Some (means.Object place (Some t))) = sure (object_known span place t)
name_row span (Some (means.Object place None)) = not_known
name_row span (Some (means.Function callee signature)) = breaks 13 span
name_row span (Some means.Eof) = sure (constant_known span eof_value int.Int)

abbrev pub meaning_of : Option Binding → Option Meaning
meaning_of None = None
meaning_of (Some b) = Some b.means

abbrev pub variable : List ℕ → Span → Judged Known
variable name span env = name_row span (meaning_of (in_scopes name env.scopes)) env

-- an array of char, by its length and its number among the texts
abbrev pub text_known : Span → ℕ → ℕ → Known
text_known span length number =
    designates (texpr span (ty.Array (ty.Int int.Char) length) (node.Text number)) (fixed_at (Some (target.Text number)))

-- an array of char with the final zero (6.4.5 paragraph 6)
abbrev pub text : List ℕ → Span → Judged Known
text bytes span env =
    let o = ruled span (rule 17 (leb (length bytes) largest) ∷ []) (text_known span (length bytes) env.texts) env in
    record o { texts = bytes ∷ [] }
