-- Initialisers and the objects that they fit (ISO C11 6.7.9).
use Rattle.std.specs.Prelude.{ℕ, ℤ, pos, negsuc, ◌+◌, ◌-◌, ◌*◌, ◌%◌, ◌^◌, ◌++◌, Bool, true, false, ◌&&◌, ◌||◌, leb, ltb, nat_eq, List, []}
use Rattle.std.specs.Prelude.{◌∷◌, length, map, flat_map, take, slice_get, Option, Some, None, if◌then◌else◌}
use Rattle.c_ast.specs.Tree.{NodeLayer}
use Rattle.c_ast.specs.declared.token.Span.{Span}
use Rattle.c_ast.specs.declared.int_type.IntType.{IntType}
use Rattle.c_ast.specs.declared.int_type.IntType.TheVariants as int
use Rattle.c_ast.specs.declared.expr.Node.{out-Node}
use Rattle.c_ast.specs.declared.expr.CType.TheOpen.{Node-F}
use Rattle.c_ast.specs.declared.declaration.Init.{Init}
use Rattle.c_ast.specs.declared.declaration.Init.TheOpen.{Init-F}
use Rattle.c_ast.specs.declared.declaration.Init.TheFolds.{fold-Init}
use Rattle.c_type_base.specs.declared.ty.Ty.{Ty, out-Ty}
use Rattle.c_type_base.specs.declared.ty.Ty.TheVariants as ty
use Rattle.c_type_base.specs.declared.ty.Ty.TheOpen.{Ty-F}
use Rattle.c_type_base.specs.declared.statement.TInit.{TInit}
use Rattle.c_type_base.specs.declared.statement.TInit.TheVariants as tinit
use Rattle.c_type_base.specs.declared.typed.StructInfo.{StructInfo}
use Rattle.c_type_base.specs.declared.typed.MemberInfo.{MemberInfo}
use Rattle.c_type_base.specs.declared.typed.InitPiece.{InitPiece}
use Rattle.c_type_base.specs.declared.typed.InitValue.{InitValue}
use Rattle.c_type_base.specs.declared.typed.InitValue.TheVariants as initial_value
use Rattle.c_type_base.specs.declared.typed.Target.{Target}
use Rattle.c_type_stmt.specs.declared.fitted.Fitted.{Fitted}
use Rattle.c_type_stmt.specs.declared.initial.Slot.{Slot}
use Rattle.c_type_base.specs.Sizes.{int_bytes, size, is_complete}
use Rattle.c_type_base.specs.Layout.{members_of, first_scalar}
use Rattle.c_type_base.specs.Types.{TyLayer, same_int, is_char_type, is_array, is_struct, is_there}
use Rattle.c_type_base.specs.Conversions.{wrap}
use Rattle.c_type_expr.specs.Faults.{rule, fault}
use Rattle.c_type_expr.specs.Outcomes.{Judged, sure, not_known, both, each, on, either, asked, ruled, known_as}
use Rattle.c_type_base.specs.declared.known.Known.{Known}
use Rattle.c_type_base.specs.declared.known.Constancy.{Constancy}
use Rattle.c_type_base.specs.declared.known.Fixed.{Fixed}
use Rattle.c_type_base.specs.declared.known.Constancy.TheVariants.{Is}
use Rattle.c_type_base.specs.Known.{value, converted, is_null, is_value, assignable}
use Rattle.c_type_expr.specs.Operators.{breaks}
use Rattle.c_type_expr.specs.Said.{Said}
use Rattle.c_type_expr.specs.Expressions.{expression}

-- what is said of an initialiser
pub record InitSaid : Type 0 where
  pub span : Span
  -- the bytes of a text with the final zero, where it is one
  pub text : Option (List ℕ)
  -- how many initialisers its list has, where it is one
  pub items : Option ℕ
  -- whether it is the constant 0 of type int
  pub zero : Bool
  -- where there is no type that it has to fit: a void call is no value all the same
  pub loose : Judged (Unit {0})
  -- as the initialiser of an object of a type, which lives from the start of the run or not
  pub fitted : Bool → Ty → Judged Fitted

-- ---- the first bytes of objects

abbrev pub piece : ℕ → InitValue → InitPiece
piece offset v = record { offset = offset; value = v }

-- Offsets are modulo 2^64, as those of addresses that are known before the run: no object has a place that far.
abbrev pub moved_piece : ℕ → InitPiece → InitPiece
moved_piece by p = record p { offset = (p.offset + by) % 2 ^ 64 }

-- a number below 2^64 as a signed one
abbrev pub as_signed : ℕ → ℤ
as_signed n = (if ltb n (2 ^ 63) then pos n else negsuc (2 ^ 64 - 1 - n))

abbrev pub number_piece : IntType → Constancy → List InitPiece
number_piece t (Is n) = piece 0 (initial_value.Number (wrap t n % 2 ^ (8 * int_bytes t)) (int_bytes t)) ∷ []
number_piece t _ = []

abbrev pub address_value : Option Target → ℕ → InitValue
address_value None offset = initial_value.Number offset 8
address_value (Some t) offset = initial_value.Address t (as_signed offset)

abbrev pub address_piece : Option Fixed → List InitPiece
address_piece None = []
address_piece (Some f) = piece 0 (address_value f.target f.offset) ∷ []

-- of a pointer: 0 where it is the null constant
abbrev pub pointer_piece : Bool → Option Fixed → List InitPiece
pointer_piece true fixed = piece 0 (initial_value.Number 0 8) ∷ []
pointer_piece false fixed = address_piece fixed

abbrev pub scalar_piece : TyLayer → Known → List InitPiece
scalar_piece (Ty-F.Int t) k = number_piece t k.constant
scalar_piece (Ty-F.Pointer t) k = pointer_piece (is_null k) k.fixed
scalar_piece _ k = []

abbrev pub byte_pieces : ℕ → List ℕ → List InitPiece
byte_pieces offset [] = []
byte_pieces offset (b ∷ bs) = piece offset (initial_value.Number b 1) ∷ byte_pieces (offset + 1) bs

abbrev pub first_of : ℕ → List ℕ → List ℕ
first_of n bs = take n bs

-- ---- an expression

abbrev pub is_constant : Constancy → Bool
is_constant (Is n) = true
is_constant _ = false

-- what an object that lives from the start may begin with (6.7.9 paragraph 4): an integer constant expression, the null constant, or
-- an address constant
abbrev pub is_fixed_by : TyLayer → Known → Bool
is_fixed_by (Ty-F.Int t) k = is_constant k.constant
is_fixed_by (Ty-F.Pointer t) k = is_null k || is_there k.fixed
is_fixed_by _ k = false

abbrev pub may_begin : Bool → Ty → Known → Bool
may_begin from_start t k = (if from_start then is_fixed_by (out-Ty t) k else true)

-- an expression for a scalar, and one of its type for a struct; a void value is none (6.7.9 paragraphs 11 and 13)
abbrev pub assigned : Span → Bool → Ty → Known → Judged Fitted
assigned span from_start t k =
    ruled span (rule 12 (is_value k) ∷ rule 16 (assignable t k && may_begin from_start t k) ∷ [])
    (record { tree = tinit.One (converted t k).tree; pieces = scalar_piece (out-Ty t) k })

-- a text for a char array, which may leave out the final zero (6.7.9 paragraph 14)
abbrev pub spelled : Span → ℕ → List ℕ → Known → Judged Fitted
spelled span n bytes k =
    ruled span (rule 16 (leb (length bytes) (n + 1)) ∷ [])
    (record { tree = tinit.One k.tree; pieces = byte_pieces 0 (first_of n bytes) })

-- no expression but a text for an array, whatever its type
abbrev pub array_by : Span → Judged Known → Option (List ℕ) → Bool → ℕ → Judged Fitted
array_by span e (Some bytes) true n = on e (spelled span n bytes)
array_by span e _ _ n = either e (breaks 16 span) (λ k. asked span (rule 12 (is_value k) ∷ rule 16 false ∷ []))

-- What an expression whose type is not known may be the initialiser of. From the start no struct takes an expression, and an integer takes
-- none that is no integer constant expression.
abbrev pub may_fit : Bool → Bool → TyLayer → Bool
may_fit from_start computes Ty-F.Void = false
may_fit from_start computes (Ty-F.Int t) = (if from_start then computes else true)
may_fit from_start computes (Ty-F.Pointer t) = true
may_fit from_start computes _ = (if from_start then false else true)

abbrev pub expression_for : Said → Bool → Ty → TyLayer → Judged Fitted
expression_for e from_start t (Ty-F.Array element n) = array_by e.span e.judged e.text (is_char_type element) n
expression_for e from_start t level =
    either e.judged (asked e.span (rule 16 (may_fit from_start e.computes level) ∷ [])) (λ k. assigned e.span from_start t (value k))

-- ---- a list

abbrev pub member_slot : Option MemberInfo → Option Slot
member_slot None = None
member_slot (Some m) = Some (record { ty = m.ty; offset = m.offset })

-- the places of the initialisers of an array, and of a struct; a scalar has none
abbrev pub slots : List StructInfo → TyLayer → Option (ℕ → Option Slot)
slots structs (Ty-F.Array t n) = Some (λ k. (if ltb k n then Some (record { ty = t; offset = k * size structs t % 2 ^ 64 }) else None))
slots structs (Ty-F.Struct number) = Some (λ k. member_slot (slice_get (members_of (slice_get structs number)) k))
slots structs _ = None

abbrev pub moved_fitted : ℕ → Fitted → Fitted
moved_fitted by f = record f { pieces = map (moved_piece by) f.pieces }

abbrev pub loose_all : List InitSaid → Judged (List (Unit {0}))
loose_all is = each (map (λ i. i.loose) is)

-- the first that is too many breaks rule 16, whatever it is and whatever else it breaks
abbrev pub too_many : InitSaid → Judged (List Fitted)
too_many i env = let o = i.loose env in known_as (record o { faults = o.faults ++ fault 16 i.span ∷ [] }) None

-- the initialisers of a list, the first of them for the place of a number
abbrev pub fit_all : (ℕ → Option Slot) → Bool → ℕ → List InitSaid → Judged (List Fitted)
fit_all slot from_start k [] = sure []
fit_all slot from_start k (i ∷ is) =
    elim (slot k) [
      | None ↦ on (both (too_many i) (loose_all is)) (λ x. not_known)
      | Some s ↦ on (both (i.fitted from_start s.ty) (fit_all slot from_start (k + 1) is)) (λ (f, fs). sure (moved_fitted s.offset f ∷ fs))
    ]

abbrev pub tree_of : Fitted → TInit
tree_of f = f.tree

abbrev pub pieces_of : Fitted → List InitPiece
pieces_of f = f.pieces

abbrev pub in_braces : Span → List Fitted → Fitted
in_braces span fs = record { tree = tinit.List (map tree_of fs) span; pieces = flat_map pieces_of fs }

-- the list of the one constant 0 of type int
abbrev pub is_zero_list : List InitSaid → Bool
is_zero_list (i ∷ []) = i.zero
is_zero_list _ = false

abbrev pub is_aggregate_slot : Option Slot → Bool
is_aggregate_slot None = false
is_aggregate_slot (Some s) = is_array s.ty || is_struct s.ty

-- `{0}` where the first place is an array or a struct itself: the constant alone, which is the first scalar among its bytes
abbrev pub zero_list : Span → List InitSaid → ℕ → Judged Fitted
zero_list span is bytes = on (each (map (λ i. i.fitted false (ty.Int int.Int)) is))
    (λ fs. sure (record { tree = tinit.List (map tree_of fs) span; pieces = piece 0 (initial_value.Number 0 bytes) ∷ [] }))

-- a list for what has the places, and the bytes of its first scalar
abbrev pub list_by : Span → List InitSaid → Bool → ℕ → Option (ℕ → Option Slot) → Judged Fitted
list_by span is from_start bytes None = on (loose_all is) (λ x. breaks 16 span)
list_by span is from_start bytes (Some slot) =
    (if is_zero_list is && is_aggregate_slot (slot 0) then zero_list span is bytes
    else on (fit_all slot from_start 0 is) (λ fs. sure (in_braces span fs)))

-- a struct without a body may have any members: no initialiser in its list is asked to fit
abbrev pub list_for : Span → List InitSaid → Bool → Ty → Judged Fitted
list_for span is from_start t env =
    (if is_struct t && (if is_complete env.structs t then false else true) then on (loose_all is) (λ x. not_known) env
    else list_by span is from_start (first_scalar env.structs t) (slots env.structs (out-Ty t)) env)

-- ---- all of them

abbrev pub is_int_zero : NodeLayer → Bool
is_int_zero (Node-F.Constant n t) = nat_eq n 0 && same_int t int.Int
is_int_zero _ = false

abbrev pub init_step : Init-F InitSaid → InitSaid
init_step (Init-F.One e) = record {
  span = e.span;
  text = (expression e).text;
  items = None;
  zero = is_int_zero (out-Node e.node);
  loose = on (expression e).judged (λ k. ruled e.span (rule 12 (is_value k) ∷ []) tt);
  fitted = λ from_start t. expression_for (expression e) from_start t (out-Ty t);
}
init_step (Init-F.List is span) = record {
  span = span;
  text = None;
  items = Some (length is);
  zero = false;
  loose = on (loose_all is) (λ x. sure tt);
  fitted = list_for span is;
}

-- what is said of an initialiser
abbrev pub initialiser : Init → InitSaid
initialiser = fold-Init InitSaid init_step
