-- Values are of their types: what is read, what is converted, and what operators give (this project's own).
use Rattle.std.specs.Prelude.{◌≡◌, ℕ, Bool, true, false, ◌||◌, List, Option, Some, None, refl, if◌then◌else◌}
use Rattle.std.proofs.Common.{sym, subst}
use Rattle.c_ast.specs.declared.int_type.IntType.{IntType}
use Rattle.c_ast.specs.declared.int_type.IntType.TheVariants as int
use Rattle.c_ast.specs.declared.operator.Step.{Step}
use Rattle.c_ast.specs.declared.token.Span.{Span}
use Rattle.c_type_base.specs.Arithmetic.{truth}
use Rattle.c_type_base.specs.Conversions.{wrap}
use Rattle.c_type_base.specs.Laws.Opened.{given_types}
use Rattle.c_type_base.specs.Types.{TyLayer, is_there, int_of_level, target_of_level}
use Rattle.c_type_base.specs.Types.{is_integer, is_pointer, is_scalar, is_struct, is_void}
use Rattle.c_type_base.specs.Types.{is_void_level, struct_of_level}
use Rattle.c_type_base.specs.declared.ty.Ty.{Ty, out-Ty}
use Rattle.c_type_base.specs.declared.ty.Ty.TheOpen.{Ty-F}
use Rattle.block_meaning.specs.Access.{ReadResult, ReadsAs, UndefinedBy, whole_or_part, unless_reason, read_in, reason_against}
use Rattle.block_meaning.specs.ExpressionsInOrder.{int_type, Converts, integers, pointers, null_constant}
use Rattle.block_meaning.specs.Memory.{Object, access, what_is_read, read_scalar, read}
use Rattle.block_meaning.specs.Operators.{or_int, int_in, number_of_truth, stepped}
use Rattle.block_meaning.specs.Running.{gives, Context}
use Rattle.block_meaning.specs.Values.{number_of_cells, pointer_of_cells, number_value, address_value, scalar_of_cells}
use Rattle.block_meaning.specs.Values.{value_as, converted_to, zero_as, missing_result}
use Rattle.block_meaning.specs.declared.access.Access.{Access}
use Rattle.block_meaning.specs.declared.cell.Cell.{Cell}
use Rattle.block_meaning.specs.declared.reason.Reason.{Reason}
use Rattle.block_meaning.specs.declared.value.Pointer.{Pointer}
use Rattle.block_meaning.specs.declared.value.Value.{Value}
use Rattle.block_meaning.specs.declared.value.Value.TheVariants.{Number, Address, Struct, NoValue}
use Rattle.gen_laws.specs.Computes.{IsOf}
use Rattle.gen_laws.specs.Laws.Numbers.{wrap-is_of}
use Rattle.code_follows.specs.Giving.{Gives}
use Rattle.code_follows.specs.Values.{IsOfLevel, IsOfType}
use Rattle.code_follows.specs.Laws.Giving.Words.{gives-gives, gives-undefined, gives-some, gives-blocks}

-- ---- by kinds of types

-- a number of an integer type
pub record IntegerOf (t : Ty) (v : Value) : Type 0 where
  pub number : ℕ
  pub is : v ≡ Number number
  pub of : IsOf (int_in t) number

record LevelNumber (l : TyLayer) (v : Value) : Type 0 where
  number : ℕ
  is : v ≡ Number number
  of : IsOf (or_int (int_of_level l)) number

level_number : (l : TyLayer) (v : Value) → is_there (int_of_level l) ≡ true → IsOfLevel l v → LevelNumber l v
level_number (Ty-F.Int i) (Number n) is of = record { number = n; is = refl; of = of }
level_number (Ty-F.Int i) _ is of = absurd of
level_number _ v is of = absurd (cc)

pub integer_of : (t : Ty) (v : Value) → is_integer t ≡ true → IsOfType t v → IntegerOf t v
integer_of t v is of = let l = level_number (out-Ty t) v is of in record { number = l.number; is = l.is; of = l.of }

-- a pointer
pub record PointerOf (v : Value) : Type 0 where
  pub pointer : Pointer
  pub is : v ≡ Address pointer

level_pointer : (l : TyLayer) (v : Value) → is_there (target_of_level l) ≡ true → IsOfLevel l v → PointerOf v
level_pointer (Ty-F.Pointer t) (Address p) is of = record { pointer = p; is = refl }
level_pointer (Ty-F.Pointer t) _ is of = absurd of
level_pointer _ v is of = absurd (cc)

pub pointer_of : (t : Ty) (v : Value) → is_pointer t ≡ true → IsOfType t v → PointerOf v
pointer_of t v is of = level_pointer (out-Ty t) v is of

level_address : (l : TyLayer) (p : Pointer) → is_there (target_of_level l) ≡ true → IsOfLevel l (Address p)
level_address (Ty-F.Pointer t) p is = tt
level_address _ p is = absurd (cc)

pub of_pointer : (t : Ty) (p : Pointer) → is_pointer t ≡ true → IsOfType t (Address p)
of_pointer t p is = level_address (out-Ty t) p is

truth_of : (b : Bool) → IsOf int.Int (truth b)
truth_of true = refl
truth_of false = refl

pub of_truth : (b : Bool) → IsOfType int_type (number_of_truth b)
unfolding given_types
of_truth b = truth_of b

-- ---- conversions

level_converted : (l : TyLayer) (v : Value) → is_there (int_of_level l) ≡ true → IsOfLevel l (value_as l v)
level_converted (Ty-F.Int i) v is = wrap-is_of i _
level_converted _ v is = absurd (cc)

pub of_converted_integer : (t : Ty) (v : Value) → is_integer t ≡ true → IsOfType t (converted_to t v)
of_converted_integer t v is = level_converted (out-Ty t) v is

level_address_as : (l : TyLayer) (v : Value) (p : Pointer) → is_there (target_of_level l) ≡ true → v ≡ Address p → IsOfLevel l
    (value_as l v)
level_address_as (Ty-F.Pointer t) v p is same = subst (λ w. IsOfLevel (Ty-F.Pointer t) (value_as (Ty-F.Pointer t) w)) (sym same) tt
level_address_as _ v p is same = absurd (cc)

level_null : (l : TyLayer) (v : Value) (n : ℕ) → is_there (target_of_level l) ≡ true → v ≡ Number n → IsOfLevel l (value_as l v)
level_null (Ty-F.Pointer t) v n is same = subst (λ w. IsOfLevel (Ty-F.Pointer t) (value_as (Ty-F.Pointer t) w)) (sym same) tt
level_null _ v n is same = absurd (cc)

pub of_converted : {t u : Ty} (v : Value) → Converts t u → IsOfType t v → IsOfType u (converted_to u v)
of_converted {u = u} v (integers first second) of = of_converted_integer u v second
of_converted {t} {u} v (pointers first second) of =
    let known = pointer_of t v first of in level_address_as (out-Ty u) v known.pointer second known.is
of_converted {t} {u} v (null_constant first second) of =
    let known = integer_of t v first of in level_null (out-Ty u) v known.number second known.is

level_void : (l : TyLayer) (v : Value) → is_void_level l ≡ true → IsOfLevel l (value_as l v)
level_void Ty-F.Void v is = tt
level_void _ v is = absurd (cc)

pub of_void : (t : Ty) (v : Value) → is_void t ≡ true → IsOfType t (converted_to t v)
of_void t v is = level_void (out-Ty t) v is

zero_of : (i : IntType) → IsOf i 0
zero_of int.Char = refl
zero_of int.SignedChar = refl
zero_of int.UnsignedChar = refl
zero_of int.Short = refl
zero_of int.UShort = refl
zero_of int.Int = refl
zero_of int.UInt = refl
zero_of int.Long = refl
zero_of int.ULong = refl

level_missing : (l : TyLayer) → (is_void_level l || (is_there (int_of_level l) || is_there (target_of_level l))) ≡ true →
    IsOfLevel l (zero_as l)
level_missing Ty-F.Void is = tt
level_missing (Ty-F.Int i) is = zero_of i
level_missing (Ty-F.Pointer t) is = tt
level_missing _ is = absurd (cc)

-- what a function gives that ends without `return`
pub of_missing : (t : Ty) → (is_void t || is_scalar t) ≡ true → IsOfType t (missing_result t)
of_missing t is = level_missing (out-Ty t) is

level_no_value : (l : TyLayer) → is_void_level l ≡ true → IsOfLevel l NoValue
level_no_value Ty-F.Void is = tt
level_no_value _ is = absurd (cc)

pub of_no_value : (t : Ty) → is_void t ≡ true → IsOfType t NoValue
of_no_value t is = level_no_value (out-Ty t) is

-- ---- reads

abbrev ReadOf : TyLayer → ReadResult → Type 0
ReadOf l (ReadsAs v) = IsOfLevel l v
ReadOf l (UndefinedBy why) = Unit {0}

some_read : (l : TyLayer) (cells : List Cell) → ReadOf l (whole_or_part (scalar_of_cells l cells))
some_read (Ty-F.Int i) cells = by_number (number_of_cells cells)
  where
    by_number : (o : Option ℕ) → ReadOf (Ty-F.Int i) (whole_or_part (number_value (wrap i) o))
    by_number None = tt
    by_number (Some n) = wrap-is_of i n
some_read (Ty-F.Pointer t) cells = by_pointer (pointer_of_cells cells)
  where
    by_pointer : (o : Option Pointer) → ReadOf (Ty-F.Pointer t) (whole_or_part (address_value o))
    by_pointer None = tt
    by_pointer (Some p) = tt
some_read Ty-F.Void cells = tt
some_read (Ty-F.Array t n) cells = tt
some_read (Ty-F.Struct n) cells = tt

if_nothing : (l : TyLayer) (b : Bool) (why : Reason) (r : ReadResult) → ReadOf l r → ReadOf l (if b then UndefinedBy why else r)
if_nothing l true why r of = tt
if_nothing l false why r of = of

unless_read : (l : TyLayer) (why : Option Reason) (r : ReadResult) → ReadOf l r → ReadOf l (unless_reason why r)
unless_read l None r of = of
unless_read l (Some why) r of = tt

what_gives : (here : Context) (span : Span) (a : Access) (t : Ty) (r : ReadResult) → ReadOf (out-Ty t) r →
    Gives (what_is_read here span a r) (IsOfType t)
what_gives here span a t (ReadsAs v) of = gives-gives v of
what_gives here span a t (UndefinedBy why) of = gives-undefined here span (Some a) why

pub scalar_gives : (here : Context) (span : Span) (o : Object) → Gives (read_scalar here span o) (IsOfType o.ty)
scalar_gives here span o = let a = access here false o in
    gives-blocks (λ blocks. gives-some _ (λ b is. what_gives here span a o.ty (read_in b o.ty a)
    (unless_read (out-Ty o.ty) (reason_against b a) _ (if_nothing (out-Ty o.ty) _ _ _ (some_read (out-Ty o.ty) _)))))

level_struct : (l : TyLayer) (p : Pointer) → is_there (struct_of_level l) ≡ true → IsOfLevel l (Struct p)
level_struct (Ty-F.Struct n) p is = tt
level_struct _ p is = absurd (cc)

pub read_gives : (here : Context) (span : Span) (o : Object) → Gives (read here span o) (IsOfType o.ty)
read_gives here span o = by_struct (is_struct o.ty) refl
  where
    by_struct : (b : Bool) → is_struct o.ty ≡ b → Gives (λ now. (if b then gives (Struct o.at) else read_scalar here span o) now)
        (IsOfType o.ty)
    by_struct true is = gives-gives (Struct o.at) (level_struct (out-Ty o.ty) o.at is)
    by_struct false is = scalar_gives here span o

-- ---- `++` and `--`

pub of_stepped : (here : Context) (s : Step) (t : Ty) (v : Value) → is_scalar t ≡ true → IsOfType t v → IsOfType t (stepped here s t v)
of_stepped here s t v scalar of = by_value v of
  where
    kinds : (a b : Bool) → (a || b) ≡ true → b ≡ false → a ≡ true
    kinds true b is other = refl
    kinds false b is other = absurd (cc)

    no_number : (l : TyLayer) (n : ℕ) → IsOfLevel l (Number n) → is_there (target_of_level l) ≡ false
    no_number (Ty-F.Int i) n of = refl
    no_number _ n of = absurd of

    no_other : (l : TyLayer) → (is_there (int_of_level l) || is_there (target_of_level l)) ≡ true → IsOfLevel l NoValue → ⊥
    no_other Ty-F.Void is of = absurd (cc)
    no_other _ is of = absurd of

    no_struct : (l : TyLayer) (p : Pointer) → (is_there (int_of_level l) || is_there (target_of_level l)) ≡ true →
        IsOfLevel l (Struct p) → ⊥
    no_struct (Ty-F.Struct n) p is of = absurd (cc)
    no_struct _ p is of = absurd of

    by_address : (l : TyLayer) (p q : Pointer) → IsOfLevel l (Address p) → IsOfLevel l (Address q)
    by_address (Ty-F.Pointer u) p q of = tt
    by_address _ p q of = absurd of

    by_value : (v : Value) → IsOfType t v → IsOfType t (stepped here s t v)
    by_value (Address p) of = by_address (out-Ty t) p _ of
    by_value (Number n) of =
        of_converted_integer t _ (kinds (is_there (int_of_level (out-Ty t))) (is_there (target_of_level (out-Ty t))) scalar
        (no_number (out-Ty t) n of))
    by_value NoValue of = absurd (no_other (out-Ty t) scalar of)
    by_value (Struct p) of = absurd (no_struct (out-Ty t) p scalar of)
