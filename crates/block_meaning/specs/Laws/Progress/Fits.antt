-- Which values fit a type: numbers integers, addresses of blocks that exist pointers, and structs that stand in such blocks structs.
use Rattle.std.proofs.Common.{◌≡◌, refl, ℕ, zero, suc, ◌/◌, ◌%◌, ◌≤◌, ◌<◌, arith, Bool, true, false, ◌||◌}
use Rattle.std.proofs.Common.{List, [], ◌∷◌, Option, Some, None}
use Rattle.std.specs.Prelude.{if◌then◌else◌}
use Rattle.std.specs.List.{list_any}
use Rattle.std.proofs.lemmas.List.Elements.{All-nil, All-cons, All-head, All-from_recursion}
use Rattle.c_ast.specs.declared.int_type.IntType.{IntType}
use Rattle.c_type_base.specs.Laws.Opened.{given_types}
use Rattle.c_type_base.specs.declared.ty.Ty.{Ty, out-Ty}
use Rattle.c_type_base.specs.declared.ty.Ty.TheVariants as ty
use Rattle.c_type_base.specs.declared.ty.Ty.TheOpen.{Ty-F}
use Rattle.c_type_base.specs.Conversions.{wrap}
use Rattle.c_type_base.specs.Sizes.{int_bytes}
use Rattle.c_type_base.specs.Types.{TyLayer, is_there, int_of_level, target_of_level, is_void_level, is_integer}
use Rattle.c_type_base.specs.Types.{is_pointer, is_scalar, is_void}
use Rattle.block_meaning.specs.declared.reason.Reason.{Reason}
use Rattle.block_meaning.specs.declared.access.Access.{Access}
use Rattle.block_meaning.specs.Access.{ReadResult, ReadsAs, UndefinedBy, whole_or_part, scalar_in, unless_reason, read_in}
use Rattle.block_meaning.specs.Access.{reason_against}
use Rattle.block_meaning.specs.declared.cell.Cell.{Cell}
use Rattle.block_meaning.specs.declared.cell.Cell.TheVariants.{Byte, Part}
use Rattle.block_meaning.specs.Blocks.{Block, pointer, cells_in}
use Rattle.block_meaning.specs.declared.value.Pointer.{Pointer}
use Rattle.block_meaning.specs.ExpressionsInOrder.{Converts, integers, pointers, null_constant}
use Rattle.block_meaning.specs.Laws.Progress.Safe.{CellWithin, CellsWithin}
use Rattle.block_meaning.specs.declared.value.Value.{Value}
use Rattle.block_meaning.specs.declared.value.Value.TheVariants.{Number, Address, Struct, NoValue}
use Rattle.block_meaning.specs.Values.{pointer_in, number_in, number_cells}
use Rattle.block_meaning.specs.Values.{pointer_cells}
use Rattle.block_meaning.specs.Values.{scalar_cells, cells_of, number_of_cells, are_parts, pointer_of_cells, number_value, address_value}
use Rattle.block_meaning.specs.Values.{scalar_of_cells, value_of_cells, is_nothing, value_as, converted_to, zero_as, missing_result}

abbrev pub FitsLevel : ℕ → TyLayer → Value → Type 0
FitsLevel n (Ty-F.Int t) (Number k) = Unit {0}
FitsLevel n (Ty-F.Pointer t) (Address p) = p.block < n
FitsLevel n (Ty-F.Struct k) (Struct p) = p.block < n
FitsLevel n Ty-F.Void NoValue = Unit {0}
FitsLevel n _ _ = ⊥

-- where there are so many blocks
abbrev pub Fits : Ty → ℕ → Value → Type 0
Fits t n v = FitsLevel n (out-Ty t) v

-- it names no other block
abbrev pub ValueWithin : ℕ → Value → Type 0
ValueWithin n (Number k) = Unit {0}
ValueWithin n (Address p) = p.block < n
ValueWithin n (Struct p) = p.block < n
ValueWithin n NoValue = Unit {0}

abbrev pub IsNumber : ℕ → Value → Type 0
IsNumber n (Number k) = Unit {0}
IsNumber n _ = ⊥

abbrev pub IsAddress : ℕ → Value → Type 0
IsAddress n (Address p) = p.block < n
IsAddress n _ = ⊥

abbrev pub PlaceWithin : ℕ → Pointer → Type 0
PlaceWithin n p = p.block < n

level_within : (n : ℕ) (l : TyLayer) (v : Value) → FitsLevel n l v → ValueWithin n v
level_within n l (Number k) fits = tt
level_within n l NoValue fits = tt
level_within n (Ty-F.Pointer t) (Address p) fits = fits
level_within n _ (Address p) fits = absurd fits
level_within n (Ty-F.Struct k) (Struct p) fits = fits
level_within n _ (Struct p) fits = absurd fits

pub fits-within : (t : Ty) (n : ℕ) (v : Value) → Fits t n v → ValueWithin n v
fits-within t n v fits = level_within n (out-Ty t) v fits

level_more : (n k : ℕ) → n ≤ k → (l : TyLayer) (v : Value) → FitsLevel n l v → FitsLevel k l v
level_more n k more (Ty-F.Int t) (Number m) fits = tt
level_more n k more (Ty-F.Pointer t) (Address p) fits = omega (arith, more, fits)
level_more n k more (Ty-F.Struct m) (Struct p) fits = omega (arith, more, fits)
level_more n k more Ty-F.Void NoValue fits = tt
level_more n k more _ _ fits = absurd fits

-- with more blocks it fits too
pub fits-more : (t : Ty) (n k : ℕ) → n ≤ k → (v : Value) → Fits t n v → Fits t k v
fits-more t n k more v fits = level_more n k more (out-Ty t) v fits

pub within-more : (n k : ℕ) → n ≤ k → (v : Value) → ValueWithin n v → ValueWithin k v
within-more n k more (Number m) h = tt
within-more n k more (Address p) h = omega (arith, more, h)
within-more n k more (Struct p) h = omega (arith, more, h)
within-more n k more NoValue h = tt

-- ---- by kinds of types

level_number : (n : ℕ) (l : TyLayer) (v : Value) → is_there (int_of_level l) ≡ true → FitsLevel n l v → IsNumber n v
level_number n (Ty-F.Int t) (Number k) is fits = tt
level_number n (Ty-F.Int t) _ is fits = absurd fits
level_number n _ v is fits = absurd cc

pub integer-number : (t : Ty) (n : ℕ) (v : Value) → is_integer t ≡ true → Fits t n v → IsNumber n v
integer-number t n v is fits = level_number n (out-Ty t) v is fits

level_address : (n : ℕ) (l : TyLayer) (v : Value) → is_there (target_of_level l) ≡ true → FitsLevel n l v → IsAddress n v
level_address n (Ty-F.Pointer t) (Address p) is fits = fits
level_address n (Ty-F.Pointer t) _ is fits = absurd fits
level_address n _ v is fits = absurd cc

pub pointer-address : (t : Ty) (n : ℕ) (v : Value) → is_pointer t ≡ true → Fits t n v → IsAddress n v
pointer-address t n v is fits = level_address n (out-Ty t) v is fits

number_level : (n : ℕ) (l : TyLayer) (v : Value) → is_there (int_of_level l) ≡ true → IsNumber n v → FitsLevel n l v
number_level n (Ty-F.Int t) (Number k) is number = tt
number_level n (Ty-F.Int t) _ is number = absurd number
number_level n _ v is number = absurd cc

pub number-fits : (t : Ty) (n : ℕ) (v : Value) → is_integer t ≡ true → IsNumber n v → Fits t n v
number-fits t n v is number = number_level n (out-Ty t) v is number

address_level : (n : ℕ) (l : TyLayer) (v : Value) → is_there (target_of_level l) ≡ true → IsAddress n v → FitsLevel n l v
address_level n (Ty-F.Pointer t) (Address p) is address = address
address_level n (Ty-F.Pointer t) _ is address = absurd address
address_level n _ v is address = absurd cc

pub address-fits : (t : Ty) (n : ℕ) (v : Value) → is_pointer t ≡ true → IsAddress n v → Fits t n v
address-fits t n v is address = address_level n (out-Ty t) v is address

pub int-is_integer : (i : IntType) → is_integer (ty.Int i) ≡ true
unfolding given_types
int-is_integer i = refl

pub pointer-is_pointer : (t : Ty) → is_pointer (ty.Pointer t) ≡ true
unfolding given_types
pointer-is_pointer t = refl

-- ---- where a value points to

pub pointer_in-within : (n : ℕ) (v : Value) → 0 < n → ValueWithin n v → (pointer_in v).block < n
pointer_in-within n (Number k) some h = some
pointer_in-within n (Address p) some h = h
pointer_in-within n (Struct p) some h = h
pointer_in-within n NoValue some h = some

-- ---- conversions

level_converted : (n : ℕ) (l m : TyLayer) (v : Value) → is_there (target_of_level l) ≡ true → is_there (target_of_level m) ≡ true →
    FitsLevel n l v → FitsLevel n m (value_as m v)
level_converted n (Ty-F.Pointer t) (Ty-F.Pointer u) (Address p) is its fits = fits
level_converted n (Ty-F.Pointer t) (Ty-F.Pointer u) _ is its fits = absurd fits
level_converted n (Ty-F.Pointer t) _ v is its fits = absurd cc
level_converted n _ m v is its fits = absurd cc

integer_converted : (n : ℕ) (m : TyLayer) (v : Value) → is_there (int_of_level m) ≡ true → FitsLevel n m (value_as m v)
integer_converted n (Ty-F.Int t) v is = tt
integer_converted n _ v is = absurd cc

null_converted : (n : ℕ) (m : TyLayer) (v : Value) → 0 < n → IsNumber n v → is_there (target_of_level m) ≡ true →
    FitsLevel n m (value_as m v)
null_converted n (Ty-F.Pointer t) (Number k) some number is = some
null_converted n (Ty-F.Pointer t) _ some number is = absurd number
null_converted n _ v some number is = absurd cc

pub converted-fits : {s t : Ty} (n : ℕ) (v : Value) → 0 < n → Converts s t → Fits s n v → Fits t n (converted_to t v)
converted-fits {t = t} n v some (integers is its) fits = integer_converted n (out-Ty t) v its
converted-fits {s = s} {t = t} n v some (pointers is its) fits = level_converted n (out-Ty s) (out-Ty t) v is its fits
converted-fits {s = s} {t = t} n v some (null_constant is its) fits =
    null_converted n (out-Ty t) v some (integer-number s n v is fits) its

pub converted-integer : (t : Ty) (n : ℕ) (v : Value) → is_integer t ≡ true → Fits t n (converted_to t v)
converted-integer t n v is = integer_converted n (out-Ty t) v is

void_converted : (n : ℕ) (m : TyLayer) (v : Value) → is_void_level m ≡ true → FitsLevel n m (value_as m v)
void_converted n Ty-F.Void v is = tt
void_converted n _ v is = absurd cc

pub converted-void : (t : Ty) (n : ℕ) (v : Value) → is_void t ≡ true → Fits t n (converted_to t v)
converted-void t n v is = void_converted n (out-Ty t) v is

level_missing : (n : ℕ) (l : TyLayer) → 0 < n → (is_void_level l || (is_there (int_of_level l) || is_there (target_of_level l))) ≡ true →
    FitsLevel n l (zero_as l)
level_missing n Ty-F.Void some is = tt
level_missing n (Ty-F.Int t) some is = tt
level_missing n (Ty-F.Pointer t) some is = some
level_missing n _ some is = absurd cc

-- what a function gives that ends without `return`
pub missing-fits : (t : Ty) (n : ℕ) → 0 < n → (is_void t || is_scalar t) ≡ true → Fits t n (missing_result t)
missing-fits t n some is = level_missing n (out-Ty t) some is

void_level : (n : ℕ) (l : TyLayer) → is_void_level l ≡ true → FitsLevel n l NoValue
void_level n Ty-F.Void is = tt
void_level n _ is = absurd cc

pub void-fits : (t : Ty) (n : ℕ) → is_void t ≡ true → Fits t n NoValue
void-fits t n is = void_level n (out-Ty t) is

-- ---- a value as cells

pub number_cells-within : (n bytes k : ℕ) → CellsWithin n (number_cells bytes k)
number_cells-within n zero k = All-nil (CellWithin n)
number_cells-within n (suc bytes) k =
    All-cons (CellWithin n) (Byte (k % 256)) (number_cells bytes (k / 256)) tt (number_cells-within n bytes (k / 256))

pub pointer_cells-within : (n : ℕ) (p : Pointer) → p.block < n → CellsWithin n (pointer_cells p)
pointer_cells-within n p h =
    All-from_recursion (CellWithin n) (pointer_cells p) (h, (h, (h, (h, (h, (h, (h, (h, tt))))))))

level_cells : (n : ℕ) (l : TyLayer) (v : Value) → 0 < n → ValueWithin n v → CellsWithin n (scalar_cells l v)
level_cells n (Ty-F.Int t) v some h = number_cells-within n (int_bytes t) (number_in v)
level_cells n (Ty-F.Pointer t) v some h = pointer_cells-within n (pointer_in v) (pointer_in-within n v some h)
level_cells n _ v some h = All-nil (CellWithin n)

pub cells_of-within : (t : Ty) (n : ℕ) (v : Value) → 0 < n → ValueWithin n v → CellsWithin n (cells_of t v)
cells_of-within t n v some h = level_cells n (out-Ty t) v some h

-- ---- cells as a value

abbrev SomePlace : ℕ → Option Pointer → Type 0
SomePlace n None = Unit {0}
SomePlace n (Some p) = p.block < n

if_parts : (n : ℕ) (p : Pointer) → p.block < n → (b : Bool) → SomePlace n (if b then Some p else None)
if_parts n p h true = h
if_parts n p h false = tt

pointer_some : (n : ℕ) (cells : List Cell) → CellsWithin n cells → SomePlace n (pointer_of_cells cells)
pointer_some n [] all = tt
pointer_some n (Part k block offset ∷ cells) all = if_parts n (pointer block offset)
    (All-head (CellWithin n) (Part k block offset) cells all) (are_parts 0 (pointer block offset) (Part k block offset ∷ cells))
pointer_some n (_ ∷ cells) all = tt

abbrev SomeFits : ℕ → TyLayer → Option Value → Type 0
SomeFits n l None = Unit {0}
SomeFits n l (Some v) = FitsLevel n l v

some_number : (n : ℕ) (t : IntType) (o : Option ℕ) → SomeFits n (Ty-F.Int t) (number_value (wrap t) o)
some_number n t None = tt
some_number n t (Some k) = tt

some_address : (n : ℕ) (t : Ty) (o : Option Pointer) → SomePlace n o → SomeFits n (Ty-F.Pointer t) (address_value o)
some_address n t None h = tt
some_address n t (Some p) h = h

level_some : (n : ℕ) (l : TyLayer) (cells : List Cell) → CellsWithin n cells → SomeFits n l (scalar_of_cells l cells)
level_some n (Ty-F.Int t) cells all = some_number n t (number_of_cells cells)
level_some n (Ty-F.Pointer t) cells all = some_address n t (pointer_of_cells cells) (pointer_some n cells all)
level_some n _ cells all = tt

-- what is read fits the type
abbrev pub ReadFits : ℕ → TyLayer → ReadResult → Type 0
ReadFits n l (ReadsAs v) = FitsLevel n l v
ReadFits n l (UndefinedBy why) = Unit {0}

whole_fits : (n : ℕ) (l : TyLayer) (o : Option Value) → SomeFits n l o → ReadFits n l (whole_or_part o)
whole_fits n l None h = tt
whole_fits n l (Some v) h = h

if_nothing : (n : ℕ) (l : TyLayer) (b : Bool) (why : Reason) (r : ReadResult) → ReadFits n l r →
    ReadFits n l (if b then UndefinedBy why else r)
if_nothing n l true why r h = tt
if_nothing n l false why r h = h

unless_fits : (n : ℕ) (l : TyLayer) (why : Option Reason) (r : ReadResult) → ReadFits n l r → ReadFits n l (unless_reason why r)
unless_fits n l None r h = h
unless_fits n l (Some why) r h = tt

pub read_in-fits : (n : ℕ) (t : Ty) (b : Block) (a : Access) → CellsWithin n (cells_in b a.at.offset a.size) →
    ReadFits n (out-Ty t) (read_in b t a)
read_in-fits n t b a all =
    let cells = cells_in b a.at.offset a.size in
    unless_fits n (out-Ty t) (reason_against b a) (scalar_in t cells)
    (if_nothing n (out-Ty t) (list_any is_nothing cells) _ (whole_or_part (value_of_cells t cells))
    (whole_fits n (out-Ty t) (value_of_cells t cells) (level_some n (out-Ty t) cells all)))
