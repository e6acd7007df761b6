-- Scalars in memory: how many bytes they have, which cells they are, and the instruction that stores them (this project's own).
use Rattle.std.specs.Prelude.{◌≡◌, ℕ, ◌+◌, ◌%◌, ◌<◌, true, List, length, refl}
use Rattle.std.proofs.Common.{arith, ap, sym, subst, ◌∙◌}
use Rattle.mt_base.specs.Granules.{granule_of}
use Rattle.mt_base.specs.Memory.{store}
use Rattle.c_ast.specs.declared.int_type.IntType.{IntType}
use Rattle.c_ast.specs.declared.int_type.IntType.TheVariants as int
use Rattle.c_type_base.specs.Laws.Opened.{given_types}
use Rattle.c_type_base.specs.Sizes.{int_bytes, size, size_step, align, align_step}
use Rattle.c_type_base.specs.Types.{TyLayer, is_scalar}
use Rattle.c_type_base.specs.declared.ty.Ty.{Ty, out-Ty, map-Ty}
use Rattle.c_type_base.specs.declared.ty.Ty.TheFolds.{fold_out-Ty}
use Rattle.c_type_base.specs.declared.ty.Ty.TheOpen.{Ty-F}
use Rattle.c_type_base.specs.declared.typed.StructInfo.{StructInfo}
use Rattle.a64_code.specs.declared.instr.Reg.{Reg}
use Rattle.a64_code.specs.Effect.{effect}
use Rattle.a64_code.specs.State.{State, general}
use Rattle.a64_code.specs.Stepped.{Leads}
use Rattle.a64_laws.specs.Forms.{load_size, Points, puts_bytes}
use Rattle.a64_laws.specs.Laws.Effects.Open.{IsOpen}
use Rattle.block_meaning.specs.Running.{State as MeaningState}
use Rattle.block_meaning.specs.Values.{scalar_cells, cells_of}
use Rattle.block_meaning.specs.declared.value.Value.{Value}
use Rattle.block_meaning.specs.declared.value.Value.TheVariants.{Number, Address}
use Rattle.code_relation.specs.Numbers.{Holds}
use Rattle.code_relation.specs.Sites.{Given}
use Rattle.code_relation.specs.Laws.PointerCells.{AreCells-pointer}
use Rattle.code_relation.specs.Laws.Reading.{AreCells}
use Rattle.code_relation.specs.Laws.Storing.{length-number_cells, AreCells-store}
use Rattle.gen_base.specs.Accesses.{OnStack, Behind, load_of_level, load_of, store_scalar}
use Rattle.gen_laws.specs.Laws.Accesses.{IsNear, load_size-int, store_near-integer, store_near-pointer, store_far-integer}
use Rattle.gen_laws.specs.Laws.Accesses.{store_far-pointer}
use Rattle.code_follows.specs.Values.{IsOfLevel, ValueIs}
use Rattle.code_follows.specs.Laws.Scalars.{is_scalar_level}

-- how many bytes loads and stores of a scalar move
abbrev pub bytes_in : Ty → ℕ
bytes_in t = load_size (load_of t)

-- a scalar type is one of integers or one of pointers
pub data ScalarType (l : TyLayer) : Type 0 where
  of_integers : (u : IntType) → l ≡ Ty-F.Int u → ScalarType l
  of_pointers : (target : Ty) → l ≡ Ty-F.Pointer target → ScalarType l

scalar_level : (l : TyLayer) → is_scalar_level l ≡ true → ScalarType l
scalar_level (Ty-F.Int u) is = of_integers u refl
scalar_level (Ty-F.Pointer target) is = of_pointers target refl
scalar_level _ is = absurd (cc)

pub scalar_type : (t : Ty) → is_scalar t ≡ true → ScalarType (out-Ty t)
scalar_type t is = scalar_level (out-Ty t) is

pub bytes_in-integer : (t : Ty) (u : IntType) → out-Ty t ≡ Ty-F.Int u → bytes_in t ≡ int_bytes u
bytes_in-integer t u is = ap (λ l. load_size (load_of_level l)) is ∙ load_size-int u

pub bytes_in-pointer : (t target : Ty) → out-Ty t ≡ Ty-F.Pointer target → bytes_in t ≡ 8
bytes_in-pointer t target is = ap (λ l. load_size (load_of_level l)) is

-- ---- sizes and alignments

size_level : (structs : List StructInfo) (l : TyLayer) → is_scalar_level l ≡ true →
    size_step structs (map-Ty Ty ℕ (size structs) l) ≡ load_size (load_of_level l)
size_level structs (Ty-F.Int u) is = sym (load_size-int u)
size_level structs (Ty-F.Pointer target) is = refl
size_level structs _ is = absurd (cc)

-- as many as it has
pub size-scalar : (structs : List StructInfo) (t : Ty) → is_scalar t ≡ true → size structs t ≡ bytes_in t
unfolding given_types
size-scalar structs t is = fold_out-Ty ℕ (size_step structs) t ∙ size_level structs (out-Ty t) is

align_level : (structs : List StructInfo) (l : TyLayer) → is_scalar_level l ≡ true →
    align_step structs (map-Ty Ty ℕ (align structs) l) ≡ load_size (load_of_level l)
align_level structs (Ty-F.Int u) is = sym (load_size-int u)
align_level structs (Ty-F.Pointer target) is = refl
align_level structs _ is = absurd (cc)

pub align-scalar : (structs : List StructInfo) (t : Ty) → is_scalar t ≡ true → align structs t ≡ bytes_in t
unfolding given_types
align-scalar structs t is = fold_out-Ty ℕ (align_step structs) t ∙ align_level structs (out-Ty t) is

-- a multiple of 16 and more so is one of a scalar's bytes
int_sum : (u : IntType) (n m : ℕ) → n % 16 ≡ 0 → m % int_bytes u ≡ 0 → (n + m) % int_bytes u ≡ 0
int_sum int.Char n m is its = omega arith
int_sum int.SignedChar n m is its = omega arith
int_sum int.UnsignedChar n m is its = omega arith
int_sum int.Short n m is its = omega (arith, is, its)
int_sum int.UShort n m is its = omega (arith, is, its)
int_sum int.Int n m is its = omega (arith, is, its)
int_sum int.UInt n m is its = omega (arith, is, its)
int_sum int.Long n m is its = omega (arith, is, its)
int_sum int.ULong n m is its = omega (arith, is, its)

pub whole_sum : (t : Ty) → is_scalar t ≡ true → (n m : ℕ) → n % 16 ≡ 0 → m % bytes_in t ≡ 0 → (n + m) % bytes_in t ≡ 0
whole_sum t is n m first = by_type (scalar_type t is)
  where
    by_type : ScalarType (out-Ty t) → m % bytes_in t ≡ 0 → (n + m) % bytes_in t ≡ 0
    by_type (of_integers u same) =
        subst (λ k. m % k ≡ 0 → (n + m) % k ≡ 0) (sym (bytes_in-integer t u same)) (int_sum u n m first)
    by_type (of_pointers target same) =
        subst (λ k. m % k ≡ 0 → (n + m) % k ≡ 0) (sym (bytes_in-pointer t target same)) (λ second. omega (arith, first, second))

int_few : (u : IntType) → int_bytes u < 9
int_few int.Char = omega arith
int_few int.SignedChar = omega arith
int_few int.UnsignedChar = omega arith
int_few int.Short = omega arith
int_few int.UShort = omega arith
int_few int.Int = omega arith
int_few int.UInt = omega arith
int_few int.Long = omega arith
int_few int.ULong = omega arith

-- ---- the instruction

abbrev StoresNear : Ty → Reg → State → ℕ → ℕ → Type 0
StoresNear t r s offset n = IsNear s offset n → IsOpen s (s.sp + offset) n →
    effect (store_scalar t (OnStack offset) r) s ≡ Leads (puts_bytes (store n s.byte (s.sp + offset) (general s r)) s)

pub store_near-scalar : (t : Ty) → is_scalar t ≡ true → (r : Reg) (s : State) (offset : ℕ) → IsNear s offset (bytes_in t) →
    IsOpen s (s.sp + offset) (bytes_in t) →
    effect (store_scalar t (OnStack offset) r) s ≡ Leads (puts_bytes (store (bytes_in t) s.byte (s.sp + offset) (general s r)) s)
store_near-scalar t is r s offset = by_type (scalar_type t is)
  where
    by_type : ScalarType (out-Ty t) → StoresNear t r s offset (bytes_in t)
    by_type (of_integers u same) =
        subst (StoresNear t r s offset) (sym (bytes_in-integer t u same)) (store_near-integer t u same r s offset)
    by_type (of_pointers target same) =
        subst (StoresNear t r s offset) (sym (bytes_in-pointer t target same)) (store_near-pointer t target same r s offset)

abbrev StoresFar : Ty → Reg → State → Reg → ℕ → ℕ → ℕ → Type 0
StoresFar t r s p at tag n = at % n ≡ 0 → IsOpen s at n → s.tag (granule_of at) ≡ tag →
    effect (store_scalar t (Behind p) r) s ≡ Leads (puts_bytes (store n s.byte at (general s r)) s)

pub store_far-scalar : (t : Ty) → is_scalar t ≡ true → (r : Reg) (s : State) (p : Reg) (at tag : ℕ) → p.0 < 31 →
    Points (s.register p.0) at tag → at % bytes_in t ≡ 0 → IsOpen s at (bytes_in t) → s.tag (granule_of at) ≡ tag →
    effect (store_scalar t (Behind p) r) s ≡ Leads (puts_bytes (store (bytes_in t) s.byte at (general s r)) s)
store_far-scalar t is r s p at tag base points = by_type (scalar_type t is)
  where
    by_type : ScalarType (out-Ty t) → StoresFar t r s p at tag (bytes_in t)
    by_type (of_integers u same) =
        subst (StoresFar t r s p at tag) (sym (bytes_in-integer t u same)) (store_far-integer t u same r s p at tag base points)
    by_type (of_pointers target same) =
        subst (StoresFar t r s p at tag) (sym (bytes_in-pointer t target same)) (store_far-pointer t target same r s p at tag base points)

-- ---- its cells

-- The number of a value is stored: its cells are there, as many as it has bytes.
pub record Stored (g : Given) (now : MeaningState) (t : Ty) (v : Value) (byte : ℕ → ℕ) (at n : ℕ) : Type 0 where
  pub cells : AreCells g now (cells_of t v) (store (bytes_in t) byte at n) at
  pub as_many : length (cells_of t v) ≡ bytes_in t

stored_level : (g : Given) (now : MeaningState) (l : TyLayer) (v : Value) (byte : ℕ → ℕ) (at n : ℕ) → is_scalar_level l ≡ true →
    IsOfLevel l v → Holds g now v n → AreCells g now (scalar_cells l v) (store (load_size (load_of_level l)) byte at n) at
    × (length (scalar_cells l v) ≡ load_size (load_of_level l))
stored_level g now (Ty-F.Int u) (Number m) byte at n is of holds = (
  subst (λ k. AreCells g now (scalar_cells (Ty-F.Int u) (Number m)) (store k byte at n) at) (sym (load_size-int u))
      (subst (λ value. AreCells g now (scalar_cells (Ty-F.Int u) (Number value)) (store (int_bytes u) byte at n) at) holds
      (AreCells-store g now (int_bytes u) byte at n)),
  length-number_cells (int_bytes u) m ∙ sym (load_size-int u),
)
stored_level g now (Ty-F.Int u) _ byte at n is of holds = absurd of
stored_level g now (Ty-F.Pointer target) (Address p) byte at n is of holds = (AreCells-pointer g now byte at p n holds, refl)
stored_level g now (Ty-F.Pointer target) _ byte at n is of holds = absurd of
stored_level g now _ v byte at n is of holds = absurd (cc)

pub stored-scalar : {g : Given} {now : MeaningState} (t : Ty) (v : Value) (n : ℕ) (byte : ℕ → ℕ) (at : ℕ) → is_scalar t ≡ true →
    ValueIs g t v now n → Stored g now t v byte at n
stored-scalar {g} {now} t v n byte at is value =
    let both = stored_level g now (out-Ty t) v byte at n is value.of value.holds in
    record { cells = both.0; as_many = both.1 }
