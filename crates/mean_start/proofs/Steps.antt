-- Lists of cells, one step further.
use Rattle.std.proofs.Common.{◌≡◌, refl, sym, ap, subst, ◌∙◌, ℕ, zero, suc, ◌+◌, ◌<◌, List, [], ◌∷◌, ◌++◌, append_assoc, add-one, length}
use Rattle.std.proofs.Common.{take, get_or, replicate, arith, ◌-◌, ◌^◌, ℤ, pos, negsuc, w64, Some, Result, Vec, Global}
use Rattle.std.specs.Prelude.{slice_get, IfOk}
use Rattle.std.specs.declared.alloc.AllocError.{AllocError}
use Rattle.std.specs.Int.{cast_unsigned}
use Rattle.std.proofs.lemmas.List.{append-nil, nil_from_length, take_more}
use Rattle.c_type_base.specs.declared.ty.Ty.{Ty}
use Rattle.c_type_base.specs.declared.typed.MemberInfo.{MemberInfo}
use Rattle.c_type_base.specs.declared.typed.InitPiece.{InitPiece}
use Rattle.c_type_base.specs.declared.typed.InitValue.TheVariants as initial
use Rattle.c_type_base.specs.declared.typed.StructInfo.{StructInfo}
use Rattle.c_type_base.specs.declared.typed.Target.{Target}
use Rattle.c_type_base.specs.declared.typed.Typed.{Typed}
use Rattle.c_type_base.specs.Sizes.{bytes_of_struct}
use Rattle.c_type_base.specs.Layout.{members_of}
use Rattle.block_meaning.specs.declared.cell.Cell.{Cell}
use Rattle.block_meaning.specs.declared.cell.Cell.TheVariants.{Byte}
use Rattle.block_meaning.specs.Blocks.{pointer, with_cells}
use Rattle.block_meaning.specs.Opening.{repeated, zero_members, zero_by, zero_in_struct, unsigned, target_block, scalar_over, with_piece}
use Rattle.block_meaning.specs.Values.{pointer_cells}

repeated_none : (n : ℕ) → repeated n [] ≡ []
repeated_none zero = refl
repeated_none (suc n) = repeated_none n

-- nothing, so many times over
pub repeated_empty : (n : ℕ) (cells : List Cell) → length cells ≡ 0 → [] ≡ repeated n cells
repeated_empty n cells none = sym (ap (repeated n) (nil_from_length cells none) ∙ repeated_none n)

repeated_last : (n : ℕ) (cells : List Cell) → repeated (suc n) cells ≡ repeated n cells ++ cells
repeated_last zero cells = append-nil cells
repeated_last (suc n) cells =
    ap (λ l. cells ++ l) (repeated_last n cells) ∙ sym (append_assoc cells (repeated n cells) cells)

-- once more
pub repeated_more : (n : ℕ) (cells : List Cell) → repeated n cells ++ cells ≡ repeated (n + 1) cells
repeated_more n cells = sym (ap (λ k. repeated k cells) (add-one n) ∙ repeated_last n cells)

zero_last : (zeros : Ty → List Cell) (ms : List MemberInfo) (m : MemberInfo) (cells : List Cell) →
    zero_members zeros (ms ++ m ∷ []) cells ≡ with_cells m.offset (zeros m.ty) (zero_members zeros ms cells)
zero_last zeros [] m cells = refl
zero_last zeros (x ∷ xs) m cells = zero_last zeros xs m (with_cells x.offset (zeros x.ty) cells)

-- a member more
pub zero_more : (zeros : Ty → List Cell) (ms : List MemberInfo) (i : ℕ) (m : MemberInfo) (cells : List Cell) → i < length ms →
    m ≡ get_or ms i m →
    with_cells m.offset (zeros m.ty) (zero_members zeros (take i ms) cells) ≡ zero_members zeros (take (i + 1) ms) cells
zero_more zeros ms i m cells within is =
    sym (ap (λ l. zero_members zeros l cells) (take_more ms i m within ∙ ap (λ x. take i ms ++ x ∷ []) (sym is))
    ∙ zero_last zeros (take i ms) m cells)

minus_more : (k n : ℕ) → k - suc n ≡ k - 1 - n
minus_more k n = omega arith

-- a signed number modulo 2^64
pub unsigned_is : (z : ℤ) → cast_unsigned w64 z ≡ unsigned z
unsigned_is (pos n) = refl
unsigned_is (negsuc n) = minus_more (2 ^ 64) n

zero_is : (structs : List StructInfo) (deeper inner number : ℕ) (info : StructInfo) → deeper ≡ suc inner →
    slice_get structs number ≡ Some info →
    zero_members (zero_by (zero_in_struct inner structs)) info.members (replicate info.bytes (Byte 0)) ≡
    zero_in_struct deeper structs number
zero_is structs deeper inner number info is at =
    ap (λ o. zero_members (zero_by (zero_in_struct inner structs)) (members_of o) (replicate (bytes_of_struct o) (Byte 0))) (sym at)
    ∙ ap (λ d. zero_in_struct d structs number) (sym is)

-- the struct of a number, by what it holds
pub struct_made : (structs : List StructInfo) (deeper number : ℕ) (info : StructInfo) (made : Result (Vec Cell Global) AllocError) →
    (deeper ≡ 0 → ⊥) → slice_get structs number ≡ Some info →
    IfOk made (λ v. v.items ≡ zero_members (zero_by (zero_in_struct (deeper - 1) structs)) info.members (replicate info.bytes (Byte 0))) →
    IfOk made (λ v. v.items ≡ zero_in_struct deeper structs number)
struct_made structs deeper number info made some at is =
    let more : deeper ≡ suc (deeper - 1) = omega arith in
    subst (λ l. IfOk made (λ v. v.items ≡ l)) (zero_is structs deeper (deeper - 1) number info more at) is

-- a pointer of an initialiser is written
pub address_put : (units : List Typed) (unit : ℕ) (p : InitPiece) (t : Target) (z : ℤ) (block offset : ℕ) (old new : List Cell) →
    p.value ≡ initial.Address t z → block ≡ target_block units unit t → offset ≡ unsigned z →
    new ≡ with_cells p.offset (pointer_cells (pointer block offset)) old → new ≡ with_piece units unit p old
address_put units unit p t z block offset old new value is by put =
    put ∙ ap (λ b. with_cells p.offset (pointer_cells (pointer b offset)) old) is
    ∙ ap (λ o. with_cells p.offset (pointer_cells (pointer (target_block units unit t) o)) old) by
    ∙ ap (λ v. with_cells p.offset (scalar_over units unit (slice_get old p.offset) v) old) (sym value)
