-- Pointers: what adding to one gives, how two compare, and what lies between them (after ISO C11 6.5.6, 6.5.8 and 6.5.9; by differences
-- within a block, which is this project's own). None is a comparison that is undefined.
use Rattle.std.specs.Prelude.{ℕ, ◌+◌, ◌-◌, ◌%◌, ◌^◌, Bool, true, false, ◌&&◌, ◌||◌, leb, ltb, nat_eq, List, slice_get, Option, Some, None}
use Rattle.std.specs.Prelude.{not}
use Rattle.std.specs.Prelude.{if◌then◌else◌}
use Rattle.c_ast.specs.declared.operator.BinaryOperator.{BinaryOperator}
use Rattle.c_ast.specs.declared.operator.BinaryOperator.TheVariants as binary
use Rattle.c_ast.specs.declared.int_type.IntType.TheVariants as int
use Rattle.c_type_base.specs.Arithmetic.{is_negative, quotient}
use Rattle.block_meaning.specs.declared.value.Pointer.{Pointer}
use Rattle.block_meaning.specs.Blocks.{Block, null}

-- the difference of two offsets, modulo 2^64: a number of type long
abbrev pub difference : Pointer → Pointer → ℕ
difference p q = (p.offset + (2 ^ 64 - q.offset)) % 2 ^ 64

-- within a block, by the difference as a signed number
abbrev pub is_before : Pointer → Pointer → Bool
is_before p q = is_negative int.Long (difference p q)

abbrev pub is_same : Pointer → Pointer → Bool
is_same p q = nat_eq p.offset q.offset

abbrev pub within_block : BinaryOperator → Pointer → Pointer → Option Bool
within_block binary.Less p q = Some (is_before p q)
within_block binary.LessEqual p q = Some (is_before p q || is_same p q)
within_block binary.Greater p q = Some (is_before q p)
within_block binary.GreaterEqual p q = Some (is_before q p || is_same q p)
within_block binary.Equal p q = Some (is_same p q)
within_block binary.NotEqual p q = Some (not (is_same p q))
within_block _ p q = None

abbrev pub is_null : Pointer → Bool
is_null p = nat_eq p.block 0 && nat_eq p.offset 0

abbrev pub lives_within : (ℕ → ℕ → Bool) → Option Block → Pointer → Bool
lives_within fits None p = false
lives_within fits (Some b) p = b.live && fits p.offset b.size

-- in a live block, before its end
abbrev pub is_inside : List Block → Pointer → Bool
is_inside blocks p = lives_within ltb (slice_get blocks p.block) p

-- in a live block, at its end at most
abbrev pub is_at_most_at_end : List Block → Pointer → Bool
is_at_most_at_end blocks p = lives_within leb (slice_get blocks p.block) p

-- two pointers of different blocks that are known to differ
abbrev pub known_to_differ : List Block → Pointer → Pointer → Bool
known_to_differ blocks p q =
    (is_inside blocks p && is_inside blocks q)
    || (is_null p && is_at_most_at_end blocks q)
    || (is_null q && is_at_most_at_end blocks p)

abbrev pub of_different : BinaryOperator → Bool → Option Bool
of_different binary.Equal true = Some false
of_different binary.NotEqual true = Some true
of_different _ _ = None

-- a comparison of two pointers
abbrev pub compared : List Block → BinaryOperator → Pointer → Pointer → Option Bool
compared blocks o p q =
    (if nat_eq p.block q.block then within_block o p q else of_different o (known_to_differ blocks p q))

-- a pointer as a condition is compared with the null pointer
abbrev pub pointer_truth : List Block → Pointer → Option Bool
pointer_truth blocks p = compared blocks binary.NotEqual p null

-- how many objects of a size lie between two pointers
abbrev pub objects_between : Pointer → Pointer → ℕ → Option ℕ
objects_between p q size = (if nat_eq p.block q.block then Some (quotient int.Long (difference p q) size) else None)
