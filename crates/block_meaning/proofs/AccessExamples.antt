-- Accesses, comparisons and cells, computed: a file with an object of 8 bytes and the text "ab", and a dead local.
use Rattle.block_meaning.specs.declared.reason.Reason.{Reason}
use Rattle.std.specs.Prelude.{Option, slice_get, ◌-◌, ◌^◌}
use Rattle.std.proofs.Common.{◌≡◌, refl, List, [], ◌∷◌, Some, None, false, true, Bool}
use Rattle.c_ast.specs.declared.int_type.IntType.TheVariants as int
use Rattle.c_ast.specs.declared.operator.BinaryOperator.TheVariants as binary
use Rattle.c_type_base.specs.Laws.Opened.{given_types}
use Rattle.c_type_base.specs.declared.ty.Ty.TheVariants as ty
use Rattle.block_meaning.specs.declared.reason.Reason.TheVariants.{Misaligned, Null, Dead, Outside, ReadOnly, Indeterminate, Part}
use Rattle.block_meaning.specs.declared.access.Access.{Access}
use Rattle.block_meaning.specs.Access.{reason_against, ReadsAs, UndefinedBy, scalar_in, overlap}
use Rattle.block_meaning.specs.declared.cell.Cell.TheVariants.{Nothing, Byte}
use Rattle.block_meaning.specs.declared.value.Pointer.{Pointer}
use Rattle.block_meaning.specs.declared.kind.Kind.TheVariants.{Global, Text, Local}
use Rattle.block_meaning.specs.Blocks.{Block, pointer, null, null_block, block_of, fresh}
use Rattle.block_meaning.specs.Blocks.{ended}
use Rattle.block_meaning.specs.Compare.{compared, pointer_truth, objects_between}
use Rattle.block_meaning.specs.declared.value.Value.TheVariants.{Number, Address}
use Rattle.block_meaning.specs.Values.{number_cells, pointer_cells}

abbrev blocks : List Block
blocks =
    null_block ∷ block_of (Global 0 0) (pointer_cells null) ∷ block_of (Text 0 0) (Byte 97 ∷ Byte 98 ∷ Byte 0 ∷ [])
    ∷ ended (fresh (Local 1 0) 4) ∷ fresh (Local 0 0) 4 ∷ []

-- why an access to one of them is undefined
abbrev against_block : Option Block → Access → Option Reason
against_block None a = None
against_block (Some b) a = reason_against b a

abbrev against : Access → Option Reason
against a = against_block (slice_get blocks a.at.block) a

-- four bytes at a place
abbrev four : Bool → Pointer → Access
four writes p = record { at = p; size = 4; align = 4; writes = writes; scalar = true }

inside : against (four true (pointer 1 4)) ≡ None
inside = refl

off_its_alignment : against (four false (pointer 1 2)) ≡ Some Misaligned
off_its_alignment = refl

-- the alignment is judged first
unaligned_null : against (four false (pointer 0 1)) ≡ Some Misaligned
unaligned_null = refl

of_null : against (four false null) ≡ Some Null
of_null = refl

after_its_life : against (four false (pointer 3 0)) ≡ Some Dead
after_its_life = refl

-- a dead block is dead outside too
outside_after_its_life : against (four false (pointer 3 8)) ≡ Some Dead
outside_after_its_life = refl

past_the_end : against (four false (pointer 1 8)) ≡ Some Outside
past_the_end = refl

-- 4 bytes of a text of 3
into_a_text_and_past_it : against (four true (pointer 2 0)) ≡ Some Outside
into_a_text_and_past_it = refl

into_a_text : against (record { at = pointer 2 1; size = 1; align = 1; writes = true; scalar = true }) ≡ Some ReadOnly
into_a_text = refl

never_written : scalar_in (ty.Int int.Char) (Nothing ∷ []) ≡ UndefinedBy Indeterminate
never_written = refl

-- -2 in two bytes
negative_short : scalar_in (ty.Int int.Short) (number_cells 2 (2 ^ 64 - 2)) ≡ ReadsAs (Number (2 ^ 64 - 2))
unfolding given_types
negative_short = refl

unsigned_short : scalar_in (ty.Int int.UShort) (number_cells 2 (2 ^ 64 - 2)) ≡ ReadsAs (Number 65534)
unfolding given_types
unsigned_short = refl

stored_pointer : scalar_in (ty.Pointer (ty.Int int.Int)) (pointer_cells (pointer 1 4)) ≡ ReadsAs (Address (pointer 1 4))
unfolding given_types
stored_pointer = refl

-- the bytes of a pointer are no number, and bytes are no pointer
pointer_as_long : scalar_in (ty.Int int.Long) (pointer_cells (pointer 1 4)) ≡ UndefinedBy Part
unfolding given_types
pointer_as_long = refl

long_as_pointer : scalar_in (ty.Pointer (ty.Int int.Int)) (number_cells 8 0) ≡ UndefinedBy Part
unfolding given_types
long_as_pointer = refl

-- ---- comparisons

-- offsets are modulo 2^64: one before the start comes before it
before_the_start : compared blocks binary.Less (pointer 1 (2 ^ 64 - 4)) (pointer 1 0) ≡ Some true
before_the_start = refl

in_a_dead_block : compared blocks binary.Equal (pointer 3 0) (pointer 3 0) ≡ Some true
in_a_dead_block = refl

two_objects_differ : compared blocks binary.Equal (pointer 1 0) (pointer 4 0) ≡ Some false
two_objects_differ = refl

-- one past an object may be the next one
past_an_object : compared blocks binary.Equal (pointer 1 8) (pointer 4 0) ≡ None
past_an_object = refl

two_objects_have_no_order : compared blocks binary.Less (pointer 1 0) (pointer 4 0) ≡ None
two_objects_have_no_order = refl

one_past_is_not_null : pointer_truth blocks (pointer 1 8) ≡ Some true
one_past_is_not_null = refl

farther_is_not_known : pointer_truth blocks (pointer 1 9) ≡ None
farther_is_not_known = refl

dead_is_not_known : pointer_truth blocks (pointer 3 0) ≡ None
dead_is_not_known = refl

null_is_false : pointer_truth blocks null ≡ Some false
null_is_false = refl

moved_null_is_true : pointer_truth blocks (pointer 0 4) ≡ Some true
moved_null_is_true = refl

-- toward 0: -7 over 4 is -1
difference_below_zero : objects_between (pointer 1 0) (pointer 1 7) 4 ≡ Some (2 ^ 64 - 1)
difference_below_zero = refl

a_struct_over_itself : overlap (pointer 1 4) (pointer 1 4) 8 ≡ false
a_struct_over_itself = refl

a_struct_over_its_half : overlap (pointer 1 4) (pointer 1 0) 8 ≡ true
a_struct_over_its_half = refl

two_structs_side_by_side : overlap (pointer 1 8) (pointer 1 0) 8 ≡ false
two_structs_side_by_side = refl
