-- When an access to memory is undefined, and by which reason (after ISO C11 6.2.4, 6.3.2.3 and 6.5; reasons and their order are this
-- project's own).
use Rattle.std.specs.Prelude.{ℕ, ◌+◌, ◌-◌, ◌%◌, Bool, true, false, ◌&&◌, ltb, nat_eq, List, [], ◌∷◌, Option, Some, None, if◌then◌else◌, not}
use Rattle.std.specs.List.{list_any}
use Rattle.c_type_base.specs.declared.ty.Ty.{Ty}
use Rattle.block_meaning.specs.declared.access.Access.{Access}
use Rattle.block_meaning.specs.declared.reason.Reason.{Reason}
use Rattle.block_meaning.specs.declared.reason.Reason.TheVariants.{Misaligned, Null, Dead, Outside, ReadOnly, Indeterminate, Part}
use Rattle.block_meaning.specs.declared.cell.Cell.{Cell}
use Rattle.block_meaning.specs.declared.value.Pointer.{Pointer}
use Rattle.block_meaning.specs.declared.kind.Kind.{Kind}
use Rattle.block_meaning.specs.declared.kind.Kind.TheVariants.{NullBlock, Text}
use Rattle.block_meaning.specs.Blocks.{Block, cells_in}
use Rattle.block_meaning.specs.declared.value.Value.{Value}
use Rattle.block_meaning.specs.Values.{is_nothing, value_of_cells}

abbrev pub is_null_block : Kind → Bool
is_null_block NullBlock = true
is_null_block _ = false

abbrev pub is_text : Kind → Bool
is_text (Text unit number) = true
is_text _ = false

-- the first reason of a list that applies
abbrev pub first_reason : List (Bool × Reason) → Option Reason
first_reason [] = None
first_reason ((applies, why) ∷ more) = (if applies then Some why else first_reason more)

-- why an access to a block is undefined, but for what the cells hold
abbrev pub reason_against : Block → Access → Option Reason
reason_against b a = first_reason (
    (not (nat_eq (a.at.offset % a.align) 0), Misaligned) ∷
    (is_null_block b.kind, Null) ∷
    (not b.live, Dead) ∷
    (ltb b.size (a.at.offset + a.size), Outside) ∷
    (a.writes && is_text b.kind, ReadOnly) ∷ [])

-- what reading a scalar gives: its value, or the reason why it is undefined
pub data ReadResult : Type 0 where
  ReadsAs : Value → ReadResult
  UndefinedBy : Reason → ReadResult

abbrev pub whole_or_part : Option Value → ReadResult
whole_or_part None = UndefinedBy Part
whole_or_part (Some v) = ReadsAs v

-- some cells as a scalar of a type
abbrev pub scalar_in : Ty → List Cell → ReadResult
scalar_in t cells = (if list_any is_nothing cells then UndefinedBy Indeterminate else whole_or_part (value_of_cells t cells))

abbrev pub unless_reason : Option Reason → ReadResult → ReadResult
unless_reason None result = result
unless_reason (Some why) result = UndefinedBy why

-- a scalar of a type in a block
abbrev pub read_in : Block → Ty → Access → ReadResult
read_in b t a = unless_reason (reason_against b a) (scalar_in t (cells_in b a.at.offset a.size))

-- two places of so many bytes share some and are not one
abbrev pub overlap : Pointer → Pointer → ℕ → Bool
overlap p q bytes =
    nat_eq p.block q.block && not (nat_eq p.offset q.offset) && ltb (p.offset - q.offset) bytes && ltb (q.offset - p.offset) bytes
