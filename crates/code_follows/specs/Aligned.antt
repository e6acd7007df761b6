-- Programs of which each local in a safe slot is a scalar, or stands on a multiple of 8 (this project's own). No scalar wants more, and one
-- within a scalar wants no more than that. Where a path leads to a smaller part of an array in a safe slot, the code is right too, but that
-- no other pointer leads there is not shown yet.
use Rattle.std.specs.Prelude.{◌≡◌, ℕ, ◌%◌, true, ◌⊎◌, List, slice_get, Some}
use Rattle.c_type_base.specs.Types.{is_scalar}
use Rattle.c_type_base.specs.declared.typed.LocalInfo.{LocalInfo}
use Rattle.c_type_base.specs.declared.typed.TFunction.{TFunction}
use Rattle.c_type_base.specs.declared.typed.Typed.{Typed}
use Rattle.slot_safety.specs.declared.kind.Kind.TheVariants.{Safe}
use Rattle.frame_layout.specs.declared.frame.Slot.{Slot}
use Rattle.block_meaning.specs.Linkage.{function_named}
use Rattle.block_meaning.specs.Running.{Function}
use Rattle.code_relation.specs.Calls.{frame_of}

pub record AlignedSlots (units : List Typed) : Type 0 where
  pub each : (f : Function) (function : TFunction) (k : ℕ) (l : LocalInfo) (s : Slot) → function_named units f ≡ Some function →
      slice_get function.locals k ≡ Some l → slice_get (frame_of units f).slots k ≡ Some s → s.kind ≡ Safe →
      (is_scalar l.ty ≡ true) ⊎ (s.start % 8 ≡ 0)
