-- What items of a function's code may be, so that each does what it is for where its words stand (this project's own). No slot of the
-- function's frame is tagged.
use Rattle.std.specs.Prelude.{◌≡◌, ℕ, ◌^◌, ◌<◌, false, List, length, slice_get, Some}
use Rattle.c_type_base.specs.declared.typed.Typed.{Typed}
use Rattle.frame_layout.specs.declared.frame.Slot.{Slot}
use Rattle.frame_layout.specs.WellFormed.{is_tagged_slot}
use Rattle.block_meaning.specs.Linkage.{function_of}
use Rattle.block_meaning.specs.Running.{Function}
use Rattle.code_relation.specs.Calls.{frame_of}
use Rattle.code_relation.specs.Sites.{Given, units_of}
use Rattle.code_relation.specs.Stands.{IsThere}
use Rattle.gen_unit.specs.Words.{Form}
use Rattle.sym_code.specs.declared.item.SymItem.{SymItem}
use Rattle.sym_code.specs.declared.item.SymItem.TheVariants as item

-- a local has a slot of the frame, which is safe
pub record HasSafeSlot (g : Given) (f : Function) (n : ℕ) : Type 0 where
  pub slot : Slot
  pub is : slice_get (frame_of (units_of g) f).slots n ≡ Some slot
  pub safe : is_tagged_slot slot ≡ false
  pub start : slot.start < 2 ^ 24

-- there is a text of this number, and an object
pub record HasText (units : List Typed) (unit n : ℕ) : Type 0 where
  pub file : Typed
  pub is : slice_get units unit ≡ Some file
  pub within : n < length file.texts

pub record HasObject (units : List Typed) (unit n : ℕ) : Type 0 where
  pub file : Typed
  pub is : slice_get units unit ≡ Some file
  pub within : n < length file.globals

-- what it names is there, and its register is one of X0 to X30
abbrev pub IsSound : Given → Function → SymItem → Type 0
IsSound g f (item.SlotAddress n r) = (r.0 < 31) × HasSafeSlot g f n
IsSound g f (item.GlobalAddress n r) = (r.0 < 31) × HasObject (units_of g) f.unit n
IsSound g f (item.ExternAddress n r) = r.0 < 31
IsSound g f (item.TextAddress n r) = (r.0 < 31) × HasText (units_of g) f.unit n
IsSound g f (item.CallFunction n) = IsThere (units_of g) (function_of f.unit n)
IsSound g f (item.EnterScope slots) = ⊥
IsSound g f (item.LeaveScope first last) = ⊥
IsSound g f i = Unit {0}

-- so are all, and each label stands once
pub record AreSound (g : Given) (f : Function) (is : List SymItem) : Type 0 where
  pub each : (k : ℕ) (i : SymItem) → slice_get is k ≡ Some i → IsSound g f i
  pub once : (j k n : ℕ) → slice_get is j ≡ Some (item.Label n) → slice_get is k ≡ Some (item.Label n) → j ≡ k

-- branches reach all places of items that end there
pub record IsWithinReach (f : Form) (end : ℕ) : Type 0 where
  pub jumps : end < 2 ^ 25
  pub branches : f.long ≡ false → end < 2 ^ 18
