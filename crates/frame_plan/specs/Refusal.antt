-- Which programs have a text, and why others have none, with the number and the place that are told of it (this project's own).
use Rattle.std.specs.Prelude.{◌≡◌, ℕ, ◌<◌, ◌≤◌, min, List, length, map, take, slice_get, Some, All}
use Rattle.c_type_base.specs.declared.typed.StructInfo.{StructInfo}
use Rattle.c_type_base.specs.declared.typed.TFunction.{TFunction}
use Rattle.c_type_base.specs.declared.typed.Typed.{Typed}
use Rattle.frame_layout.specs.Frames.{frame, largest_frame}
use Rattle.frame_layout.specs.Needs.{greatest}
use Rattle.frame_plan.specs.declared.refusal.PlanRefusal.{PlanRefusal}
use Rattle.frame_plan.specs.declared.refusal.PlanRefusal.TheVariants.{TooManyFunctions, FrameTooLarge, NoMemory}
use Rattle.frame_plan.specs.Lines.{lines}

-- the greatest number of functions that a program may define
abbrev pub most_functions : ℕ
most_functions = 512

-- the frame of a function is within the limit
abbrev pub Fits : List StructInfo → TFunction → Type 0
Fits structs f = (frame structs f).bytes ≤ largest_frame

-- the text that tells the frames of a program's functions, where there are not too many and each fits
pub record HasText (typed : Typed) (text : List ℕ) : Type 0 where
  pub few : length typed.functions ≤ most_functions
  pub fit : All (Fits typed.structs) typed.functions
  pub is : text ≡ lines typed

-- the bytes of the frame of a function
abbrev pub frame_bytes : List StructInfo → TFunction → ℕ
frame_bytes structs f = (frame structs f).bytes

-- the bytes of the frames of a program's functions, in order, where there are not too many and each fits
pub record HasSizes (typed : Typed) (sizes : List ℕ) : Type 0 where
  pub few : length typed.functions ≤ most_functions
  pub fit : All (Fits typed.structs) typed.functions
  pub is : sizes ≡ map (frame_bytes typed.structs) typed.functions

-- this is the first of some functions whose frame does not fit
pub record IsFirstLarge (structs : List StructInfo) (functions : List TFunction) (f : TFunction) : Type 0 where
  pub number : ℕ
  pub there : slice_get functions number ≡ Some f
  pub large : largest_frame < (frame structs f).bytes
  pub before : All (Fits structs) (take number functions)

-- the frame of a function is too large, of so many bytes
abbrev pub too_large : List StructInfo → TFunction → PlanRefusal
too_large structs f = FrameTooLarge (min (frame structs f).bytes greatest) f.span

-- why a program has neither text nor sizes: first of all it defines too many functions
pub data HasNoText (typed : Typed) : PlanRefusal → Type 0 where
  many : most_functions < length typed.functions → HasNoText typed (TooManyFunctions (length typed.functions))
  large : (f : TFunction) → length typed.functions ≤ most_functions → IsFirstLarge typed.structs typed.functions f →
      HasNoText typed (too_large typed.structs f)

-- the number of each refusal; want of memory, which says nothing of the program, has none
abbrev pub number_of : PlanRefusal → ℕ
number_of (TooManyFunctions count) = 23
number_of (FrameTooLarge bytes span) = 22
number_of NoMemory = 0

-- the byte of the source that is told of each: where the function starts
abbrev pub place_of : PlanRefusal → ℕ
place_of (TooManyFunctions count) = 0
place_of (FrameTooLarge bytes span) = span.start
place_of NoMemory = 0
