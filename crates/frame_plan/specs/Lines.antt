-- The lines that tell the frames of a program's functions (this project's own).
use Rattle.std.specs.Prelude.{ℕ, List, [], ◌∷◌, ◌++◌, codes, decimal, flat_map}
use Rattle.c_type_base.specs.declared.typed.LocalInfo.{LocalInfo}
use Rattle.c_type_base.specs.declared.typed.TFunction.{TFunction}
use Rattle.c_type_base.specs.declared.typed.StructInfo.{StructInfo}
use Rattle.c_type_base.specs.declared.typed.Typed.{Typed}
use Rattle.slot_safety.specs.declared.kind.Kind.{Kind}
use Rattle.slot_safety.specs.declared.kind.Kind.TheVariants.{Safe, Tagged}
use Rattle.frame_layout.specs.declared.frame.Frame.{Frame}
use Rattle.frame_layout.specs.declared.frame.Slot.{Slot}
use Rattle.frame_layout.specs.Frames.{frame}

-- what the line of a slot says before the name: how it is kept, where it starts and its bytes, and of a tagged one its index
abbrev pub slot_words : Slot → Kind → List ℕ
slot_words s Safe = codes "safe " ++ decimal s.start ++ codes " " ++ decimal s.bytes ++ codes " "
slot_words s Tagged =
    codes "tagged " ++ decimal s.start ++ codes " " ++ decimal s.bytes ++ codes " " ++ decimal s.index ++ codes " "

-- the line of a parameter or local, which has this slot
abbrev pub slot_line : LocalInfo → Slot → List ℕ
slot_line l s = slot_words s s.kind ++ l.name ++ codes "\n"

-- those of all, in order of declaration, parameters first
abbrev pub slot_lines : List LocalInfo → List Slot → List ℕ
slot_lines (l ∷ ls) (s ∷ ss) = slot_line l s ++ slot_lines ls ss
slot_lines _ _ = []

-- the line of a function, which has so many bytes
abbrev pub head_line : TFunction → ℕ → List ℕ
head_line f bytes = codes "function " ++ f.name ++ codes " " ++ decimal bytes ++ codes "\n"

-- the lines of a function that has this frame
abbrev pub function_lines : TFunction → Frame → List ℕ
function_lines f laid = head_line f laid.bytes ++ slot_lines f.locals laid.slots

-- the lines of a function
abbrev pub lines_of : List StructInfo → TFunction → List ℕ
lines_of structs f = function_lines f (frame structs f)

-- the lines of all functions that a program defines, in order
abbrev pub lines : Typed → List ℕ
lines typed = flat_map (lines_of typed.structs) typed.functions
