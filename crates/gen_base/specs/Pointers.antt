-- Operators on pointers (ISO C11 6.5.6, 6.5.8, 6.5.9): the first operand is in X16, and the second and the result are in one register.
use Rattle.std.specs.Prelude.{ℕ, true, false, List, [], ◌∷◌, ◌++◌}
use Rattle.c_ast.specs.declared.operator.BinaryOperator.{BinaryOperator}
use Rattle.c_ast.specs.declared.operator.BinaryOperator.TheVariants as binary
use Rattle.a64_code.specs.declared.instr.Instr.{Instr}
use Rattle.a64_code.specs.declared.instr.Instr.TheVariants.{Madd, Msub, Sdiv}
use Rattle.a64_code.specs.declared.instr.Reg.{Reg}
use Rattle.a64_laws.specs.Constants.{constant_moves}
use Rattle.a64_laws.specs.Forms.{Sub, operation_instr}
use Rattle.a64_laws.specs.Relations.{Relation, Less, AtMost}
use Rattle.a64_laws.specs.Sequences.{WithNumber, comparison_instrs}
use Rattle.gen_base.specs.Integers.{relation, compare}
use Rattle.gen_base.specs.Registers.{left, scratch}

-- so many objects of a size on from a pointer, or back, with the pointer in one register and the count in another
abbrev pub advance : ℕ → Reg → Reg → Reg → List Instr
advance bytes pointer count into = constant_moves scratch bytes ++ Madd true scratch pointer count into ∷ []

abbrev pub retreat : ℕ → Reg → Reg → Reg → List Instr
retreat bytes pointer count into = constant_moves scratch bytes ++ Msub true scratch pointer count into ∷ []

-- a pointer with a number behind it
abbrev pub pointer_and_number : BinaryOperator → ℕ → Reg → List Instr
pointer_and_number binary.Subtract bytes r = retreat bytes left r r
pointer_and_number _ bytes r = advance bytes left r r

-- a number with a pointer behind it
abbrev pub number_and_pointer : ℕ → Reg → List Instr
number_and_pointer bytes r = advance bytes r left r

-- how many objects of a size lie between two pointers into one block
abbrev pub objects_apart : ℕ → Reg → List Instr
objects_apart bytes r = operation_instr Sub true r left r ∷ constant_moves scratch bytes ++ Sdiv true scratch r r ∷ []

-- two pointers into one block are compared by their difference as a signed number
abbrev pub by_difference : Reg → Reg → Relation → Reg → List Instr
by_difference first second relation r = operation_instr Sub true second first r ∷ comparison_instrs relation true (WithNumber 0) r r

abbrev pub on_two_pointers : BinaryOperator → ℕ → Reg → List Instr
on_two_pointers binary.Subtract bytes r = objects_apart bytes r
on_two_pointers binary.Less bytes r = by_difference left r Less r
on_two_pointers binary.LessEqual bytes r = by_difference left r AtMost r
on_two_pointers binary.Greater bytes r = by_difference r left Less r
on_two_pointers binary.GreaterEqual bytes r = by_difference r left AtMost r
on_two_pointers o bytes r = compare (relation o false) r
