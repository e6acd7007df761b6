-- Examples: an int that wraps, comparisons of a signed and of an unsigned number, and a char combined with an int.
use Rattle.std.specs.Prelude.{◌+◌, ◌-◌, ◌^◌, ◌<◌, true, false, [], ◌∷◌, refl}
use Rattle.c_ast.specs.declared.int_type.IntType.TheVariants as int
use Rattle.c_ast.specs.declared.operator.AssignOperator.TheVariants as assign
use Rattle.c_ast.specs.declared.operator.BinaryOperator.TheVariants as binary
use Rattle.a64_code.specs.declared.instr.Instr.TheVariants.{AddReg, Sbfm, Ubfm}
use Rattle.a64_code.specs.declared.instr.Reg.{Reg}
use Rattle.a64_code.specs.State.{State}
use Rattle.gen_base.specs.Registers.{left, scratch}
use Rattle.gen_laws.specs.Computes.{Computes, Operands, all_but, all_but_both}
use Rattle.gen_laws.specs.Operations.{integer_instrs}
use Rattle.gen_laws.specs.Laws.Combining.{combined-computes}
use Rattle.gen_laws.specs.Laws.Integers.{integers-compute}

abbrev x9 : Reg
x9 = record { 0 = 9 }

-- the greatest int and 1 give the least int
wraps : (s : State) → Operands x9 (2 ^ 31 - 1) 1 s → s.pc + 12 < 2 ^ 64 →
    Computes (AddReg false x9 left x9 ∷ Sbfm true 0 31 x9 x9 ∷ []) x9 (2 ^ 64 - 2 ^ 31) (all_but scratch) s
wraps s given room =
    integers-compute int.Int x9 (2 ^ 31 - 1) 1 (2 ^ 64 - 2 ^ 31) s given room binary.Add (λ same. absurd (cc)) refl refl
    (λ other. refl) refl

-- -1 is below 1 as a long, and not as an unsigned long
below : (s : State) → Operands x9 (2 ^ 64 - 1) 1 s → s.pc + 12 < 2 ^ 64 →
    Computes (integer_instrs binary.Less int.Long x9) x9 1 (all_but scratch) s
below s given room =
    integers-compute int.Long x9 (2 ^ 64 - 1) 1 1 s given room binary.Less (λ same. absurd (cc)) refl refl (λ other. refl) refl

not_below : (s : State) → Operands x9 (2 ^ 64 - 1) 1 s → s.pc + 12 < 2 ^ 64 →
    Computes (integer_instrs binary.Less int.ULong x9) x9 0 (all_but scratch) s
not_below s given room =
    integers-compute int.ULong x9 (2 ^ 64 - 1) 1 0 s given room binary.Less (λ same. absurd (cc)) refl refl (λ other. refl) refl

-- a char of 200, to which 100 is added as an int
added : (s : State) → Operands x9 200 100 s → s.pc + 20 < 2 ^ 64 →
    Computes (AddReg false x9 left x9 ∷ Sbfm true 0 31 x9 x9 ∷ Ubfm true 0 7 x9 x9 ∷ []) x9 44 all_but_both s
added s given room = combined-computes assign.Add int.Char int.Int x9 200 100 300 s refl refl (λ other. refl) refl given room
