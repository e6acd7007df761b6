-- An example: two constants go into two registers that are variables. What the fields then are is told by laws, and no state is opened.
use Rattle.std.specs.Prelude.{◌≡◌, ◌≢◌, ◌+◌, ◌^◌, ◌<◌, true, false, [], ◌∷◌, refl}
use Rattle.std.proofs.Common.{◌∙◌}
use Rattle.std.proofs.lemmas.Bool.{ne_eqb}
use Rattle.a64_code.specs.declared.instr.Instr.TheVariants.{Movz}
use Rattle.a64_code.specs.declared.instr.Reg.{Reg}
use Rattle.a64_code.specs.State.{State}
use Rattle.a64_laws.specs.Forms.{puts_register}
use Rattle.a64_laws.specs.Runs.{Runs}
use Rattle.a64_laws.specs.Laws.Fields.{GoesOn, puts_register-keeps, puts_register-value}
use Rattle.a64_laws.specs.Laws.Results.{constant_moved}
use Rattle.a64_laws.specs.Laws.Runs.{Runs-two}
use Rattle.a64_code.specs.Laws.Reach.{register}

two_put : (first second : Reg) (s : State) → first.0 < 31 → second.0 < 31 → first.0 ≢ second.0 → s.pc + 8 < 2 ^ 64 →
    (t : State) × Runs (Movz true 0 1 first ∷ Movz true 0 2 second ∷ []) 2 s t × (t.register first.0 ≡ 1) × (t.register second.0 ≡ 2)
    × (t.sp ≡ s.sp)
two_put first second s small small_too apart pc = (
  u,
  Runs-two (constant_moved 1 first s small) one.pc (constant_moved 2 second t small_too) two.pc pc,
  two.keeps.registers first.0 (ne_eqb first.0 second.0 apart) ∙ puts_register-value first 1 s,
  puts_register-value second 2 t,
  two.keeps.sp refl ∙ one.keeps.sp refl,
)
  where
    t : State
    t = puts_register first 1 s

    u : State
    u = puts_register second 2 t

    one : GoesOn (register false first) s t
    one = puts_register-keeps first 1 s

    two : GoesOn (register false second) t u
    two = puts_register-keeps second 2 t
