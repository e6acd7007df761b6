-- Examples: a char is extended in a register, behind it a negative constant is put; and the pointer to a slot before the base.
use Rattle.std.specs.Prelude.{◌≡◌, ℕ, ◌+◌, ◌-◌, ◌*◌, ◌^◌, ◌<◌, ◌≤◌, true, false, [], ◌∷◌, refl}
use Rattle.std.proofs.Common.{arith}
use Rattle.mt_base.specs.Extension.{sign_extend}
use Rattle.mt_base.specs.Tags.{base, slot_tag}
use Rattle.a64_code.specs.declared.instr.Instr.TheVariants.{Sbfm, Movn, Nop, Subg}
use Rattle.a64_code.specs.declared.instr.Reg.{Reg}
use Rattle.a64_code.specs.State.{State}
use Rattle.a64_code.specs.Stepped.{Leads}
use Rattle.a64_code.specs.Effect.{effect}
use Rattle.a64_laws.specs.Forms.{Points, x0, next, puts_register}
use Rattle.a64_laws.specs.Runs.{Runs}
use Rattle.a64_laws.specs.Laws.Extending.{sign_extended, inverted_moved, negative_moved, passed_over}
use Rattle.a64_laws.specs.Laws.Runs.{Runs-cons, Runs-two}
use Rattle.a64_laws.specs.Laws.Tags.{tag_stepped_back, Points-slot_back}

abbrev x1 : Reg
x1 = record { 0 = 1 }

abbrev x2 : Reg
x2 = record { 0 = 2 }

-- sxtb w1, w0; nop; mov x2, #-5
extended : (s : State) → s.pc + 12 < 2 ^ 64 →
    (t : State) × Runs (Sbfm false 0 7 x0 x1 ∷ Nop ∷ Movn true 0 4 x2 ∷ []) 3 s t × (t.register 1 ≡ sign_extend 8 32 (s.register 0))
    × (t.register 2 ≡ 2 ^ 64 - 5)
unfolding next puts_register
extended s pc = (
  _,
  Runs-cons (sign_extended false 8 x0 x1 s (omega arith) (omega arith) (omega arith) (omega arith)) refl (omega (arith, pc))
      (Runs-two (passed_over u) refl (negative_moved true 5 x2 (next u) (omega arith) (omega arith) (omega arith)) refl
      (omega (arith, pc))),
  refl,
  refl,
)
  where
    u : State
    u = puts_register x1 (sign_extend 8 32 (s.register 0)) s

-- mov x1, #0xedcbffffffffffff, by MOVN: the highest halfword is turned, too
inverted : (s : State) → (t : State) × (effect (Movn true 3 4660 x1) s ≡ Leads t) × (t.register 1 ≡ 60875 * 2 ^ 48 + 2 ^ 48 - 1)
unfolding puts_register
inverted s = (_, inverted_moved true 3 4660 x1 s (omega arith), refl)

-- X1 points to a frame's base: X2 gets the pointer to two granules before it, with the tag of slot 3
before_base : (a choice : ℕ) (s : State) → Points (s.register 1) a (base choice) → 32 ≤ a →
    (t : State) × (effect (Subg 2 3 x1 x2) s ≡ Leads t) × Points (t.register 2) (a - 32) (slot_tag choice 3)
unfolding puts_register
before_base a choice s points within =
    (_, tag_stepped_back 2 3 x1 x2 s (omega arith) (omega arith), Points-slot_back (s.register 1) a choice 2 3 within points)
