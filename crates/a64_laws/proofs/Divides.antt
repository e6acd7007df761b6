-- Examples: whether one number divides another, by a remainder and a comparison; and a remainder with a sign.
use Rattle.std.specs.Prelude.{◌≡◌, ◌≢◌, ◌+◌, ◌-◌, ◌%◌, ◌^◌, ◌<◌, ◌==◌, true, false, List, ◌++◌, refl}
use Rattle.std.proofs.Common.{arith}
use Rattle.a64_code.specs.declared.instr.Instr.{Instr}
use Rattle.a64_code.specs.declared.instr.Reg.{Reg}
use Rattle.a64_code.specs.State.{State}
use Rattle.a64_laws.specs.Forms.{x0, puts_register, puts_flags}
use Rattle.a64_laws.specs.Relations.{Equal}
use Rattle.a64_laws.specs.Runs.{Runs}
use Rattle.a64_laws.specs.Sequences.{WithNumber, comparison_instrs, bit_of, Unsigned, Signed, remainder_instrs}
use Rattle.a64_laws.specs.Laws.Comparisons.{comparison_put}
use Rattle.a64_laws.specs.Laws.Remainders.{remainder_put, remainder-lt}
use Rattle.a64_laws.specs.Laws.Runs.{Runs-append}

abbrev x1 : Reg
x1 = record { 0 = 1 }

abbrev x2 : Reg
x2 = record { 0 = 2 }

-- X2 and X0 get quotient and remainder of X0 and X1, and X0 then 1 where the remainder is 0
abbrev divides : List Instr
divides = remainder_instrs Unsigned true x1 x0 x2 x0 ++ comparison_instrs Equal true (WithNumber 0) x0 x0

divided : (s : State) → s.register 0 < 2 ^ 64 → s.register 1 ≢ 0 → s.pc + 16 < 2 ^ 64 →
    (t : State) × Runs divides 4 s t × (t.register 0 ≡ bit_of (s.register 0 % s.register 1 == 0)) × (t.register 1 ≡ s.register 1)
unfolding puts_register puts_flags
divided s fits some pc = (
  _,
  Runs-append (remainder_put Unsigned true x1 x0 x2 x0 s (omega arith) (omega arith) (omega arith) (omega arith) (λ same. absurd (cc))
      (λ same. absurd (cc)) fits some (omega (arith, pc)))
      (comparison_put Equal true (WithNumber 0) x0 x0 _ (omega arith) (omega arith) (omega arith)
      (remainder-lt Unsigned 64 (s.register 0) (s.register 1) fits) (omega (arith, pc))),
  refl,
  refl,
)

-- with a sign and in 32 bits: of -7 and 2 the quotient is -3 and the remainder -1
signed_left : (s : State) → s.register 0 ≡ 2 ^ 32 - 7 → s.register 1 ≡ 2 → s.pc + 8 < 2 ^ 64 →
    (t : State) × Runs (remainder_instrs Signed false x1 x0 x2 x0) 2 s t × (t.register 2 ≡ 2 ^ 32 - 3) × (t.register 0 ≡ 2 ^ 32 - 1)
unfolding puts_register
signed_left s first second pc = (
  _,
  remainder_put Signed false x1 x0 x2 x0 s (omega arith) (omega arith) (omega arith) (omega arith) (λ same. absurd (cc))
      (λ same. absurd (cc)) (omega (arith, first)) (λ none. absurd (omega (arith, none, second))) pc,
  rw (first, second) refl,
  rw (first, second) refl,
)
