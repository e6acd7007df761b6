-- Examples: constants by their moves, and granules by their tag instructions.
use Rattle.std.specs.Prelude.{◌≡◌, ℕ, ◌+◌, ◌^◌, ◌<◌, true, [], ◌∷◌, refl}
use Rattle.std.proofs.Common.{arith}
use Rattle.a64_code.specs.declared.instr.Instr.TheVariants.{Movz, Movk, AddImm, SubImm, Cbnz, Stg, St2g}
use Rattle.a64_code.specs.declared.instr.Reg.{Reg}
use Rattle.a64_code.specs.State.{State}
use Rattle.a64_laws.specs.Forms.{stack_pointer}
use Rattle.a64_laws.specs.Constants.{constant_moves}
use Rattle.a64_laws.specs.Runs.{Runs}
use Rattle.a64_laws.specs.Tagging.{tag_quickly, tag_shortly, base_or_count}
use Rattle.a64_laws.specs.Laws.Constants.{constant_put}
use Rattle.a64_laws.specs.Laws.TagRounds.{CanTag, TaggedWithin, tags_quickly, tags_shortly}

abbrev x9 : Reg
x9 = record { 0 = 9 }

abbrev x10 : Reg
x10 = record { 0 = 10 }

-- halfwords of zero are left out
two_moves : constant_moves x9 1311768464867721216 ≡ Movz true 0 0 x9 ∷ Movk true 2 22136 x9 ∷ Movk true 3 4660 x9 ∷ []
two_moves = refl

-- they put the constant, and X10 is as it was
constant_is_put : (s : State) → s.pc + 16 < 2 ^ 64 →
    (t : State) × Runs (Movz true 0 0 x9 ∷ Movk true 2 22136 x9 ∷ Movk true 3 4660 x9 ∷ []) 3 s t
    × (t.register 9 ≡ 1311768464867721216) × (t.register 10 ≡ s.register 10)
constant_is_put s pc =
    let put = constant_put 1311768464867721216 x9 s (omega arith) (omega arith) pc in
    (put.to, put.runs, put.holds, put.registers 10 (λ same. absurd (cc)))

-- 35 granules get the tag of SP, which is 0: two rounds of 16, and three more
untagged : tag_quickly stack_pointer x9 x10 35
    ≡ Movz true 0 2 x10
    ∷ St2g 0 x9 stack_pointer ∷ St2g 2 x9 stack_pointer ∷ St2g 4 x9 stack_pointer ∷ St2g 6 x9 stack_pointer
    ∷ St2g 8 x9 stack_pointer ∷ St2g 10 x9 stack_pointer ∷ St2g 12 x9 stack_pointer ∷ St2g 14 x9 stack_pointer
    ∷ AddImm true 0 256 x9 x9 ∷ SubImm true 0 1 x10 x10 ∷ Cbnz true 524278 x10
    ∷ St2g 0 x9 stack_pointer ∷ Stg 2 x9 stack_pointer ∷ []
untagged = refl

-- they are 28 steps at most, and change no register but these two
untagged_runs : (at : ℕ) (s : State) → CanTag stack_pointer x9 x10 35 at 7 0 s → s.pc + 80 < 2 ^ 64 →
    TaggedWithin (tag_quickly stack_pointer x9 x10 35) 20 28 35 at 0 (base_or_count x9 x10) s
untagged_runs at s can fits = tags_quickly stack_pointer x9 x10 35 at 7 0 s can (omega arith) fits

-- in a loop of two they are 6 instructions at most, and 71 steps
untagged_shortly : (at : ℕ) (s : State) → CanTag stack_pointer x9 x10 35 at 7 0 s → s.pc + 24 < 2 ^ 64 →
    TaggedWithin (tag_shortly stack_pointer x9 x10 35) 6 71 35 at 0 (base_or_count x9 x10) s
untagged_shortly at s can fits = tags_shortly stack_pointer x9 x10 35 at 7 0 s can (omega arith) fits
