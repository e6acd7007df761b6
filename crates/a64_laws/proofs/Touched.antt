-- Examples: what a list with a loop touches, by a test of the list; and a list that the test refuses.
use Rattle.std.specs.Prelude.{◌≡◌, ℕ, ◌+◌, ◌-◌, ◌^◌, ◌≤◌, ◌==◌, ◌||◌, true, false, List, [], ◌∷◌, refl}
use Rattle.std.proofs.Common.{arith}
use Rattle.std.proofs.lemmas.Bool.Decides.{nat_tests}
use Rattle.mt_base.specs.Memory.{is_between}
use Rattle.a64_code.specs.declared.instr.Instr.{Instr}
use Rattle.a64_code.specs.declared.instr.Instr.TheVariants.{Movz, SubImm, Cbnz, Ldr, Str, Stg, St2g, Stzg}
use Rattle.a64_code.specs.declared.instr.Reg.{Reg}
use Rattle.a64_code.specs.State.{State}
use Rattle.a64_laws.specs.Forms.{stack_pointer, x0}
use Rattle.a64_laws.specs.Runs.{RunsFrom}
use Rattle.a64_laws.specs.Touches.{Touch, touches_only}
use Rattle.a64_laws.specs.Laws.Touches.{RunsFrom-touches}

abbrev x9 : Reg
x9 = record { 0 = 9 }

-- X0 is stored at SP + 8 and loaded again behind a loop of three rounds over X9
abbrev spills : List Instr
spills = Str true 1 stack_pointer x0 ∷ Movz true 0 3 x9 ∷ SubImm true 0 1 x9 x9 ∷ Cbnz true (2 ^ 19 - 1) x9 ∷ Ldr true 1 stack_pointer x0
    ∷ []

-- X0, X9 and 16 bytes from SP on
abbrev touch : Touch
touch = record { registers = λ n. (n == 0) || (n == 9); sp = false; flags = false; frame = 16; tags = false; draws = false; asks = false }

passes : (s : State) → touches_only touch spills s ≡ true
passes s = refl

-- with 8 bytes less the store is refused
refused : (s : State) → touches_only (record touch { frame = 8 }) spills s ≡ false
refused s = refl

-- and so is a store through a pointer
through_refused : (s : State) → touches_only touch (Str true 1 x9 x0 ∷ []) s ≡ false
through_refused s = refl

-- a list that tags the 32 bytes from SP on and clears the granule between passes where tags may be touched
abbrev tags : List Instr
tags = St2g 0 stack_pointer x9 ∷ Stzg 1 stack_pointer x9 ∷ []

tags_pass : (s : State) → touches_only (record touch { frame = 32; tags = true }) tags s ≡ true
tags_pass s = refl

-- not where they may not, nor one granule on, nor through a pointer
tags_refused : (s : State) → touches_only (record touch { frame = 32 }) tags s ≡ false
tags_refused s = refl

tags_too_far : (s : State) → touches_only (record touch { frame = 32; tags = true }) (St2g 1 stack_pointer x9 ∷ []) s ≡ false
tags_too_far s = refl

tags_through : (s : State) → touches_only (record touch { frame = 32; tags = true }) (Stg 0 x9 x9 ∷ []) s ≡ false
tags_through s = refl

record Spilled (s t : State) : Type 0 where
  sp : t.sp ≡ s.sp
  x19 : t.register 19 ≡ s.register 19
  above : (a : ℕ) → s.sp + 16 ≤ a → t.byte a ≡ s.byte a

-- in however many steps
spilled : (n base : ℕ) (s t : State) → s.sp + 16 ≤ 2 ^ 56 → RunsFrom spills base n s t → Spilled s t
spilled n base s t below runs = let keeps = RunsFrom-touches touch spills base n s t passes below runs in record {
  sp = keeps.sp refl;
  x19 = keeps.registers 19 refl;
  above = λ a from. keeps.bytes a (outside a from);
}
  where
    outside : (a : ℕ) → s.sp + 16 ≤ a → is_between s.sp 16 a ≡ false
    outside a from = grind (arith, nat_tests)
