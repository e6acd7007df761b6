-- Instructions in turn compute, from any state.
use Rattle.std.specs.Prelude.{◌<◌, ◌++◌, List}
use Rattle.std.proofs.Common.{◌≡◌, ℕ, ◌+◌, ◌%◌, ◌^◌, refl, true, [], ◌∷◌, Option, Some, None, subst}
use Rattle.a64_code.specs.declared.instr.Instr.{Instr}
use Rattle.a64_code.specs.declared.instr.Instr.TheVariants.{Movz, AddImm, SubsImm, Csinc}
use Rattle.a64_code.specs.declared.instr.Reg.{Reg}
use Rattle.a64_code.specs.State.{State}
use Rattle.a64_code.specs.Stepped.{Stepped, Leads, Ends}
use Rattle.a64_laws.specs.Laws.Effects.Carried.{carried, Carries, Carries-one, Carries-append, Carries-split, Carries-first, Carries-same}
use Rattle.a64_laws.specs.Laws.Results.{constant_moved}
use Rattle.a64_laws.specs.Forms.{puts_register}

abbrev x : ℕ → Reg
x n = record { 0 = n }

-- a register of what they lead to, and PC
abbrev register_after : ℕ → Stepped → Option ℕ
register_after n (Leads t) = Some (t.register n)
register_after n (Ends end) = None

abbrev pc_after : Stepped → Option ℕ
pc_after (Leads t) = Some t.pc
pc_after (Ends end) = None

-- mov x9, #5; add x9, x9, #1, and PC is two instructions on
two_sums : (s : State) → register_after 9 (carried (Movz true 0 5 (x 9) ∷ AddImm true 0 1 (x 9) (x 9) ∷ []) s) ≡ Some 6
unfolding carried
two_sums s = refl

two_on : (s : State) → pc_after (carried (Movz true 0 5 (x 9) ∷ AddImm true 0 1 (x 9) (x 9) ∷ []) s)
    ≡ Some (((s.pc + 4) % 2 ^ 64 + 4) % 2 ^ 64)
unfolding carried
two_on s = refl

-- mov x9, #7; cmp x9, #7; cset x10, eq
compared : (s : State) → register_after 10
    (carried (Movz true 0 7 (x 9) ∷ SubsImm true 0 7 (x 9) (x 31) ∷ Csinc true (x 31) 1 (x 31) (x 10) ∷ []) s) ≡ Some 1
unfolding carried
compared s = refl

-- behind a constant any instructions go on from the state with the constant
goes_on : (value : ℕ) (rd : Reg) (rest : List Instr) (s t : State) → rd.0 < 31 → Carries (Movz true 0 value rd ∷ rest) s t →
    Carries rest (puts_register rd value s) t
goes_on value rd rest s t small all =
    let parts = Carries-first (Movz true 0 value rd) rest s t all in
    let first : Carries (Movz true 0 value rd ∷ []) s parts.next = Carries-one parts.first in
    let same : Carries (Movz true 0 value rd ∷ []) s (puts_register rd value s) = Carries-one (constant_moved value rd s small) in
    subst (λ (u : State). Carries rest u t) (Carries-same first same) parts.rest

-- a list between two constants leads to one state, whichever way the three are parted
parted : (first second : ℕ) (rd : Reg) (between : List Instr) (s t : State) → rd.0 < 31 →
    Carries ((Movz true 0 first rd ∷ between) ++ (Movz true 0 second rd ∷ [])) s t →
    (u : State) × Carries between (puts_register rd first s) u × Carries (between ++ (Movz true 0 second rd ∷ []))
    (puts_register rd first s) t
parted first second rd between s t small all =
    let parts = Carries-split (Movz true 0 first rd ∷ between) (Movz true 0 second rd ∷ []) s t all in
    let front = goes_on first rd between s parts.between small parts.before in
    (parts.between, front, Carries-append front parts.behind)
