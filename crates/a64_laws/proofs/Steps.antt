-- Examples: a state to begin with, what holds of two steps in turn, whatever the instructions are, and of a list that puts a register.
use Rattle.std.specs.Prelude.{◌≡◌, ℕ, ◌^◌, ◌<◌, Bool, true, false, List, [], ◌∷◌, ◌++◌, length, All, refl}
use Rattle.std.proofs.Common.{arith, subst}
use Rattle.mt_base.specs.Memory.{Extent, Span}
use Rattle.a64_alu.specs.declared.flags.Flags.{Flags}
use Rattle.a64_code.specs.declared.instr.Instr.TheVariants.{Movz}
use Rattle.a64_code.specs.declared.instr.Reg.{Reg}
use Rattle.a64_code.specs.Outside.{outside_of}
use Rattle.a64_code.specs.State.{State, operand}
use Rattle.a64_code.specs.Step.{step}
use Rattle.a64_code.specs.Stepped.{Stepped, Leads}
use Rattle.a64_code.specs.Laws.Reach.{Reach, register}
use Rattle.a64_laws.specs.Laws.Effects.Carried.{Carries}
use Rattle.a64_laws.specs.Laws.Effects.InRange.{IsInRange, AnswersFit-bytes, choices-lt, operand-lt}
use Rattle.a64_laws.specs.Laws.Effects.Leaves.{Keeps, OnLeads}
use Rattle.a64_laws.specs.Laws.Effects.Reaches.{IsNarrower, AllWithin-append, Carries-keeps}
use Rattle.a64_laws.specs.Laws.Effects.StepRange.{step-range}
use Rattle.a64_laws.specs.Laws.Effects.Unfailing.{unfailed, DoesSame, step-unfailed}

-- a state to begin with: registers, bytes and tags are 0, and some choices and an input are given
abbrev start : List Extent → Span → Flags → List ℕ → List ℕ → State
start regions guard flags choices input = record {
  register = λ _. 0;
  sp = 2 ^ 47;
  pc = 2 ^ 22;
  flags = flags;
  byte = λ _. 0;
  tag = λ _. 0;
  regions = regions;
  guard = guard;
  choices = choices;
  drawn = 0;
  outside = outside_of input;
}

start_in_range : (regions : List Extent) (guard : Span) (flags : Flags) (choices input : List ℕ) → 0 < length choices →
    All (λ choice. choice < 16) choices → All (λ byte. byte < 2 ^ 8) input → IsInRange (start regions guard flags choices input)
start_in_range regions guard flags choices input some tags bytes = record {
  registers = λ n. omega arith;
  sp = omega arith;
  pc = omega arith;
  bytes = λ at. omega arith;
  tags = λ granule. omega arith;
  drawn = some;
  choices = choices-lt choices tags;
  answers = AnswersFit-bytes input bytes;
}

-- registers, as any field of an instruction reads them, and tags stay in their ranges
record InRanges (s : State) : Type 0 where
  operand : (takes_sp : Bool) (r : Reg) → operand takes_sp s r < 2 ^ 64
  tag : (granule : ℕ) → s.tag granule < 16

two_in_range : (s t u : State) → IsInRange s → step s ≡ Leads t → step t ≡ Leads u → InRanges u
two_in_range s t u range one two = record { operand = λ takes_sp r. operand-lt takes_sp u r behind; tag = behind.tags }
  where
    between : IsInRange t
    between = subst (λ (done : Stepped). OnLeads done IsInRange) one (step-range s range)

    behind : IsInRange u
    behind = subst (λ (done : Stepped). OnLeads done IsInRange) two (step-range t between)

-- where no call of the outside fails, they are the same two steps
two_unfailed : (s t u : State) → step s ≡ Leads t → step t ≡ Leads u →
    (step (unfailed s) ≡ Leads (unfailed t)) × (step (unfailed t) ≡ Leads (unfailed u))
two_unfailed s t u one two = (
  subst (λ (done : Stepped). DoesSame s done (step (unfailed s))) one (step-unfailed s),
  subst (λ (done : Stepped). DoesSame t done (step (unfailed t))) two (step-unfailed t),
)

-- a list of two, and one behind it, that put X9 alone: whatever they lead to, X19, SP and the bytes are kept
abbrev x9 : Reg
x9 = record { 0 = 9 }

narrow : (r : Reach) → IsNarrower r r
narrow r = record {
  registers = λ n h. h;
  sp = λ h. h;
  flags = λ h. h;
  bytes = λ at h. h;
  tags = λ granule h. h;
  draws = λ h. h;
  asks = λ h. h;
}

record Kept (s t : State) : Type 0 where
  x19 : t.register 19 ≡ s.register 19
  sp : t.sp ≡ s.sp
  byte : (a : ℕ) → t.byte a ≡ s.byte a

x9_alone : (s t : State) → Carries ((Movz true 0 5 x9 ∷ Movz true 0 6 x9 ∷ []) ++ (Movz true 0 7 x9 ∷ [])) s t → Kept s t
x9_alone s t carries = record { x19 = keeps.registers 19 refl; sp = keeps.sp refl; byte = λ a. keeps.bytes a refl }
  where
    keeps : Keeps (register false x9) s t
    keeps = Carries-keeps (register false x9) ((Movz true 0 5 x9 ∷ Movz true 0 6 x9 ∷ []) ++ (Movz true 0 7 x9 ∷ [])) s t
        (AllWithin-append (register false x9) (Movz true 0 5 x9 ∷ Movz true 0 6 x9 ∷ []) (Movz true 0 7 x9 ∷ []) s
        (narrow (register false x9), λ u one. (narrow (register false x9), λ v two. tt))
        (λ u front. (narrow (register false x9), λ v last. tt))) carries
