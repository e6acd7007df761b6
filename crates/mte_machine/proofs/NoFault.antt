-- An instruction that asks for no service ends in no fault of the outside.
use Rattle.std.proofs.Common.{◌≡◌, false, refl, subst}
use Rattle.a64_code.specs.declared.instr.Instr.{Instr}
use Rattle.a64_code.specs.declared.instr.Instr.TheVariants.{Svc}
use Rattle.a64_code.specs.declared.end.MachineEnd.{MachineEnd}
use Rattle.a64_code.specs.declared.end.MachineEnd.TheVariants.{OutOfSteps, InputFault, OutputFault}
use Rattle.a64_code.specs.State.{State}
use Rattle.a64_code.specs.Stepped.{Ends}
use Rattle.a64_code.specs.Effect.{effect}
use Rattle.a64_code.specs.Services.{output_at}
use Rattle.a64_code.specs.Laws.Reach.{reach}
use Rattle.a64_code.specs.Laws.Ends.{IsInside, EndsInside, effect_inside}
use Rattle.mte_machine.specs.Groups.{IsQuiet}

-- neither the source nor the sink failed
abbrev pub IsNoFault : MachineEnd → Type 0
IsNoFault InputFault = ⊥
IsNoFault OutputFault = ⊥
IsNoFault _ = Unit {0}

-- then all that was put had been taken before
pub output_at-no_fault : (end : MachineEnd) (s : State) → IsNoFault end → output_at end s ≡ s.outside.output
output_at-no_fault InputFault s none = absurd none
output_at-no_fault OutputFault s none = absurd none
output_at-no_fault _ s none = refl

quiet_silent : (instr : Instr) (s : State) → IsQuiet instr → (reach instr s).asks ≡ false
quiet_silent (Svc imm16) s quiet = absurd quiet
quiet_silent _ s quiet = refl

inside_no_fault : (end : MachineEnd) → IsInside end → IsNoFault end
inside_no_fault OutOfSteps inside = absurd inside
inside_no_fault InputFault inside = absurd inside
inside_no_fault OutputFault inside = absurd inside
inside_no_fault _ inside = tt

pub effect-no_fault : (instr : Instr) (s : State) (end : MachineEnd) → IsQuiet instr → effect instr s ≡ Ends end → IsNoFault end
effect-no_fault instr s end quiet ends =
    inside_no_fault end (subst EndsInside ends (effect_inside instr s (quiet_silent instr s quiet)))
