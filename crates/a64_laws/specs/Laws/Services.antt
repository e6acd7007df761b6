-- The services, where no call of the outside fails (this project's own).
use Rattle.std.specs.Prelude.{◌≡◌, ◌%◌, None, refl}
use Rattle.a64_code.specs.declared.instr.Instr.TheVariants.{Svc}
use Rattle.a64_code.specs.declared.end.MachineEnd.TheVariants.{Exited, Divide}
use Rattle.a64_code.specs.Outside.{next_number, after_next, after_put}
use Rattle.a64_code.specs.State.{State}
use Rattle.a64_code.specs.Stepped.{Leads, Ends}
use Rattle.a64_code.specs.Effect.{effect}
use Rattle.a64_laws.specs.Forms.{x0, puts_register, with_outside}

-- the low byte of X0 is put, and X0 is that byte
pub byte_put : (s : State) → s.outside.put_failure ≡ None →
    effect (Svc 1) s ≡ Leads (puts_register x0 (s.register 0 % 256) (with_outside (after_put (s.register 0 % 256) s.outside) s))
unfolding puts_register with_outside
byte_put s whole = rw whole refl

-- X0 is what the source answers: a byte, or all ones at the end
pub byte_taken : (s : State) → s.outside.next_failure ≡ None →
    effect (Svc 2) s ≡ Leads (puts_register x0 (next_number s.outside.answers) (with_outside (after_next s.outside) s))
unfolding puts_register with_outside
byte_taken s whole = rw whole refl

-- the run ends with the low byte of X0, or as a division by zero
pub exited : (s : State) → effect (Svc 3) s ≡ Ends (Exited (s.register 0 % 256))
exited s = refl

pub divide_told : (s : State) → effect (Svc 4) s ≡ Ends Divide
divide_told s = refl
