-- The services of the machine (this project's own).
use Rattle.std.specs.Prelude.{ℕ, ◌%◌, ◌^◌, ◌==◌, if◌then◌else◌, List}
use Rattle.a64_code.specs.declared.instr.Reg.{Reg}
use Rattle.a64_code.specs.declared.end.MachineEnd.{MachineEnd}
use Rattle.a64_code.specs.declared.end.MachineEnd.TheVariants.{Exited, BadCode, Divide, InputFault, OutputFault}
use Rattle.a64_code.specs.Outside.{fails_now, next_number, after_next, after_put, output_at_failure}
use Rattle.a64_code.specs.State.{State, with_general, with_outside, advanced}
use Rattle.a64_code.specs.Stepped.{Stepped, Leads, Ends}

-- X0, which a service reads and writes, and its low byte
abbrev pub service_register : Reg
service_register = record { 0 = 0 }

abbrev pub low_byte : State → ℕ
low_byte s = s.register 0 % 2 ^ 8

-- #1 puts the low byte of X0, and X0 becomes that byte
abbrev pub put_state : State → State
put_state s = advanced (with_general service_register (low_byte s) (with_outside (after_put (low_byte s) s.outside) s))

abbrev pub put_service : State → Stepped
put_service s = if fails_now s.outside.put_failure then Ends OutputFault else Leads (put_state s)

-- #2 takes the next byte, which X0 becomes, or all ones at the end
abbrev pub next_state : State → State
next_state s = advanced (with_general service_register (next_number s.outside.answers) (with_outside (after_next s.outside) s))

abbrev pub next_service : State → Stepped
next_service s = if fails_now s.outside.next_failure then Ends InputFault else Leads (next_state s)

-- #3 ends the program with the low byte of X0, #4 tells a division by zero, and there are no others
abbrev pub service : ℕ → State → Stepped
service number s =
    if number == 1 then put_service s
    else if number == 2 then next_service s
    else if number == 3 then Ends (Exited (low_byte s))
    else if number == 4 then Ends Divide
    else Ends (BadCode s.pc)

-- What the sink has taken where a run ends so with this state: a put that failed may have taken its byte all the same.
abbrev pub output_at : MachineEnd → State → List ℕ
output_at OutputFault s = output_at_failure (low_byte s) s.outside
output_at _ s = s.outside.output
