-- What a function's entry finds and leaves: room below SP, and a pair of registers there (this project's own).
use Rattle.std.specs.Prelude.{◌≡◌, ℕ, ◌+◌, ◌-◌, ◌%◌, ◌^◌, ◌<◌, ◌≤◌}
use Rattle.mt_base.specs.Memory.{load}
use Rattle.a64_code.specs.declared.instr.Reg.{Reg}
use Rattle.a64_code.specs.State.{State}
use Rattle.a64_laws.specs.Laws.Effects.Open.{IsOpen}

-- X29 and X30
abbrev pub frame_pointer : Reg
frame_pointer = record { 0 = 29 }

abbrev pub link_register : Reg
link_register = record { 0 = 30 }

-- SP is a multiple of 16, and n bytes below it are open
pub record HasRoom (n : ℕ) (s : State) : Type 0 where
  pub within : n ≤ s.sp
  pub below : s.sp < 2 ^ 56
  pub aligned : s.sp % 16 ≡ 0
  pub memory : IsOpen s (s.sp - n) n

-- two numbers of 8 bytes stand one behind the other at an address
pub record HasPair (byte : ℕ → ℕ) (at first second : ℕ) : Type 0 where
  pub has_first : load 8 byte at ≡ first
  pub has_second : load 8 byte (at + 8) ≡ second
