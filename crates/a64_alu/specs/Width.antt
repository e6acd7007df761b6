-- The width of an instruction's numbers, and NOT.
use Rattle.std.specs.Prelude.{ℕ, suc, ◌-◌, ◌%◌, ◌^◌, Bool, if◌then◌else◌}

-- the bits of a number: 64 where an instruction is wide, else 32 (`datasize` of the Arm ARM)
abbrev pub width : Bool → ℕ
width wide = if wide then 64 else 32

-- a number of 64 bits, or its lower 32 where an instruction is not wide (`X[n, datasize]` of the Arm ARM)
abbrev pub of_width : Bool → ℕ → ℕ
of_width wide value = if wide then value else value % 2 ^ 32

-- every bit turned: `NOT` of the Arm ARM
abbrev pub invert : ℕ → ℕ → ℕ
invert k x = 2 ^ k - suc x
