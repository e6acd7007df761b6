-- Multiplication with addition and subtraction, MADD and MSUB of the Arm ARM.
use Rattle.std.specs.Prelude.{ℕ, ◌+◌, ◌*◌, ◌%◌, ◌^◌}
use Rattle.mt_base.specs.Wrapping.{wrapping_sub}

-- MADD: a plus x times y
abbrev pub multiply_add : ℕ → ℕ → ℕ → ℕ → ℕ
multiply_add k x y a = (a + x * y) % 2 ^ k

-- MSUB: a minus x times y
abbrev pub multiply_sub : ℕ → ℕ → ℕ → ℕ → ℕ
multiply_sub k x y a = wrapping_sub k a (x * y)
