-- Two's complement: a number of k bits read as a signed number, `SInt` of the Arm ARM, and a signed number in k bits.
use Rattle.std.specs.Prelude.{ℕ, suc, ◌-◌, ◌%◌, ◌^◌, ℤ, pos, negsuc, if◌then◌else◌, nat_lt}

-- the low k bits of a number, the highest of them being the sign
abbrev pub to_signed : ℕ → ℕ → ℤ
to_signed k n =
    if nat_lt (n % 2 ^ k) (2 ^ (k - 1)) then pos (n % 2 ^ k) else negsuc (2 ^ k - suc (n % 2 ^ k))

-- the k bits of a signed number: it modulo 2 ^ k
abbrev pub from_signed : ℕ → ℤ → ℕ
from_signed k (pos n) = n % 2 ^ k
from_signed k (negsuc n) = 2 ^ k - suc (n % 2 ^ k)
