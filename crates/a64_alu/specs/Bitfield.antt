-- Bitfield moves, UBFM and SBFM of the Arm ARM, for `immr` and `imms` below the width. Other numbers, which no
-- instruction has, are taken modulo the width.
use Rattle.std.specs.Prelude.{ℕ, suc, ◌-◌, ◌%◌, nat_le, if◌then◌else◌}
use Rattle.mt_base.specs.Extension.{zero_extend, sign_extend}
use Rattle.mt_base.specs.Shifts.{shift_left, shift_right}

-- Bits immr to imms where imms is no less; else bits 0 to imms at the place of the width minus immr, with zeros below.
-- Zeros stand above what is moved.
abbrev pub move_unsigned : ℕ → ℕ → ℕ → ℕ → ℕ
move_unsigned k immr imms x =
    if nat_le immr imms then zero_extend (suc (imms - immr)) (shift_right x immr) else shift_left k (zero_extend (suc imms) x) (k - immr)

-- The same with copies of its highest bit above what is moved.
abbrev pub move_signed : ℕ → ℕ → ℕ → ℕ → ℕ
move_signed k immr imms x =
    if nat_le immr imms then sign_extend (suc (imms - immr)) k (shift_right x immr) else shift_left k (sign_extend (suc imms) k x)
    (k - immr)

-- UBFM
abbrev pub bitfield_unsigned : ℕ → ℕ → ℕ → ℕ → ℕ
bitfield_unsigned k immr imms x = move_unsigned k (immr % k) (imms % k) x

-- SBFM
abbrev pub bitfield_signed : ℕ → ℕ → ℕ → ℕ → ℕ
bitfield_signed k immr imms x = move_signed k (immr % k) (imms % k) x
