-- One byte of a character or a string as it is written: plain, or as an escape (C11 6.4.4.4).
use Rattle.std.specs.Prelude.{ℕ, Bool, ◌||◌, ◌&&◌, if◌then◌else◌, ◌==◌, nat_le}
use Rattle.std.specs.Prelude.{Option, Some, None}

-- the value of the byte after the backslash in a simple escape: \a \b \f \n \r \t \v \\ \' \" \?
abbrev pub simple_escape : ℕ → Option ℕ
simple_escape b =
    if b == 97 then Some 7 else (if b == 98 then Some 8 else (if b == 102 then Some 12 else (if b == 110 then Some 10
    else (if b == 114 then Some 13 else (if b == 116 then Some 9 else (if b == 118 then Some 11
    else (if b == 92 || b == 39 || b == 34 || b == 63 then Some b else None)))))))

-- a byte that stands for itself between these quotes: printable ASCII, and in a string every byte over 0x7F too
abbrev pub is_plain : ℕ → ℕ → Bool
is_plain quote b = (nat_le 32 b && nat_le b 126) || (quote == 34 && nat_le 128 b && nat_le b 255)
