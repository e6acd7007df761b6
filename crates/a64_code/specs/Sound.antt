-- What holds of each row of the table, as a test that computes.
use Rattle.std.specs.Prelude.{ℕ, ◌+◌, ◌%◌, ◌^◌, Bool, true, ◌&&◌, nat_le, nat_lt, List, [], ◌∷◌}
use Rattle.a64_code.specs.Field.{Field}

-- The fields stand below bit `top`, from the highest down, apart from each other, and the base word is zero there.
abbrev pub are_apart : ℕ → ℕ → List Field → Bool
are_apart top base [] = true
are_apart top base (f ∷ fs) = nat_le (f.width + f.low) top &&
    (nat_lt (base % 2 ^ (f.width + f.low)) (2 ^ f.low) && are_apart f.low base fs)

-- A row of 32 bits.
abbrev pub is_sound : ℕ → List Field → Bool
is_sound base fs = are_apart 32 base fs && nat_lt base (2 ^ 32)
