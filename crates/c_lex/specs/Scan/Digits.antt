-- The number that digits write, from the front on, as the scanner computes it.
use Rattle.std.specs.Prelude.{ℕ, ◌+◌, ◌*◌, List, fold}
use Rattle.std.specs.Char.{digit_value}

abbrev pub value_of : ℕ → List ℕ → ℕ
value_of radix digits = fold (λ value b. value * radix + digit_value b) 0 digits
