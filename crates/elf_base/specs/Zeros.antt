-- Zeros of a file (this project's own).
use Rattle.std.specs.Prelude.{ℕ, ◌-◌, Bool, ◌==◌, List, take, drop}
use Rattle.std.specs.List.{list_all}

abbrev pub are_zero : List ℕ → Bool
are_zero bytes = list_all (λ b. b == 0) bytes

-- the bytes from a place up to another are zero, as far as there are any
unfoldable pub is_zero_between : List ℕ → ℕ → ℕ → Bool
is_zero_between file from to = are_zero (take (to - from) (drop from file))
