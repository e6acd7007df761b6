-- Tests on numbers of levels, and what they tell.
use Rattle.std.specs.Prelude.{◌≡◌, ℕ, suc, ◌<◌, ◌≤◌, true, false, nat_lt}
use Rattle.std.proofs.Common.{arith}
use Rattle.std.proofs.lemmas.Bool.Decides.{nat_tests}

pub below_is : (m n : ℕ) → nat_lt m n ≡ true → m < n
below_is m n h = grind (arith, nat_tests)

pub is_below : (m n : ℕ) → m < n → nat_lt m n ≡ true
is_below m n h = grind (arith, nat_tests)

pub not_below : (m n : ℕ) → n ≤ m → nat_lt m n ≡ false
not_below m n h = grind (arith, nat_tests)

-- where there is room, there is room in a level more
pub more_room : (d h : ℕ) → nat_lt h d ≡ true → nat_lt h (suc d) ≡ true
more_room d h e = grind (arith, nat_tests)

pub some_room : (d h : ℕ) → nat_lt h d ≡ true → 0 < d
some_room d h e = grind (arith, nat_tests)
