-- Whether there are levels left.
use Rattle.std.specs.Prelude.{◌≡◌, ℕ, suc, ◌<◌, true, false}
use Rattle.std.proofs.Common.{arith}
use Rattle.std.proofs.lemmas.Bool.Decides.{nat_tests}
use Rattle.c_parse_stmt.specs.Reading.Statements.{room}

pub more_room : (d : ℕ) → room d ≡ true → room (suc d) ≡ true
more_room d e = grind (arith, nat_tests)

pub some_room : (d : ℕ) → room d ≡ true → 0 < d
some_room d e = grind (arith, nat_tests)

pub has_room : (d : ℕ) → 0 < d → room d ≡ true
has_room d h = grind (arith, nat_tests)

pub no_room : (d : ℕ) → d ≡ 0 → room d ≡ false
no_room d h = grind (arith, nat_tests)
