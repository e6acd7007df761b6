-- What holds where two tests hold.
use Rattle.std.proofs.Common.{◌≡◌, Bool, true, ◌&&◌}
use Rattle.std.proofs.lemmas.Bool.{and_parts}

pub and_first : (a b : Bool) → (a && b) ≡ true → a ≡ true
and_first a b is = (and_parts a b is).0

pub and_second : (a b : Bool) → (a && b) ≡ true → b ≡ true
and_second a b is = (and_parts a b is).1
