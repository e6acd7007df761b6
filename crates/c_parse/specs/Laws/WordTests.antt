-- Which tokens pass a test on their words.
use Rattle.std.specs.Prelude.{◌≡◌, Bool, true, false, ◌&&◌, refl}

-- what implies something false is false
pub not_so : (a b : Bool) → (a ≡ true → b ≡ false) → b ≡ true → a ≡ false
not_so true b h e = let k = h refl in cc
not_so false b h e = refl

pub both_so : (a b : Bool) → (a && b) ≡ true → (a ≡ true) × (b ≡ true)
both_so true b e = (refl, e)
both_so false b e = cc

pub and_so : (a b : Bool) → a ≡ true → b ≡ true → (a && b) ≡ true
and_so true b e h = h
and_so false b e h = cc

pub and_not : (a b : Bool) → b ≡ false → (a && b) ≡ false
and_not true b h = h
and_not false b h = refl
