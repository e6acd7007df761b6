-- Laws of the longest front of a list that passes a test.
use Rattle.std.proofs.Common.{◌≡◌, ℕ, zero, suc, ◌+◌, min, List, [], ◌∷◌, take, Bool, true, false, cond, arith}
use Rattle.std.specs.List.{prefix_len}

front_step : (b : Bool) (m short long : ℕ) → short ≡ min m long → cond b (1 + short) 0 ≡ min (suc m) (cond b (1 + long) 0)
front_step true m short long same = omega arith
front_step false m short long same = omega arith

-- the front of a front
pub prefix_len-take : (p : ℕ → Bool) (m : ℕ) (xs : List ℕ) → prefix_len p (take m xs) ≡ min m (prefix_len p xs)
prefix_len-take p zero xs = omega arith
prefix_len-take p (suc m) [] = omega arith
prefix_len-take p (suc m) (x ∷ xs) = front_step (p x) m _ _ (prefix_len-take p m xs)
