-- An access as a first part and a rest.
use Rattle.std.proofs.Common.{◌≡◌, ℕ, zero, suc, ◌+◌, Bool, true, false, not, ◌&&◌, ◌||◌, refl, ◌∙◌, ap, arith, add-zero, zero-add}
use Rattle.std.proofs.Common.{suc-add}
use Rattle.mt_base.specs.Memory.{every_byte, some_byte}

moved : (at k : ℕ) → at + 1 + k ≡ at + suc k
moved at k = omega arith

and_assoc : (x y z : Bool) → (x && (y && z)) ≡ ((x && y) && z)
and_assoc true y z = refl
and_assoc false y z = refl

or_assoc : (x y z : Bool) → (x || (y || z)) ≡ ((x || y) || z)
or_assoc true y z = refl
or_assoc false y z = refl

pub every_byte-add : (test : ℕ → Bool) (at a b : ℕ) → every_byte test at (a + b) ≡ (every_byte test at a && every_byte test (at + a) b)
unfolding every_byte
every_byte-add test at zero b = rw (zero-add b, add-zero at) refl
every_byte-add test at (suc a) b =
    rw (suc-add a b)
    (ap (λ r. test at && r)
    (every_byte-add test (at + 1) a b ∙ ap (λ n. every_byte test (at + 1) a && every_byte test n b) (moved at a))
    ∙ and_assoc (test at) (every_byte test (at + 1) a) (every_byte test (at + suc a) b))

pub some_byte-add : (test : ℕ → Bool) (at a b : ℕ) → some_byte test at (a + b) ≡ (some_byte test at a || some_byte test (at + a) b)
unfolding some_byte
some_byte-add test at zero b = rw (zero-add b, add-zero at) refl
some_byte-add test at (suc a) b =
    rw (suc-add a b)
    (ap (λ r. test at || r) (some_byte-add test (at + 1) a b ∙ ap (λ n. some_byte test (at + 1) a || some_byte test n b) (moved at a))
    ∙ or_assoc (test at) (some_byte test (at + 1) a) (some_byte test (at + suc a) b))

pub every_byte-zero : (test : ℕ → Bool) (at : ℕ) → every_byte test at 0 ≡ true
unfolding every_byte
every_byte-zero test at = refl

pub some_byte-zero : (test : ℕ → Bool) (at : ℕ) → some_byte test at 0 ≡ false
unfolding some_byte
some_byte-zero test at = refl

pub not-and : (x y : Bool) → not (x && y) ≡ (not x || not y)
not-and true y = refl
not-and false y = refl
