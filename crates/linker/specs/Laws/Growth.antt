-- Descriptors of objects that lie further on are no shorter.
use Rattle.std.proofs.Common.{ℕ, ◌+◌, ◌-◌, ◌*◌, ◌≤◌, List, length, arith, length-append}
use Rattle.memtag_desc.specs.Numbers.{IsShortest, last, more}
use Rattle.linker.specs.Tagged.{SpellsOne, small, large}

-- a greater number has no shorter spelling
pub longer_number : (n : ℕ) (a : List ℕ) → IsShortest n a → (m : ℕ) (b : List ℕ) → IsShortest m b → n ≤ m → length a ≤ length b
longer_number n a (last _ lt) m b (last _ gt) le = omega arith
longer_number n a (last _ lt) m b (more low high rest gt some s) le = omega arith
longer_number n a (more low high rest lt some s) m b (last _ gt) le = absurd (omega arith)
longer_number n a (more low high rest lt some s) m b (more low2 high2 rest2 lt2 some2 s2) le =
    let tail = longer_number high rest s high2 rest2 s2 (omega arith) in omega arith

-- a descriptor of the same size at a greater distance is no shorter
pub longer_descriptor : (d size : ℕ) (a : List ℕ) → SpellsOne d size a → (e : ℕ) (b : List ℕ) → SpellsOne e size b → d ≤ e
    → length a ≤ length b
longer_descriptor d size a (small _ _ _ some few n) e b (small _ _ _ some2 few2 m) le =
    longer_number (8 * d + size) a n (8 * e + size) b m (omega arith)
longer_descriptor d size a (small _ _ _ some few n) e b (large _ _ first second many m k) le = absurd (omega arith)
longer_descriptor d size a (large _ _ first second many n k) e b (small _ _ _ some few m) le = absurd (omega arith)
longer_descriptor d size a (large _ _ first second many n k) e b (large _ _ first2 second2 many2 m l) le =
    omega (
      arith,
      longer_number (8 * d) first n (8 * e) first2 m (omega arith),
      longer_number (size - 1) second k (size - 1) second2 l (omega arith),
      length-append first second,
      length-append first2 second2,
    )
