-- Where the section of a number begins.
use Rattle.std.proofs.Common.{◌≡◌, ℕ, zero, suc, ◌+◌, ◌%◌, ◌<◌, ◌≤◌, List, [], ◌∷◌, length, take, get_or, refl, ap, arith}
use Rattle.linker.specs.Sections.{round_up, starts, ends}

-- behind the sections before it
pub start_is : (unit at : ℕ) (ns : List ℕ) (k : ℕ) → k < length ns
    → get_or (starts unit at ns) k 0 ≡ round_up unit (ends unit at (take k ns))
start_is unit at [] k lt = absurd (omega arith)
start_is unit at (n ∷ ns) zero lt = refl
start_is unit at (n ∷ ns) (suc k) lt = start_is unit (round_up unit at + n) ns k (omega arith)

-- where it ends
pub ends_more : (unit at : ℕ) (ns : List ℕ) (k : ℕ) → k < length ns
    → ends unit at (take (suc k) ns) ≡ round_up unit (ends unit at (take k ns)) + get_or ns k 0
ends_more unit at [] k lt = absurd (omega arith)
ends_more unit at (n ∷ ns) zero lt = refl
ends_more unit at (n ∷ ns) (suc k) lt = ends_more unit (round_up unit at + n) ns k (omega arith)

-- ---- no section ends behind the last

pub ends_grow : (unit at : ℕ) (ns : List ℕ) → ((n : ℕ) → n ≤ round_up unit n) → at ≤ ends unit at ns
ends_grow unit at [] h = omega arith
ends_grow unit at (n ∷ ns) h =
    let here = h at in
    let rest = ends_grow unit (round_up unit at + n) ns h in omega arith

pub start_reach : (unit at : ℕ) (ns : List ℕ) (k : ℕ) → ((n : ℕ) → n ≤ round_up unit n) → k < length ns
    → get_or (starts unit at ns) k 0 + get_or ns k 0 ≤ ends unit at ns
start_reach unit at [] k h lt = absurd (omega arith)
start_reach unit at (n ∷ ns) zero h lt = ends_grow unit (round_up unit at + n) ns h
start_reach unit at (n ∷ ns) (suc k) h lt = start_reach unit (round_up unit at + n) ns k h (omega arith)

-- nor before the next begins
pub start_next : (unit at : ℕ) (ns : List ℕ) (k : ℕ) → ((n : ℕ) → n ≤ round_up unit n) → suc k < length ns
    → get_or (starts unit at ns) k 0 + get_or ns k 0 ≤ get_or (starts unit at ns) (suc k) 0
start_next unit at [] k h lt = absurd (omega arith)
start_next unit at (n ∷ []) k h lt = absurd (omega arith)
start_next unit at (n ∷ m ∷ ns) zero h lt = h (round_up unit at + n)
start_next unit at (n ∷ m ∷ ns) (suc k) h lt = start_next unit (round_up unit at + n) (m ∷ ns) k h (omega arith)

pub length-starts : (unit at : ℕ) (ns : List ℕ) → length (starts unit at ns) ≡ length ns
length-starts unit at [] = refl
length-starts unit at (n ∷ ns) = ap suc (length-starts unit (round_up unit at + n) ns)

-- each is at a multiple of 16
pub start_whole : (at : ℕ) (ns : List ℕ) (k : ℕ) → get_or (starts 16 at ns) k 0 % 16 ≡ 0
start_whole at [] k = refl
start_whole at (n ∷ ns) zero = omega arith
start_whole at (n ∷ ns) (suc k) = start_whole (round_up 16 at + n) ns k
