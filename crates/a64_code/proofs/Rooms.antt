-- A row has room for each value that is within its field's width.
use Rattle.std.proofs.Common.{ℕ, ◌+◌, ◌%◌, ◌^◌, ◌<◌, List, IsTrue, nat_lt}
use Rattle.std.proofs.lemmas.Bool.{and_parts, ltb-true}
use Rattle.std.proofs.Math.Nat.{mod-eq_of_lt}
use Rattle.a64_code.specs.Field.{Field, AllFit, placed}
use Rattle.a64_code.specs.Sound.{are_apart, is_sound}
use Rattle.a64_code.specs.Listed.{has_room, are_narrow}
use Rattle.a64_code.specs.Laws.Fields.{placed-below}

pub placed-room : (base : ℕ) (fs : List Field) → IsTrue (has_room base fs) → AllFit fs → base + placed fs < 2 ^ 32
placed-room base fs h fit =
    let p = and_parts (is_sound base fs) (are_narrow fs) h in
    let q = and_parts (are_apart 32 base fs) (nat_lt base (2 ^ 32)) p.0 in
    let small : base < 2 ^ 32 = ltb-true _ _ q.1 in
    let below : base % 2 ^ 32 + placed fs < 2 ^ 32 = placed-below 32 base fs q.0 fit in
    rw (mod-eq_of_lt small) at below
