use Rattle.std.proofs.Common.{arith, ◌<◌}
use Rattle.std.proofs.lemmas.Nat.{one_shl, and_mask}
use Rattle.a64_code.proofs.place.bits_of.Goals as goal

pub returns : goal.returns
returns c = let narrow : c.args.width < 32 = omega arith in rw (one_shl c.args.width 32 narrow) (and_mask _ _)
