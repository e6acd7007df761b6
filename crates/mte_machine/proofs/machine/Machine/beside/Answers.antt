use Rattle.std.proofs.Common.{◌≡◌, ◌+◌, ◌*◌, ◌%◌, ◌^◌, ℕ, arith}
use Rattle.std.proofs.Math.Nat.{mul_comm}
use Rattle.mte_machine.proofs.machine.Machine.beside.Goals as goal

-- a distance behind a base
sum_is : (base units unit : ℕ) → (base + units * unit % 2 ^ 64) % 2 ^ 64 ≡ (base + unit * units) % 2 ^ 64
sum_is base units unit = let e : units * unit ≡ unit * units = mul_comm units unit in omega (arith, e)

pub returns : goal.returns
returns g c = λ w.
    rw (← c.general_or_sp.ensures w, ← c.from.ensures, ← c.from-2.ensures, ← c.sext.ensures)
    (sum_is c.general_or_sp.result c.sext.result c.from-2.result)
