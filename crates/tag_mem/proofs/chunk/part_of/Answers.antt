use Rattle.std.proofs.Common.{◌+◌, ◌-◌, ◌≡◌, ap, take, drop, arith}
use Rattle.tag_mem.proofs.chunk.part_of.Goals as goal

pub returns-clause-value : goal.returns-clause-value
returns-clause-value c = ap (λ n. take n (drop c.args.from c.args.bytes.now))
    (let e : c.args.from + c.args.count - c.args.from ≡ c.args.count = omega arith in e)

pub returns-clause-in_range : goal.returns-clause-in_range
returns-clause-in_range c k = let h = c.type_inv.bytes k in omega arith
