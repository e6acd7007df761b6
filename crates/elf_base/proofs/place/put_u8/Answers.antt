use Rattle.std.proofs.Common.{arith}
use Rattle.elf_base.proofs.Writing.{set-put_at}
use Rattle.elf_base.proofs.place.put_u8.Goals as goal

pub returns : goal.returns
returns c = set-put_at c.args.at c.args.value c.args.out.now (omega arith) (omega (arith, c.ranges.value.fits))
