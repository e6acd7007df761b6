use Rattle.mt_base.proofs.Masks.{low_bits}
use Rattle.mt_base.proofs.extend.zext.Goals as goal

pub returns : goal.returns
returns c = low_bits c.args.value c.args.bits c.requires.most
