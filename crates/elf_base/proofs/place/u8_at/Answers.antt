use Rattle.std.proofs.Common.{sym}
use Rattle.elf_base.specs.Laws.Reads.{byte_number}
use Rattle.elf_base.proofs.place.u8_at.Goals as goal

pub returns : goal.returns
returns c = sym (byte_number c.args.at c.args.part.now)
