use Rattle.byteorder.specs.Endian.{little_bytes}
use Rattle.elf_base.specs.Field.{field_bytes}
use Rattle.elf_base.specs.Place.{put_at}
use Rattle.elf_base.proofs.Writing.{put_mid-put_at}
use Rattle.elf_base.proofs.place.put_u64.Goals as goal

pub returns : goal.returns
unfolding field_bytes put_at
returns c = put_mid-put_at c.args.at (little_bytes 8 c.args.value) c.args.out.now c.write_u64.new.buf c.requires c.write_u64.ensures
