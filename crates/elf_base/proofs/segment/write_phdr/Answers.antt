use Rattle.std.proofs.Common.{◌≡◌, refl}
use Rattle.elf_base.specs.Records.{phdr_fields}
use Rattle.elf_base.proofs.Writing.{put_fields, put_fields-whole}
use Rattle.elf_base.proofs.segment.write_phdr.Goals as goal

pub returns : goal.returns
returns c =
    let whole : c.put_u64-6.new.out ≡ put_fields 0 (phdr_fields c.args.value.now) c.args.out.now =
    rw (
      c.put_u64-6.ensures,
      c.put_u64-5.ensures,
      c.put_u64-4.ensures,
      c.put_u64-3.ensures,
      c.put_u64-2.ensures,
      c.put_u64.ensures,
      c.put_u32-2.ensures,
      c.put_u32.ensures,
    ) refl in
    put_fields-whole (phdr_fields c.args.value.now) c.args.out.now c.put_u64-6.new.out tt c.requires whole
