use Rattle.std.proofs.Common.{◌≡◌, refl}
use Rattle.elf_base.specs.Records.{ehdr_fields}
use Rattle.elf_base.proofs.Writing.{put_fields, put_fields-whole}
use Rattle.elf_base.proofs.header.write_ehdr.Goals as goal

pub returns : goal.returns
returns c =
    let whole : c.put_u16-8.new.out ≡ put_fields 0 (ehdr_fields c.args.value.now) c.args.out.now =
    rw (
      c.put_u16-8.ensures,
      c.put_u16-7.ensures,
      c.put_u16-6.ensures,
      c.put_u16-5.ensures,
      c.put_u16-4.ensures,
      c.put_u16-3.ensures,
      c.put_u32-2.ensures,
      c.put_u64-3.ensures,
      c.put_u64-2.ensures,
      c.put_u64.ensures,
      c.put_u32.ensures,
      c.put_u16-2.ensures,
      c.put_u16.ensures,
      c.put_ident.ensures.put,
    ) refl in
    put_fields-whole (ehdr_fields c.args.value.now) c.args.out.now c.put_u16-8.new.out (c.put_ident.ensures.len, tt) c.requires whole
