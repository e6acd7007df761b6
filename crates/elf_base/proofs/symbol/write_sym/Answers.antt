use Rattle.std.proofs.Common.{◌≡◌, refl}
use Rattle.elf_base.specs.Records.{sym_fields}
use Rattle.elf_base.proofs.Writing.{put_fields, put_fields-whole}
use Rattle.elf_base.proofs.symbol.write_sym.Goals as goal

pub returns : goal.returns
returns c =
    let whole : c.put_u64-2.new.out ≡ put_fields 0 (sym_fields c.args.value.now) c.args.out.now =
    rw (c.put_u64-2.ensures, c.put_u64.ensures, c.put_u16.ensures, c.put_u8-2.ensures, c.put_u8.ensures, c.put_u32.ensures) refl in
    put_fields-whole (sym_fields c.args.value.now) c.args.out.now c.put_u64-2.new.out tt c.requires whole
