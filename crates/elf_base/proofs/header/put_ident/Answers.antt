use Rattle.std.proofs.Common.{◌≡◌, length, refl, arith}
use Rattle.elf_base.specs.Field.{field_bytes}
use Rattle.elf_base.specs.Place.{put_at}
use Rattle.elf_base.proofs.header.put_ident.Goals as goal

pub returns-clause-put : goal.returns-clause-put
unfolding field_bytes put_at
returns-clause-put c =
    let len : length c.args.ident.now ≡ 16 = omega arith in
    rw (c.copy_from_slice.ensures.after, len) refl
