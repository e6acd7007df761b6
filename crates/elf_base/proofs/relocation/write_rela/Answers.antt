use Rattle.std.proofs.Common.{◌≡◌, ap, ◌∙◌, rules, refl, sym}
use Rattle.std.specs.Prelude.{FitsSigned}
use Rattle.std.specs.Int.{w64, cast_unsigned}
use Rattle.std.proofs.lemmas.Int.{to_z-of_z}
use Rattle.elf_base.specs.Field.{field_bytes, signed, number}
use Rattle.elf_base.specs.Laws.Lengths.{field_bytes-signed}
use Rattle.elf_base.specs.Records.{rela_fields}
use Rattle.elf_base.proofs.Writing.{put_fields, put_fields-whole}
use Rattle.elf_base.proofs.relocation.write_rela.Goals as goal

pub returns : goal.returns
returns c =
    let fits : FitsSigned w64 c.args.value.now.addend = search rules in
    let same : c.cast_unsigned.result ≡ cast_unsigned w64 c.args.value.now.addend =
    c.cast_unsigned.ensures ∙ ap (cast_unsigned w64) (to_z-of_z w64 c.args.value.now.addend fits) in
    let addend : field_bytes (number 8 c.cast_unsigned.result) ≡ field_bytes (signed c.args.value.now.addend) =
    ap (λ n. field_bytes (number 8 n)) same ∙ sym (field_bytes-signed c.args.value.now.addend) in
    let whole : c.put_u64-3.new.out ≡ put_fields 0 (rela_fields c.args.value.now) c.args.out.now =
    rw (c.put_u64-3.ensures, c.put_u64-2.ensures, c.put_u64.ensures, addend) refl in
    put_fields-whole (rela_fields c.args.value.now) c.args.out.now c.put_u64-3.new.out tt c.requires whole
