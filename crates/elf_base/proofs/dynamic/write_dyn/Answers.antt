use Rattle.std.proofs.Common.{◌≡◌, ap, ◌∙◌, rules, refl, sym}
use Rattle.std.specs.Prelude.{FitsSigned}
use Rattle.std.specs.Int.{w64, cast_unsigned}
use Rattle.std.proofs.lemmas.Int.{to_z-of_z}
use Rattle.elf_base.specs.Field.{field_bytes, signed, number}
use Rattle.elf_base.specs.Laws.Lengths.{field_bytes-signed}
use Rattle.elf_base.specs.Records.{dyn_fields}
use Rattle.elf_base.proofs.Writing.{put_fields, put_fields-whole}
use Rattle.elf_base.proofs.dynamic.write_dyn.Goals as goal

pub returns : goal.returns
returns c =
    let fits : FitsSigned w64 c.args.value.now.tag = search rules in
    let tag : field_bytes (number 8 c.cast_unsigned.result) ≡ field_bytes (signed c.args.value.now.tag) =
    ap (λ n. field_bytes (number 8 n)) (c.cast_unsigned.ensures ∙ ap (cast_unsigned w64) (to_z-of_z w64 c.args.value.now.tag fits))
    ∙ sym (field_bytes-signed c.args.value.now.tag) in
    let whole : c.put_u64-2.new.out ≡ put_fields 0 (dyn_fields c.args.value.now) c.args.out.now =
    rw (c.put_u64-2.ensures, c.put_u64.ensures, tag) refl in
    put_fields-whole (dyn_fields c.args.value.now) c.args.out.now c.put_u64-2.new.out tt c.requires whole
