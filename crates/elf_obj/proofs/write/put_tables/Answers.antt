use Rattle.std.proofs.Common.{refl}
use Rattle.elf_obj.proofs.write.put_tables.Goals as goal

pub returns : goal.returns
returns c = rw (
  c.in_ok-push_tags.ensures,
  c.in_ok-push_bytes-2.ensures,
  c.in_ok-push_relocs-2.ensures,
  c.in_ok-push_relocs.ensures,
  c.in_ok-push_bytes.ensures,
  c.in_ok-push_names.ensures,
  c.in_ok-push_symbols.ensures,
  c.deref.ensures.value,
  c.deref-2.ensures.value,
  c.deref-3.ensures.value,
  c.deref-4.ensures.value,
  c.deref-5.ensures.value,
) refl
