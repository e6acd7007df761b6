use Rattle.std.proofs.Common.{◌≡◌, refl, ap, arith, Ok}
use Rattle.elf_base.specs.declared.header.Ehdr.{Ehdr}
use Rattle.elf_base.specs.Records.{ehdr_fields}
use Rattle.elf_base.specs.Laws.Reads.{fields_like, is_found, is_only, is_within}
use Rattle.elf_base.specs.Laws.Same.{same_ehdr}
use Rattle.elf_base.proofs.header.read_ehdr.Goals as goal

pub returns-in_err-part-clause-only : goal.returns-in_err-part-clause-only
returns-in_err-part-clause-only c = λ h fits stands.
    absurd (is_within c.args.bytes.now c.args.at 64 (ehdr_fields h) refl fits stands (omega arith) (c.in_err-part.ensures.short.0 refl))

pub returns-clause-found : goal.returns-clause-found
returns-clause-found c =
    let read : Ehdr = record {
      ident = c.copy_from_slice.new.self;
      kind = c.u16_at.result;
      machine = c.u16_at-2.result;
      version = c.u32_at.result;
      entry = c.u64_at.result;
      phoff = c.u64_at-2.result;
      shoff = c.u64_at-3.result;
      flags = c.u32_at-2.result;
      ehsize = c.u16_at-3.result;
      phentsize = c.u16_at-4.result;
      phnum = c.u16_at-5.result;
      shentsize = c.u16_at-6.result;
      shnum = c.u16_at-7.result;
      shstrndx = c.u16_at-8.result;
    } in
    let like : ehdr_fields read ≡ fields_like (ehdr_fields read) 0 c.in_ok-part.part.now =
    rw (
      c.copy_from_slice.ensures.after,
      c.u16_at.ensures,
      c.u16_at-2.ensures,
      c.u32_at.ensures,
      c.u64_at.ensures,
      c.u64_at-2.ensures,
      c.u64_at-3.ensures,
      c.u32_at-2.ensures,
      c.u16_at-3.ensures,
      c.u16_at-4.ensures,
      c.u16_at-5.ensures,
      c.u16_at-6.ensures,
      c.u16_at-7.ensures,
      c.u16_at-8.ensures,
    ) refl in
    is_found c.args.bytes.now c.args.at 64 c.in_ok-part.part.now (ehdr_fields read)
    (λ i. omega (arith, c.type_inv.bytes i)) c.in_ok-part.ensures.found refl like

pub returns-clause-only : goal.returns-clause-only
returns-clause-only c = λ h fits stands.
    let read : Ehdr = record {
      ident = c.copy_from_slice.new.self;
      kind = c.u16_at.result;
      machine = c.u16_at-2.result;
      version = c.u32_at.result;
      entry = c.u64_at.result;
      phoff = c.u64_at-2.result;
      shoff = c.u64_at-3.result;
      flags = c.u32_at-2.result;
      ehsize = c.u16_at-3.result;
      phentsize = c.u16_at-4.result;
      phnum = c.u16_at-5.result;
      shentsize = c.u16_at-6.result;
      shnum = c.u16_at-7.result;
      shstrndx = c.u16_at-8.result;
    } in
    let like : ehdr_fields read ≡ fields_like (ehdr_fields h) 0 c.in_ok-part.part.now =
    rw (
      c.copy_from_slice.ensures.after,
      c.u16_at.ensures,
      c.u16_at-2.ensures,
      c.u32_at.ensures,
      c.u64_at.ensures,
      c.u64_at-2.ensures,
      c.u64_at-3.ensures,
      c.u32_at-2.ensures,
      c.u16_at-3.ensures,
      c.u16_at-4.ensures,
      c.u16_at-5.ensures,
      c.u16_at-6.ensures,
      c.u16_at-7.ensures,
      c.u16_at-8.ensures,
    ) refl in
    ap Ok (same_ehdr read h (is_only c.args.bytes.now c.args.at 64 c.in_ok-part.part.now (ehdr_fields h)
    (ehdr_fields read) c.in_ok-part.ensures.found refl fits stands like))
