use Rattle.std.proofs.Common.{◌≡◌, refl, ap, arith, Ok}
use Rattle.elf_base.specs.declared.segment.Phdr.{Phdr}
use Rattle.elf_base.specs.Records.{phdr_fields}
use Rattle.elf_base.specs.Laws.Reads.{fields_like, is_found, is_only, is_within}
use Rattle.elf_base.specs.Laws.Same.{same_phdr}
use Rattle.elf_base.proofs.segment.read_phdr.Goals as goal

pub returns-in_err-part-clause-only : goal.returns-in_err-part-clause-only
returns-in_err-part-clause-only c = λ p fits stands.
    absurd (is_within c.args.bytes.now c.args.at 56 (phdr_fields p) refl fits stands (omega arith) (c.in_err-part.ensures.short.0 refl))

pub returns-clause-found : goal.returns-clause-found
returns-clause-found c =
    let read : Phdr = record {
      kind = c.u32_at.result;
      flags = c.u32_at-2.result;
      offset = c.u64_at.result;
      vaddr = c.u64_at-2.result;
      paddr = c.u64_at-3.result;
      filesz = c.u64_at-4.result;
      memsz = c.u64_at-5.result;
      align = c.u64_at-6.result;
    } in
    let like : phdr_fields read ≡ fields_like (phdr_fields read) 0 c.in_ok-part.part.now =
    rw (
      c.u32_at.ensures,
      c.u32_at-2.ensures,
      c.u64_at.ensures,
      c.u64_at-2.ensures,
      c.u64_at-3.ensures,
      c.u64_at-4.ensures,
      c.u64_at-5.ensures,
      c.u64_at-6.ensures,
    ) refl in
    is_found c.args.bytes.now c.args.at 56 c.in_ok-part.part.now (phdr_fields read)
    (λ i. omega (arith, c.type_inv.bytes i)) c.in_ok-part.ensures.found refl like

pub returns-clause-only : goal.returns-clause-only
returns-clause-only c = λ p fits stands.
    let read : Phdr = record {
      kind = c.u32_at.result;
      flags = c.u32_at-2.result;
      offset = c.u64_at.result;
      vaddr = c.u64_at-2.result;
      paddr = c.u64_at-3.result;
      filesz = c.u64_at-4.result;
      memsz = c.u64_at-5.result;
      align = c.u64_at-6.result;
    } in
    let like : phdr_fields read ≡ fields_like (phdr_fields p) 0 c.in_ok-part.part.now =
    rw (
      c.u32_at.ensures,
      c.u32_at-2.ensures,
      c.u64_at.ensures,
      c.u64_at-2.ensures,
      c.u64_at-3.ensures,
      c.u64_at-4.ensures,
      c.u64_at-5.ensures,
      c.u64_at-6.ensures,
    ) refl in
    ap Ok (same_phdr read p (is_only c.args.bytes.now c.args.at 56 c.in_ok-part.part.now (phdr_fields p)
    (phdr_fields read) c.in_ok-part.ensures.found refl fits stands like))
