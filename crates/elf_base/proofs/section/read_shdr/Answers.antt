use Rattle.std.proofs.Common.{◌≡◌, refl, ap, arith, Ok}
use Rattle.elf_base.specs.declared.section.Shdr.{Shdr}
use Rattle.elf_base.specs.Records.{shdr_fields}
use Rattle.elf_base.specs.Laws.Reads.{fields_like, is_found, is_only, is_within}
use Rattle.elf_base.specs.Laws.Same.{same_shdr}
use Rattle.elf_base.proofs.section.read_shdr.Goals as goal

pub returns-in_err-part-clause-only : goal.returns-in_err-part-clause-only
returns-in_err-part-clause-only c = λ s fits stands.
    absurd (is_within c.args.bytes.now c.args.at 64 (shdr_fields s) refl fits stands (omega arith) (c.in_err-part.ensures.short.0 refl))

pub returns-clause-found : goal.returns-clause-found
returns-clause-found c =
    let read : Shdr =
    record {
      name = c.u32_at.result;
      kind = c.u32_at-2.result;
      flags = c.u64_at.result;
      addr = c.u64_at-2.result;
      offset = c.u64_at-3.result;
      size = c.u64_at-4.result;
      link = c.u32_at-3.result;
      info = c.u32_at-4.result;
      addralign = c.u64_at-5.result;
      entsize = c.u64_at-6.result;
    } in
    let like : shdr_fields read ≡ fields_like (shdr_fields read) 0 c.in_ok-part.part.now =
    rw (
      c.u32_at.ensures,
      c.u32_at-2.ensures,
      c.u64_at.ensures,
      c.u64_at-2.ensures,
      c.u64_at-3.ensures,
      c.u64_at-4.ensures,
      c.u32_at-3.ensures,
      c.u32_at-4.ensures,
      c.u64_at-5.ensures,
      c.u64_at-6.ensures,
    ) refl in
    is_found c.args.bytes.now c.args.at 64 c.in_ok-part.part.now (shdr_fields read) (λ i. omega (arith, c.type_inv.bytes i))
    c.in_ok-part.ensures.found refl like

pub returns-clause-only : goal.returns-clause-only
returns-clause-only c = λ s fits stands.
    let read : Shdr =
    record {
      name = c.u32_at.result;
      kind = c.u32_at-2.result;
      flags = c.u64_at.result;
      addr = c.u64_at-2.result;
      offset = c.u64_at-3.result;
      size = c.u64_at-4.result;
      link = c.u32_at-3.result;
      info = c.u32_at-4.result;
      addralign = c.u64_at-5.result;
      entsize = c.u64_at-6.result;
    } in
    let like : shdr_fields read ≡ fields_like (shdr_fields s) 0 c.in_ok-part.part.now =
    rw (
      c.u32_at.ensures,
      c.u32_at-2.ensures,
      c.u64_at.ensures,
      c.u64_at-2.ensures,
      c.u64_at-3.ensures,
      c.u64_at-4.ensures,
      c.u32_at-3.ensures,
      c.u32_at-4.ensures,
      c.u64_at-5.ensures,
      c.u64_at-6.ensures,
    ) refl in
    ap Ok (same_shdr read s (is_only c.args.bytes.now c.args.at 64 c.in_ok-part.part.now (shdr_fields s) (shdr_fields read)
    c.in_ok-part.ensures.found refl fits stands like))
